-- The line of a row of a key file, by what was found of it (own).
use Rattle.std.specs.Prelude.{ℕ, List, [], ◌∷◌, Option, codes, decimal}
use Rattle.toml.specs.Data.{Members}
use Rattle.book_keys.specs.Rows.{Row, Table}
use Rattle.book_lines.specs.Texts.{line_text}
use Rattle.book_sessions.specs.declared.retiring.MayGo.{MayGo}
use Rattle.book_sessions.specs.declared.uses.KeyUse.{KeyUse}
use Rattle.book_sessions.specs.KeyLines.{asking_texts, called_row, last_texts, may_go_text, seen_peers_text}

-- the line of the row of this number of a node: who used it last, who asks for it, whether it may go, and how many peers were
-- seen
abbrev pub found_line : Members → Table → (number : ℕ) → Row → (last asking : Option KeyUse) → MayGo → (peers : Option ℕ) → List ℕ
found_line document t n r last asking may peers =
    line_text (codes "key" ∷ decimal n ∷ codes "of" ∷ called_row document t n
    ∷ codes "send-id" ∷ decimal r.send_id ∷ codes "recv-id" ∷ decimal r.recv_id
    ∷ last_texts last (asking_texts asking (may_go_text may ∷ seen_peers_text peers)))
