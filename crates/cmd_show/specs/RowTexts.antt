-- The two halves of the line of a row.
use Rattle.std.specs.Prelude.{ℕ, ◌&&◌, List, [], ◌∷◌, codes, decimal}
use Rattle.book_base.specs.Algorithms.{name_of}
use Rattle.book_keys.specs.Lifetimes.{contains}
use Rattle.book_keys.specs.Rows.{Row, receives, sends}
use Rattle.book_cmd_link.specs.KeyTexts.{direction_text, yes_or_no}

-- the ids, the algorithm and the direction of a row
abbrev pub term_texts : Row → List (List ℕ)
term_texts r = codes "send-id" ∷ decimal r.send_id ∷ codes "recv-id" ∷ decimal r.recv_id ∷ name_of r.algorithm ∷ direction_text r.direction ∷ []

-- whether a row sends, and whether it accepts, at a time
abbrev pub state_texts : ℕ → Row → List (List ℕ)
state_texts time r =
    codes "sending" ∷ yes_or_no (sends r.direction && contains r.sending time)
    ∷ codes "accepting" ∷ yes_or_no (receives r.direction && contains r.accepting time) ∷ []
