-- What each row of a node lacks to take a segment. Our own format. Its tops are `lacks` and
-- `rows_and_lacks`.
use Rattle.std.specs.Prelude.{ℕ, suc, ◌==◌, nat_le, Bool, List, [], ◌∷◌, ◌++◌, codes, decimal}
use Rattle.std.specs.Prelude.{if◌then◌else◌}
use Rattle.std.specs.List.{list_any}
use Rattle.toml.specs.Data.{Members}
use Rattle.book_base.specs.declared.address.Pair.{Pair}
use Rattle.book_base.specs.Algorithms.{name_of}
use Rattle.book_keys.specs.declared.lifetime.Lifetime.{Lifetime}
use Rattle.book_keys.specs.Rows.{Row, Table, names, fits_port, receives}
use Rattle.book_keys.specs.Choices.{Numbered}
use Rattle.book_lines.specs.Texts.{spaced}
use Rattle.book_scope_texts.specs.Instants.{instant_text}
use Rattle.book_scope_plan.specs.AdminNames.{admin_name}
use Rattle.book_scope_plan.specs.FindingTexts.{admin_text}
use Rattle.book_why.specs.ChangeTexts.{options_text}

-- what is lacking, where something is (own)
abbrev pub lack : (good : Bool) → List ℕ → List ℕ
lack good text = if good then [] else codes ", " ++ text

-- what a lifetime lacks to contain a time: it begins later, or ended earlier (RFC 7210, section 2)
abbrev pub lifetime_lacks : Lifetime → ℕ → List ℕ
lifetime_lacks l now =
    lack (nat_le l.first now) (codes "begins at " ++ instant_text l.first)
    ++ lack (nat_le now l.last) (codes "ended at " ++ instant_text l.last)

-- what a row lacks to match a pair: its peers, and either port (RFC 7210, section 3, and own)
abbrev pub pair_lacks : Row → Pair → List ℕ
pair_lacks r pair =
    lack (list_any (λ peer. names peer pair.remote.address) r.peers) (codes "for another peer")
    ++ (lack (fits_port r.local_port pair.local.port) (codes "for another local port")
    ++ lack (fits_port r.peer_port pair.remote.port) (codes "for another peer port"))

-- what a row lacks to take a segment with this KeyID at this time (RFC 5925, section 7.5)
unfoldable pub lacks : Pair → (key_id now : ℕ) → Row → List ℕ
lacks pair id now r =
    pair_lacks r pair
    ++ (lack (receives r.direction) (codes "not for what comes in")
    ++ (lack (r.recv_id == id) (codes "for KeyID " ++ decimal r.recv_id)
    ++ lifetime_lacks r.accepting now))

-- a lifetime's two ends (RFC 7210, section 2)
abbrev pub lifetime_texts : Lifetime → List (List ℕ) → List (List ℕ)
lifetime_texts l others =
    codes "from" ∷ instant_text l.first ∷ codes "to" ∷ instant_text l.last ∷ others

-- a row: its number, its node, the name that the operator gave it, its KeyIDs, its algorithm,
-- whether the MAC covers the options, and its lifetimes (RFC 7210, section 2)
unfoldable pub row_shown : Members → Table → Numbered → List ℕ
row_shown document t n =
    codes "row"
    ++ spaced (decimal n.number ∷ codes "of"
    ∷ (t.name ++ admin_text (admin_name document t.name n.number))
    ∷ codes "send-id" ∷ decimal n.row.send_id ∷ codes "recv-id" ∷ decimal n.row.recv_id
    ∷ name_of n.row.algorithm ∷ options_text n.row.with_options
    ∷ codes "sends" ∷ lifetime_texts n.row.sending
    (codes "accepts" ∷ lifetime_texts n.row.accepting []))

-- the line of a row (own)
abbrev pub row_shown_line : Members → Table → Numbered → List ℕ
row_shown_line document t n = row_shown document t n ++ 10 ∷ []

-- the line of a row, with what it lacks (own)
abbrev pub row_and_lacks : Members → Table → Numbered → (lacking : List ℕ) → List ℕ
row_and_lacks document t n lacking = row_shown document t n ++ (lacking ++ 10 ∷ [])

-- the lines of rows of a node, each with what it lacks; the first one has number n (own)
abbrev pub rows_and_lacks :
    Members → Table → (Row → List ℕ) → (number : ℕ) → List Row → List ℕ
rows_and_lacks document t lacking n [] = []
rows_and_lacks document t lacking n (r ∷ rs) =
    row_and_lacks document t (record { number = n; row = r }) (lacking r)
    ++ rows_and_lacks document t lacking (suc n) rs
