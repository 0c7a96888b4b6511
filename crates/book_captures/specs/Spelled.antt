-- Tags and labels as they stand in a frame.
use Rattle.std.specs.Prelude.{◌≡◌, ℕ, ◌+◌, ◌*◌, ◌/◌, ◌%◌, List, [], ◌∷◌, ◌++◌}
use Rattle.book_captures.specs.declared.link_type.Protocol.TheVariants.{Tag as tag}
use Rattle.book_captures.specs.Frames.{ethertype}

-- a tag: its EtherType, and its two bytes of control information (IEEE 802.1Q, 9.6)
pub record TagEntry : Type 0 where
  pub kind : ℕ
  pub high : ℕ
  pub low : ℕ

-- the EtherType is one of a tag (own)
abbrev pub IsTag : TagEntry → Type 0
IsTag t = ethertype t.kind ≡ tag

-- the EtherType that stands first, where these tags stand in front of what has this one (own)
abbrev pub first_kind : List TagEntry → ℕ → ℕ
first_kind [] kind = kind
first_kind (t ∷ ts) kind = t.kind

-- the bytes behind that first EtherType (IEEE 802.1Q, 9.6)
abbrev pub spell_tags : List TagEntry → ℕ → List ℕ → List ℕ
spell_tags [] kind body = body
spell_tags (t ∷ ts) kind body = let next = first_kind ts kind in
    t.high ∷ t.low ∷ next / 256 ∷ next % 256 ∷ spell_tags ts kind body

-- a label with its class and its time to live (RFC 3032, section 2.1)
pub record LabelEntry : Type 0 where
  pub label : ℕ
  pub class : ℕ
  pub time : ℕ

-- the four bytes of a label, with 1 at the bottom of the stack and else 0 (RFC 3032, section 2.1)
abbrev pub spell_label : LabelEntry → ℕ → List ℕ
spell_label e bottom = e.label / 4096 ∷ e.label / 16 % 256
    ∷ (e.label % 16 * 16 + e.class * 2 + bottom) ∷ e.time ∷ []

-- labels above others (own)
abbrev pub spell_labels : List LabelEntry → List ℕ → List ℕ
spell_labels [] rest = rest
spell_labels (e ∷ es) rest = spell_label e 0 ++ spell_labels es rest
