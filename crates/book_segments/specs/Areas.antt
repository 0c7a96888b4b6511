-- Option areas as a grammar (RFC 9293, section 3.2): which bytes spell which options, and where a
-- fault stands. `Area` and `FaultAt` are the file's tops.
use Rattle.std.specs.Prelude.{◌≡◌, ℕ, ◌+◌, ◌<◌, ◌≤◌, ◌⊎◌, nat_lt, if◌then◌else◌}
use Rattle.std.specs.Prelude.{List, [], ◌∷◌, ◌++◌, length}
use Rattle.book_segments.specs.declared.fault.OptionFault.{OptionFault}
use Rattle.book_segments.specs.declared.fault.OptionFault.TheVariants.{ShortLength, PastEnd}
use Rattle.book_segments.specs.Options.{Opt, least}

-- the bytes of an option: its kind, and from kind 2 on its length and body (RFC 9293, section 3.2)
abbrev pub spell_option : Opt → List ℕ
spell_option o = if nat_lt o.kind 2 then o.kind ∷ [] else o.kind ∷ (2 + length o.body) ∷ o.body

-- the bytes of options one after another (RFC 9293, section 3.2)
abbrev pub spell_options : List Opt → List ℕ
spell_options [] = []
spell_options (o ∷ os) = spell_option o ++ spell_options os

-- an option that has bytes and doesn't end the list (RFC 9293, section 3.2; RFC 5925, section 2.2)
pub record IsOpen (o : Opt) : Type 0 where
  pub kind : 0 < o.kind
  pub short : o.kind < 2 → o.body ≡ []
  pub long : 2 ≤ o.kind → least o.kind ≤ 2 + length o.body

-- options that don't end the list, each at its place, the first at this place (RFC 9293, section
-- 3.2)
abbrev pub Open : ℕ → List Opt → Type 0
Open p [] = Unit {0}
Open p (o ∷ os) = IsOpen o × (o.place ≡ p) × Open (p + length (spell_option o)) os

-- the option of kind 0, which ends the list, at a place (RFC 9293, section 3.2)
abbrev pub ending : ℕ → Opt
ending p = record { kind = 0; body = []; place = p }

-- the bytes from a place on are these options and then the tail: kind 0 stands at most last, and
-- only behind it is there a tail (RFC 9293, section 3.2)
abbrev pub AreaAt : ℕ → List Opt → (tail bytes : List ℕ) → Type 0
AreaAt p list tail bytes =
    (Open p list × (tail ≡ []) × (bytes ≡ spell_options list))
    ⊎ ((before : List Opt) × Open p before
    × (list ≡ before ++ ending (p + length (spell_options before)) ∷ [])
    × (bytes ≡ spell_options before ++ 0 ∷ tail))

-- the bytes are these options and then the tail (RFC 9293, section 3.2)
abbrev pub Area : List Opt → (tail bytes : List ℕ) → Type 0
Area list tail bytes = AreaAt 0 list tail bytes

-- the option at the front of these bytes is refused: no length byte, a length below the least, or
-- one past the end (RFC 9293, section 3.2)
abbrev pub Refused : List ℕ → ℕ → OptionFault → Type 0
Refused (kind ∷ size ∷ body) p (ShortLength q) = (q ≡ p) × (2 ≤ kind) × (size < least kind)
Refused (kind ∷ []) p (PastEnd q) = (q ≡ p) × (2 ≤ kind)
Refused (kind ∷ size ∷ body) p (PastEnd q) =
    (q ≡ p) × (2 ≤ kind) × (least kind ≤ size) × (length body + 2 < size)
Refused bytes p fault = ⊥

-- from a place on, behind options without kind 0, stands an option that is refused for this fault
-- (RFC 9293, section 3.2)
abbrev pub FaultFrom : ℕ → List ℕ → OptionFault → Type 0
FaultFrom p bytes fault =
    (before : List Opt) × (rest : List ℕ) × Open p before × (bytes ≡ spell_options before ++ rest)
    × Refused rest (p + length (spell_options before)) fault

-- the first option that is refused in these bytes has this fault and place (RFC 9293, section 3.2)
abbrev pub FaultAt : List ℕ → OptionFault → Type 0
FaultAt bytes fault = FaultFrom 0 bytes fault
