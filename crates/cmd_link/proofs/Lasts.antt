-- The last segment that was made.
use Rattle.std.proofs.Common.{◌≡◌, ◌==◌, ℕ, suc, Bool, true, false, List, [], ◌∷◌, Option, Some, None, if◌then◌else◌, refl, arith, ap, ◌∙◌, sym}
use Rattle.std.proofs.lemmas.Bool.Decides.{nat_tests}
use Rattle.book_base.specs.declared.end.End.{End}
use Rattle.book_link.specs.declared.event.Event.{Event}
use Rattle.book_link.specs.declared.event.Event.TheVariants.{At}
use Rattle.book_link.specs.declared.event.Action.TheVariants.{Send, Deliver}
use Rattle.book_link.specs.Storm.{last_delivered}
use Rattle.book_link.specs.Worlds.{Made, Happening, Making, Coming, other, segment_named, segments}
use Rattle.link_report.specs.Logs.{MadeBy}

named_by : (n : ℕ) (k m : Made) (past : List Happening) (b : Bool) → (k.name == n) ≡ b → ((j : Made) → segment_named n past ≡ Some j → j.name ≡ n) →
    (if b then Some k else segment_named n past) ≡ Some m → m.name ≡ n
named_by n k m past true test more is = let same : k ≡ m = cc in let name : k.name ≡ n = grind (arith, nat_tests) in sym (ap (λ (j : Made). j.name) same) ∙ name
named_by n k m past false test more is = more m is

-- a segment that is found has the name that was looked for
named : (n : ℕ) (past : List Happening) (m : Made) → segment_named n past ≡ Some m → m.name ≡ n
named n [] m is = absurd (cc)
named n (Making k ∷ past) m is = named_by n k m past (k.name == n) refl (named n past) is
named n (Coming r ∷ past) m is = named n past m is

-- none is found where none was made
none_found : (n : ℕ) (past : List Happening) → segments past ≡ 0 → segment_named n past ≡ None
none_found n [] none = refl
none_found n (Making m ∷ past) none = absurd (omega (arith, none))
none_found n (Coming r ∷ past) none = none_found n past none

last_of : (e maker : End) (n : ℕ) (o : Option Made) → MadeBy maker o → ((m : Made) → o ≡ Some m → m.name ≡ n) → At (other maker) (Deliver n) ≡ last_delivered e o
last_of e maker n None made name = absurd made
last_of e maker n (Some m) made name =
    let is : m.maker ≡ maker = made in
    let called : m.name ≡ n = name m refl in
    rw (is, called) refl

-- where none was made the end sends
pub no_last : (e : End) (past : List Happening) (made : ℕ) → made ≡ segments past → made ≡ 0 → At e Send ≡ last_delivered e (segment_named (segments past) past)
no_last e past made count none = let found : segment_named (segments past) past ≡ None = none_found (segments past) past (sym count ∙ none) in rw found refl

-- else the last is delivered to the end that didn't make it
pub a_last : (e maker : End) (past : List Happening) (made : ℕ) → made ≡ segments past → MadeBy maker (segment_named made past) →
    At (other maker) (Deliver made) ≡ last_delivered e (segment_named (segments past) past)
a_last e maker past made count by = rw (← count) (last_of e maker made (segment_named made past) by (named made past))
