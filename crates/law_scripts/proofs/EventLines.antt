-- What lines of events say, whatever their type: each event is one that the words of a line say.
use Rattle.std.proofs.Common.{◌≡◌, ℕ, zero, suc, cond, Bool, true, false, List, [], ◌∷◌, length}
use Rattle.std.proofs.Common.{Result, Ok, Err, refl, arith, All}
use Rattle.book_lines.specs.declared.line_kind.LineKind.{LineKind}
use Rattle.book_lines.specs.declared.line_kind.LineKind.TheVariants as kind
use Rattle.book_lines.specs.declared.text_fault.TextFault.{TextFault}
use Rattle.book_lines.specs.declared.text_fault.TextFault.TheVariants as fault
use Rattle.book_lines.specs.Lines.{Line}
use Rattle.book_lines.specs.Said.{at_number}
use Rattle.book_cmd_link.specs.LinkFiles.{event_at, events_of, is_shared}
use Rattle.law_scripts.proofs.WordRanges.{bind_ok}

-- what was said without a fault
pub numbered_ok : {A : Type 0} (n : ℕ) (r : Result A LineKind) (e : A) → at_number n r ≡ Ok e → r ≡ Ok e
numbered_ok n (Ok x) e h = cc h
numbered_ok n (Err k) e h = absurd (cc h)

-- one more in front
pub one_more : {A : Type 0} (P : A → Type 0) (e : A) (es : List A) → P e → All P es → All P (e ∷ es)
one_more P e es here more zero d below = here
one_more P e es here more (suc k) d below = more k d (omega arith)

refused : {A : Type 0} (b : Bool) (n : ℕ) (k : LineKind) (r : Result A TextFault) (e : A) → cond b (Err (fault.Line n k)) r ≡ Ok e → r ≡ Ok e
refused true n k r e h = absurd (cc h)
refused false n k r e h = h

module _ {A : Type 0} (meaning : List (List ℕ) → Result A LineKind) (P : A → Type 0)
    (each : (ws : List (List ℕ)) (e : A) → meaning ws ≡ Ok e → P e) where
  event_at_ok : (l : Line) (e : A) → event_at meaning l ≡ Ok e → P e
  event_at_ok l e h = each l.words e (numbered_ok l.number (meaning l.words) e (refused (is_shared l.words) l.number kind.Shared _ e h))

  pub events_ok : (ls : List Line) (es : List A) → events_of meaning ls ≡ Ok es → All P es × (length es ≡ length ls)
  unfolding events_of
  events_ok [] es h = let is : [] ≡ es = cc h in rw (← is) ((λ n d below. absurd (omega arith)), refl)
  events_ok (l ∷ ls) es h =
      let e = bind_ok (event_at meaning l) _ es h in
      let others = bind_ok (events_of meaning ls) _ es e.2 in
      let more = events_ok ls others.0 others.1 in
      let is : e.0 ∷ others.0 ≡ es = cc others.2 in
      rw (← is) (one_more P e.0 others.0 (event_at_ok l e.0 e.1) more.0, omega (arith, more.1))
