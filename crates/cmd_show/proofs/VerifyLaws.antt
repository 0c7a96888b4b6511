-- Vectors verified one after another, as a loop verifies them.
use Rattle.std.proofs.Common.{arith, ◌≡◌, ℕ, ◌+◌, cond, not, if◌then◌else◌, List, [], ◌∷◌, ◌++◌, Result, Ok, Err, refl, sym, ap, ◌∙◌, append_assoc, add-zero}
use Rattle.std.specs.Prelude.{count_by}
use Rattle.std.proofs.lemmas.List.{append-nil}
use Rattle.std.specs.List.{flat_map}
use Rattle.std.proofs.lemmas.List.Sums.{sum_by-cons}
use Rattle.book_lines.specs.declared.text_fault.TextFault.{TextFault}
use Rattle.book_lines.specs.declared.text_fault.TextFault.TheVariants as fault
use Rattle.book_lines.specs.Lines.{Line}
use Rattle.book_base.specs.Results.{◌>>=◌}
use Rattle.book_lines.specs.Said.{Said, at_number, said_by}
use Rattle.text_lines.specs.Readings.{Fails}
use Rattle.cmd_show.specs.Loops.{Sums, sums_from}
use Rattle.book_cmd_check.specs.Vectors.{Vector, vector_of}
use Rattle.book_cmd_check.specs.Verified.{agrees, differs, verdict_line}
use Rattle.text_lines.proofs.SaidLaws.{said_few, same_fault}

same_sums : (t u : List ℕ) (c d x y : ℕ) → t ≡ u → c ≡ d → x ≡ y → ◌≡◌ {A = Result Sums TextFault} (Ok (record { text = t; count = c; differing = x })) (Ok (record { text = u; count = d; differing = y }))
same_sums t u c d x y e f g = rw (e, f, g) refl

one_summed : (before after : Sums) (s : Said Vector) (others : Result (List (Said Vector)) TextFault) →
    after.text ≡ before.text ++ verdict_line s → after.count ≡ before.count + 1 → after.differing ≡ before.differing + (if differs s then 1 else 0) →
    sums_from after others ≡ sums_from before (others >>= λ o. Ok (s ∷ o))
one_summed before after s (Ok said) text count differing =
    let more : count_by differs (s ∷ said) ≡ (if differs s then 1 else 0) + count_by differs said = sum_by-cons (λ x. cond (differs x) 1 0) s said in
    same_sums _ _ _ _ _ _ (rw text (append_assoc before.text (verdict_line s) (flat_map verdict_line said))) (omega (arith, count)) (omega (arith, differing, more))
one_summed before after s (Err e) text count differing = refl

module _ (before : Sums) (l : Line) (ls lines : List Line) (whole : Result Sums TextFault) (next : lines ≡ l ∷ ls) (so_far : sums_from before (said_by vector_of lines) ≡ whole) where
  step : sums_from before (said_by vector_of (l ∷ ls)) ≡ whole
  step = sym (ap (λ x. sums_from before (said_by vector_of x)) next) ∙ so_far

  pub vector_summed : (v : Vector) (after : Sums) → at_number l.number (vector_of l.words) ≡ Ok v → after.text ≡ before.text ++ verdict_line (record { number = l.number; value = v }) →
      after.count ≡ before.count + 1 → after.differing ≡ before.differing + (if not (agrees v) then 1 else 0) → sums_from after (said_by vector_of ls) ≡ whole
  unfolding said_by
  vector_summed v after h text count differing = one_summed before after (record { number = l.number; value = v }) (said_by vector_of ls) text count differing ∙ (rw h at step)

  pub vector_refused : (f : TextFault) → Fails f (at_number l.number (vector_of l.words)) → Fails f whole
  unfolding said_by
  vector_refused fault.Memory h = tt
  vector_refused fault.TooManyLines h = sym (rw h at step)
  vector_refused (fault.Line n kind) h = sym (rw h at step)

pub vectors_summed : (s : Sums) (lines : List Line) (whole : Result Sums TextFault) → lines ≡ [] → sums_from s (said_by vector_of lines) ≡ whole → whole ≡ Ok s
unfolding said_by
vectors_summed s lines whole none so_far = sym (rw none at so_far) ∙ same_sums _ _ _ _ _ _ (append-nil s.text) (add-zero s.count) (add-zero s.differing)

sums_few : (s : Sums) (said : Result (List (Said Vector)) TextFault) → (said ≡ Err fault.TooManyLines → ⊥) → Fails fault.TooManyLines (sums_from s said) → ⊥
sums_few s (Ok said) few h = absurd (cc)
sums_few s (Err e) few h = few (same_fault e fault.TooManyLines h)

-- what lines say is never that they are too many
pub never_too_many : (ls : List Line) (s : Sums) (e : TextFault) → Fails e (sums_from s (said_by vector_of ls)) → e ≡ fault.TooManyLines → ⊥
never_too_many ls s fault.Memory h is = absurd (cc)
never_too_many ls s fault.TooManyLines h is = sums_few s (said_by vector_of ls) (said_few vector_of ls) h
never_too_many ls s (fault.Line n kind) h is = absurd (cc)
