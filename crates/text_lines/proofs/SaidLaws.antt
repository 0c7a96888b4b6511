-- What lines say.
use Rattle.std.proofs.Common.{arith, ◌≡◌, ℕ, List, [], ◌∷◌, Result, Ok, Err, ap}
use Rattle.book_lines.specs.declared.line_kind.LineKind.{LineKind}
use Rattle.book_lines.specs.declared.text_fault.TextFault.{TextFault}
use Rattle.book_lines.specs.declared.text_fault.TextFault.TheVariants as fault
use Rattle.book_lines.specs.Lines.{Line}
use Rattle.book_lines.specs.Said.{Said, at_number, said_by}
use Rattle.book_base.specs.Results.{◌>>=◌}
use Rattle.text_lines.specs.declared.word_problem.WordProblem.{WordProblem}
use Rattle.text_lines.specs.declared.word_problem.WordProblem.TheVariants as refusal
use Rattle.text_lines.specs.Readings.{Fails, Tells, fault_at}

-- a line that isn't read fails as it says, at its number
pub fails_at : {A : Type 0} (n : ℕ) (r : WordProblem) (said : Result A LineKind) → Tells (Err r) said → Fails (fault_at n r) (at_number n said)
fails_at n refusal.Memory said h = tt
fails_at n (refusal.Kind kind) (Ok x) h = absurd (cc h)
fails_at n (refusal.Kind kind) (Err e) h = ap (λ (s : Result _ LineKind). at_number n s) h

pub same_problem : {A : Type 0} (e f : TextFault) → ◌≡◌ {A = Result A TextFault} (Err e) (Err f) → e ≡ f
same_problem e f h = grind arith

pub same_fault : {A B : Type 0} (e f : TextFault) → ◌≡◌ {A = Result A TextFault} (Err e) (Err f) → ◌≡◌ {A = Result B TextFault} (Err e) (Err f)
same_fault e f h = ap Err (same_problem e f h)

with_others_few : {A : Type 0} (v : Result A TextFault) (n : ℕ) (others : Result (List (Said A)) TextFault) → (v ≡ Err fault.TooManyLines → ⊥) → (others ≡ Err fault.TooManyLines → ⊥)
    → (v >>= λ x. others >>= λ o. Ok (record { number = n; value = x } ∷ o)) ≡ Err fault.TooManyLines → ⊥
with_others_few (Ok x) n (Ok o) few more h = absurd (cc)
with_others_few (Ok x) n (Err e) few more h = more (same_fault e fault.TooManyLines h)
with_others_few (Err e) n others few more h = few (same_fault e fault.TooManyLines h)

numbered_few : {A : Type 0} (n : ℕ) (r : Result A LineKind) → at_number n r ≡ Err fault.TooManyLines → ⊥
numbered_few n (Ok x) h = absurd (cc)
numbered_few n (Err kind) h = absurd (cc)

-- what lines say is never that they are too many
pub said_few : {A : Type 0} (meaning : List (List ℕ) → Result A LineKind) (ls : List Line) → said_by meaning ls ≡ Err fault.TooManyLines → ⊥
unfolding said_by
said_few meaning [] h = absurd (cc)
said_few meaning (l ∷ ls) h = with_others_few (at_number l.number (meaning l.words)) l.number (said_by meaning ls) (numbered_few l.number (meaning l.words)) (said_few meaning ls) h
