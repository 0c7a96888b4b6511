-- What a shim answered is what a C program is told.
use Rattle.std.proofs.Common.{◌≡◌, ℕ, ℤ, Bool, true, false, List, Option, Some, None, Result, Ok, Err, refl, sym, ap, ◌∙◌}
use Rattle.std.specs.Prelude.{IfOk, IfErr, OnOk, OnErr}
use Rattle.shim_pairs.specs.declared.answer.Passed.{Passed}
use Rattle.shim_pairs.specs.declared.answer.PairUnsent.{PairUnsent}
use Rattle.shim_pairs.specs.declared.answer.PairUntaken.{PairUntaken}
use Rattle.shim_pairs.specs.declared.saved.Saved.{Saved}
use Rattle.shim_pairs.specs.declared.saved.RestoreRefusal.{RestoreRefusal}
use Rattle.shim_pairs.specs.declared.saved.RestoreRefusal.TheVariants as refusal
use Rattle.shim_pairs.specs.Holdings.{ShimState, restored}
use Rattle.shim_pairs.specs.Passing.{Enters, IsUnsent, IsUntaken, Leaves, Stays}
use Rattle.aotcp_c.specs.Shims.{EntersOr, LeavesOr, RestoredOr, restored_code}
use Rattle.aotcp_c.proofs.AnswerLaws.{returned}

module _ (h k : ShimState) (now mtu : ℕ) (bytes old new : List ℕ) where
  pub leaves_or : (r : Result Passed PairUnsent) → IfOk r (λ p. Leaves now h.held k.held bytes old new p) → IfErr r (λ why. IsUnsent h.held now bytes why)
      → OnErr r ((k.held ≡ h.held) × (new ≡ old)) → LeavesOr now h k bytes old new r
  leaves_or (Ok p) leaves why same = leaves
  leaves_or (Err e) leaves why same = (why, same.0, same.1)

  pub enters_or : (r : Result Passed PairUntaken) → IfOk r (λ p. Enters now mtu h.held k.held bytes old new p) → IfErr r (λ why. IsUntaken h.held now mtu bytes why)
      → OnErr r (Stays h.held k.held) → OnErr r (new ≡ old) → EntersOr now mtu h k bytes old new r
  enters_or (Ok p) enters why stays same = enters
  enters_or (Err e) enters why stays same = (why, stays, same)

pub state_is : (h k : ShimState) → k.counters ≡ h.counters → k ≡ record h { held = k.held }
state_is h k e = ap (λ c. record { held = k.held; counters = c }) e

pub restored_or : (now : ℕ) (h k : ShimState) (s : Saved) (r : Result (Unit {0}) RestoreRefusal) → OnOk r (k.held ≡ restored h.held now s)
    → OnErr r (k ≡ h) → k.counters ≡ h.counters → RestoredOr now h k s r
restored_or now h k s (Ok x) after same counters = state_is h k counters ∙ ap (λ x. record h { held = x }) after
restored_or now h k s (Err e) after same counters = same

-- each code is a number of 32 bits
pub restored_returned : (r : Result (Unit {0}) RestoreRefusal) → returned (restored_code r) ≡ restored_code r
restored_returned (Ok x) = refl
restored_returned (Err refusal.Held) = refl
restored_returned (Err refusal.NoNode) = refl
