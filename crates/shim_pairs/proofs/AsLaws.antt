-- What becomes of bytes depends on what they read as alone.
use Rattle.std.proofs.Common.{◌≡◌, ℕ, List, sym, ap, ◌∙◌}
use Rattle.book_base.specs.declared.address.Pair.{Pair}
use Rattle.book_segments.specs.Segments.{reading}
use Rattle.book_shim.specs.declared.kept.Kept.{Kept}
use Rattle.book_shim.specs.Keeping.{Setting}
use Rattle.book_shim.specs.Leaving.{send_read}
use Rattle.book_shim.specs.Arriving.{take_read}
use Rattle.ao_shim.specs.Guards.{Sent, Taken}
use Rattle.shim_pairs.specs.declared.answer.Passed.{Passed}
use Rattle.shim_pairs.specs.declared.answer.PairUnsent.{PairUnsent}
use Rattle.shim_pairs.specs.declared.answer.PairUnsent.TheVariants as unsent
use Rattle.shim_pairs.specs.declared.answer.PairUntaken.{PairUntaken}
use Rattle.shim_pairs.specs.declared.answer.PairUntaken.TheVariants as untaken
use Rattle.shim_pairs.specs.Holdings.{Holding}
use Rattle.shim_pairs.specs.Passing.{Enters, IsUnsent, IsUntaken, Leaves}

module _ (bs cs : List ℕ) (e : reading bs ≡ reading cs) where
  sent_as : (here : Setting) (pair : Pair) (before after : Kept) (old new : List ℕ) (n : ℕ) → Sent here pair before after bs old new n → Sent here pair before after cs old new n
  sent_as here pair before after old new n s = record { sealed = s.sealed; is = ap (send_read here pair before) (sym e) ∙ s.is; kept_is = s.kept_is; written = s.written }

  taken_as : (here : Setting) (pair : Pair) (before after : Kept) (old new : List ℕ) (n : ℕ) → Taken here pair before after bs old new n → Taken here pair before after cs old new n
  taken_as here pair before after old new n s = record { opened = s.opened; is = ap (take_read here pair before) (sym e) ∙ s.is; kept_is = s.kept_is; written = s.written }

  pub leaves_as : (now : ℕ) (h k : Holding) (old new : List ℕ) (p : Passed) → Leaves now h k bs old new p → Leaves now h k cs old new p
  leaves_as now h k old new p l = record {
    d = l.d;
    read = sym e ∙ l.read;
    sealed = record {
      entry = l.sealed.entry;
      sent = λ mtu. sent_as _ _ _ _ old new p.length (l.sealed.sent mtu);
      told = l.sealed.told;
      held = l.sealed.held;
    };
  }

  pub enters_as : (now mtu : ℕ) (h k : Holding) (old new : List ℕ) (p : Passed) → Enters now mtu h k bs old new p → Enters now mtu h k cs old new p
  enters_as now mtu h k old new p l = record {
    d = l.d;
    read = sym e ∙ l.read;
    opened = record {
      entry = l.opened.entry;
      taken = taken_as _ _ _ _ old new p.length l.opened.taken;
      told = l.opened.told;
      held = l.opened.held;
    };
  }

  pub unsent_as : (h : Holding) (now : ℕ) (why : PairUnsent) → IsUnsent h now bs why → IsUnsent h now cs why
  unsent_as h now unsent.NoNode u = (u.0, sym e ∙ u.1, u.2)
  unsent_as h now (unsent.Unsent why) u = λ p is mtu. ap (send_read _ p _) (sym e) ∙ u p (λ d r. is d (sym e ∙ r)) mtu

  pub untaken_as : (h : Holding) (now mtu : ℕ) (why : PairUntaken) → IsUntaken h now mtu bs why → IsUntaken h now mtu cs why
  untaken_as h now mtu untaken.NoNode u = (u.0, sym e ∙ u.1, u.2)
  untaken_as h now mtu (untaken.Untaken why) u = λ p is. ap (take_read _ p _) (sym e) ∙ u p (λ d r. is d (sym e ∙ r))
