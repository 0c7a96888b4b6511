-- A link whose two ends are past the handshake.
use Rattle.std.proofs.Common.{◌≡◌, ℕ, ◌+◌, ◌≤◌, true, Some}
use Rattle.book_base.specs.declared.end.End.{End}
use Rattle.book_base.specs.declared.end.End.TheVariants.{A, B}
use Rattle.book_keys.specs.Plans.{AlignedFrom, has_sendable}
use Rattle.book_link.specs.Worlds.{other, Setup, pair_of, Session, World, side, live, forgeries}
use Rattle.law_link.specs.Headline.{ArePartners}
use Rattle.law_progress.specs.Progress.{is_open}

-- the live sessions are partners, the handshake is over at both and neither is in CLOSED; keys, tables and clocks as where the link is up
pub record BothOpen (setup : Setup) (w : World) (lead lag : ℕ) : Type 0 where
  pub session : End → Session
  pub lives : (e : End) → live (side w e).sessions ≡ Some (session e)
  pub partners : ArePartners (session A).state (session B).state
  pub opened : (e : End) → is_open (session e).state.phase ≡ true
  pub keyed : (e : End) → has_sendable (side w e).rows (pair_of setup e) (side w e).clock ≡ true
  pub aligned : (e : End) → AlignedFrom (side w (other e)).rows (side w e).rows (pair_of setup (other e)) lead lag
  pub early : (e : End) → (side w (other e)).clock ≤ (side w e).clock + lead
  pub late : (e : End) → (side w e).clock ≤ (side w (other e)).clock + lag
  pub unforged : forgeries w.history ≡ 0
