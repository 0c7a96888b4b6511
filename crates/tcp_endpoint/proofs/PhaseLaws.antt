-- A segment that passed, by the phase.
use Rattle.std.proofs.Common.{◌≡◌, ℕ, Bool, false, refl, ap, ◌∙◌}
use Rattle.std.specs.Prelude.{if◌then◌else◌}
use Rattle.book_base.specs.declared.address.Pair.{Pair}
use Rattle.book_segments.specs.Segments.{Segment, has, RST, segment_length}
use Rattle.book_endpoint.specs.declared.phase.Phase.{Phase}
use Rattle.book_endpoint.specs.declared.phase.Phase.TheVariants.{Listen, SynSent, SynReceived, Established, FinWait1, FinWait2, CloseWait, Closing, LastAck, TimeWait, Closed}
use Rattle.book_endpoint.specs.States as states
use Rattle.book_endpoint.specs.declared.arrival.Arrival.TheVariants as answers
use Rattle.book_endpoint.specs.Hearing as hearing
use Rattle.endpoint_steps.specs.Arriving as stages
use Rattle.tcp_endpoint.specs.Halves.{waits}

pub not_waiting : (p : Phase) → (p ≡ Listen → ⊥) → (p ≡ SynSent → ⊥) → waits p ≡ false
not_waiting Listen a b = absurd (a refl)
not_waiting SynSent a b = absurd (b refl)
not_waiting SynReceived a b = refl
not_waiting Established a b = refl
not_waiting FinWait1 a b = refl
not_waiting FinWait2 a b = refl
not_waiting CloseWait a b = refl
not_waiting Closing a b = refl
not_waiting LastAck a b = refl
not_waiting TimeWait a b = refl
not_waiting Closed a b = refl

-- where the peer is known
abbrev pub known_check : states.EndState → states.EndState → Segment → ℕ → ℕ → Bool → hearing.Moved
known_check s f d n now b = if b then stages.ordinary s f d n now else hearing.answered (if has RST d then s else hearing.owing s) answers.Window

pub known_is : (pair : Pair) (s f : states.EndState) (d : Segment) (n now : ℕ) (p : Phase) (b : Bool) → waits p ≡ false → hearing.fits_window n (segment_length d) s.expected (states.window s) ≡ b → stages.after_check pair s f d n now p ≡ known_check s f d n now b
known_is pair s f d n now Listen b w t = absurd (cc)
known_is pair s f d n now SynSent b w t = absurd (cc)
known_is pair s f d n now SynReceived b w t = ap (known_check s f d n now) t
known_is pair s f d n now Established b w t = ap (known_check s f d n now) t
known_is pair s f d n now FinWait1 b w t = ap (known_check s f d n now) t
known_is pair s f d n now FinWait2 b w t = ap (known_check s f d n now) t
known_is pair s f d n now CloseWait b w t = ap (known_check s f d n now) t
known_is pair s f d n now Closing b w t = ap (known_check s f d n now) t
known_is pair s f d n now LastAck b w t = ap (known_check s f d n now) t
known_is pair s f d n now TimeWait b w t = ap (known_check s f d n now) t
known_is pair s f d n now Closed b w t = ap (known_check s f d n now) t

pub window_move : (n l k x y w v : ℕ) → l ≡ k → x ≡ y → w ≡ v → hearing.fits_window n l x w ≡ hearing.fits_window n k y v
window_move n l k x y w v p q r = ap (λ z. hearing.fits_window n z x w) p ∙ ap (λ z. hearing.fits_window n k z w) q ∙ ap (λ z. hearing.fits_window n k y z) r
