-- A table of sessions counts each segment that was heard once, of whatever kind it is.
use Rattle.std.proofs.Common.{◌≡◌, ℕ, ◌+◌, Bool, true, false, List, [], ◌∷◌, Option, Some, None, Result, Ok, Err, if◌then◌else◌, refl, ap, ◌∙◌, arith}
use Rattle.book_segments.specs.Segments.{reading}
use Rattle.book_cmd_check.specs.Captures.{Stored}
use Rattle.book_cmd_check.specs.declared.given.GivenIsns.{GivenIsns}
use Rattle.book_captures.specs.Captures.{CapturePacket}
use Rattle.book_sessions.specs.declared.outcome.PassedOver.{PassedOver}
use Rattle.book_sessions.specs.declared.uses.SeenSegment.{SeenSegment}
use Rattle.book_sessions.specs.declared.uses.Signs.{Signs}
use Rattle.book_sessions.specs.declared.uses.KeyUse.{KeyUse}
use Rattle.book_sessions.specs.Laps.{Judging}
use Rattle.book_sessions.specs.Listening.{Listening, listen, listening_behind}
use Rattle.book_sessions.specs.Sessions.{SessionTable, seen_by, is_use_of, session_of, first_use, used_again, with_use, signs_of, and_segment, and_counted, and_unset, captured_of_packet, stored_of_packet, stored_before, all_stored, counted_by, sessions_from, no_sessions, sessions_of}
use Rattle.book_sessions.specs.Counts.{seen_before, segments_heard}

-- how many segments are counted of this kind
abbrev pub sum_of_uses : (KeyUse → Bool) → List KeyUse → ℕ
sum_of_uses is_kind [] = 0
sum_of_uses is_kind (u ∷ us) = (if is_kind u then u.segments else 0) + sum_of_uses is_kind us

-- how many segments are of this kind
abbrev pub sum_of_segments : (SeenSegment → Bool) → List SeenSegment → ℕ
sum_of_segments is_one [] = 0
sum_of_segments is_one (s ∷ ss) = (if is_one s then 1 else 0) + sum_of_segments is_one ss

-- what is counted is of the kind exactly where the segments are of it
pub record IsKind (is_kind : KeyUse → Bool) (is_one : SeenSegment → Bool) : Type 0 where
  pub first : (number : ℕ) (g : Signs) (s : SeenSegment) → is_kind (first_use number g s) ≡ is_one s
  pub again : (g : Signs) (s : SeenSegment) (u : KeyUse) → is_kind (used_again g s u) ≡ is_kind u
  pub same : (s : SeenSegment) (u : KeyUse) → is_use_of s u ≡ true → is_kind u ≡ is_one s

zero_first : (n : ℕ) → 0 + n ≡ n
zero_first n = omega arith

more_of : (a b l : Bool) (n c : ℕ) → a ≡ b → b ≡ l → (if a then n + 1 else 0) + c ≡ (if l then 1 else 0) + ((if b then n else 0) + c)
more_of true true true n c d e = omega arith
more_of true true false n c d e = absurd (cc)
more_of true false true n c d e = absurd (cc)
more_of true false false n c d e = absurd (cc)
more_of false true true n c d e = absurd (cc)
more_of false true false n c d e = absurd (cc)
more_of false false true n c d e = absurd (cc)
more_of false false false n c d e = omega arith

between : (a b c d : ℕ) → d ≡ a + c → b + d ≡ a + (b + c)
between a b c d e = omega arith

sum_of : (a b c d : ℕ) → a ≡ b + c → a + d ≡ c + (b + d)
sum_of a b c d first = omega arith

module _ (is_kind : KeyUse → Bool) (is_one : SeenSegment → Bool) (kind : IsKind is_kind is_one) where
  abbrev once : SeenSegment → ℕ
  once s = if is_one s then 1 else 0

  abbrev sum : List KeyUse → ℕ
  sum us = sum_of_uses is_kind us

  kind_step : (b : Bool) (session : ℕ) (g : Signs) (s : SeenSegment) (u : KeyUse) (us : List KeyUse) → is_use_of s u ≡ b → sum (with_use session g s us) ≡ once s + sum us →
      sum (if b then used_again g s u ∷ us else u ∷ with_use session g s us) ≡ once s + ((if is_kind u then u.segments else 0) + sum us)
  kind_step true session g s u us is others = more_of (is_kind (used_again g s u)) (is_kind u) (is_one s) u.segments (sum us) (kind.again g s u) (kind.same s u is)
  kind_step false session g s u us is others = between (once s) (if is_kind u then u.segments else 0) (sum us) (sum (with_use session g s us)) others

  kind_counted : (session : ℕ) (g : Signs) (s : SeenSegment) (us : List KeyUse) → sum (with_use session g s us) ≡ once s + sum us
  kind_counted session g s [] = ap (λ (b : Bool). (if b then 1 else 0) + 0) (kind.first session g s)
  kind_counted session g s (u ∷ us) = kind_step (is_use_of s u) session g s u us refl (kind_counted session g s us)

  segment_kind : (found : Option ℕ) (s : SeenSegment) (t : SessionTable) → sum (and_segment found s t).uses ≡ once s + sum t.uses
  segment_kind None s t = kind_counted (t.sessions + 1) (signs_of s t.uses) s t.uses
  segment_kind (Some session) s t = kind_counted session (signs_of s t.uses) s t.uses

  seen_step : (r : Result SeenSegment PassedOver) (t : SessionTable) (others : List SeenSegment) → sum (and_counted r t).uses + sum_of_segments is_one others ≡ sum t.uses + sum_of_segments is_one (seen_before r others)
  seen_step (Ok s) t others = sum_of _ (once s) (sum t.uses) (sum_of_segments is_one others) (segment_kind (session_of s t.uses) s t)
  seen_step (Err why) t others = refl

  module _ (j : Judging) where
    step_kind : (stored : Result Stored PassedOver) (ps : List CapturePacket) → ((l : Listening) (t : SessionTable) → sum (sessions_from j l t ps).uses ≡ sum t.uses + sum_of_segments is_one (segments_heard j l (all_stored ps))) →
        (l : Listening) (t : SessionTable) →
        sum (counted_by j l t stored (λ known now. sessions_from j known now ps)).uses ≡ sum t.uses + sum_of_segments is_one (segments_heard j l (stored_before stored (all_stored ps)))
    step_kind (Err why) ps others l t = others l (and_counted (Err why) t)
    step_kind (Ok s) ps others l t =
        let h = listen j l s.time (reading s.bytes) in
        let r = seen_by s (reading s.bytes) h in
        others h.listening (and_counted r t) ∙ seen_step r t (segments_heard j h.listening (all_stored ps))

    from_kind : (ps : List CapturePacket) (l : Listening) (t : SessionTable) → sum (sessions_from j l t ps).uses ≡ sum t.uses + sum_of_segments is_one (segments_heard j l (all_stored ps))
    from_kind [] l t = omega arith
    from_kind (p ∷ ps) l t = step_kind (stored_of_packet p) ps (λ known now. from_kind ps known now) l (and_unset (captured_of_packet p) t)

-- a table counts as many segments of a kind as are heard
pub kinds_counted : (is_kind : KeyUse → Bool) (is_one : SeenSegment → Bool) → IsKind is_kind is_one → (j : Judging) (given : List GivenIsns) (packets : List CapturePacket) →
    sum_of_uses is_kind (sessions_of j given packets).uses ≡ sum_of_segments is_one (segments_heard j (listening_behind given) (all_stored packets))
unfolding sessions_of
kinds_counted is_kind is_one kind j given packets = from_kind is_kind is_one kind j packets (listening_behind given) no_sessions ∙ zero_first (sum_of_segments is_one (segments_heard j (listening_behind given) (all_stored packets)))
