-- The table that an index is, once a segment is counted.
use Rattle.std.proofs.Common.{◌≡◌, ℕ, ◌+◌, ◌<◌, ◌⊎◌, List, [], length, Some, None, Result, Ok, Err, OnOk, OnErr, ⊎_elim, refl, ◌∙◌, arith}
use Rattle.std.specs.Prelude.{filter, IfOk}
use Rattle.book_base.specs.declared.address.Pair.{Pair}
use Rattle.book_sessions.specs.declared.uses.KeyUse.{KeyUse}
use Rattle.book_sessions.specs.declared.uses.PassedCount.{PassedCount}
use Rattle.book_sessions.specs.declared.uses.SeenSegment.{SeenSegment}
use Rattle.book_sessions.specs.declared.uses.Signs.{Signs}
use Rattle.book_sessions.specs.Sessions.{SessionTable, and_segment, session_of, signs_at, signs_of}
use Rattle.book_sessions.specs.SessionTexts.{is_of_session}
use Rattle.capture_listener.specs.Groups.{CountsSegment, HaveOneSession, IsIndexed}
use Rattle.capture_listener.specs.Places.{number_between, places_of, uses_at}
use Rattle.capture_listener.proofs.KeepLaws.{other_number, reached_first}
use Rattle.capture_listener.proofs.NumberLaws.{all_more}
use Rattle.capture_listener.proofs.PlaceLaws.{picked, places_none}

abbrev pub table : (unset : ℕ) → ℕ → List KeyUse → List PassedCount → SessionTable
table unset n uses passed = record { sessions = n; uses = uses; passed = passed; unset = unset }

module _ {E : Type 0} (unset n k : ℕ) (sg : Signs) (s : SeenSegment) (uses now : List KeyUse) (passed : List PassedCount) (groups : List (List ℕ)) (numbers : List (Pair × ℕ)) where
  pub counted_known : (result : Result (Unit {0}) E) (m : ℕ) → OnOk result (CountsSegment n sg s uses now groups numbers) → m ≡ k → sg ≡ signs_of s uses → number_between s.source s.destination uses ≡ Some n
      → OnOk result (table unset m now passed ≡ and_segment (session_of s uses) s (table unset k uses passed))
  counted_known (Ok done) m C size shown e =
      let known : session_of s uses ≡ Some n = e in
      rw (size, C.uses, known, shown) refl
  counted_known (Err error) m C size shown e = tt

  pub kept_known : (result : Result (Unit {0}) E) (old : List (List ℕ)) → OnOk result (CountsSegment n sg s uses now groups numbers) → OnErr result ((now ≡ uses) × (groups ≡ old)) → IsIndexed uses old numbers
      → IsIndexed now groups numbers
  kept_known (Ok done) old C same I = C.indexed
  kept_known (Err error) old C same I = rw (same.0, same.1) I

pub counted_first : {E : Type 0} (unset k : ℕ) (s : SeenSegment) (uses now : List KeyUse) (passed : List PassedCount) (groups : List (List ℕ)) (numbers : List (Pair × ℕ)) (result : Result (Unit {0}) E) (m : ℕ)
    → HaveOneSession uses → OnOk result (CountsSegment (k + 1) (signs_at None s) s uses now groups numbers) → OnOk result (m ≡ k + 1) → number_between s.source s.destination uses ≡ None
    → OnOk result (table unset m now passed ≡ and_segment (session_of s uses) s (table unset k uses passed))
counted_first unset k s uses now passed groups numbers (Ok done) m one C size e =
    let none : session_of s uses ≡ None = e in
    rw (size, C.uses, none, reached_first uses s one e) refl
counted_first unset k s uses now passed groups numbers (Err error) m one C size e = tt

-- no session has this number
pub none_outside : (uses : List KeyUse) (groups : List (List ℕ)) (numbers : List (Pair × ℕ)) → IsIndexed uses groups numbers → (n : ℕ) → (n < 1) ⊎ (length groups < n) → places_of n uses ≡ []
none_outside uses groups numbers I n out = places_none n 0 uses (all_more _ _ uses (λ u h. other_number u.session n (λ is.
    let within = I.counted u.source u.destination u.session h in
    let least = within.0 in
    let most = within.1 in
    ⊎_elim (λ low. absurd (omega arith)) (λ high. absurd (omega arith)) out)) I.one)

pub picked_of : {X E : Type 0} (items : X → List KeyUse) (result : Result X E) (n : ℕ) (uses shown : List KeyUse) (places : List ℕ) → shown ≡ uses → places ≡ places_of n uses
    → IfOk result (λ v. items v ≡ uses_at shown places) → IfOk result (λ v. items v ≡ filter (is_of_session n) uses)
picked_of items (Ok v) n uses shown places is also h = h ∙ rw (is, also) (picked n uses)
picked_of items (Err e) n uses shown places is also h = tt
