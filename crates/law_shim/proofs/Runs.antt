-- What one step takes and gives, and what was made in a run.
use Rattle.std.proofs.Common.{◌≡◌, ℕ, ◌&&◌, not, Bool, true, false, List, [], ◌∷◌, Some, Result, Ok, Err, refl, sym, ap, subst, inl, inr, if◌then◌else◌}
use Rattle.std.specs.List.{AllByRecursion}
use Rattle.book_base.specs.declared.address.Pair.{Pair}
use Rattle.book_segments.specs.Sockets.{same_socket}
use Rattle.book_segments.specs.Segments.{Segment, Reading, Bad as Unread, Read, reading, good}
use Rattle.book_segments.specs.Spelling.{AreBytes, Fits}
use Rattle.book_segments.proofs.Fields.{and_tells, some_is}
use Rattle.book_segments.proofs.SocketLaws.{same_socket_is}
use Rattle.book_segments.proofs.SpellLaws.{read_stands}
use Rattle.book_keys.specs.Plans.{mirrored}
use Rattle.book_keys.specs.Rows.{Row}
use Rattle.book_endpoint.specs.declared.arrival.Arrival.TheVariants.{Foreign as Astray, Checksum as Wrong, Closed as AtClosed}
use Rattle.book_endpoint.specs.Arrivals.{unmoved, checked, cases_in, heard, judged_by, from_peer, arrive}
use Rattle.book_endpoint.specs.Hearing.{Moved}
use Rattle.book_endpoint.specs.Emissions.{Emission, Emitted, Quiet, NoKey, Emits, emit, resend}
use Rattle.book_endpoint.specs.States.{EndState, is_closed}
use Rattle.book_endpoint.specs.Verdicts.{Finding, Judgement}
use Rattle.book_shim.specs.declared.kept.Kept.{Kept}
use Rattle.book_shim.specs.declared.refusal.Unsent.{Unsent}
use Rattle.book_shim.specs.declared.refusal.Unsent.TheVariants.{Foreign}
use Rattle.book_shim.specs.declared.refusal.Untaken.{Untaken}
use Rattle.book_shim.specs.declared.refusal.Untaken.TheVariants.{Foreign as Strange}
use Rattle.book_shim.specs.Keeping.{Setting}
use Rattle.book_shim.specs.Leaving.{Sealed, send_sealed, send_read, outbound}
use Rattle.book_shim.specs.Arriving.{Opened, take_in, take_read, inbound}
use Rattle.law_shim.proofs.Sealing.{IsSealed, sends, IsOpened, takes}
use Rattle.law_shim.proofs.Emissions.{IsEmission, emitted_is, resent_is}
use Rattle.law_shim.specs.Beside.{Event, Leaves, Arrives, Sends, Resends, World, after_leaving, after_arriving, after_sending, run, Gave, IsBytewise}

-- ---- one step of the shim

record WasSent (here : Setting) (pair : Pair) (g : Kept) (r : Reading) (m : Sealed) : Type 0 where
  given : Segment
  read : r ≡ Read given
  source : given.source ≡ pair.local
  destination : given.destination ≡ pair.remote
  sealed_so : IsSealed here pair g given m

was_sent : (here : Setting) (pair : Pair) (g : Kept) (r : Reading) (m : Sealed) → send_read here pair g r ≡ Ok m → WasSent here pair g r m
was_sent here pair g (Unread fault) m e = absurd (cc)
was_sent here pair g (Read d) m e = by_test (same_socket d.source pair.local && same_socket d.destination pair.remote) refl e
  where
    by_test : (b : Bool) → (same_socket d.source pair.local && same_socket d.destination pair.remote) ≡ b → (if b then send_sealed here pair g d else Err Foreign) ≡ Ok m → WasSent here pair g (Read d) m
    by_test true is e =
        let two = and_tells (same_socket d.source pair.local) (same_socket d.destination pair.remote) is in
        record { given = d; read = refl; source = same_socket_is d.source pair.local two.0; destination = same_socket_is d.destination pair.remote two.1; sealed_so = sends here pair g d m e }
    by_test false is e = absurd (cc)

pub record WasTaken (here : Setting) (pair : Pair) (g : Kept) (r : Reading) (t : Opened) : Type 0 where
  pub segment : Segment
  pub read : r ≡ Read segment
  pub source : segment.source ≡ pair.remote
  pub destination : segment.destination ≡ pair.local
  pub opened_so : IsOpened here pair g segment t

pub was_taken : (here : Setting) (pair : Pair) (g : Kept) (r : Reading) (t : Opened) → take_read here pair g r ≡ Ok t → WasTaken here pair g r t
was_taken here pair g (Unread fault) t e = absurd (cc)
was_taken here pair g (Read d) t e = by_test (from_peer pair d) refl e
  where
    by_test : (b : Bool) → from_peer pair d ≡ b → (if b then take_in here pair g d else Err Strange) ≡ Ok t → WasTaken here pair g (Read d) t
    by_test true is e =
        let two = and_tells (same_socket d.source pair.remote) (same_socket d.destination pair.local) is in
        record { segment = d; read = refl; source = same_socket_is d.source pair.remote two.0; destination = same_socket_is d.destination pair.local two.1; opened_so = takes here pair g d t e }
    by_test false is e = absurd (cc)

pub read_fits : (bytes : List ℕ) (d : Segment) → AreBytes bytes → reading bytes ≡ Read d → Fits d
read_fits bytes d b e = (read_stands bytes d b e).1

-- ---- what passed at the end

pub record HasPassed (rows : List Row) (pair : Pair) (now : ℕ) (s : EndState) (r : Reading) (p : Finding) : Type 0 where
  pub segment : Segment
  pub read : r ≡ Read segment
  pub source : segment.source ≡ pair.remote
  pub destination : segment.destination ≡ pair.local
  pub judged : judged_by rows pair now s segment ≡ Ok p

checked_ok : (s : EndState) (onward : Finding → Moved) (j : Judgement) (p : Finding) → (checked s onward j).passed ≡ Some p → j ≡ Ok p
checked_ok s onward (Ok q) p e = let same : q ≡ p = some_is q p e in ap (λ (x : Finding). let j : Judgement = Ok x in j) same
checked_ok s onward (Err why) p e = absurd (cc)

pub has_passed : (rows : List Row) (pair : Pair) (now : ℕ) (s : EndState) (r : Reading) (p : Finding) → (arrive rows pair now s r).passed ≡ Some p → HasPassed rows pair now s r p
unfolding arrive
has_passed rows pair now s (Unread fault) p e = absurd (cc)
has_passed rows pair now s (Read d) p e = by_tests (from_peer pair d) (good d) (is_closed s.phase) refl e
  where
    onward : Finding → Moved
    onward q = cases_in pair s.phase (record { segment = d; number = q.number; before = s; after = heard rows pair now s q.rnext_key_id; now = now })

    by_tests : (x y z : Bool) → from_peer pair d ≡ x
        → (if not x then unmoved s Astray else (if not y then unmoved s Wrong else (if z then unmoved s AtClosed else checked s onward (judged_by rows pair now s d)))).passed ≡ Some p → HasPassed rows pair now s (Read d) p
    by_tests false y z is e = absurd (cc)
    by_tests true false z is e = absurd (cc)
    by_tests true true true is e = absurd (cc)
    by_tests true true false is e =
        let two = and_tells (same_socket d.source pair.remote) (same_socket d.destination pair.local) is in
        record { segment = d; read = refl; source = same_socket_is d.source pair.remote two.0; destination = same_socket_is d.destination pair.local two.1; judged = checked_ok s onward (judged_by rows pair now s d) p e }

-- ---- what was made in a run

pub record IsSealing (pair : Pair) (events : List Event) (m : Sealed) : Type 0 where
  pub bytes : List ℕ
  pub here : Setting
  pub kept : Kept
  pub gave : Gave bytes events
  pub read : reading bytes ≡ Read m.given
  pub fits : Fits m.given
  pub source : m.given.source ≡ pair.local
  pub destination : m.given.destination ≡ pair.remote
  pub sealed_so : IsSealed here pair kept m.given m
  pub gives : outbound here pair kept bytes ≡ Ok m

gave_later : (bytes : List ℕ) (e : Event) (past : List Event) → Gave bytes past → Gave bytes (e ∷ past)
gave_later bytes (Leaves here given) past h = inr h
gave_later bytes (Arrives here given) past h = h
gave_later bytes (Sends rows now s) past h = h
gave_later bytes (Resends rows now s) past h = h

sealing_later : (pair : Pair) (e : Event) (past : List Event) (m : Sealed) → IsSealing pair past m → IsSealing pair (e ∷ past) m
sealing_later pair e past m h = record {
  bytes = h.bytes;
  here = h.here;
  kept = h.kept;
  gave = gave_later h.bytes e past h.gave;
  read = h.read;
  fits = h.fits;
  source = h.source;
  destination = h.destination;
  sealed_so = h.sealed_so;
  gives = h.gives;
}

all_later : (pair : Pair) (e : Event) (past : List Event) (ms : List Sealed) → AllByRecursion (IsSealing pair past) ms → AllByRecursion (IsSealing pair (e ∷ past)) ms
all_later pair e past [] h = tt
all_later pair e past (m ∷ ms) h = (sealing_later pair e past m h.0, all_later pair e past ms h.1)

is_sealing : (pair : Pair) (here : Setting) (g : Kept) (bytes : List ℕ) (past : List Event) (m : Sealed) → AreBytes bytes → outbound here pair g bytes ≡ Ok m → IsSealing pair (Leaves here bytes ∷ past) m
is_sealing pair here g bytes past m b e =
    let w = was_sent here pair g (reading bytes) m e in
    let d = w.given in
    let is : d ≡ m.given = ap (λ (x : Sealed). x.given) (sym w.sealed_so.sent_is) in
    record {
      bytes = bytes;
      here = here;
      kept = g;
      gave = inl refl;
      read = subst (λ (x : Segment). reading bytes ≡ Read x) is w.read;
      fits = subst Fits is (read_fits bytes d b w.read);
      source = subst (λ (x : Segment). x.source ≡ pair.local) is w.source;
      destination = subst (λ (x : Segment). x.destination ≡ pair.remote) is w.destination;
      sealed_so = subst (λ (x : Segment). IsSealed here pair g x m) is w.sealed_so;
      gives = e;
    }

leaving : (pair : Pair) (here : Setting) (bytes : List ℕ) (past : List Event) (w : World) (r : Result Sealed Unsent) → AreBytes bytes → outbound here pair w.kept bytes ≡ r
    → AllByRecursion (IsSealing pair past) w.sealed → AllByRecursion (IsSealing pair (Leaves here bytes ∷ past)) (after_leaving w r).sealed
leaving pair here bytes past w (Ok m) b is h = (is_sealing pair here w.kept bytes past m b is, all_later pair (Leaves here bytes) past w.sealed h)
leaving pair here bytes past w (Err why) b is h = all_later pair (Leaves here bytes) past w.sealed h

arriving_sealed : (w : World) (r : Result Opened Untaken) → (after_arriving w r).sealed ≡ w.sealed
arriving_sealed w (Ok t) = refl
arriving_sealed w (Err why) = refl

sending_sealed : (w : World) (e : Emitted) → (after_sending w e).sealed ≡ w.sealed
sending_sealed w Quiet = refl
sending_sealed w NoKey = refl
sending_sealed w (Emits e) = refl

pub all_sealed : (pair : Pair) (events : List Event) → IsBytewise events → AllByRecursion (IsSealing pair events) (run pair events).sealed
all_sealed pair [] b = tt
all_sealed pair (Leaves here bytes ∷ past) b =
    leaving pair here bytes past (run pair past) (outbound here pair (run pair past).kept bytes) b.0 refl (all_sealed pair past b.1)
all_sealed pair (Arrives here bytes ∷ past) b =
    let w = run pair past in
    subst (λ (ms : List Sealed). AllByRecursion (IsSealing pair (Arrives here bytes ∷ past)) ms) (sym (arriving_sealed w (inbound here pair w.kept bytes))) (all_later pair (Arrives here bytes) past w.sealed (all_sealed pair past b))
all_sealed pair (Sends rows now s ∷ past) b =
    let w = run pair past in
    subst (λ (ms : List Sealed). AllByRecursion (IsSealing pair (Sends rows now s ∷ past)) ms) (sym (sending_sealed w (emit rows (mirrored pair) now s))) (all_later pair (Sends rows now s) past w.sealed (all_sealed pair past b))
all_sealed pair (Resends rows now s ∷ past) b =
    let w = run pair past in
    subst (λ (ms : List Sealed). AllByRecursion (IsSealing pair (Resends rows now s ∷ past)) ms) (sym (sending_sealed w (resend rows (mirrored pair) now s))) (all_later pair (Resends rows now s) past w.sealed (all_sealed pair past b))

leaving_made : (w : World) (r : Result Sealed Unsent) → (after_leaving w r).made ≡ w.made
leaving_made w (Ok m) = refl
leaving_made w (Err why) = refl

arriving_made : (w : World) (r : Result Opened Untaken) → (after_arriving w r).made ≡ w.made
arriving_made w (Ok t) = refl
arriving_made w (Err why) = refl

sending_made : (pair : Pair) (w : World) (o : Emitted) → ((e : Emission) → o ≡ Emits e → IsEmission (mirrored pair) e) → AllByRecursion (IsEmission (mirrored pair)) w.made → AllByRecursion (IsEmission (mirrored pair)) (after_sending w o).made
sending_made pair w Quiet f h = h
sending_made pair w NoKey f h = h
sending_made pair w (Emits e) f h = (f e refl, h)

pub all_made : (pair : Pair) (events : List Event) → AllByRecursion (IsEmission (mirrored pair)) (run pair events).made
all_made pair [] = tt
all_made pair (Leaves here bytes ∷ past) =
    let w = run pair past in subst (λ (es : List Emission). AllByRecursion (IsEmission (mirrored pair)) es) (sym (leaving_made w (outbound here pair w.kept bytes))) (all_made pair past)
all_made pair (Arrives here bytes ∷ past) =
    let w = run pair past in subst (λ (es : List Emission). AllByRecursion (IsEmission (mirrored pair)) es) (sym (arriving_made w (inbound here pair w.kept bytes))) (all_made pair past)
all_made pair (Sends rows now s ∷ past) = sending_made pair (run pair past) (emit rows (mirrored pair) now s) (λ e is. emitted_is rows (mirrored pair) now s e is) (all_made pair past)
all_made pair (Resends rows now s ∷ past) = sending_made pair (run pair past) (resend rows (mirrored pair) now s) (λ e is. resent_is rows (mirrored pair) now s e is) (all_made pair past)
