-- A handshake over a way that loses nothing leads in step: computed from the definitions.
use Rattle.std.proofs.Common.{◌≡◌, ℕ, ◌+◌, ◌≤◌, true, false, zero, suc, List, [], ◌∷◌, Some, inl, refl, ap, arith}
use Rattle.sha1.specs.Sha1.{sha1, digest_bytes, hash_after, compress, rounds, schedule, first_words}
use Rattle.book_base.specs.declared.end.End.{End}
use Rattle.book_base.specs.declared.end.End.TheVariants.{A, B}
use Rattle.book_segments.specs.Bytes.{put2, put4}
use Rattle.book_segments.specs.Meant.{meant}
use Rattle.book_segments.specs.Options.{options_of, find_ao}
use Rattle.book_segments.specs.Received.{keep}
use Rattle.book_segments.specs.Segments.{sums, complement_of, pseudo, header, tcp_bytes, checksum_of, good, spell, first_fault, fields, reading}
use Rattle.book_segments.specs.Spelling.{with_right_checksum}
use Rattle.book_macs.specs.Hmac.{block_key, hmac}
use Rattle.book_macs.specs.Contexts.{context, context_of}
use Rattle.book_macs.specs.MacInput.{mac_input}
use Rattle.book_macs.specs.Keys.{traffic_key, mac}
use Rattle.book_keys.specs.Coordination.{choose, follow}
use Rattle.book_keys.specs.Plans.{AlignedFrom, has_sendable}
use Rattle.book_endpoint.specs.Verdicts.{judge}
use Rattle.book_endpoint.specs.States.{ready, listening}
use Rattle.book_endpoint.specs.Arrivals.{arrive}
use Rattle.book_endpoint.specs.Emissions.{due_next, due_again, emit, resend}
use Rattle.book_link.specs.declared.event.Event.TheVariants.{At}
use Rattle.book_link.specs.declared.event.Action.TheVariants.{Connect, Listen, Send, Deliver}
use Rattle.book_link.specs.Runs.{run}
use Rattle.book_link.specs.Storm.{storm_setup}
use Rattle.book_link.specs.Worlds.{other, pair_of, Session, World, side, live, forgeries}
use Rattle.law_link.proofs.Sessions.{both}
use Rattle.law_progress.specs.Progress.{is_open, is_up, IsUp}
use Rattle.law_lossless.specs.Lossless.{IsInStep, AreInStep}

abbrev met : World
met = run storm_setup (At A (Connect 4294960000) ∷ At B (Listen 4000000000) ∷ At A Send ∷ At B (Deliver 1) ∷ At B Send ∷ At A (Deliver 2) ∷ At A Send ∷ At B (Deliver 3) ∷ [])

-- the newest session, or one that never is
abbrev newest : List Session → Session
newest [] = record { state = listening (pair_of storm_setup A) 0; end_shown = false }
newest (s ∷ rest) = s

abbrev sessions : End → Session
sessions e = newest (side met e).sessions

-- the numbers by which both ends are in step
abbrev numbers : List ℕ
numbers = (side met A).clock ∷ (side met B).clock ∷ forgeries met.history
    ∷ (sessions A).state.next ∷ (sessions A).state.una ∷ (sessions A).state.expected ∷ (sessions A).state.send_window
    ∷ (sessions B).state.next ∷ (sessions B).state.una ∷ (sessions B).state.expected ∷ (sessions B).state.send_window ∷ []

numbers_are : numbers ≡ 0 ∷ 0 ∷ 0 ∷ 4294960001 ∷ 4294960001 ∷ 4000000001 ∷ 65535 ∷ 4000000001 ∷ 4000000001 ∷ 4294960001 ∷ 65535 ∷ []
unfolding sha1 digest_bytes hash_after compress rounds schedule first_words put2 put4 meant options_of find_ao keep sums complement_of pseudo header tcp_bytes checksum_of good spell first_fault fields reading with_right_checksum block_key hmac context context_of mac_input traffic_key mac choose follow judge ready arrive due_next due_again emit resend
numbers_are = refl

abbrev at : ℕ → List ℕ → ℕ
at n [] = 0
at zero (x ∷ xs) = x
at (suc n) (x ∷ xs) = at n xs

lives_are : (e : End) → live (side met e).sessions ≡ Some (sessions e)
unfolding sha1 digest_bytes hash_after compress rounds schedule first_words put2 put4 meant options_of find_ao keep sums complement_of pseudo header tcp_bytes checksum_of good spell first_fault fields reading with_right_checksum block_key hmac context context_of mac_input traffic_key mac choose follow judge ready arrive due_next due_again emit resend
lives_are = both (λ e. live (side met e).sessions ≡ Some (sessions e)) refl refl

opened_are : (e : End) → is_open (sessions e).state.phase ≡ true
unfolding sha1 digest_bytes hash_after compress rounds schedule first_words put2 put4 meant options_of find_ao keep sums complement_of pseudo header tcp_bytes checksum_of good spell first_fault fields reading with_right_checksum block_key hmac context context_of mac_input traffic_key mac choose follow judge ready arrive due_next due_again emit resend
opened_are = both (λ e. is_open (sessions e).state.phase ≡ true) refl refl

up_are : (e : End) → is_up (sessions e).state (sessions (other e)).state ≡ true
unfolding sha1 digest_bytes hash_after compress rounds schedule first_words put2 put4 meant options_of find_ao keep sums complement_of pseudo header tcp_bytes checksum_of good spell first_fault fields reading with_right_checksum block_key hmac context context_of mac_input traffic_key mac choose follow judge ready arrive due_next due_again emit resend
up_are = both (λ e. is_up (sessions e).state (sessions (other e)).state ≡ true) refl refl

peers_are : ((sessions A).state.peer_isn ≡ Some (sessions B).state.isn) × ((sessions B).state.peer_isn ≡ Some (sessions A).state.isn)
unfolding sha1 digest_bytes hash_after compress rounds schedule first_words put2 put4 meant options_of find_ao keep sums complement_of pseudo header tcp_bytes checksum_of good spell first_fault fields reading with_right_checksum block_key hmac context context_of mac_input traffic_key mac choose follow judge ready arrive due_next due_again emit resend
peers_are = (refl, refl)

sends_are : (e : End) → has_sendable (side met e).rows (pair_of storm_setup e) (side met e).clock ≡ true
unfolding sha1 digest_bytes hash_after compress rounds schedule first_words put2 put4 meant options_of find_ao keep sums complement_of pseudo header tcp_bytes checksum_of good spell first_fault fields reading with_right_checksum block_key hmac context context_of mac_input traffic_key mac choose follow judge ready arrive due_next due_again emit resend
sends_are = both (λ e. has_sendable (side met e).rows (pair_of storm_setup e) (side met e).clock ≡ true) refl refl

aligned_are : (e : End) → AlignedFrom (side met (other e)).rows (side met e).rows (pair_of storm_setup (other e)) 0 0
unfolding sha1 digest_bytes hash_after compress rounds schedule first_words put2 put4 meant options_of find_ao keep sums complement_of pseudo header tcp_bytes checksum_of good spell first_fault fields reading with_right_checksum block_key hmac context context_of mac_input traffic_key mac choose follow judge ready arrive due_next due_again emit resend
aligned_are = both (λ e. AlignedFrom (side met (other e)).rows (side met e).rows (pair_of storm_setup (other e)) 0 0) ((λ sends. refl), tt) ((λ sends. refl), tt)

unfoldable met_up : IsUp storm_setup met 0 0
met_up =
    let a_clock : (side met A).clock ≡ 0 = ap (at 0) numbers_are in
    let b_clock : (side met B).clock ≡ 0 = ap (at 1) numbers_are in
    record {
      session = sessions;
      lives = lives_are;
      partners = record { here = peers_are.0; there = peers_are.1 };
      opened = up_are;
      keyed = record {
        sends = sends_are;
        aligned = aligned_are;
        early = both (λ e. (side met (other e)).clock ≤ (side met e).clock + 0) (omega arith) (omega arith);
        late = both (λ e. (side met e).clock ≤ (side met (other e)).clock + 0) (omega arith) (omega arith);
        unforged = ap (at 2) numbers_are;
      };
    }

pub meets_in_step : (up : IsUp storm_setup met 0 0) × AreInStep storm_setup met 0 0 up
unfolding met_up
meets_in_step = (met_up, steps)
  where
    steps : AreInStep storm_setup met 0 0 met_up
    steps =
        let a_next : (sessions A).state.next ≡ 4294960001 = ap (at 3) numbers_are in
        let a_una : (sessions A).state.una ≡ 4294960001 = ap (at 4) numbers_are in
        let a_expected : (sessions A).state.expected ≡ 4000000001 = ap (at 5) numbers_are in
        let a_window : (sessions A).state.send_window ≡ 65535 = ap (at 6) numbers_are in
        let b_next : (sessions B).state.next ≡ 4000000001 = ap (at 7) numbers_are in
        let b_una : (sessions B).state.una ≡ 4000000001 = ap (at 8) numbers_are in
        let b_expected : (sessions B).state.expected ≡ 4294960001 = ap (at 9) numbers_are in
        let b_window : (sessions B).state.send_window ≡ 65535 = ap (at 10) numbers_are in
        record {
          opened = opened_are;
          steps = both (λ e. IsInStep (sessions e).state (sessions (other e)).state)
              (record { received = omega arith; acknowledged = inl (omega arith); window = omega arith })
              (record { received = omega arith; acknowledged = inl (omega arith); window = omega arith });
        }
