-- The calls of a session that make no segment keep the facts.
use Rattle.std.proofs.Common.{◌≡◌, ℕ, ◌+◌, ◌-◌, ◌≤◌, Bool, true, false, not, ◌||◌, List, [], ◌++◌, length, take, Option, Some, None, min, refl, sym, ap, ◌∙◌, arith, append-nil, length-append, length-take, nat_lt}
use Rattle.book_base.specs.declared.end.End.{End}
use Rattle.book_segments.specs.Spelling.{AreBytes}
use Rattle.book_segments.proofs.Fields.{and_tells, lt_not}
use Rattle.book_endpoint.specs.declared.phase.Phase.{Phase}
use Rattle.book_endpoint.specs.declared.phase.Phase.TheVariants.{Listen, SynSent, Closed}
use Rattle.book_endpoint.specs.States.{EndState, first, ready, is_closed, room, gives, give, taking, close_in, abort_resets, abort}
use Rattle.book_segments.specs.Received.{below_limit, bytes_from}
use Rattle.law_link.proofs.Tests.{choose}
use Rattle.book_base.proofs.TestLaws.{not_true}
use Rattle.book_base.proofs.TestLaws.{not_false}
use Rattle.law_link.proofs.Sound.{Sound, later_refl, steady_later, steady_sound, with_phase}
use Rattle.law_link.proofs.Phases.{closed_ok, closed_kept, resets_speaks}
use Rattle.law_link.proofs.Lists.{bytes_from-add, length-bytes_from, take-bytes_from}
use Rattle.law_link.proofs.Stream.{Stream}
use Rattle.law_link.proofs.Whole.{Whole, whole_phase}
use Rattle.law_link.proofs.ByteLists.{join}
use Rattle.book_link.specs.Outcomes.{Outcome, Done, Full, HasClosed}
use Rattle.book_link.specs.Worlds.{Setup}
use Rattle.book_link.specs.Steps.{quietly, given, took}
use Rattle.law_link.proofs.Keeping.{same_gained, ActOk}

pub still_ok : (setup : Setup) (e : End) (s : EndState) (outcome : Outcome) → Sound s → Whole s → ActOk setup e s (quietly s outcome)
still_ok setup e s outcome h whole = record { later = later_refl s; sound = h; whole = whole; shown = λ t. absurd (cc); made = tt; gained = same_gained setup e s s None refl refl refl }

give_ok : (setup : Setup) (e : End) (s : EndState) (piece : List ℕ) → s.closing ≡ false → length piece ≤ room s → AreBytes piece → Sound s → Whole s → ActOk setup e s (quietly (give piece s) Done)
give_ok setup e s piece unclosed fits bytes h whole =
    let longer = length-append s.given piece in
    let few = h.few in
    let top = h.next_high in
    record {
      later = record { same_isn = refl; peer = λ q e. e; grown = (piece, refl); took = omega arith; closed = λ e. absurd (cc); stopped = λ e. e; ended = λ f e. e; up = omega arith; sent = omega arith };
      sound = record {
        isn_fits = h.isn_fits;
        peer_isn_fits = h.peer_isn_fits;
        few = omega arith;
        bytes = (join s.given piece (record { at = h.bytes }) (record { at = bytes })).at;
        next_high = omega arith;
        unfinished = λ e. let low = h.unfinished e in omega arith;
        unknown = h.unknown;
        closed = h.closed;
        reset = h.reset;
      };
      whole = whole;
      shown = λ t. absurd (cc);
      made = tt;
      gained = same_gained setup e s (give piece s) None refl refl refl;
    }

pub given_ok : (setup : Setup) (e : End) (piece : List ℕ) (s : EndState) → AreBytes piece → Sound s → Whole s → ActOk setup e s (given piece s)
given_ok setup e piece s bytes h whole =
    choose (ActOk setup e s) (not (gives s)) (quietly s HasClosed) _ (λ t. still_ok setup e s HasClosed h whole) (λ t.
    choose (ActOk setup e s) (nat_lt (room s) (length piece)) (quietly s Full) (quietly (give piece s) Done) (λ full. still_ok setup e s Full h whole) (λ fits.
    let may = and_tells (not s.closing) (not (is_closed s.phase)) (not_false (gives s) t) in
    give_ok setup e s piece (not_true s.closing may.0) (lt_not (room s) (length piece) fits) bytes h whole))

took_stream : (o : Option ℕ) (taken : List ℕ) (m : ℕ → Option ℕ) (fin : Option ℕ) (x count : ℕ) → Stream o taken m fin x
    → Stream o (taken ++ take count (bytes_from m (first o + length taken) (below_limit fin x - (first o + length taken)))) m fin x
took_stream o taken m fin x count h =
    let start = first o + length taken in
    let left = below_limit fin x - start in
    let bytes = take count (bytes_from m start left) in
    let longer = length-append taken bytes in
    let some : length bytes ≡ min count (length (bytes_from m start left)) = length-take count (bytes_from m start left) in
    let all = length-bytes_from m start left in
    let begun = h.begun in
    let room = h.room in
    let more : bytes ≡ bytes_from m start (length bytes) = take-bytes_from m count start left in
    let both : taken ++ bytes ≡ bytes_from m (first o) (length taken) ++ bytes_from m start (length bytes) =
    ap (λ l. l ++ bytes) h.took ∙ ap (λ l. bytes_from m (first o) (length taken) ++ l) more in
    record {
      begun = omega arith;
      took = both ∙ sym (bytes_from-add m (first o) (length taken) (length bytes)) ∙ ap (bytes_from m (first o)) (sym longer);
      filled = h.filled;
      low = h.low;
      high = λ p b e. let g = h.high p b e in omega arith;
      room = omega arith;
      fin_high = h.fin_high;
      fin_low = h.fin_low;
      fin_none = h.fin_none;
      unknown = h.unknown;
    }

pub took_ok : (setup : Setup) (e : End) (count : ℕ) (s : EndState) → Sound s → Whole s → ActOk setup e s (took count s)
unfolding ready
took_ok setup e count s h whole =
    let longer = length-append s.taken (taking count s) in
    record {
      later = record {
        same_isn = refl;
        peer = λ q e. e;
        grown = ([], sym (append-nil s.given));
        took = omega arith;
        closed = λ e. (e, refl);
        stopped = λ e. e;
        ended = λ f e. e;
        up = omega arith;
        sent = omega arith;
      };
      sound = h;
      whole = record { stream = took_stream s.peer_isn s.taken s.received s.fin s.expected count whole.stream; missing = whole.missing; moved = whole.moved; ends = whole.ends };
      shown = λ t. t;
      made = tt;
      gained = same_gained setup e s (took count s).state None refl refl refl;
    }

ended_ok : (setup : Setup) (e : End) (s : EndState) → Sound s → Whole s → ActOk setup e s (quietly (record s { phase = Closed }) Done)
ended_ok setup e s h whole =
    let t : EndState = record s { phase = Closed } in
    let st = with_phase s Closed (closed_ok s.phase) in
    record {
      later = steady_later s t (omega arith) (λ f e. e) (omega arith) st;
      sound = steady_sound s t st h;
      whole = whole_phase s Closed (closed_kept s.phase) whole;
      shown = λ t. absurd (cc);
      made = tt;
      gained = same_gained setup e s t None refl refl refl;
    }

closing_ok : (setup : Setup) (e : End) (s : EndState) → Sound s → Whole s → ActOk setup e s (quietly (record s { closing = true }) Done)
closing_ok setup e s h whole =
    record {
      later = record { same_isn = refl; peer = λ q e. e; grown = ([], sym (append-nil s.given)); took = omega arith; closed = λ e. (refl, refl); stopped = λ e. e; ended = λ f e. e; up = omega arith; sent = omega arith };
      sound = record {
        isn_fits = h.isn_fits;
        peer_isn_fits = h.peer_isn_fits;
        few = h.few;
        bytes = h.bytes;
        next_high = h.next_high;
        unfinished = h.unfinished;
        unknown = h.unknown;
        closed = λ e. refl;
        reset = h.reset;
      };
      whole = whole;
      shown = λ t. absurd (cc);
      made = tt;
      gained = same_gained setup e s (record s { closing = true }) None refl refl refl;
    }

pub close_ok : (setup : Setup) (e : End) (s : EndState) (phase : Phase) → Sound s → Whole s → ActOk setup e s (quietly (close_in phase s) Done)
close_ok setup e s Listen h whole = ended_ok setup e s h whole
close_ok setup e s SynSent h whole = ended_ok setup e s h whole
close_ok setup e s Closed h whole = still_ok setup e s Done h whole
close_ok setup e s _ h whole = closing_ok setup e s h whole

or_true : (P : Type 0) (a b : Bool) → (a ≡ true → P) → (b ≡ true → P) → (a || b) ≡ true → P
or_true P true b one two e = one refl
or_true P false b one two e = two e

pub abort_ok : (setup : Setup) (e : End) (s : EndState) → Sound s → Whole s → ActOk setup e s (quietly (abort s) Done)
abort_ok setup e s h whole =
    record {
      later = record { same_isn = refl; peer = λ q e. e; grown = ([], sym (append-nil s.given)); took = omega arith; closed = λ e. (e, refl); stopped = λ e. refl; ended = λ f e. e; up = omega arith; sent = omega arith };
      sound = record {
        isn_fits = h.isn_fits;
        peer_isn_fits = h.peer_isn_fits;
        few = h.few;
        bytes = h.bytes;
        next_high = h.next_high;
        unfinished = λ e. absurd (cc);
        unknown = λ e. absurd (cc);
        closed = λ e. absurd (cc);
        reset = λ e. refl;
      };
      whole = record {
        stream = whole.stream;
        missing = whole.missing;
        moved = whole.moved;
        ends = record {
          una_low = whole.ends.una_low;
          una_high = whole.ends.una_high;
          begun = λ e. absurd (cc);
          known = λ e. absurd (cc);
          resets =
              or_true ((q : ℕ) × (s.peer_isn ≡ Some q)) s.rst_owed (abort_resets s.phase (nat_lt s.isn s.next)) whole.ends.resets
              (λ e. whole.ends.known (resets_speaks s.phase (nat_lt s.isn s.next) e));
        };
      };
      shown = λ t. absurd (cc);
      made = tt;
      gained = same_gained setup e s (abort s) None refl refl refl;
    }
