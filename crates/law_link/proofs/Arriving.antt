-- What an arrival may do, and what is known of one that passes.
use Rattle.std.proofs.Common.{◌≡◌, ℕ, ◌+◌, ◌%◌, ◌^◌, ◌<◌, ◌==◌, Bool, true, false, not, ◌&&◌, List, length, Option, Some, None, ◌⊎◌, inl, inr, if◌then◌else◌, refl, sym, ap, ◌∙◌, subst, arith, nat_lt, Ok, Err}
use Rattle.std.specs.Prelude.{⊤, is_some}
use Rattle.book_base.specs.declared.address.Address.{Address}
use Rattle.book_base.specs.declared.address.Address.TheVariants.{V4, V6}
use Rattle.book_base.specs.declared.address.Socket.{Socket}
use Rattle.book_base.specs.declared.address.Pair.{Pair}
use Rattle.book_base.specs.Algorithms.{mac_length_of}
use Rattle.book_segments.specs.Bytes.{same_bytes, ring}
use Rattle.book_segments.specs.Meant.{meant}
use Rattle.book_segments.specs.Sockets.{same_address, same_socket}
use Rattle.book_segments.specs.Options.{Ao, AoFound, Absent, One, Two, WithMd5 as FoundMd5, find_ao}
use Rattle.book_segments.specs.Segments.{Segment, Reading, Read, Bad as Unread, reading, good, has, segment_length, RST, SYN}
use Rattle.book_segments.specs.Spelling.{AreBytes, Fits}
use Rattle.book_segments.proofs.Fields.{and_tells, eqb_is, lt_not, some_is, same_bytes_tells}
use Rattle.book_segments.proofs.SpellLaws.{read_stands}
use Rattle.book_macs.specs.Contexts.{context_of}
use Rattle.book_macs.specs.MacInput.{mac_input}
use Rattle.book_keys.specs.Rows.{Row}
use Rattle.book_keys.specs.Choices.{Numbered, accept_row, has_id}
use Rattle.book_keys.specs.Coordination.{follow}
use Rattle.book_endpoint.specs.declared.phase.Phase.{Phase}
use Rattle.book_endpoint.specs.declared.phase.Phase.TheVariants.{Listen, SynSent}
use Rattle.book_endpoint.specs.States.{EndState, is_closed}
use Rattle.book_endpoint.specs.declared.refusal.Refusal.TheVariants.{NoTuple, Expired, MacLength, NoContext, Range, BadMac}
use Rattle.book_endpoint.specs.Verdicts.{Finding, Judgement, mac_of, found_with, segment_number}
use Rattle.book_endpoint.proofs.JudgeSteps.{judge_number, judge_context, judge_row, judge_ao, judge_by_steps}
use Rattle.book_endpoint.specs.declared.arrival.Arrival.{Arrival}
use Rattle.book_endpoint.specs.declared.arrival.Arrival.TheVariants.{Bad, Foreign, Checksum, Closed as AtClosed, Refused, Reset}
use Rattle.book_endpoint.specs.Arrivals.{Arrived, unmoved, heard, number_expected, numbers_known, judged_by, from_peer, arrive}
use Rattle.endpoint_steps.specs.Arriving.{after_check, arrive_judged, arrive_read}
use Rattle.endpoint_steps.proofs.Arriving.{read_by_cases}
use Rattle.law_link.proofs.Tests.{choose}
use Rattle.book_base.proofs.TestLaws.{not_false}
use Rattle.law_link.proofs.Phases.{waits}
use Rattle.law_link.proofs.Sound.{Sound, Later, later_refl, steady_later, steady_sound}
use Rattle.law_link.proofs.Moves.{MovedOk, after_check_ok}
use Rattle.law_link.proofs.Gains.{meant_is, Gains, UnheardIn, after_check_gains}
use Rattle.law_link.proofs.Whole.{Whole, after_check_whole}
use Rattle.book_segments.proofs.SocketLaws.{same_address_is, same_socket_is}

-- ---- the number of a segment

-- a number that a sequence field means; with SYN it is the field
abbrev pub IsNumber : Segment → ℕ → Type 0
IsNumber d n = (n % ring ≡ d.sequence) × (has SYN d ≡ true → n ≡ d.sequence)

sequence_itself : (d : Segment) (n : ℕ) → d.sequence < ring → Some d.sequence ≡ Some n → IsNumber d n
sequence_itself d n fits e = let same = some_is d.sequence n e in (omega arith, λ syn. sym same)

number_told : (d : Segment) (x : Option ℕ) (n : ℕ) → d.sequence < ring → segment_number d x ≡ Some n → IsNumber d n
number_told d None n fits e = sequence_itself d n fits e
number_told d (Some x) n fits e = by_test (has SYN d) refl e
  where
    by_test : (b : Bool) → has SYN d ≡ b → (if b then Some d.sequence else meant d.sequence x) ≡ Some n → IsNumber d n
    by_test true is e = sequence_itself d n fits e
    by_test false is e = (meant_is d.sequence x n fits e, λ syn. absurd (cc))

-- ---- the verdict

-- what the check found of a segment that passed
pub record Judged (s : EndState) (d : Segment) (p : Finding) : Type 0 where
  pub ao : Ao
  pub option : find_ao d.area ≡ One ao
  pub mac_long : length ao.mac ≡ mac_length_of p.key.algorithm
  pub context : context_of d s.peer_isn (Some s.isn) ≡ Some p.context
  pub flag : Bool
  pub input : p.input ≡ mac_input p.number d ao flag
  pub small : p.number < 2 ^ 64
  pub number : IsNumber d p.number

abbrev JudgedIf : EndState → Segment → Judgement → Type 0
JudgedIf s d (Err why) = ⊤
JudgedIf s d (Ok p) = Judged s d p

module _ (rows : List Row) (pair : Pair) (now : ℕ) (s : EndState) (d : Segment) (fits : d.sequence < ring) (x : Option ℕ) where
  number_judged : (r : Numbered) (ao : Ao) (c : List ℕ) (n : Option ℕ) → segment_number d x ≡ n → find_ao d.area ≡ One ao → length ao.mac ≡ mac_length_of r.row.algorithm → context_of d s.peer_isn (Some s.isn) ≡ Some c
      → JudgedIf s d (judge_number r d ao c n)
  number_judged r ao c None is option long known = tt
  number_judged r ao c (Some n) is option long known =
      choose (JudgedIf s d) (nat_lt 9223372036854775808 (n + segment_length d)) (Err Range) _ (λ t. tt) (λ t.
      let low = lt_not 9223372036854775808 (n + segment_length d) t in
      let p = found_with r d ao c n in
      choose (JudgedIf s d) (same_bytes ao.mac (mac_of p)) (Ok p) (Err BadMac)
      (λ right. record { ao = ao; option = option; mac_long = long; context = known; flag = r.row.with_options; input = refl; small = omega arith; number = number_told d x n fits is })
      (λ wrong. tt))

  context_judged : (r : Numbered) (ao : Ao) (o : Option (List ℕ)) → find_ao d.area ≡ One ao → length ao.mac ≡ mac_length_of r.row.algorithm → context_of d s.peer_isn (Some s.isn) ≡ o → JudgedIf s d (judge_context r d ao x o)
  context_judged r ao None option long known = tt
  context_judged r ao (Some c) option long known =
      choose (JudgedIf s d) (not (has SYN d) && not (is_some x)) (Err NoContext) _ (λ t. tt) (λ t. number_judged r ao c (segment_number d x) refl option long known)

  row_judged : (ao : Ao) (o : Option (List ℕ)) (r : Option Numbered) → find_ao d.area ≡ One ao → context_of d s.peer_isn (Some s.isn) ≡ o → JudgedIf s d (judge_row rows pair d ao x o r)
  row_judged ao o None option known = choose (JudgedIf s d) (has_id rows pair ao.key_id) (Err Expired) (Err NoTuple) (λ t. tt) (λ t. tt)
  row_judged ao o (Some r) option known =
      choose (JudgedIf s d) (not (length ao.mac == mac_length_of r.row.algorithm)) (Err MacLength) _ (λ t. tt)
      (λ t. context_judged r ao o option (eqb_is (length ao.mac) (mac_length_of r.row.algorithm) (not_false (length ao.mac == mac_length_of r.row.algorithm) t)) known)

  ao_judged : (o : Option (List ℕ)) (f : AoFound) → context_of d s.peer_isn (Some s.isn) ≡ o → find_ao d.area ≡ f → JudgedIf s d (judge_ao rows pair now x d o f)
  ao_judged o Absent known option = tt
  ao_judged o Two known option = tt
  ao_judged o FoundMd5 known option = tt
  ao_judged o (One ao) known option = row_judged ao o (accept_row rows pair ao.key_id now) option known

judged : (rows : List Row) (pair : Pair) (now : ℕ) (s : EndState) (d : Segment) → d.sequence < ring → JudgedIf s d (judged_by rows pair now s d)
judged rows pair now s d fits =
    subst (JudgedIf s d) (sym (judge_by_steps rows pair (numbers_known s) now d))
    (ao_judged rows pair now s d fits (number_expected s s.peer_isn) (context_of d s.peer_isn (Some s.isn)) (find_ao d.area) refl refl)

-- ---- the arrival

-- what is known of an arrival that passed
pub record Passing (pair : Pair) (s : EndState) (bytes : List ℕ) (p : Finding) : Type 0 where
  pub segment : Segment
  pub reads : reading bytes ≡ Read segment
  pub fits : Fits segment
  pub source : segment.source ≡ pair.remote
  pub destination : segment.destination ≡ pair.local
  pub judged : Judged s segment p

-- all that an arrival may do to a session
pub record ArrivedOk (pair : Pair) (s : EndState) (bytes : List ℕ) (r : Arrived) : Type 0 where
  pub later : Later s r.state
  pub sound : Sound r.state
  pub whole : Whole r.state
  pub passing : (p : Finding) → r.passed ≡ Some p → Passing pair s bytes p
  pub gained : ((r.state.received ≡ s.received) × (r.state.fin ≡ s.fin) × (r.state.una ≡ s.una)) ⊎ ((p : Finding) × (r.passed ≡ Some p) × (g : Passing pair s bytes p) × Gains p.number g.segment s r.state)
  pub reset : r.answer ≡ Reset → (p : Finding) × (r.passed ≡ Some p) × ((d : Segment) → reading bytes ≡ Read d → has RST d ≡ true)

passed_is : (p q : Finding) → Some p ≡ Some q → p ≡ q
passed_is p q e = cc

pub segment_is : (d e : Segment) → Read d ≡ Read e → d ≡ e
segment_is d e is = cc

still_ok : (pair : Pair) (s : EndState) (bytes : List ℕ) (answer : Arrival) → (answer ≡ Reset → ⊥) → Sound s → Whole s → ArrivedOk pair s bytes (unmoved s answer)
still_ok pair s bytes answer never h whole = record { later = later_refl s; sound = h; whole = whole; gained = inl (refl, refl, refl); passing = λ p e. absurd (cc); reset = λ e. absurd (never e) }

unheard : (s : EndState) (phase : Phase) → s.phase ≡ phase → Sound s → Whole s → UnheardIn phase s
unheard s Listen is h w = (w.stream.unknown (h.unknown (ap waits is))).0
unheard s SynSent is h w = (w.stream.unknown (h.unknown (ap waits is))).0
unheard s _ is h w = tt

verdict_ok : (rows : List Row) (pair : Pair) (now : ℕ) (s : EndState) (bytes : List ℕ) (d : Segment) (v : Judgement) → reading bytes ≡ Read d → Fits d → d.source ≡ pair.remote → d.destination ≡ pair.local
    → JudgedIf s d v → Sound s → Whole s → ArrivedOk pair s bytes (arrive_judged rows pair now s d v)
verdict_ok rows pair now s bytes d (Err why) reads fits source destination j h whole = still_ok pair s bytes (Refused why) (λ e. absurd (cc)) h whole
verdict_ok rows pair now s bytes d (Ok p) reads fits source destination j h whole =
    let sequence = fits.sequence in
    let moved = after_check pair s (heard rows pair now s p.rnext_key_id) d p.number now s.phase in
    let m : MovedOk s d moved =
    after_check_ok pair s (follow s.current rows pair p.rnext_key_id now) d p.number now s.phase refl (λ syn. subst (λ n. n < 2 ^ 32) (sym (j.number.1 syn)) sequence) h in
    let gains = after_check_gains pair s (follow s.current rows pair p.rnext_key_id now) d p.number now s.phase (unheard s s.phase refl h whole) fits.acknowledgement in
    let pass : Passing pair s bytes p = record { segment = d; reads = reads; fits = fits; source = source; destination = destination; judged = j } in
    record {
      later = steady_later s moved.state (let same = ap length gains.same_taken in omega arith) gains.keeps_fin gains.up m.steady;
      sound = steady_sound s moved.state m.steady h;
      whole = after_check_whole pair s (follow s.current rows pair p.rnext_key_id now) d p.number now s.phase refl h whole;
      gained = inr (p, refl, pass, gains);
      passing = λ q e. subst (Passing pair s bytes) (passed_is p q e) pass;
      reset = λ e. (p, refl, λ k is. subst (λ (c : Segment). has RST c ≡ true) (segment_is d k (sym reads ∙ is)) (m.reset e));
    }

read_ok : (rows : List Row) (pair : Pair) (now : ℕ) (s : EndState) (bytes : List ℕ) (r : Reading) → reading bytes ≡ r → AreBytes bytes → Sound s → Whole s → ArrivedOk pair s bytes (arrive_read rows pair now s r)
read_ok rows pair now s bytes (Unread fault) is all h whole = still_ok pair s bytes (Bad fault) (λ e. absurd (cc)) h whole
read_ok rows pair now s bytes (Read d) is all h whole =
    let P = ArrivedOk pair s bytes in
    let fits = (read_stands bytes d all is).1 in
    choose P (not (from_peer pair d)) (unmoved s Foreign) _ (λ t. still_ok pair s bytes Foreign (λ e. absurd (cc)) h whole) (λ ours.
    choose P (not (good d)) (unmoved s Checksum) _ (λ t. still_ok pair s bytes Checksum (λ e. absurd (cc)) h whole) (λ right.
    choose P (is_closed s.phase) (unmoved s AtClosed) _ (λ t. still_ok pair s bytes AtClosed (λ e. absurd (cc)) h whole) (λ awake.
    let sockets = and_tells (same_socket d.source pair.remote) (same_socket d.destination pair.local) (not_false (from_peer pair d) ours) in
    verdict_ok rows pair now s bytes d (judged_by rows pair now s d) is fits (same_socket_is d.source pair.remote sockets.0) (same_socket_is d.destination pair.local sockets.1)
    (judged rows pair now s d fits.sequence) h whole)))

pub arrive_ok : (rows : List Row) (pair : Pair) (now : ℕ) (s : EndState) (bytes : List ℕ) → AreBytes bytes → Sound s → Whole s → ArrivedOk pair s bytes (arrive rows pair now s (reading bytes))
arrive_ok rows pair now s bytes all h whole =
    subst (λ (a : Arrived). ArrivedOk pair s bytes a) (read_by_cases rows pair now s (reading bytes)) (read_ok rows pair now s bytes (reading bytes) refl all h whole)
