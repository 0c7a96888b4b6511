-- An older connection hides nothing of the one that followed it.
use Rattle.std.proofs.Common.{◌≡◌, ℕ, zero, suc, length, ◌+◌, ◌*◌, ◌&&◌, not, nat_le, nat_lt, Bool, true, false, List, Option, Some, None, Ok, Err, if◌then◌else◌, refl, sym, ap, ◌∙◌, subst}
use Rattle.std.specs.List.{find}
use Rattle.std.specs.Option.{option_or, unwrap_or}
use Rattle.book_base.specs.declared.address.Pair.{Pair}
use Rattle.book_segments.specs.Options.{Ao, AoFound, Absent, One, Two, WithMd5 as FoundMd5, find_ao}
use Rattle.book_segments.specs.Segments.{Segment, Read, has, SYN, segment_length, pair_reached}
use Rattle.book_segments.specs.Bytes.{ring, same_bytes}
use Rattle.book_segments.specs.Sockets.{same_socket}
use Rattle.book_macs.specs.Contexts.{context_of}
use Rattle.book_keys.specs.Choices.{Numbered, accept_row, has_id}
use Rattle.book_keys.specs.Rows.{Row, Table, has_address}
use Rattle.book_base.specs.Algorithms.{mac_length_of}
use Rattle.std.specs.Prelude.{◌==◌}
use Rattle.book_endpoint.specs.Verdicts.{Finding, Judgement, Known, found_with, mac_of, segment_number}
use Rattle.book_endpoint.specs.declared.refusal.Refusal.{Refusal}
use Rattle.book_endpoint.specs.declared.refusal.Refusal.TheVariants.{NoAo, TwoAo, WithMd5, NoTuple, Expired, MacLength, NoContext, Range, BadMac}
use Rattle.book_endpoint.specs.States.{number_limit}
use Rattle.book_endpoint.proofs.JudgeSteps.{judge_by_steps, judge_ao, judge_context, judge_mac, judge_number, judge_row}
use Rattle.book_cmd_check.specs.DatagramTexts.{checksum_in}
use Rattle.book_cmd_check.specs.Captures.{Connection, Heard, Saying, Unreadable, UnknownNode, Judged, TooManyConnections, connection_between, hear_at, hear_judged, hear_later, is_pass, judge_later, judge_stored}
use Rattle.book_sessions.specs.declared.outcome.SegmentOutcome.TheVariants as outcome
use Rattle.book_sessions.specs.Glimpses.{Opening, glimpsed, is_opened_anew, is_opening_from, is_judged, is_outdated, is_unknown, openings_after, told_anew}
use Rattle.book_sessions.specs.Laps.{Judging, first_from, heard_ahead, heard_by, heard_further, hear_over, is_searched, with_expected}
use Rattle.book_sessions.specs.Listening.{Listened, Listening, listen, outcome_of, pass_of}
use Rattle.book_sessions.proofs.Hearing.{listened}
use Rattle.book_sessions.proofs.RightMacs.{ahead_passes}
use Rattle.law_sessions.specs.Anew.{AsUnheld, IsOpenedAnew, IsUnhidden, OfOlder, holding}

-- ---- one verdict

-- a refusal that depends on the numbers of the connection
abbrev of_numbers : Refusal → Bool
of_numbers NoContext = true
of_numbers Range = true
of_numbers BadMac = true
of_numbers _ = false

-- the verdict by an older connection, and the one without any
data Fit (one other : Judgement) : Type 0 where
  Passed : (p : Finding) → one ≡ Ok p → Fit one other
  Unsaid : (why : Refusal) → one ≡ Err why → of_numbers why ≡ true → other ≡ Err NoContext → Fit one other
  Same : (why : Refusal) → one ≡ Err why → other ≡ Err why → of_numbers why ≡ false → Fit one other

mac_at : (b : Bool) (p : Finding) (other : Judgement) → other ≡ Err NoContext → Fit (if b then Ok p else Err BadMac) other
mac_at true p other e = Passed p refl
mac_at false p other e = Unsaid BadMac refl refl e

range_at : (b : Bool) (ao : Ao) (p : Finding) (other : Judgement) → other ≡ Err NoContext → Fit (if b then Err Range else judge_mac ao p) other
range_at true ao p other e = Unsaid Range refl refl e
range_at false ao p other e = mac_at (same_bytes ao.mac (mac_of p)) p other e

number_fit : (r : Numbered) (d : Segment) (ao : Ao) (context : List ℕ) (n : Option ℕ) (other : Judgement) → other ≡ Err NoContext → Fit (judge_number r d ao context n) other
number_fit r d ao context None other e = Unsaid Range refl refl e
number_fit r d ao context (Some n) other e = range_at (nat_lt 9223372036854775808 (n + segment_length d)) ao (found_with r d ao context n) other e

known_at : (b : Bool) (one other : Judgement) → Fit one other → Fit (if b && false then Err NoContext else one) other
known_at true one other fit = fit
known_at false one other fit = fit

context_fit : (r : Numbered) (d : Segment) (ao : Ao) (n : ℕ) (context : Option (List ℕ)) (other : Judgement) → other ≡ Err NoContext → Fit (judge_context r d ao (Some n) context) other
context_fit r d ao n None other e = Unsaid NoContext refl refl e
context_fit r d ao n (Some context) other e =
    known_at (not (has SYN d)) (judge_number r d ao context (segment_number d (Some n))) other (number_fit r d ao context (segment_number d (Some n)) other e)

unknown_at : (b : Bool) (one : Judgement) → b ≡ true → (if b && true then Err NoContext else one) ≡ Err NoContext
unknown_at true one e = refl
unknown_at false one e = absurd (cc)

none_known : (r : Numbered) (d : Segment) (ao : Ao) (context : Option (List ℕ)) → has SYN d ≡ false → judge_context r d ao None context ≡ Err NoContext
none_known r d ao None syn = refl
none_known r d ao (Some context) syn = unknown_at (not (has SYN d)) (judge_number r d ao context (segment_number d None)) (ap not syn)

length_at : (b : Bool) (one other : Judgement) → Fit one other → Fit (if not b then Err MacLength else one) (if not b then Err MacLength else other)
length_at true one other fit = fit
length_at false one other fit = Same MacLength refl refl refl

id_at : (b : Bool) → Fit (if b then Err Expired else Err NoTuple) (if b then Err Expired else Err NoTuple)
id_at true = Same Expired refl refl refl
id_at false = Same NoTuple refl refl refl

module _ (rows : List Row) (pair : Pair) (now : ℕ) (d : Segment) (syn : has SYN d ≡ false) where
  row_fit : (ao : Ao) (n : ℕ) (one other : Option (List ℕ)) (found : Option Numbered) → Fit (judge_row rows pair d ao (Some n) one found) (judge_row rows pair d ao None other found)
  row_fit ao n one other None = id_at (has_id rows pair ao.key_id)
  row_fit ao n one other (Some r) =
      length_at (length ao.mac == mac_length_of r.row.algorithm) (judge_context r d ao (Some n) one) (judge_context r d ao None other)
      (context_fit r d ao n one (judge_context r d ao None other) (none_known r d ao other syn))

  ao_fit : (n : ℕ) (one other : Option (List ℕ)) (f : AoFound) → Fit (judge_ao rows pair now (Some n) d one f) (judge_ao rows pair now None d other f)
  ao_fit n one other Absent = Same NoAo refl refl refl
  ao_fit n one other Two = Same TwoAo refl refl refl
  ao_fit n one other FoundMd5 = Same WithMd5 refl refl refl
  ao_fit n one other (One ao) = row_fit ao n one other (accept_row rows pair ao.key_id now)

  fit_by : (one two other another : Judgement) → one ≡ two → other ≡ another → Fit two another → Fit one other
  fit_by one two other another e f fit = rw (e, f) fit

  later_is : (b : Bool) (one other : Judgement) → b ≡ false → (if b then one else other) ≡ other
  later_is true one other e = absurd (cc)
  later_is false one other e = refl

  stored_fit : (c : Connection) → Fit (judge_stored rows pair now d (Some c)) (judge_stored rows pair now d None)
  stored_fit c =
      let known : Known = record { own_isn = c.two.isn; peer_isn = Some c.one.isn; expected = Some c.one.expected } in
      let none : Known = record { own_isn = 0; peer_isn = None; expected = None } in
      fit_by (judge_stored rows pair now d (Some c)) (judge_ao rows pair now (Some c.one.expected) d (context_of d (Some c.one.isn) (Some c.two.isn)) (find_ao d.area))
      (judge_stored rows pair now d None) (judge_ao rows pair now None d (context_of d None (Some 0)) (find_ao d.area))
      (later_is (has SYN d) _ (judge_later rows pair now d (Some c)) syn ∙ judge_by_steps rows pair known now d)
      (later_is (has SYN d) _ (judge_later rows pair now d None) syn ∙ judge_by_steps rows pair none now d)
      (ao_fit c.one.expected (context_of d (Some c.one.isn) (Some c.two.isn)) (context_of d None (Some 0)) (find_ao d.area))

-- ---- what is said

-- what is said by an older connection, and without any
data FitSaid (d : Segment) (w other : Saying) : Type 0 where
  PassedSaid : is_pass w ≡ true → FitSaid d w other
  UnsaidSaid : is_unknown (told_anew true w) ≡ true → is_unknown other ≡ true → FitSaid d w other
  SameSaid : w ≡ other → told_anew true w ≡ w → is_searched d w ≡ false → is_unknown w ≡ false → FitSaid d w other

abbrev refused : Refusal → Segment → Saying
refused why d = Judged (Err why) (checksum_in d)

unsaid : (why : Refusal) (d : Segment) → of_numbers why ≡ true → is_unknown (told_anew true (refused why d)) ≡ true
unsaid NoAo d e = absurd (cc)
unsaid TwoAo d e = absurd (cc)
unsaid WithMd5 d e = absurd (cc)
unsaid NoTuple d e = absurd (cc)
unsaid Expired d e = absurd (cc)
unsaid MacLength d e = absurd (cc)
unsaid NoContext d e = refl
unsaid Range d e = refl
unsaid BadMac d e = refl

same_said : (why : Refusal) (d : Segment) → of_numbers why ≡ false → FitSaid d (refused why d) (refused why d)
same_said NoAo d e = SameSaid refl refl refl refl
same_said TwoAo d e = SameSaid refl refl refl refl
same_said WithMd5 d e = SameSaid refl refl refl refl
same_said NoTuple d e = SameSaid refl refl refl refl
same_said Expired d e = SameSaid refl refl refl refl
same_said MacLength d e = SameSaid refl refl refl refl
same_said NoContext d e = absurd (cc)
same_said Range d e = absurd (cc)
same_said BadMac d e = absurd (cc)

later_passes : (held : List Connection) (d : Segment) (p : Finding) (c : Option Connection) → is_pass (hear_later held d p.number (Ok p) c).saying ≡ true
later_passes held d p None = refl
later_passes held d p (Some c) = refl

passes_at : (b : Bool) (held : List Connection) (d : Segment) (p : Finding) (c : Option Connection) (other : Heard) → b ≡ false → is_pass (if not b then hear_later held d p.number (Ok p) c else other).saying ≡ true
passes_at true held d p c other e = absurd (cc)
passes_at false held d p c other e = later_passes held d p c

judged_fit : (held others : List Connection) (d : Segment) (c k : Option Connection) (one other : Judgement) → has SYN d ≡ false → Fit one other → FitSaid d (hear_judged held d c one).saying (hear_judged others d k other).saying
judged_fit held others d c k one other syn (Passed p e) = rw e (PassedSaid (passes_at (has SYN d) held d p c _ syn))
judged_fit held others d c k one other syn (Unsaid why e numbers f) = rw (e, f) (UnsaidSaid (unsaid why d numbers) refl)
judged_fit held others d c k one other syn (Same why e f numbers) = rw (e, f) (same_said why d numbers)

sockets_at : (b : Bool) (held others : List Connection) (d : Segment) (c k : Option Connection) (one other : Judgement) → has SYN d ≡ false → Fit one other →
    FitSaid d (if b then record { connections = held; saying = UnknownNode } else hear_judged held d c one).saying (if b then record { connections = others; saying = UnknownNode } else hear_judged others d k other).saying
sockets_at true held others d c k one other syn fit = SameSaid refl refl refl refl
sockets_at false held others d c k one other syn fit = judged_fit held others d c k one other syn fit

table_fit : (t : Option Table) (held others : List Connection) (now : ℕ) (d : Segment) (c : Connection) → has SYN d ≡ false → connection_between d held ≡ Some c → connection_between d others ≡ None →
    FitSaid d (hear_at t held now d).saying (hear_at t others now d).saying
table_fit None held others now d c syn e f = SameSaid refl refl refl refl
table_fit (Some t) held others now d c syn e f =
    let pair = pair_reached d in
    rw (e, f) (sockets_at (same_socket d.source d.destination) held others d (Some c) None (judge_stored t.rows pair now d (Some c)) (judge_stored t.rows pair now d None) syn (stored_fit t.rows pair now d syn c))

-- ---- over laps

first_is_pass : (found others : Option Heard) (k : Heard) → option_or found others ≡ Some k → ((h : Heard) → found ≡ Some h → is_pass h.saying ≡ true) → (others ≡ Some k → is_pass k.saying ≡ true) → is_pass k.saying ≡ true
first_is_pass None others k e here there = there e
first_is_pass (Some h) others k e here there = here k e

from_is_pass : (heard : ℕ → Option Heard) → ((n : ℕ) (h : Heard) → heard n ≡ Some h → is_pass h.saying ≡ true) → (more n : ℕ) (k : Heard) → first_from heard more n ≡ Some k → is_pass k.saying ≡ true
from_is_pass heard sound zero n k e = absurd (cc)
from_is_pass heard sound (suc more) n k e = first_is_pass (heard n) (first_from heard more (suc n)) k e (sound n) (λ later. from_is_pass heard sound more (suc n) k later)

further_is_pass : (j : Judging) (held : List Connection) (now : ℕ) (d : Segment) (c : Option Connection) (k : Heard) → heard_further (heard_by j now d) j.laps held c ≡ Some k → is_pass k.saying ≡ true
further_is_pass j held now d None k e = absurd (cc)
further_is_pass j held now d (Some c) k e =
    from_is_pass (heard_ahead (heard_by j now d) held c)
    (λ n h found. ahead_passes (nat_le (c.one.expected + n * ring) number_limit) (heard_by j now d (with_expected (c.one.expected + n * ring) c held)) h found)
    j.laps 1 k e

over_fit : (d : Segment) (b : Bool) (found : Option Heard) (h : Heard) (other : Saying) → ((k : Heard) → found ≡ Some k → is_pass k.saying ≡ true) → FitSaid d h.saying other → FitSaid d (if b then unwrap_or found h else h).saying other
over_fit d false found h other passing fit = fit
over_fit d true None h other passing fit = fit
over_fit d true (Some k) h other passing fit = PassedSaid (passing k refl)

unsearched_is : (b : Bool) (one other : Heard) → b ≡ false → (if b then one else other) ≡ other
unsearched_is true one other e = absurd (cc)
unsearched_is false one other e = refl

unknown_unsearched : (d : Segment) (w : Saying) → is_unknown w ≡ true → is_searched d w ≡ false
unknown_unsearched d (Unreadable fault) e = refl
unknown_unsearched d UnknownNode e = refl
unknown_unsearched d (TooManyConnections checksum) e = refl
unknown_unsearched d (Judged (Ok p) checksum) e = refl
unknown_unsearched d (Judged (Err NoAo) checksum) e = refl
unknown_unsearched d (Judged (Err TwoAo) checksum) e = refl
unknown_unsearched d (Judged (Err WithMd5) checksum) e = refl
unknown_unsearched d (Judged (Err NoTuple) checksum) e = refl
unknown_unsearched d (Judged (Err Expired) checksum) e = refl
unknown_unsearched d (Judged (Err MacLength) checksum) e = refl
unknown_unsearched d (Judged (Err NoContext) checksum) e = refl
unknown_unsearched d (Judged (Err Range) checksum) e = absurd (cc)
unknown_unsearched d (Judged (Err BadMac) checksum) e = absurd (cc)

-- what is said without any connection isn't searched
still_fit : (d : Segment) (w : Saying) (h more : Heard) → FitSaid d w h.saying → FitSaid d w (if is_searched d h.saying then more else h).saying
still_fit d w h more (PassedSaid e) = PassedSaid e
still_fit d w h more (UnsaidSaid e f) =
    subst (λ (x : Heard). FitSaid d w x.saying) (sym (unsearched_is (is_searched d h.saying) more h (unknown_unsearched d h.saying f))) (UnsaidSaid e f)
still_fit d w h more (SameSaid e told searched unknown) =
    subst (λ (x : Heard). FitSaid d w x.saying) (sym (unsearched_is (is_searched d h.saying) more h (ap (is_searched d) (sym e) ∙ searched))) (SameSaid e told searched unknown)

laps_fit : (j : Judging) (held others : List Connection) (now : ℕ) (d : Segment) (c : Connection) → has SYN d ≡ false → connection_between d held ≡ Some c → connection_between d others ≡ None →
    FitSaid d (hear_over j held now d).saying (hear_over j others now d).saying
unfolding hear_over
laps_fit j held others now d c syn e f =
    let h = heard_by j now d held in
    let k = heard_by j now d others in
    let found = heard_further (heard_by j now d) j.laps held (connection_between d held) in
    let more = unwrap_or (heard_further (heard_by j now d) j.laps others (connection_between d others)) k in
    still_fit d (if is_searched d h.saying then unwrap_or found h else h).saying k more
    (over_fit d (is_searched d h.saying) found h k.saying (further_is_pass j held now d (connection_between d held)) (table_fit (find (has_address d.destination.address) j.tables) held others now d c syn e f))

-- ---- what is told

and_tells : (a b : Bool) → (a && b) ≡ true → (a ≡ true) × (b ≡ true)
and_tells true true e = (refl, refl)
and_tells true false e = absurd (cc)
and_tells false b e = absurd (cc)

not_is : (b : Bool) → not b ≡ true → b ≡ false
not_is true e = absurd (cc)
not_is false e = refl

and_false : (b : Bool) → (b && false) ≡ false
and_false true = refl
and_false false = refl

-- a connection is held where its sockets were opened anew
outdated_held : (onward back : Option Opening) (c : Option Connection) → is_outdated onward back c ≡ true → (k : Connection) × (c ≡ Some k)
outdated_held onward back None e = absurd (cc)
outdated_held onward back (Some k) e = (k, refl)

none_anew : (d : Segment) (held : List Connection) (openings : List Opening) → connection_between d held ≡ None → is_opened_anew d held openings ≡ false
none_anew d held openings e = rw e (and_false (not (has SYN d) && not (same_socket d.source d.destination)))

still_open : (d : Segment) (w : Saying) (openings : List Opening) → has SYN d ≡ false → openings_after d w openings ≡ openings
still_open d w openings syn = rw (syn, and_false (is_judged w)) refl

glimpsed_alike : (d : Segment) (w other : Saying) (openings : List Opening) (guessed : List Connection) → has SYN d ≡ false → is_unknown w ≡ true → is_unknown other ≡ true → glimpsed d w openings guessed ≡ glimpsed d other openings guessed
glimpsed_alike d w other openings guessed syn e f = rw (syn, e, f) refl

passed_told : (h k : Heard) (guessed : List Connection) (openings : List Opening) (w : Saying) → h.saying ≡ w → is_pass w ≡ true → (listened (is_unknown (told_anew true h.saying)) h k guessed openings).outcome ≡ Ok outcome.Verified
passed_told h k guessed openings (Unreadable fault) e f = absurd (cc)
passed_told h k guessed openings UnknownNode e f = absurd (cc)
passed_told h k guessed openings (TooManyConnections checksum) e f = absurd (cc)
passed_told h k guessed openings (Judged (Err why) checksum) e f = absurd (cc)
passed_told h k guessed openings (Judged (Ok p) checksum) e f = rw e refl

twice_alike : (b c : Bool) (h other k : Heard) (guessed guessed2 : List Connection) (openings openings2 : List Opening) → b ≡ true → c ≡ true → openings ≡ openings2 → IsUnhidden (listened b h k guessed openings) (listened c other k guessed2 openings2)
twice_alike true true h other k guessed guessed2 openings openings2 e f o = AsUnheld refl refl refl o
twice_alike true false h other k guessed guessed2 openings openings2 e f o = absurd (cc)
twice_alike false c h other k guessed guessed2 openings openings2 e f o = absurd (cc)

once_alike : (b c : Bool) (h other k k2 : Heard) (guessed guessed2 : List Connection) (openings openings2 : List Opening) → b ≡ false → c ≡ false → h.saying ≡ other.saying → guessed ≡ guessed2 → openings ≡ openings2 →
    IsUnhidden (listened b h k guessed openings) (listened c other k2 guessed2 openings2)
once_alike false false h other k k2 guessed guessed2 openings openings2 e f said g o = AsUnheld (ap outcome_of said) (ap pass_of said) g o
once_alike false true h other k k2 guessed guessed2 openings openings2 e f said g o = absurd (cc)
once_alike true c h other k k2 guessed guessed2 openings openings2 e f said g o = absurd (cc)

module _ (j : Judging) (l : Listening) (now : ℕ) (d : Segment) (syn : has SYN d ≡ false) (h other : Heard) where
  -- what is told by the older connection, and without any
  abbrev by_older : Listened
  by_older = let told = told_anew true h.saying in let guessed = glimpsed d told l.openings l.guessed in
      listened (is_unknown told) h (hear_over j guessed now d) guessed (openings_after d h.saying l.openings)

  abbrev by_none : Listened
  by_none = let guessed = glimpsed d other.saying l.openings l.guessed in
      listened (is_unknown other.saying) other (hear_over j guessed now d) guessed (openings_after d other.saying l.openings)

  open_alike : openings_after d h.saying l.openings ≡ openings_after d other.saying l.openings
  open_alike = still_open d h.saying l.openings syn ∙ sym (still_open d other.saying l.openings syn)

  told_alike : FitSaid d h.saying other.saying → IsUnhidden by_older by_none
  told_alike (PassedSaid e) = let guessed = glimpsed d (told_anew true h.saying) l.openings l.guessed in
      OfOlder (passed_told h (hear_over j guessed now d) guessed (openings_after d h.saying l.openings) h.saying refl e)
  told_alike (UnsaidSaid e f) =
      let told = told_anew true h.saying in
      let guessed = glimpsed d other.saying l.openings l.guessed in
      let same = glimpsed_alike d told other.saying l.openings l.guessed syn e f in
      subst (λ (g : List Connection). IsUnhidden (listened (is_unknown told) h (hear_over j g now d) g (openings_after d h.saying l.openings)) by_none) (sym same)
      (twice_alike (is_unknown told) (is_unknown other.saying) h other (hear_over j guessed now d) guessed guessed (openings_after d h.saying l.openings) (openings_after d other.saying l.openings) e f open_alike)
  told_alike (SameSaid e told searched unknown) =
      let guessed = glimpsed d (told_anew true h.saying) l.openings l.guessed in
      let guessed2 = glimpsed d other.saying l.openings l.guessed in
      once_alike (is_unknown (told_anew true h.saying)) (is_unknown other.saying) h other (hear_over j guessed now d) (hear_over j guessed2 now d) guessed guessed2
      (openings_after d h.saying l.openings) (openings_after d other.saying l.openings)
      (ap is_unknown told ∙ unknown) (ap is_unknown (sym e) ∙ unknown) e (ap (λ (w : Saying). glimpsed d w l.openings l.guessed) (told ∙ e)) open_alike

-- what is told is what `told_alike` says of it
anew_told : (j : Judging) (l : Listening) (others : List Connection) (now : ℕ) (d : Segment) (a b : Bool) → is_opened_anew d l.held l.openings ≡ a → is_opened_anew d others l.openings ≡ b → a ≡ true → b ≡ false → (syn : has SYN d ≡ false) →
    FitSaid d (hear_over j l.held now d).saying (hear_over j others now d).saying → IsUnhidden (listen j l now (Read d)) (listen j (holding others l) now (Read d))
unfolding listen
anew_told j l others now d true false e f is isnt syn fit = rw (e, f) (told_alike j l now d syn (hear_over j l.held now d) (hear_over j others now d) fit)
anew_told j l others now d false b e f is isnt syn fit = absurd (cc)
anew_told j l others now d true true e f is isnt syn fit = absurd (cc)

pub hides_nothing : (j : Judging) (l : Listening) (others : List Connection) (now : ℕ) (d : Segment) → IsOpenedAnew d l others → IsUnhidden (listen j l now (Read d)) (listen j (holding others l) now (Read d))
hides_nothing j l others now d is =
    let c = connection_between d l.held in
    let onward = find (is_opening_from d.source d.destination) l.openings in
    let back = find (is_opening_from d.destination d.source) l.openings in
    let other = not (same_socket d.source d.destination) in
    let both = and_tells (not (has SYN d) && other) (is_outdated onward back c) is.opened in
    let syn = not_is (has SYN d) (and_tells (not (has SYN d)) other both.0).0 in
    let held = outdated_held onward back c both.1 in
    anew_told j l others now d (is_opened_anew d l.held l.openings) (is_opened_anew d others l.openings) refl refl is.opened (none_anew d others l.openings is.unheld) syn
    (laps_fit j l.held others now d held.0 syn held.1 is.unheld)
