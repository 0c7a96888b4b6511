-- From one part of a capture to the next, and to each end.
use Rattle.std.proofs.Common.{◌≡◌, ℕ, zero, suc, ◌+◌, ◌<◌, ◌≤◌, Bool, true, false, List, [], ◌∷◌, ◌++◌, length, Option, Some, None, Result, Ok, Err, IfSome, IsSome, refl, sym, ap, subst, ◌∙◌, append_assoc, arith, inl, inr}
use Rattle.std.proofs.lemmas.Bool.Decides.{nat_tests}
use Rattle.std.proofs.lemmas.List.{append-nil, length-append}
use Rattle.std.proofs.lemmas.List.Elements.{All-append}
use Rattle.std.specs.Prelude.{if◌then◌else◌}
use Rattle.std.specs.List.{All, find}
use Rattle.ao_base.specs.Outside.{Side, Gave}
use Rattle.ao_base.proofs.Sides.{gave_none}
use Rattle.book_base.specs.Hexadecimal.{IsByte}
use Rattle.book_captures.specs.declared.capture_parts.CaptureFault.{CaptureFault}
use Rattle.book_captures.specs.Parts.{PartSaid}
use Rattle.book_captures.specs.Captures.{CapturePacket, capture_of}
use Rattle.book_cmd_check.specs.declared.given.GivenIsns.{GivenIsns}
use Rattle.book_cmd_check.specs.Captures.{Connection, Stored, hear}
use Rattle.book_cmd_check.specs.Connections.{connections_after}
use Rattle.book_cmd_check.specs.Handshakes.{given_after}
use Rattle.book_keys.specs.Rows.{Table}
use Rattle.book_scope_plan.specs.AdminNames.{KeyFile}
use Rattle.book_segments.specs.Segments.{reading}
use Rattle.book_sessions.specs.declared.outcome.PassedOver.{PassedOver}
use Rattle.book_sessions.specs.Sessions.{all_stored, captured_of_packet, judged_of, stored_before, stored_of_packet}
use Rattle.book_why.specs.Answers.{Behind, WhyAsked, behind_stored, has_number, no_packet_line, why_passes, why_text}
use Rattle.book_why.specs.OtherIsns.{told_by_reading, told_by_stored}
use Rattle.book_why.proofs.AnswerLaws.{missing_told, pass_told, text_told}
use Rattle.capture_check.specs.Checkers.{Checking, StandsFor}
use Rattle.book_base.specs.declared.address.Pair.{Pair}
use Rattle.capture_check.specs.declared.flows.Flows.{Flows}
use Rattle.capture_walk.specs.declared.reader.CaptureStep.TheVariants as step
use Rattle.capture_walk.specs.declared.reader.CaptureHalt.TheVariants as stream_halt
use Rattle.capture_walk.specs.Reads.{Reading, most_ahead, most_buffered, new_reading, ShowsNone, Passes, Steps, to_come}
use Rattle.capture_walk.proofs.Taken.{all_broken, all_ended, all_none, bytes_all, gave_all, has_read, no_more, none_shown, read_more, rose_read, shows_more, stays_broken, taken_more, taken_none, too_many}
use Rattle.capture_walk.proofs.Showing.{read_now, shown_none}
use Rattle.scope_why.specs.declared.answer.Answered.{Answered}
use Rattle.capture_walk.specs.declared.walking.WalkHalt.TheVariants as halt
use Rattle.scope_why.specs.Fronts.{StandsBehind, behind_one, stored_as}
use Rattle.scope_why.specs.declared.shown.StoredBytes.{StoredBytes}
use Rattle.scope_why.specs.Reading.{NoneHas, Reads, Stops}
use Rattle.scope_why.specs.Replies.{AnswersBehind}
use Rattle.capture_walk.specs.HasRead.{HasRead, HasTaken, listed}

-- the first of these packets that has the number
abbrev packet_named : ℕ → List CapturePacket → Option CapturePacket
packet_named n packets = find (has_number n) packets

other : {X : Type 0} → (b : Bool) (x y : X) → b ≡ false → (if b then x else y) ≡ y
other false x y e = refl
other true x y e = absurd (cc)

-- ---- one packet more in front

stored_append : (a b : List CapturePacket) → all_stored (a ++ b) ≡ all_stored a ++ all_stored b
stored_append [] b = refl
stored_append (p ∷ ps) b = at (stored_of_packet p) (stored_append ps b)
  where
    at : (r : Result Stored PassedOver) → all_stored (ps ++ b) ≡ all_stored ps ++ all_stored b → stored_before r (all_stored (ps ++ b)) ≡ stored_before r (all_stored ps) ++ all_stored b
    at (Ok s) e = ap (λ (l : List Stored). s ∷ l) e
    at (Err why) e = e

after_append : (tables : List Table) (held : List Connection) (a b : List Stored) → connections_after tables held (a ++ b) ≡ connections_after tables (connections_after tables held a) b
after_append tables held [] b = refl
after_append tables held (s ∷ a) b = after_append tables (hear tables held s.time s.bytes).connections a b

told_append : (a b : List Stored) → told_by_stored (a ++ b) ≡ told_by_stored a ++ told_by_stored b
told_append [] b = refl
told_append (s ∷ a) b =
    ap (λ (x : List GivenIsns). told_by_reading (reading s.bytes) ++ x) (told_append a b) ∙ sym (append_assoc (told_by_reading (reading s.bytes)) (told_by_stored a) (told_by_stored b))

same_behind : (h k : List Connection) (t u : List GivenIsns) → h ≡ k → t ≡ u → ◌≡◌ {A = Behind} (record { held = h; told = t }) (record { held = k; told = u })
same_behind h k t u e f = rw (e, f) refl

behind_more : (tables : List Table) (given : List GivenIsns) (before : List Stored) (r : Result Stored PassedOver)
    → behind_one tables (behind_stored tables given before) r ≡ behind_stored tables given (before ++ stored_before r [])
behind_more tables given before (Err why) = rw (append-nil before) refl
behind_more tables given before (Ok s) =
    same_behind _ _ _ _ (sym (after_append tables (given_after [] given) before (s ∷ [])))
    (ap (λ (x : List GivenIsns). (given ++ told_by_stored before) ++ x) (sym (append-nil (told_by_reading (reading s.bytes))))
    ∙ (append_assoc given (told_by_stored before) (told_by_stored (s ∷ [])) ∙ ap (λ (x : List GivenIsns). given ++ x) (sym (told_append before (s ∷ [])))))

behind_packet : (tables : List Table) (given : List GivenIsns) (before : List CapturePacket) (p : CapturePacket)
    → behind_one tables (behind_stored tables given (all_stored before)) (stored_of_packet p) ≡ behind_stored tables given (all_stored (before ++ p ∷ []))
behind_packet tables given before p =
    behind_more tables given (all_stored before) (stored_of_packet p) ∙ ap (behind_stored tables given) (sym (stored_append before (p ∷ [])))

none_more : (n : ℕ) (before : List CapturePacket) (p : CapturePacket) → NoneHas n before → has_number n p ≡ false → NoneHas n (before ++ p ∷ [])
none_more n before p none other = All-append (λ q. has_number n q ≡ false) before (p ∷ []) none (one p other)
  where
    one : (p : CapturePacket) → has_number n p ≡ false → NoneHas n (p ∷ [])
    one p other zero d low = other
    one p other (suc i) d low = absurd (omega (arith, low))

-- ---- the packet that is asked for was reached

module _ (keys : KeyFile) (asked : WhyAsked) (before : List CapturePacket) (p : CapturePacket) (given : List ℕ) (has : HasRead given (before ++ p ∷ [])) (earlier : NoneHas asked.number before) (here : has_number asked.number p ≡ true)
    (answered : Answered) (answers : AnswersBehind keys (behind_stored keys.tables asked.given (all_stored before)) asked.with_key p.number (captured_of_packet p) answered) where
  later_packets : List ℕ → List CapturePacket
  later_packets more = (to_come has.reader (has.rest ++ more)).packets

  packets_are : (more : List ℕ) → (capture_of (given ++ more)).packets ≡ before ++ p ∷ later_packets more
  unfolding later_packets
  packets_are more =
      ap (λ c. c.packets) (ap capture_of (ap (λ (x : List ℕ). x ++ more) has.split ∙ append_assoc has.front has.rest more) ∙ has.goes_on (has.rest ++ more))
      ∙ append_assoc before (p ∷ []) (later_packets more)

  reached_text : (more : List ℕ) → answered.text.items ≡ why_text keys asked (capture_of (given ++ more)).packets
  reached_text more =
      answers.text ∙ sym (ap (why_text keys asked) (packets_are more) ∙ text_told keys asked before (later_packets more) p earlier here)

  reached_passes : (more : List ℕ) → answered.passes ≡ why_passes keys.tables asked (capture_of (given ++ more)).packets
  reached_passes more =
      answers.passing ∙ sym (ap (why_passes keys.tables asked) (packets_are more) ∙ pass_told keys.tables asked before (later_packets more) p earlier here)

-- where none has the number, none passes
none_from : (n : ℕ) (packets : List CapturePacket) → NoneHas n packets → packet_named n packets ≡ None
none_from n [] none = refl
none_from n (q ∷ qs) none =
    other (has_number n q) (Some q) (packet_named n qs) (none zero q (omega arith)) ∙ none_from n qs (λ i d low. none (suc i) d (omega (arith, low)))

missing_passes : (tables : List Table) (asked : WhyAsked) (packets : List CapturePacket) → NoneHas asked.number packets → why_passes tables asked packets ≡ false
unfolding why_passes
missing_passes tables asked packets none = rw (none_from asked.number packets none) refl

number_holds : (p : CapturePacket) (n : ℕ) → p.number ≡ n → has_number n p ≡ true
number_holds p n e = grind (arith, nat_tests)

number_differs : (p : CapturePacket) (n : ℕ) → (p.number ≡ n → ⊥) → has_number n p ≡ false
number_differs p n e = grind (arith, nat_tests)

-- ---- between two parts

-- these packets stand in front, none of which has the number, and so many are counted
pub record HasHeard (keys : KeyFile) (asked : WhyAsked) (checking : Checking) (told_now : List GivenIsns) (count : ℕ) (shown : List CapturePacket) : Type 0 where
  pub same : checking.tables ≡ keys.tables
  pub stands : StandsBehind checking.entries told_now (behind_stored keys.tables asked.given (all_stored shown))
  pub none : NoneHas asked.number shown
  pub many : count ≡ length shown

pub record Between (keys : KeyFile) (asked : WhyAsked) (reader : Reading) (checking : Checking) (told_now : List GivenIsns) (count : ℕ) (given : List ℕ) (shown : List CapturePacket) (source_before source_now : Side) : Type 0 where
  pub taken : HasTaken reader given shown source_before source_now
  pub few : count ≤ reader.counts.bytes
  pub heard : HasHeard keys asked checking told_now count shown

few_listed : (packet : Option CapturePacket) → length (listed packet) < 2
few_listed None = omega arith
few_listed (Some p) = omega arith

no_packets : (n : ℕ) → NoneHas n []
no_packets n i d low = absurd (omega (arith, low))

stands_first : (keys : KeyFile) (asked : WhyAsked) (entries : List (Pair × Flows)) (told_now : List GivenIsns) → StandsFor entries (given_after [] asked.given) → told_now ≡ asked.given
    → StandsBehind entries told_now (behind_stored keys.tables asked.given [])
stands_first keys asked entries told_now stands is = record { stands = stands; tells = is ∙ sym (append-nil asked.given) }

-- before the first part
pub between_new : (keys : KeyFile) (asked : WhyAsked) (reader : Reading) (checking : Checking) (told_now : List GivenIsns) (source : Side) → reader ≡ new_reading → checking.tables ≡ keys.tables
    → StandsFor checking.entries (given_after [] asked.given) → told_now ≡ asked.given → Between keys asked reader checking told_now 0 [] [] source source
between_new keys asked reader checking told_now source is same stands told_is = rw is (record {
  taken = taken_none source;
  few = omega arith;
  heard = record { same = same; stands = stands_first keys asked checking.entries told_now stands told_is; none = no_packets asked.number; many = refl };
})

-- memory ran out before the first part
pub ends_none : (keys : KeyFile) (asked : WhyAsked) (source : Side) → Reads keys asked [] source source (Err halt.Memory)
ends_none keys asked source = record {
  gave = gave_none source;
  bytes = all_none;
  ends = record { read = []; later = []; one = omega arith; has_read = read_now new_reading [] [] shown_none; none = no_packets asked.number };
}

module _ (keys : KeyFile) (asked : WhyAsked) (before : Reading) (checking : Checking) (told_now : List GivenIsns) (count : ℕ) (given next : List ℕ) (shown : List CapturePacket) (a b c : Side)
    (between : Between keys asked before checking told_now count given shown a b) where
  stops : length (before.kept ++ next) ≤ most_ahead → Stops asked (given ++ next)
  stops few = record { read = shown; has_read = has_read between.taken next few; none = between.heard.none }

  -- memory ran out behind the last part
  pub ends_memory : (now : Reading) → Steps before now b c next (Ok step.End) → Reads keys asked (given ++ next) a c (Err halt.Memory)
  ends_memory now steps = record {
    gave = gave_all between.taken steps.gave;
    bytes = bytes_all between.taken next steps.bytes;
    ends = record { read = shown; later = []; one = omega arith; has_read = rw (append-nil shown) (has_read between.taken next steps.few); none = between.heard.none };
  }

  -- the capture's end
  pub ends_done : (now : Reading) (answered : Answered) → answered.text.items ≡ no_packet_line asked.number count → answered.passes ≡ false → Steps before now b c next (Ok step.End)
      → Reads keys asked (given ++ next) a c (Ok answered)
  ends_done now answered text passes steps =
      let all = all_ended between.taken steps in
      record {
        gave = gave_all between.taken steps.gave;
        bytes = bytes_all between.taken next steps.bytes;
        ends = inr (record {
          at_end = steps.answers.1;
          faultless = rw all refl;
          none = rw all between.heard.none;
          text_is = rw all (text ∙ (ap (no_packet_line asked.number) between.heard.many ∙ sym (missing_told keys asked shown between.heard.none)));
          passing = rw all (passes ∙ sym (missing_passes keys.tables asked shown between.heard.none));
        });
      }

  -- a fault of the capture
  pub ends_broken : (now : Reading) (fault : CaptureFault) → Steps before now b c next (Err (stream_halt.Broken fault)) → Reads keys asked (given ++ next) a c (Err (halt.Broken fault))
  ends_broken now fault steps =
      let all = all_broken between.taken steps in
      let whole = stays_broken between.taken steps in
      record {
        gave = gave_all between.taken steps.gave;
        bytes = bytes_all between.taken next steps.bytes;
        ends = record {
          has_read = rw all (has_read between.taken next steps.few);
          fault_is = rw all refl;
          all = whole;
          none = rw all between.heard.none;
        };
      }

  -- a read that failed
  pub ends_read : (now : Reading) → Steps before now b c next (Err stream_halt.Read) → Reads keys asked (given ++ next) a c (Err halt.Read)
  ends_read now steps = record {
    gave = gave_all between.taken steps.gave;
    bytes = bytes_all between.taken next steps.bytes;
    ends = (rose_read between.taken steps, stops steps.few);
  }

  -- more bytes than any file has
  pub ends_long : (now : Reading) → Steps before now b c next (Err stream_halt.TooLong) → Reads keys asked (given ++ next) a c (Err halt.TooLong)
  ends_long now steps =
      record { gave = gave_all between.taken steps.gave; bytes = bytes_all between.taken next steps.bytes; ends = (too_many between.taken steps, stops steps.few) }

  -- one more part was read, which says this
  module _ (now : Reading) (said : PartSaid) (passes : Passes before now (before.kept ++ next) said) (gave : Gave next b c) (bytes : All IsByte next) (near : length now.kept ≤ most_buffered) where
    pub count_low : count + 1 ≤ now.counts.bytes
    count_low =
        let some = passes.some in
        let more = passes.bytes in
        let few = between.few in
        omega arith

    pub count_fits : count + 1 ≤ 9223372036854775808
    count_fits =
        let low = count_low in
        let most = passes.within in
        omega arith

    -- it showed no packet
    pub between_block : ShowsNone said → Between keys asked now checking told_now count (given ++ next) (shown ++ listed now.packet) a c
    between_block none =
        let nothing : listed now.packet ≡ [] = none_shown passes none in
        let same = no_more shown now.packet nothing in
        let low = count_low in
        record {
          taken = taken_more between.taken gave bytes passes near;
          few = omega arith;
          heard = rw same between.heard;
        }

    -- memory ran out for a packet
    pub ends_lacking : Reads keys asked (given ++ next) a c (Err halt.Memory)
    ends_lacking = record {
      gave = gave_all between.taken gave;
      bytes = bytes_all between.taken next bytes;
      ends = record { read = shown; later = listed now.packet; one = few_listed now.packet; has_read = read_more between.taken next passes near; none = between.heard.none };
    }

    -- it showed this packet, of another number, which was heard
    pub heard_one : (checking_now : Checking) (told_next : List GivenIsns) (p : CapturePacket) → now.packet ≡ Some p → has_number asked.number p ≡ false → checking_now.tables ≡ checking.tables
        → StandsBehind checking_now.entries told_next (behind_one checking.tables (behind_stored keys.tables asked.given (all_stored shown)) (stored_of_packet p))
        → Between keys asked now checking_now told_next (count + 1) (given ++ next) (shown ++ listed now.packet) a c
    heard_one checking_now told_next p is other same stands =
        let behind : behind_one checking.tables (behind_stored keys.tables asked.given (all_stored shown)) (stored_of_packet p) ≡ behind_stored keys.tables asked.given (all_stored (shown ++ p ∷ [])) =
        ap (λ (ts : List Table). behind_one ts (behind_stored keys.tables asked.given (all_stored shown)) (stored_of_packet p)) between.heard.same ∙ behind_packet keys.tables asked.given shown p in
        let put : ◌≡◌ {A = List CapturePacket} (shown ++ listed now.packet) (shown ++ p ∷ []) = ap (λ o. shown ++ listed o) is in
        let sum = length-append shown (p ∷ []) in
        let many = between.heard.many in
        let single : length (p ∷ []) ≡ 1 = refl in
        let front : HasHeard keys asked checking_now told_next (count + 1) (shown ++ p ∷ []) = record {
          same = same ∙ between.heard.same;
          stands = rw (sym behind) stands;
          none = none_more asked.number shown p between.heard.none other;
          many = omega arith;
        } in
        record {
          taken = taken_more between.taken gave bytes passes near;
          few = count_low;
          heard = rw put front;
        }

    -- it showed this packet, of the number, and this is the answer on it
    pub ends_here : (answered : Answered) (p : CapturePacket) → now.packet ≡ Some p → has_number asked.number p ≡ true
        → AnswersBehind (record { document = keys.document; tables = checking.tables }) (behind_stored keys.tables asked.given (all_stored shown)) asked.with_key p.number (captured_of_packet p) answered
        → Reads keys asked (given ++ next) a c (Ok answered)
    ends_here answered p is here answers =
        let put : shown ++ listed now.packet ≡ shown ++ p ∷ [] = ap (λ o. shown ++ listed o) is in
        let has : HasRead (given ++ next) (shown ++ p ∷ []) = read_now now (given ++ next) (shown ++ p ∷ []) (rw put at (shows_more between.taken next passes near)) in
        record {
          gave = gave_all between.taken gave;
          bytes = bytes_all between.taken next bytes;
          ends = inl (record {
            before = shown;
            last = p;
            has_read = has;
            near = near;
            earlier = between.heard.none;
            here = here;
            text_is = reached_text keys asked shown p (given ++ next) has between.heard.none here answered (rw between.heard.same at answers);
            passing = reached_passes keys asked shown p (given ++ next) has between.heard.none here answered (rw between.heard.same at answers);
          });
        }

    -- the same, whatever packet it showed
    pub heard_found : (checking_now : Checking) (told_next : List GivenIsns) (number : ℕ) (st : Result StoredBytes PassedOver) (packet : Option CapturePacket) → now.packet ≡ packet → IsSome packet → IfSome packet (λ p. number ≡ p.number)
        → (number ≡ asked.number → ⊥) → checking_now.tables ≡ checking.tables → ((p : CapturePacket) → now.packet ≡ Some p → stored_as p.number st ≡ captured_of_packet p)
        → ((n : ℕ) → StandsBehind checking_now.entries told_next (behind_one checking.tables (behind_stored keys.tables asked.given (all_stored shown)) (judged_of (stored_as n st))))
        → Between keys asked now checking_now told_next (count + 1) (given ++ next) (shown ++ listed now.packet) a c
    heard_found checking_now told_next number st None is some number_is differs same stored stands = let bad : false ≡ true = some in absurd (cc)
    heard_found checking_now told_next number st (Some p) is some number_is differs same stored stands =
        heard_one checking_now told_next p is (number_differs p asked.number (λ e. differs (number_is ∙ e))) same
        (subst (λ (r : Result Stored PassedOver). StandsBehind checking_now.entries told_next (behind_one checking.tables (behind_stored keys.tables asked.given (all_stored shown)) (judged_of r))) (stored p is) (stands p.number))

    pub ends_found : (answered : Answered) (number : ℕ) (st : Result StoredBytes PassedOver) (packet : Option CapturePacket) → now.packet ≡ packet → IsSome packet → IfSome packet (λ p. number ≡ p.number)
        → number ≡ asked.number → ((p : CapturePacket) → now.packet ≡ Some p → stored_as p.number st ≡ captured_of_packet p)
        → AnswersBehind (record { document = keys.document; tables = checking.tables }) (behind_stored keys.tables asked.given (all_stored shown)) asked.with_key asked.number (stored_as asked.number st) answered
        → Reads keys asked (given ++ next) a c (Ok answered)
    ends_found answered number st None is some number_is same stored answers = let bad : false ≡ true = some in absurd (cc)
    ends_found answered number st (Some p) is some number_is same stored answers =
        let n : p.number ≡ asked.number = sym number_is ∙ same in
        let at_number = subst (λ (m : ℕ). AnswersBehind (record { document = keys.document; tables = checking.tables }) (behind_stored keys.tables asked.given (all_stored shown)) asked.with_key m (stored_as m st) answered) (sym n) answers in
        ends_here answered p is (number_holds p asked.number n)
        (subst (λ (r : Result Stored PassedOver). AnswersBehind (record { document = keys.document; tables = checking.tables }) (behind_stored keys.tables asked.given (all_stored shown)) asked.with_key p.number r answered) (stored p is) at_number)
