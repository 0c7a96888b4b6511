-- The ways in which the sources are read and the command's output made.
use Rattle.std.proofs.Common.{◌≡◌, ◌≢◌, ◌⊎◌, inl, inr, ℕ, ◌<◌, ◌≤◌, List, [], length, Option, Some, None, Bool, true, false, Result, Ok, Err, refl, sym, ap, arith, ◌∙◌}
use Rattle.ao_base.specs.Outside.{Side, Gave, IsAtEnd}
use Rattle.ao_base.specs.declared.whole.ReadProblem.{ReadProblem}
use Rattle.ao_base.specs.declared.whole.ReadProblem.TheVariants as problem
use Rattle.ao_base.specs.ReadAll.{ReadsAll}
use Rattle.ao_base.proofs.Sides.{gave_none}
use Rattle.book_keys.specs.declared.fault.TableFault.{TableFault}
use Rattle.book_keys.specs.declared.fault.TableFault.TheVariants as fault
use Rattle.book_keys.specs.Nodes.{tables_of}
use Rattle.book_keys.specs.Reading.{ReadingGives}
use Rattle.book_keys.specs.Rows.{Table}
use Rattle.book_answer.specs.declared.command.Command.{Command}
use Rattle.book_answer.specs.Answers.{Answer, answer_of, answer_over, most_input, refusal, too_many_events}
use Rattle.book_answer.specs.Commands.{reads_keys, reads_input}
use Rattle.book_cmd_link.specs.KeyTexts.{table_fault_line}
use Rattle.ao_run.specs.declared.stop.Output.{Output}
use Rattle.ao_run.specs.declared.stop.Stop.{Stop}
use Rattle.ao_run.specs.declared.stop.Stop.TheVariants.{Usage, KeysTooLong, Keys, TooLong, Input, TooManyEvents, Read, Write, Memory}
use Rattle.ao_run.specs.Gathered.{Gathered, InputGathered, KeysGathered, tables_in, answer_in}
use Rattle.ao_run.specs.Obeys.{Unread, writes_along}
use Rattle.ao_run.specs.Stops.{Makes, Stopped, status_of, text_of}
use Rattle.ao_run.proofs.AnswerLaws.{faulty_tables, long_input, long_keys, long_plain, over_tables, short_input, unkeyed, unread_four, unread_input, within_plain}
use Rattle.book_base.proofs.TestLaws.{either}

-- nothing is read
pub unread : (s : Side) → Unread [] s s
unread s = (refl, refl)

-- a test isn't both
pub not_both : {P : Type 0} (x : Bool) → x ≡ false → x ≡ true → P
not_both x f t = absurd (cc)

-- a whole read is within its limit
fits : (m : ℕ) (given bytes : List ℕ) (a b : Side) → ReadsAll a b m given (Ok bytes) → length given ≤ m
fits m given bytes a b r =
    let lacks : (m < length given → ⊥) = λ h. (let e : ◌≡◌ {A = Result (List ℕ) ReadProblem} (Ok bytes) (Err problem.TooLong) = r.long.1 h in cc) in
    omega arith

module _ (c : Command) (k0 : Side) where
  pub unread_keys : reads_keys c ≡ false → KeysGathered c [] k0 k0 (Ok None)
  unread_keys lacks = record {
    gave = gave_none k0;
    few = omega arith;
    alone = λ _. unread k0;
    some = sym lacks;
    over = λ holds. not_both (reads_keys c) lacks holds;
    value = λ input. unkeyed c [] input lacks;
    file = λ tables is. absurd (cc);
    asked = tt;
    within = tt;
    refused = tt;
    judged = tt;
    fault = tt;
  }

module _ (c : Command) (k : List ℕ) (k0 k1 : Side) (holds : reads_keys c ≡ true) where
  pub memory_keys : {r : Result (List ℕ) ReadProblem} → ReadsAll k0 k1 1048576 k r → KeysGathered c k k0 k1 (Err Memory)
  memory_keys r = record {
    gave = r.gave;
    few = r.few;
    alone = λ lacks. not_both (reads_keys c) lacks holds;
    some = tt;
    over = tt;
    value = tt;
    file = tt;
    asked = holds;
    within = (omega arith, omega arith, λ h. absurd (omega arith), λ h. absurd (omega arith));
    refused = λ h. absurd (omega arith);
    judged = λ h. absurd (omega arith);
    fault = λ h. absurd (omega arith);
  }

  pub fault_keys : ReadsAll k0 k1 1048576 k (Err problem.Fault) → KeysGathered c k k0 k1 (Err Read)
  fault_keys r = record {
    gave = r.gave;
    few = r.few;
    alone = λ lacks. not_both (reads_keys c) lacks holds;
    some = tt;
    over = tt;
    value = tt;
    file = tt;
    asked = holds;
    within = (omega arith, omega arith, λ h. absurd (omega arith), λ h. absurd (omega arith));
    refused = λ h. absurd (omega arith);
    judged = λ h. absurd (omega arith);
    fault = λ _. r.fault refl;
  }

  pub long_keys_gathered : ReadsAll k0 k1 1048576 k (Err problem.TooLong) → KeysGathered c k k0 k1 (Err KeysTooLong)
  long_keys_gathered r = record {
    gave = r.gave;
    few = r.few;
    alone = λ lacks. not_both (reads_keys c) lacks holds;
    some = tt;
    over = tt;
    value = tt;
    file = tt;
    asked = holds;
    within = (omega arith, omega arith, λ h. absurd (omega arith), λ h. absurd (omega arith));
    refused = λ _ input. long_keys c k input holds (r.long.0 refl);
    judged = λ _. inr (r.long.0 refl);
    fault = λ h. absurd (omega arith);
  }

  pub tables_gathered : (text : List ℕ) (tables : List Table) → ReadsAll k0 k1 1048576 k (Ok text) → tables_of text ≡ Ok tables → KeysGathered c k k0 k1 (Ok (Some tables))
  tables_gathered text tables r is =
      let same : text ≡ k = r.whole.0 in
      let read : tables_of k ≡ Ok tables = rw same at is in
      record {
        gave = r.gave;
        few = r.few;
        alone = λ lacks. not_both (reads_keys c) lacks holds;
        some = sym holds;
        over = λ _. r.whole.1;
        value = λ input. over_tables c k input tables holds (fits 1048576 k text k0 k1 r) read;
        file = λ others is. (let same : tables ≡ others = cc in rw (← same) read, fits 1048576 k text k0 k1 r);
        asked = tt;
        within = tt;
        refused = tt;
        judged = tt;
        fault = tt;
      }

  refused_keys : (stop : Stop) → Gave k k0 k1 → length k ≤ 1048577 → IsAtEnd k1 → status_of stop ≡ 3 →
      ((input : List ℕ) → answer_of (Some c) k input ≡ refusal 3 (text_of stop)) → KeysGathered c k k0 k1 (Err stop)
  refused_keys stop gave few over three is = record {
    gave = gave;
    few = few;
    alone = λ lacks. not_both (reads_keys c) lacks holds;
    some = tt;
    over = tt;
    value = tt;
    file = tt;
    asked = holds;
    within = (omega (arith, three), omega (arith, three), λ h. absurd (omega (arith, three, h)), λ h. absurd (omega (arith, three, h)));
    refused = λ _ input. is input;
    judged = λ _. inl over;
    fault = λ h. absurd (omega (arith, three, h));
  }

  stopped_keys : (text : List ℕ) (e : TableFault) (stop : Stop) → ReadsAll k0 k1 1048576 k (Ok text) → tables_of k ≡ Err e →
      Stopped stop (refusal 3 (table_fault_line e)) → KeysGathered c k k0 k1 (Err stop)
  stopped_keys text e Memory r is stopped = memory_keys r
  stopped_keys text e (Keys line) r is stopped =
      refused_keys (Keys line) r.gave r.few r.whole.1 refl (λ input. faulty_tables c k input e holds (fits 1048576 k text k0 k1 r) is ∙ stopped)
  stopped_keys text e (Input line) r is stopped = let lacks : 3 ≡ 4 = ap (λ (a : Answer). a.status) stopped in absurd (omega (arith, lacks))
  stopped_keys text e TooManyEvents r is stopped = let lacks : 3 ≡ 4 = ap (λ (a : Answer). a.status) stopped in absurd (omega (arith, lacks))
  stopped_keys text e Usage r is stopped = absurd stopped
  stopped_keys text e KeysTooLong r is stopped = absurd stopped
  stopped_keys text e TooLong r is stopped = absurd stopped
  stopped_keys text e Read r is stopped = absurd stopped
  stopped_keys text e Write r is stopped = absurd stopped

  pub faulty_gathered : (text : List ℕ) (e : TableFault) (stop : Stop) → ReadsAll k0 k1 1048576 k (Ok text) → ReadingGives {X = List Table} (λ t. t) (Err e) (tables_of text) →
      Stopped stop (refusal 3 (table_fault_line e)) → (e ≡ fault.Memory → stop ≡ Memory) → KeysGathered c k k0 k1 (Err stop)
  faulty_gathered text fault.Memory stop r is stopped none = rw (none refl) (memory_keys r)
  faulty_gathered text fault.Syntax stop r is stopped none = stopped_keys text fault.Syntax stop r (rw r.whole.0 at is) stopped
  faulty_gathered text (fault.Field n m c2) stop r is stopped none = stopped_keys text (fault.Field n m c2) stop r (rw r.whole.0 at is) stopped
  faulty_gathered text (fault.TooMany n) stop r is stopped none = stopped_keys text (fault.TooMany n) stop r (rw r.whole.0 at is) stopped
  faulty_gathered text (fault.Overlap n m p) stop r is stopped none = stopped_keys text (fault.Overlap n m p) stop r (rw r.whole.0 at is) stopped

module _ (c : Command) (i0 : Side) where
  pub unread_gathered : reads_input c ≡ false → InputGathered c [] i0 i0 (Ok [])
  unread_gathered lacks = record {
    gave = gave_none i0;
    few = omega arith;
    alone = λ _. unread i0;
    same = refl;
    over = λ holds. not_both (reads_input c) lacks holds;
    value = λ tables. unread_input c tables [] lacks;
    asked = tt;
    within = tt;
    refused = tt;
    judged = tt;
    fault = tt;
  }

module _ (c : Command) (i : List ℕ) (i0 i1 : Side) (holds : reads_input c ≡ true) where
  pub text_gathered : (text : List ℕ) → ReadsAll i0 i1 (most_input c) i (Ok text) → InputGathered c i i0 i1 (Ok text)
  text_gathered text r = record {
    gave = r.gave;
    few = r.few;
    alone = λ lacks. not_both (reads_input c) lacks holds;
    same = r.whole.0;
    over = λ _. r.whole.1;
    value = λ tables. short_input c tables i (fits (most_input c) i text i0 i1 r);
    asked = tt;
    within = tt;
    refused = tt;
    judged = tt;
    fault = tt;
  }

  pub memory_gathered : ReadsAll i0 i1 (most_input c) i (Err problem.Memory) → InputGathered c i i0 i1 (Err Memory)
  memory_gathered r = record {
    gave = r.gave;
    few = r.few;
    alone = λ lacks. not_both (reads_input c) lacks holds;
    same = tt;
    over = tt;
    value = tt;
    asked = holds;
    within = (omega arith, omega arith, λ h. absurd (omega arith));
    refused = λ h. absurd (omega arith);
    judged = λ h. absurd (omega arith);
    fault = λ h. absurd (omega arith);
  }

  pub fault_gathered : ReadsAll i0 i1 (most_input c) i (Err problem.Fault) → InputGathered c i i0 i1 (Err Read)
  fault_gathered r = record {
    gave = r.gave;
    few = r.few;
    alone = λ lacks. not_both (reads_input c) lacks holds;
    same = tt;
    over = tt;
    value = tt;
    asked = holds;
    within = (omega arith, omega arith, λ h. absurd (omega arith));
    refused = λ h. absurd (omega arith);
    judged = λ h. absurd (omega arith);
    fault = λ _. r.fault refl;
  }

  pub long_gathered : ReadsAll i0 i1 (most_input c) i (Err problem.TooLong) → InputGathered c i i0 i1 (Err TooLong)
  long_gathered r = record {
    gave = r.gave;
    few = r.few;
    alone = λ lacks. not_both (reads_input c) lacks holds;
    same = tt;
    over = tt;
    value = tt;
    asked = holds;
    within = (omega arith, omega arith, λ h. absurd (omega arith));
    refused = λ _ last tables. long_input c tables i holds (r.long.0 refl) ∙ ap (λ (text : List ℕ). refusal 4 text) (long_plain c i last);
    judged = λ _. r.long.0 refl;
    fault = λ h. absurd (omega arith);
  }

-- the four exits of gathering
pub usage_gathered : (k0 i0 : Side) → Gathered None [] [] (record { keys = k0; input = i0 }) (record { keys = k0; input = i0 }) (Err Usage)
usage_gathered k0 i0 = record {
  gave_keys = gave_none k0;
  gave_input = gave_none i0;
  few_keys = omega arith;
  few_input = omega arith;
  keys_alone = λ _. unread k0;
  input_alone = λ _. unread i0;
  keys_first = λ h. absurd (cc);
  done = tt;
  keys_end = tt;
  input_end = tt;
  usage = λ _. (refl, tt);
  within = (omega arith, omega arith, λ h. absurd (omega arith));
  refused = λ _. refl;
  keys_judged = λ h. absurd (omega arith);
  keys_over = λ h. absurd (omega arith);
  judged = λ h. absurd (omega arith);
  fault = λ h. absurd (omega arith);
}

module _ (c : Command) (k : List ℕ) (k0 k1 i0 : Side) where
  three_or_more : (stop : Stop) (a : Answer) → (3 ≤ status_of stop) → status_of stop ≢ 4 → (status_of stop ≡ 3 → a ≡ refusal 3 (text_of stop)) →
      status_of stop < 5 → a ≡ refusal (status_of stop) (text_of stop)
  three_or_more stop a low lacks is small = let three : status_of stop ≡ 3 = omega (arith, low, small, lacks) in rw three (is three)

  pub keys_stopped : (stop : Stop) → KeysGathered c k k0 k1 (Err stop) →
      Gathered (Some c) k [] (record { keys = k0; input = i0 }) (record { keys = k1; input = i0 }) (Err stop)
  keys_stopped stop x = record {
    gave_keys = x.gave;
    gave_input = gave_none i0;
    few_keys = x.few;
    few_input = omega arith;
    keys_alone = x.alone;
    input_alone = λ _. unread i0;
    keys_first = λ _. inr (unread i0);
    done = tt;
    keys_end = tt;
    input_end = tt;
    usage = λ h. absurd (cc);
    within = (omega (arith, x.within.0), x.within.1, x.within.3);
    refused = three_or_more stop (answer_of (Some c) k []) x.within.0 x.within.2 (λ three. x.refused three []);
    keys_judged = x.judged;
    keys_over = λ four. absurd (x.within.2 four);
    judged = λ four. absurd (x.within.2 four);
    fault = λ five. inl (x.asked, x.fault five, unread i0);
  }

module _ (c : Command) (k i : List ℕ) (k0 k1 i0 i1 : Side) (t : Option (List Table)) (x : KeysGathered c k k0 k1 (Ok t)) where
  not_three : (answer_of (Some c) k i).status ≢ 3
  not_three = λ h. (within_plain c (tables_in t) i).1 (ap (λ (a : Answer). a.status) (sym (x.value i)) ∙ h)

  alone_input : {r : Result (List ℕ) Stop} → InputGathered c i i0 i1 r → (reads_input c ≡ false) ⊎ ((answer_of (Some c) k i).status ≡ 3) → Unread i i0 i1
  alone_input y (inl lacks) = y.alone lacks
  alone_input y (inr three) = absurd (not_three three)

  first_keys : reads_keys c ≡ true → IsAtEnd k1 ⊎ Unread i i0 i1
  first_keys holds = inl (x.over holds)

  four_or_more : (stop : Stop) (a b : Answer) → a ≡ b → (4 ≤ status_of stop) → (status_of stop ≡ 4 → b ≡ refusal 4 (text_of stop)) →
      status_of stop < 5 → a ≡ refusal (status_of stop) (text_of stop)
  four_or_more stop a b same low is small = let four : status_of stop ≡ 4 = omega (arith, low, small) in rw four (same ∙ is four)

  pub input_stopped : (stop : Stop) → writes_along (Some c) ≡ false → InputGathered c i i0 i1 (Err stop) →
      Gathered (Some c) k i (record { keys = k0; input = i0 }) (record { keys = k1; input = i1 }) (Err stop)
  input_stopped stop last y = record {
    gave_keys = x.gave;
    gave_input = y.gave;
    few_keys = x.few;
    few_input = y.few;
    keys_alone = x.alone;
    input_alone = alone_input y;
    keys_first = first_keys;
    done = tt;
    keys_end = tt;
    input_end = tt;
    usage = λ h. absurd (cc);
    within = (omega (arith, y.within.0), y.within.1, y.within.2);
    refused = four_or_more stop (answer_of (Some c) k i) (answer_in c (tables_in t) i) (x.value i) y.within.0 (λ four. y.refused four last (tables_in t));
    keys_judged = λ three. absurd (omega (arith, y.within.0, three));
    keys_over = λ four. x.over;
    judged = λ four. inr (y.judged four);
    fault = λ five. inr (y.asked, not_three, y.fault five);
  }

  module _ (text : List ℕ) (y : InputGathered c i i0 i1 (Ok text)) where
    answered : answer_of (Some c) k i ≡ answer_over c (tables_in t) text
    answered = x.value i ∙ (y.value (tables_in t) ∙ ap (λ (l : List ℕ). answer_over c (tables_in t) l) (sym y.same))

    ended : (stop : Stop) → (2 ≤ status_of stop) → status_of stop < 8 → status_of stop ≢ 6 → status_of stop ≢ 5 → status_of stop ≢ 3 →
        (status_of stop < 5 → answer_of (Some c) k i ≡ refusal (status_of stop) (text_of stop)) → (status_of stop ≡ 4 → IsAtEnd i1) →
        Gathered (Some c) k i (record { keys = k0; input = i0 }) (record { keys = k1; input = i1 }) (Err stop)
    ended stop low high six five three is at_end = record {
      gave_keys = x.gave;
      gave_input = y.gave;
      few_keys = x.few;
      few_input = y.few;
      keys_alone = x.alone;
      input_alone = alone_input y;
      keys_first = first_keys;
      done = tt;
      keys_end = tt;
      input_end = tt;
      usage = λ h. absurd (cc);
      within = (low, high, six);
      refused = is;
      keys_judged = λ h. absurd (three h);
      keys_over = λ four. x.over;
      judged = λ four. inl (at_end four);
      fault = λ h. absurd (five h);
    }

    input_ended : (line : List ℕ) → answer_over c (tables_in t) text ≡ refusal 4 line → IsAtEnd i1
    input_ended line is = elim (either (reads_input c)) [
      | inl holds ↦ y.over holds
      | inr lacks ↦ absurd (unread_four c (tables_in t) text lacks (ap (λ (a : Answer). a.status) is))
    ]

    pub made_gathered : (r : Result Output Stop) → Makes r (answer_over c (tables_in t) text) →
        Gathered (Some c) k i (record { keys = k0; input = i0 }) (record { keys = k1; input = i1 }) r
    made_gathered (Ok o) m = record {
      gave_keys = x.gave;
      gave_input = y.gave;
      few_keys = x.few;
      few_input = y.few;
      keys_alone = x.alone;
      input_alone = alone_input y;
      keys_first = first_keys;
      done = (answered ∙ m.0, m.1);
      keys_end = x.over;
      input_end = y.over;
      usage = λ h. absurd (cc);
      within = tt;
      refused = tt;
      keys_judged = tt;
      keys_over = tt;
      judged = tt;
      fault = tt;
    }
    made_gathered (Err Memory) m =
        ended Memory (omega arith) (omega arith) (λ h. omega arith) (λ h. omega arith) (λ h. omega arith) (λ h. absurd (omega arith)) (λ h. absurd (omega arith))
    made_gathered (Err (Input line)) m =
        ended (Input line) (omega arith) (omega arith) (λ h. omega arith) (λ h. omega arith) (λ h. omega arith) (λ h. answered ∙ m) (λ h. input_ended line m)
    made_gathered (Err TooManyEvents) m =
        ended TooManyEvents (omega arith) (omega arith) (λ h. omega arith) (λ h. omega arith) (λ h. omega arith) (λ h. answered ∙ m) (λ h. input_ended too_many_events m)
    made_gathered (Err (Keys line)) m = absurd (three line m)
      where
        three : (line : List ℕ) → answer_over c (tables_in t) text ≡ refusal 3 line → ⊥
        three line is = not_three (ap (λ (a : Answer). a.status) (answered ∙ is))
    made_gathered (Err Usage) m = absurd m
    made_gathered (Err KeysTooLong) m = absurd m
    made_gathered (Err TooLong) m = absurd m
    made_gathered (Err Read) m = absurd m
    made_gathered (Err Write) m = absurd m
