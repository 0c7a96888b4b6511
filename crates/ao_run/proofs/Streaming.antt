-- The ways in which a command ends that writes as it reads.
use Rattle.std.proofs.Common.{◌≡◌, ◌≢◌, ◌⊎◌, inl, inr, ℕ, ◌+◌, ◌<◌, ◌≤◌, Bool, true, List, [], length, Option, Some, Result, Ok, Err, if◌then◌else◌, refl, sym, ap, subst, ◌∙◌, arith}
use Rattle.ao_base.specs.Outside.{Side, Gave}
use Rattle.ao_base.proofs.Sides.{gave_none, took_none}
use Rattle.book_keys.specs.Rows.{Table}
use Rattle.cmd_check.specs.Checked.{Checks as Judges}
use Rattle.cmd_check.specs.declared.answers.Form.{Form}
use Rattle.cmd_check.specs.declared.answers.Form.TheVariants as form
use Rattle.cmd_check.specs.declared.halt.Halt.{Halt}
use Rattle.cmd_check.specs.declared.halt.Halt.TheVariants as halt
use Rattle.book_answer.specs.declared.command.Command.{Command}
use Rattle.book_answer.specs.declared.command.Command.TheVariants as commands
use Rattle.book_answer.specs.Answers.{Answer, answer_of as answer, most_input, refusal}
use Rattle.book_answer.specs.Commands.{reads_input, reads_keys}
use Rattle.ao_run.specs.declared.stop.Stop.{Stop}
use Rattle.ao_run.specs.declared.stop.Stop.TheVariants.{Usage, KeysTooLong, Keys, TooLong, Input, TooManyEvents, Read, Write, Memory}
use Rattle.ao_run.specs.Ended.{Ended, EndedBehind}
use Rattle.ao_run.specs.Gathered.{KeysGathered}
use Rattle.ao_run.specs.Jobs.{check_command}
use Rattle.ao_run.specs.Obeys.{Along, ChecksLines, ChecksPackets, EndsSo, NotBegun, ObeysAs, Offers, Sides, check_end, past_limit, text_of as text_with, writes_along}
use Rattle.ao_run.specs.Stops.{IsHalted, Stopped, status_of, text_of}
use Rattle.ao_run.proofs.AnswerLaws.{within_plain}
use Rattle.ao_run.proofs.Facts.{Facts}
use Rattle.ao_run.proofs.Gathering.{keys_stopped, not_both}
use Rattle.ao_run.proofs.LineEnds.{line_facts}
use Rattle.ao_run.proofs.PacketEnds.{packet_facts}
use Rattle.ao_run.proofs.Telling.{refused_ends, same_text, silent}

not_small : (status : ℕ) → (2 ≤ status) × (status < 4) → status ≢ 2 → status ≢ 3 → ⊥
not_small status h two three = omega (arith, h, two, three)

-- the status of each stop before the input is read
stops_early : (stop : Stop) → (3 ≤ status_of stop) × (status_of stop < 8) × (status_of stop ≢ 4) × (status_of stop ≢ 6) → (status_of stop ≡ 3) ⊎ ((status_of stop ≡ 5) ⊎ (status_of stop ≡ 7))
stops_early Usage h = absurd (omega (arith, h))
stops_early KeysTooLong h = inl refl
stops_early (Keys text) h = inl refl
stops_early TooLong h = absurd (h.2 refl)
stops_early (Input text) h = absurd (h.2 refl)
stops_early TooManyEvents h = absurd (h.2 refl)
stops_early Read h = inr (inl refl)
stops_early Write h = absurd (h.3 refl)
stops_early Memory h = inr (inr refl)

three_then : (stop : Stop) (a : Answer) → (3 ≤ status_of stop) × (status_of stop < 8) × (status_of stop ≢ 4) × (status_of stop ≢ 6) → (status_of stop ≡ 3 → a ≡ refusal 3 (text_of stop)) →
    status_of stop < 5 → a ≡ refusal (status_of stop) (text_of stop)
three_then stop a h is small = let three : status_of stop ≡ 3 = omega (arith, h, small) in rw three (is three)

no_written : (s : ℕ) → (3 ≤ s) × (s < 8) × (s ≢ 4) × (s ≢ 6) → (s < 2) ⊎ (s ≡ 6) → ⊥
no_written s h (inl small) = omega (arith, h, small)
no_written s h (inr six) = h.3 six

module _ (c : Command) (along : writes_along (Some c) ≡ true) (keyed : reads_keys c ≡ true) (fed : reads_input c ≡ true) where
  -- behind a key file with these tables
  checked_obeys : (k i : List ℕ) (b n : Sides) (tables : List Table) (status : ℕ) → KeysGathered c k b.keys n.keys (Ok (Some tables)) → Gave i b.input n.input →
      length i ≤ most_input c + past_limit (Some c) → Facts c tables i b.input n.input b.out n.out status →
      Along (Some c) k (text_with status (answer (Some c) k i)) i b n status → ObeysAs (Some c) k i b n status
  checked_obeys k i b n tables status x gave few facts did =
      let value = x.value i in
      let not_three : (answer (Some c) k i).status ≢ 3 = λ h. (within_plain c tables i).1 (ap (λ (a : Answer). a.status) (sym value) ∙ h) in
      record {
        gave_keys = x.gave;
        gave_input = gave;
        few_keys = x.few;
        few_input = few;
        keys_alone = λ lacks. not_both (reads_keys c) lacks keyed;
        input_alone = λ h. elim h [
          | inl lacks ↦ not_both (reads_input c) lacks fed
          | inr three ↦ absurd (not_three three)
        ];
        keys_first = λ _. inl (x.over keyed);
        known = λ h. facts.known h ∙ ap (λ (a : Answer). a.status) (sym value);
        usage = λ h. absurd (cc);
        keys_end = λ _ _. x.over keyed;
        input_end = λ h _. elim h [
          | inl small ↦ facts.at_end small
          | inr six ↦ not_both (writes_along (Some c)) six.1 along
        ];
        keys_judged = λ three. absurd (facts.plain.1 three);
        judged = λ four last. not_both (writes_along (Some c)) last along;
        read = λ five. inr (fed, not_three, facts.read five);
        write = facts.write;
        no_other = facts.high;
        whole = λ small. rw value (facts.whole small);
        part = λ six last. not_both (writes_along (Some c)) last along;
        nothing = λ h. elim h [
          | inl early ↦ absurd (not_small status early facts.plain.0 facts.plain.1)
          | inr last ↦ not_both (writes_along (Some c)) last.0 along
        ];
        told = λ last. not_both (writes_along (Some c)) last along;
        along = did;
      }

  -- the key file gave no tables
  keys_obey : (k : List ℕ) (k0 k1 i o e0 e1 : Side) (stop : Stop) → KeysGathered c k k0 k1 (Err stop) → Offers (text_of stop) e0 e1 →
      ((text : List ℕ) (b n : Sides) (status : ℕ) → NotBegun text [] b n status → Along (Some c) k text [] b n status) →
      ObeysAs (Some c) k [] (record { keys = k0; input = i; out = o; err = e0 }) (record { keys = k1; input = i; out = o; err = e1 }) (status_of stop)
  keys_obey k k0 k1 i o e0 e1 stop x offers not_begun =
      let refused = three_then stop (answer (Some c) k []) x.within (λ three. x.refused three []) in
      record {
        gave_keys = x.gave;
        gave_input = gave_none i;
        few_keys = x.few;
        few_input = omega arith;
        keys_alone = λ lacks. not_both (reads_keys c) lacks keyed;
        input_alone = λ h. (refl, refl);
        keys_first = λ h. inr (refl, refl);
        known = λ h. sym (ap (λ (a : Answer). a.status) (refused h));
        usage = λ h. absurd (cc);
        keys_end = λ h. absurd (elim h [
          | inl written ↦ no_written (status_of stop) x.within written
          | inr four ↦ x.within.2 four
        ]);
        input_end = λ h. absurd (elim h [
          | inl small ↦ omega (arith, x.within, small)
          | inr six ↦ x.within.3 six.0
        ]);
        keys_judged = x.judged;
        judged = λ four last. not_both (writes_along (Some c)) last along;
        read = λ five. inl (keyed, x.fault five, (refl, refl));
        write = λ six. absurd (x.within.3 six);
        no_other = x.within.1;
        whole = λ h. absurd (omega (arith, x.within, h));
        part = λ six last. not_both (writes_along (Some c)) last along;
        nothing = λ h. took_none o;
        told = λ last. not_both (writes_along (Some c)) last along;
        along = not_begun (text_with (status_of stop) (answer (Some c) k [])) _ _ (status_of stop) (record {
          stops = stops_early stop x.within;
          unread = (refl, refl);
          nothing = took_none o;
          told = rw (same_text stop (answer (Some c) k []) refused) offers;
        });
      }

-- a fault of the input has this text, or there was no memory for it
refused_text : (text : List ℕ) (stop : Stop) (e0 e1 : Side) → Stopped stop (refusal 4 text) → Offers (text_of stop) e0 e1 → EndsSo (4, text) e0 e1 (status_of stop)
refused_text text Memory e0 e1 stopped offers = inr (refl, refl, offers)
refused_text text (Input line) e0 e1 stopped offers = inl (refl, rw (ap (λ (a : Answer). a.text) stopped) offers)
refused_text text TooManyEvents e0 e1 stopped offers = inl (refl, rw (ap (λ (a : Answer). a.text) stopped) offers)
refused_text text (Keys line) e0 e1 stopped offers = let no : 4 ≡ 3 = ap (λ (a : Answer). a.status) stopped in absurd (omega (arith, no))
refused_text text Usage e0 e1 stopped offers = absurd stopped
refused_text text KeysTooLong e0 e1 stopped offers = absurd stopped
refused_text text TooLong e0 e1 stopped offers = absurd stopped
refused_text text Read e0 e1 stopped offers = absurd stopped
refused_text text Write e0 e1 stopped offers = absurd stopped

-- a stop that comes of this halt ends so
halted : (h : Halt) (stop : Stop) (e0 e1 : Side) → IsHalted h stop → Offers (text_of stop) e0 e1 → EndsSo (check_end (Err h)) e0 e1 (status_of stop)
halted (halt.Line n kind) stop e0 e1 is offers = refused_text _ stop e0 e1 is offers
halted (halt.Head fault) stop e0 e1 is offers = refused_text _ stop e0 e1 is offers
halted (halt.Record n) stop e0 e1 is offers = refused_text _ stop e0 e1 is offers
halted halt.TooLong stop e0 e1 is offers = inl (rw is refl, rw is at offers)
halted halt.Read stop e0 e1 is offers = inl (rw is refl, rw is at offers)
halted halt.Write stop e0 e1 is offers = inl (rw is refl, rw is at offers)
halted halt.Memory stop e0 e1 is offers = inl (rw is refl, rw is at offers)

module _ (k : List ℕ) (k0 k1 : Side) where
  -- without tables nothing else is read or written
  pub unkeyed_lines : (i o : Side) (stop : Stop) → KeysGathered commands.Check k k0 k1 (Err stop) →
      Ended (Some commands.Check) k [] (record { keys = k0; input = i }) (record { keys = k1; input = i }) o o (Err stop)
  unkeyed_lines i o stop x = λ e0 e1 offers. keys_obey commands.Check refl refl refl k k0 k1 i o e0 e1 stop x offers (λ text b n status h. inl h)

  pub unkeyed_packets : (i o : Side) (stop : Stop) → KeysGathered commands.CheckPcap k k0 k1 (Err stop) →
      Ended (Some commands.CheckPcap) k [] (record { keys = k0; input = i }) (record { keys = k1; input = i }) o o (Err stop)
  unkeyed_packets i o stop x = λ e0 e1 offers. keys_obey commands.CheckPcap refl refl refl k k0 k1 i o e0 e1 stop x offers (λ text b n status h. inl h)

  module _ (i : List ℕ) (i0 i1 o0 o1 : Side) (tables : List Table) where
    lines_obey : (e0 e1 : Side) (status : ℕ) → KeysGathered commands.Check k k0 k1 (Ok (Some tables)) →
        ChecksLines tables i (record { keys = k0; input = i0; out = o0; err = e0 }) (record { keys = k1; input = i1; out = o1; err = e1 }) status →
        ObeysAs (Some commands.Check) k i (record { keys = k0; input = i0; out = o0; err = e0 }) (record { keys = k1; input = i1; out = o1; err = e1 }) status
    lines_obey e0 e1 status x c =
        checked_obeys commands.Check refl refl refl k i _ _ tables status x c.judges.gave c.judges.few (line_facts tables i _ _ status c)
        (inr (record { tables = tables; is_key_file = (x.file tables refl).0; few = (x.file tables refl).1; checks = c }))

    packets_obey : (e0 e1 : Side) (status : ℕ) → KeysGathered commands.CheckPcap k k0 k1 (Ok (Some tables)) →
        ChecksPackets tables i (record { keys = k0; input = i0; out = o0; err = e0 }) (record { keys = k1; input = i1; out = o1; err = e1 }) status →
        ObeysAs (Some commands.CheckPcap) k i (record { keys = k0; input = i0; out = o0; err = e0 }) (record { keys = k1; input = i1; out = o1; err = e1 }) status
    packets_obey e0 e1 status x c =
        checked_obeys commands.CheckPcap refl refl refl k i _ _ tables status x c.judges.gave c.judges.few (packet_facts tables i _ _ status c)
        (inr (record { tables = tables; is_key_file = (x.file tables refl).0; few = (x.file tables refl).1; checks = c }))

    -- a check of this form
    form_obeys : (f : Form) (e0 e1 : Side) (end : Result Bool Halt) (status : ℕ) → KeysGathered (check_command f) k k0 k1 (Ok (Some tables)) → Judges f tables i i0 i1 o0 o1 end → EndsSo (check_end end) e0 e1 status →
        ObeysAs (Some (check_command f)) k i (record { keys = k0; input = i0; out = o0; err = e0 }) (record { keys = k1; input = i1; out = o1; err = e1 }) status
    form_obeys form.Lines e0 e1 end status x j ends = lines_obey e0 e1 status x (record { end = end; judges = j; ends = ends })
    form_obeys form.Pcap e0 e1 end status x j ends = packets_obey e0 e1 status x (record { end = end; judges = j; ends = ends })

    -- all segments were judged
    pub check_done : (f : Form) (amiss : Bool) → KeysGathered (check_command f) k k0 k1 (Ok (Some tables)) → Judges f tables i i0 i1 o0 o1 (Ok amiss) →
        Ended (Some (check_command f)) k i (record { keys = k0; input = i0 }) (record { keys = k1; input = i1 }) o0 o1 (Ok (if amiss then 1 else 0))
    check_done f amiss x j = λ e. form_obeys f e e (Ok amiss) (if amiss then 1 else 0) x j (inl (refl, silent [] e refl))

    -- they weren't
    pub check_stopped : (f : Form) (h : Halt) (stop : Stop) → KeysGathered (check_command f) k k0 k1 (Ok (Some tables)) → Judges f tables i i0 i1 o0 o1 (Err h) → IsHalted h stop →
        Ended (Some (check_command f)) k i (record { keys = k0; input = i0 }) (record { keys = k1; input = i1 }) o0 o1 (Err stop)
    check_stopped f h stop x j is = λ e0 e1 offers. form_obeys f e0 e1 (Err h) (status_of stop) x j (halted h stop e0 e1 is offers)

-- without tables nothing else is read or written, whatever the command
pub unprepared : (c : Command) (k : List ℕ) (k0 k1 i o : Side) (stop : Stop) → KeysGathered c k k0 k1 (Err stop) →
    Ended (Some c) k [] (record { keys = k0; input = i }) (record { keys = k1; input = i }) o o (Err stop)
unprepared commands.Check k k0 k1 i o stop x = unkeyed_lines k k0 k1 i o stop x
unprepared commands.CheckPcap k k0 k1 i o stop x = unkeyed_packets k k0 k1 i o stop x
unprepared c k k0 k1 i o stop x = refused_ends (Some c) k [] k0 k1 i i refl o stop (keys_stopped c k k0 k1 i stop x)

-- what ended so behind any key file with these tables ended so behind this one
pub done_behind : (c d : Command) (t : Option (List Table)) → d ≡ c → (k i : List ℕ) (k0 k1 i0 i1 o0 o1 : Side) (r : Result ℕ Stop) → KeysGathered c k k0 k1 (Ok t) →
    EndedBehind d t i i0 i1 o0 o1 r → Ended (Some c) k i (record { keys = k0; input = i0 }) (record { keys = k1; input = i1 }) o0 o1 r
done_behind c d t same k i k0 k1 i0 i1 o0 o1 r keyed ended =
    let here : EndedBehind c t i i0 i1 o0 o1 r = subst (λ (x : Command). EndedBehind x t i i0 i1 o0 o1 r) same ended in
    here.behind k k0 k1 keyed
