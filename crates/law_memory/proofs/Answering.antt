-- The top call over files in memory gives the answer.
use Rattle.std.proofs.Common.{◌≡◌, ◌≢◌, ◌⊎◌, inl, inr, ⊎_elim, ℕ, ◌<◌, ◌≤◌, Bool, true, false, List, [], ◌++◌, length, Option, Some, None, option_map, Result, Ok, Err, refl, sym, ap, ◌∙◌, subst, arith}
use Rattle.std.specs.Io.KnownBytes.{Consumes}
use Rattle.ao_base.specs.Outside.{IsAtEnd, Rose, Side, WasWritten, told as told_bytes}
use Rattle.ao_run.proofs.AnswerLaws.{long_keys, over_tables, same_answer, short_input}
use Rattle.ao_run.proofs.Facts.{judged_whole}
use Rattle.ao_run.proofs.Given.{all_given, no_more}
use Rattle.ao_run.specs.Obeys.{Along, ChecksLines, ChecksPackets, EndsSo, Offers, Sides, asks_input, asks_keys, check_end, most_of, text_of, writes_along}
use Rattle.ao_run.specs.Outcomes.{EndsIn, Outcome, Usage, KeysRefused, InputRefused, ReadFailed, WriteFailed, NoMemory, Written, WasRead, status_in}
use Rattle.book_answer.specs.Answers.{Answer, answer, answer_of, done, judged, line_fault_line, lines_checked, packets_checked, pcap_fault_line, refusal}
use Rattle.book_answer.specs.Commands.{command_of, reads_input, usage}
use Rattle.book_answer.specs.declared.command.Command.{Command}
use Rattle.book_answer.specs.declared.command.Command.TheVariants as command
use Rattle.book_cmd_check.specs.Captures.{Stored, capture_run, has_refusal}
use Rattle.book_cmd_check.specs.StoredLines.{stored_input}
use Rattle.book_keys.specs.Nodes.{most_keys, tables_of}
use Rattle.book_keys.specs.Rows.{Table}
use Rattle.book_pcap.specs.Packets.{FileFault, BadHead, BadRecord, packets_of}
use Rattle.cmd_check.specs.CheckedLines.{Ends as LinesEnd}
use Rattle.cmd_check.specs.CheckedPackets.{Ends as PacketsEnd, segments_of}
use Rattle.cmd_check.specs.declared.halt.Halt.{Halt}
use Rattle.cmd_check.specs.declared.halt.Halt.TheVariants as halt
use Rattle.law_memory.proofs.Empty.{four_empty, long_same, refused_three, three_reads}
use Rattle.law_memory.proofs.Sides.{told, written}
use Rattle.law_memory.specs.InMemory.{Gives, IsAnswered}

-- ---- the two sides of a call

-- what is so of files in memory, for this command
record Quiet (c : Option Command) (keys input : List ℕ) (b n : Sides) : Type 0 where
  key_file : b.keys.bytes ≡ Some keys
  all_input : b.input.bytes ≡ Some input
  out_empty : b.out.bytes ≡ Some []
  err_empty : b.err.bytes ≡ Some []
  keys_calm : Rose b.keys n.keys → ⊥
  input_calm : Rose b.input n.input → ⊥
  out_calm : Rose b.out n.out → ⊥
  err_calm : Rose b.err n.err → ⊥
  within : writes_along c ≡ true → length input ≤ most_of c

-- it gives an answer without output
gives_text : (a : Answer) (s : ℕ) (b n : Sides) → s ≡ a.status → a.output ≡ [] → WasWritten [] b.out n.out → Offers a.text b.err n.err → b.out.bytes ≡ Some [] → b.err.bytes ≡ Some [] → (Rose b.err n.err → ⊥) → Gives a s n
gives_text a s b n is empty nothing offers out err calm =
    record { status_is = is; output = written [] b.out n.out nothing out ∙ ap (λ (l : List ℕ). Some l) (sym empty); text = told a.text b.err n.err offers err calm }

gives_by : (a other : Answer) (s : ℕ) (n : Sides) → a ≡ other → Gives a s n → Gives other s n
gives_by a other s n same g = subst (λ (x : Answer). Gives x s n) same g

-- ---- the two checks that write as they read

-- a check ends with another status
ends_with : (end : Result Bool Halt) (e0 e1 : Side) (s k : ℕ) → EndsSo (check_end end) e0 e1 s → s ≡ k → k < 7 → (check_end end).0 ≡ k
ends_with end e0 e1 s k (inl x) is small = sym x.0 ∙ is
ends_with end e0 e1 s k (inr x) is small = let seven = x.1 in absurd (omega arith)

not_three : (end : Result Bool Halt) → (check_end end).0 ≡ 3 → ⊥
not_three (Ok true) e = omega arith
not_three (Ok false) e = omega arith
not_three (Err (halt.Line n kind)) e = omega arith
not_three (Err (halt.Head fault)) e = omega arith
not_three (Err (halt.Record n)) e = omega arith
not_three (Err halt.TooLong) e = omega arith
not_three (Err halt.Read) e = omega arith
not_three (Err halt.Write) e = omega arith
not_three (Err halt.Memory) e = omega arith

four_goes_on : (k : ℕ) → k ≡ 4 → (k ≡ 3) ⊎ ((k ≡ 5) ⊎ (k ≡ 7)) → ⊥
four_goes_on k is (inl e) = omega arith
four_goes_on k is (inr (inl e)) = omega arith
four_goes_on k is (inr (inr e)) = omega arith

small_goes_on : (k : ℕ) → k < 2 → (k ≡ 3) ⊎ ((k ≡ 5) ⊎ (k ≡ 7)) → ⊥
small_goes_on k low (inl e) = omega arith
small_goes_on k low (inr (inl e)) = omega arith
small_goes_on k low (inr (inr e)) = omega arith

-- where the key file is refused its text was offered
along_three : (c : Command) (k text i : List ℕ) (b n : Sides) (s : ℕ) → writes_along (Some c) ≡ true → s ≡ 3 → Along (Some c) k text i b n s → Offers text b.err n.err
along_three command.Check k text i b n s along is (inl x) = x.told
along_three command.Check k text i b n s along is (inr x) = absurd (not_three x.checks.end (ends_with x.checks.end b.err n.err s 3 x.checks.ends is (omega arith)))
along_three command.CheckPcap k text i b n s along is (inl x) = x.told
along_three command.CheckPcap k text i b n s along is (inr x) = absurd (not_three x.checks.end (ends_with x.checks.end b.err n.err s 3 x.checks.ends is (omega arith)))
along_three c k text i b n s along is x = absurd (cc)

offered : (end : Result Bool Halt) (e0 e1 : Side) (s k : ℕ) → EndsSo (check_end end) e0 e1 s → s ≡ k → k < 7 → Offers (check_end end).1 e0 e1
offered end e0 e1 s k (inl x) is small = x.1
offered end e0 e1 s k (inr x) is small = let seven = x.1 in absurd (omega arith)

judged_by_fault : (tables : List Table) (stored : List Stored) (fault : Option (List ℕ)) (text : List ℕ) → fault ≡ Some text → judged tables stored fault ≡ record { status = 4; output = capture_run tables stored; text = text }
judged_by_fault tables stored fault text is = ap (judged tables stored) is

-- the bytes in front of others in memory
in_front : (before now : Option (List ℕ)) (given text : List ℕ) → Consumes before now given → before ≡ Some text → text ≡ given ++ told_bytes now
in_front None now given text c e = absurd (cc)
in_front (Some xs) None given text c e = absurd c
in_front (Some xs) (Some ys) given text c e = let same : xs ≡ text = cc in sym same ∙ c

-- ---- their answers, over tables

module _ (tables : List Table) (k keys i input : List ℕ) (b n : Sides) (s : ℕ) (key_file : tables_of k ≡ Ok tables) (few : length k ≤ 1048576) (same_keys : k ≡ keys) (read : WasRead (Some command.Check) k i (answer_of (Some command.Check) k i) b n) (q : Quiet (Some command.Check) keys input b n) where
  lines_answer : answer_of (Some command.Check) keys input ≡ lines_checked tables (stored_input input)
  lines_answer =
      ap (λ (x : List ℕ). answer_of (Some command.Check) x input) (sym same_keys)
      ∙ (over_tables command.Check k input tables refl few key_file ∙ short_input command.Check tables input (q.within refl))

  lines_four : (end : Result Bool Halt) → (x : ChecksLines tables i b n s) → x.end ≡ end → s ≡ 4 → Gives (answer_of (Some command.Check) keys input) s n
  lines_four end x is four =
      let ended : (check_end x.end).0 ≡ 4 = ends_with x.end b.err n.err s 4 x.ends four (omega arith) in
      let offers = offered x.end b.err n.err s 4 x.ends four (omega arith) in
      by_end x.end x.judges.ends ended offers
    where
      by_end : (end : Result Bool Halt) → LinesEnd tables i b.input n.input b.out n.out end → (check_end end).0 ≡ 4 → Offers (check_end end).1 b.err n.err → Gives (answer_of (Some command.Check) keys input) s n
      by_end (Ok true) e ended offers = absurd (omega arith)
      by_end (Ok false) e ended offers = absurd (omega arith)
      by_end (Err (halt.Line m kind)) e ended offers =
          let same : stored_input input ≡ stored_input i =
          ⊎_elim (λ (end : IsAtEnd n.input). ap stored_input (sym (all_given b.input.bytes n.input.bytes i input read.gave_input.bytes q.all_input end)))
          (λ (f : (more : List ℕ) → stored_input (i ++ more) ≡ stored_input i). ap stored_input (in_front b.input.bytes n.input.bytes i input read.gave_input.bytes q.all_input) ∙ f (told_bytes n.input.bytes)) e.whatever in
          let text = line_fault_line (record { number = m; kind = kind }) in
          let st = stored_input i in
          let a : Answer = record { status = 4; output = capture_run tables st.stored; text = text } in
          let is : answer_of (Some command.Check) keys input ≡ a =
          lines_answer ∙ (ap (lines_checked tables) same ∙ judged_by_fault tables st.stored (option_map line_fault_line st.fault) text (ap (option_map line_fault_line) e.fault)) in
          gives_by a (answer_of (Some command.Check) keys input) s n (sym is)
          (record { status_is = four; output = written (capture_run tables st.stored) b.out n.out e.wrote q.out_empty; text = told text b.err n.err offers q.err_empty q.err_calm })
      by_end (Err (halt.Head fault)) e ended offers = absurd e
      by_end (Err (halt.Record m)) e ended offers = absurd e
      by_end (Err halt.TooLong) e ended offers =
          let most = q.within refl in
          let some = no_more b.input.bytes n.input.bytes i input read.gave_input.bytes q.all_input in
          let more = e.more in
          absurd (omega arith)
      by_end (Err halt.Read) e ended offers = absurd (omega arith)
      by_end (Err halt.Write) e ended offers = absurd (omega arith)
      by_end (Err halt.Memory) e ended offers = absurd (omega arith)

  -- all lines were judged: the text of the answer is empty
  lines_whole : (x : ChecksLines tables i b n s) → s < 2 → Offers [] b.err n.err × ((answer_of (Some command.Check) k i).text ≡ [])
  lines_whole x small =
      let ended : (check_end x.end).0 ≡ s = ends_with x.end b.err n.err s s x.ends refl (omega arith) in
      let offers = offered x.end b.err n.err s s x.ends refl (omega arith) in
      by_end x.end x.judges.ends ended offers
    where
      by_end : (end : Result Bool Halt) → LinesEnd tables i b.input n.input b.out n.out end → (check_end end).0 ≡ s → Offers (check_end end).1 b.err n.err → Offers [] b.err n.err × ((answer_of (Some command.Check) k i).text ≡ [])
      by_end (Ok amiss) e ended offers =
          let st = stored_input i in
          let none : option_map line_fault_line st.fault ≡ None = ap (option_map line_fault_line) e.faultless in
          let is : answer_of (Some command.Check) k i ≡ done (has_refusal tables st.stored) (capture_run tables st.stored) =
          over_tables command.Check k i tables refl few key_file ∙ (short_input command.Check tables i e.within ∙ judged_whole tables st.stored (option_map line_fault_line st.fault) none) in
          (offers, ap (λ (a : Answer). a.text) is)
      by_end (Err (halt.Line m kind)) e ended offers = absurd (omega arith)
      by_end (Err (halt.Head fault)) e ended offers = absurd e
      by_end (Err (halt.Record m)) e ended offers = absurd e
      by_end (Err halt.TooLong) e ended offers = absurd (omega arith)
      by_end (Err halt.Read) e ended offers = absurd (omega arith)
      by_end (Err halt.Write) e ended offers = absurd (omega arith)
      by_end (Err halt.Memory) e ended offers = absurd (omega arith)

module _ (tables : List Table) (k keys i input : List ℕ) (b n : Sides) (s : ℕ) (key_file : tables_of k ≡ Ok tables) (few : length k ≤ 1048576) (same_keys : k ≡ keys) (read : WasRead (Some command.CheckPcap) k i (answer_of (Some command.CheckPcap) k i) b n) (q : Quiet (Some command.CheckPcap) keys input b n) where
  packets_answer : answer_of (Some command.CheckPcap) keys input ≡ packets_checked tables (packets_of input)
  packets_answer =
      ap (λ (x : List ℕ). answer_of (Some command.CheckPcap) x input) (sym same_keys)
      ∙ (over_tables command.CheckPcap k input tables refl few key_file ∙ short_input command.CheckPcap tables input (q.within refl))

  -- a fault of the file
  file_four : (fault : FileFault) → (packets_of i).fault ≡ Some fault → packets_of (i ++ told_bytes n.input.bytes) ≡ packets_of i → WasWritten (capture_run tables (segments_of i)) b.out n.out → Offers (pcap_fault_line fault) b.err n.err → s ≡ 4
      → Gives (answer_of (Some command.CheckPcap) keys input) s n
  file_four fault is_fault all wrote offers four =
      let same : packets_of input ≡ packets_of i = ap packets_of (in_front b.input.bytes n.input.bytes i input read.gave_input.bytes q.all_input) ∙ all in
      let text = pcap_fault_line fault in
      let p = packets_of i in
      let a : Answer = record { status = 4; output = capture_run tables (segments_of i); text = text } in
      let is : answer_of (Some command.CheckPcap) keys input ≡ a =
      packets_answer ∙ (ap (packets_checked tables) same ∙ judged_by_fault tables (segments_of i) (option_map pcap_fault_line p.fault) text (ap (option_map pcap_fault_line) is_fault)) in
      gives_by a (answer_of (Some command.CheckPcap) keys input) s n (sym is)
      (record { status_is = four; output = written (capture_run tables (segments_of i)) b.out n.out wrote q.out_empty; text = told text b.err n.err offers q.err_empty q.err_calm })

  packets_four : (x : ChecksPackets tables i b n s) → s ≡ 4 → Gives (answer_of (Some command.CheckPcap) keys input) s n
  packets_four x four =
      let ended : (check_end x.end).0 ≡ 4 = ends_with x.end b.err n.err s 4 x.ends four (omega arith) in
      let offers = offered x.end b.err n.err s 4 x.ends four (omega arith) in
      by_end x.end x.judges.ends ended offers
    where
      by_end : (end : Result Bool Halt) → PacketsEnd tables i b.input n.input b.out n.out end → (check_end end).0 ≡ 4 → Offers (check_end end).1 b.err n.err → Gives (answer_of (Some command.CheckPcap) keys input) s n
      by_end (Ok true) e ended offers = absurd (omega arith)
      by_end (Ok false) e ended offers = absurd (omega arith)
      by_end (Err (halt.Line m kind)) e ended offers = absurd e
      by_end (Err (halt.Head fault)) e ended offers = file_four (BadHead fault) e.fault_is e.all e.wrote offers four
      by_end (Err (halt.Record m)) e ended offers = file_four (BadRecord m) e.fault_is e.all e.wrote offers four
      by_end (Err halt.TooLong) e ended offers =
          let most = q.within refl in
          let some = no_more b.input.bytes n.input.bytes i input read.gave_input.bytes q.all_input in
          let more = e.more in
          absurd (omega arith)
      by_end (Err halt.Read) e ended offers = absurd (omega arith)
      by_end (Err halt.Write) e ended offers = absurd (omega arith)
      by_end (Err halt.Memory) e ended offers = absurd (omega arith)

  packets_whole : (x : ChecksPackets tables i b n s) → s < 2 → Offers [] b.err n.err × ((answer_of (Some command.CheckPcap) k i).text ≡ [])
  packets_whole x small =
      let ended : (check_end x.end).0 ≡ s = ends_with x.end b.err n.err s s x.ends refl (omega arith) in
      let offers = offered x.end b.err n.err s s x.ends refl (omega arith) in
      by_end x.end x.judges.ends ended offers
    where
      by_end : (end : Result Bool Halt) → PacketsEnd tables i b.input n.input b.out n.out end → (check_end end).0 ≡ s → Offers (check_end end).1 b.err n.err → Offers [] b.err n.err × ((answer_of (Some command.CheckPcap) k i).text ≡ [])
      by_end (Ok amiss) e ended offers =
          let p = packets_of i in
          let none : option_map pcap_fault_line p.fault ≡ None = ap (option_map pcap_fault_line) e.faultless in
          let is : answer_of (Some command.CheckPcap) k i ≡ done (has_refusal tables (segments_of i)) (capture_run tables (segments_of i)) =
          over_tables command.CheckPcap k i tables refl few key_file ∙ (short_input command.CheckPcap tables i e.within ∙ judged_whole tables (segments_of i) (option_map pcap_fault_line p.fault) none) in
          (offers, ap (λ (a : Answer). a.text) is)
      by_end (Err (halt.Line m kind)) e ended offers = absurd e
      by_end (Err (halt.Head fault)) e ended offers = absurd (omega arith)
      by_end (Err (halt.Record m)) e ended offers = absurd (omega arith)
      by_end (Err halt.TooLong) e ended offers = absurd (omega arith)
      by_end (Err halt.Read) e ended offers = absurd (omega arith)
      by_end (Err halt.Write) e ended offers = absurd (omega arith)
      by_end (Err halt.Memory) e ended offers = absurd (omega arith)

-- ---- each way to end

module _ (c : Command) (k keys i input : List ℕ) (b n : Sides) (s : ℕ) (read : WasRead (Some c) k i (answer_of (Some c) k i) b n) (q : Quiet (Some c) keys input b n) where
  keys_ended : IsAtEnd n.keys → k ≡ keys
  keys_ended end = all_given b.keys.bytes n.keys.bytes k keys read.gave_keys.bytes q.key_file end

  input_ended : IsAtEnd n.input → i ≡ input
  input_ended end = all_given b.input.bytes n.input.bytes i input read.gave_input.bytes q.all_input end

  -- a refused key file
  refused_keys : s ≡ 3 → (answer_of (Some c) k i).status ≡ 3 → IsAtEnd n.keys ⊎ (most_keys < length k) → WasWritten [] b.out n.out → (writes_along (Some c) ≡ false → Offers (answer_of (Some c) k i).text b.err n.err)
      → Along (Some c) k (text_of s (answer_of (Some c) k i)) i b n s → Gives (answer_of (Some c) keys input) s n
  refused_keys is three judged nothing told_plain along =
      let r = refused_three c k i three in
      let a = answer_of (Some c) k i in
      let same : a ≡ answer_of (Some c) keys input =
      ⊎_elim (λ (end : IsAtEnd n.keys). r.is i ∙ (sym (r.is input) ∙ ap (λ (x : List ℕ). answer_of (Some c) x input) (keys_ended end)))
      (λ (long : most_keys < length k).
      let reads = three_reads c k i three in
      let more = no_more b.keys.bytes n.keys.bytes k keys read.gave_keys.bytes q.key_file in
      long_keys c k i reads long ∙ sym (long_keys c keys input reads (omega arith))) judged in
      let text_is : text_of s a ≡ a.text = ap (λ j. text_of j a) is in
      let offers : Offers a.text b.err n.err = by_along (writes_along (Some c)) refl text_is in
      gives_by a (answer_of (Some c) keys input) s n same (gives_text a s b n (is ∙ sym three) (ap (λ (x : Answer). x.output) (r.is i)) nothing offers q.out_empty q.err_empty q.err_calm)
    where
      by_along : (t : Bool) → writes_along (Some c) ≡ t → text_of s (answer_of (Some c) k i) ≡ (answer_of (Some c) k i).text → Offers (answer_of (Some c) k i).text b.err n.err
      by_along true e text_is = subst (λ (x : List ℕ). Offers x b.err n.err) text_is (along_three c k (text_of s (answer_of (Some c) k i)) i b n s e is along)
      by_along false e text_is = told_plain e

  -- a refused input, by a command that writes when all was read
  refused_plain : s ≡ 4 → writes_along (Some c) ≡ false → (answer_of (Some c) k i).status ≡ 4 → (asks_keys (Some c) ≡ true → IsAtEnd n.keys) → IsAtEnd n.input ⊎ (most_of (Some c) < length i) → WasWritten [] b.out n.out
      → Offers (answer_of (Some c) k i).text b.err n.err → Gives (answer_of (Some c) keys input) s n
  refused_plain is plain four ends judged nothing offers =
      let a = answer_of (Some c) k i in
      let first : a ≡ answer_of (Some c) keys i = same_answer (Some c) k keys i i (λ t. keys_ended (ends t)) (λ t. refl) in
      let same : a ≡ answer_of (Some c) keys input = by_reads (reads_input c) refl first in
      gives_by a (answer_of (Some c) keys input) s n same (gives_text a s b n (is ∙ sym four) (four_empty c k i plain four) nothing offers q.out_empty q.err_empty q.err_calm)
    where
      by_reads : (t : Bool) → reads_input c ≡ t → answer_of (Some c) k i ≡ answer_of (Some c) keys i → answer_of (Some c) k i ≡ answer_of (Some c) keys input
      by_reads false lacks first = first ∙ same_answer (Some c) keys keys i input (λ t. refl) (λ t. absurd (cc))
      by_reads true reads first =
          ⊎_elim (λ (end : IsAtEnd n.input). first ∙ ap (answer_of (Some c) keys) (input_ended end))
          (λ (long : most_of (Some c) < length i).
          let more = no_more b.input.bytes n.input.bytes i input read.gave_input.bytes q.all_input in
          first ∙ long_same c keys i input reads plain long (omega arith)) judged

  -- the whole output
  whole : s < 2 → s ≡ (answer_of (Some c) k i).status → (asks_keys (Some c) ≡ true → IsAtEnd n.keys) → (asks_input (Some c) ≡ true → IsAtEnd n.input) → WasWritten (answer_of (Some c) k i).output b.out n.out
      → Offers (answer_of (Some c) k i).text b.err n.err → Gives (answer_of (Some c) keys input) s n
  whole small is keys_end input_end wrote offers =
      let a = answer_of (Some c) k i in
      gives_by a (answer_of (Some c) keys input) s n (same_answer (Some c) k keys i input (λ t. keys_ended (keys_end t)) (λ t. input_ended (input_end t)))
      (record { status_is = is; output = written a.output b.out n.out wrote q.out_empty; text = told a.text b.err n.err offers q.err_empty q.err_calm })

-- a check that refuses its input
along_four : (c : Command) (k keys i input : List ℕ) (b n : Sides) (s : ℕ) → WasRead (Some c) k i (answer_of (Some c) k i) b n → Quiet (Some c) keys input b n → writes_along (Some c) ≡ true → s ≡ 4 → (text : List ℕ)
    → (asks_keys (Some c) ≡ true → IsAtEnd n.keys) → Along (Some c) k text i b n s → Gives (answer_of (Some c) keys input) s n
along_four command.Check k keys i input b n s read q along four text ends (inl x) = absurd (four_goes_on s four x.stops)
along_four command.Check k keys i input b n s read q along four text ends (inr x) =
    lines_four x.tables k keys i input b n s x.is_key_file x.few (keys_ended command.Check k keys i input b n s read q (ends refl)) read q x.checks.end x.checks refl four
along_four command.CheckPcap k keys i input b n s read q along four text ends (inl x) = absurd (four_goes_on s four x.stops)
along_four command.CheckPcap k keys i input b n s read q along four text ends (inr x) =
    packets_four x.tables k keys i input b n s x.is_key_file x.few (keys_ended command.CheckPcap k keys i input b n s read q (ends refl)) read q x.checks four
along_four c k keys i input b n s read q along four text ends x = absurd (cc)

-- a check that judged all of its input
along_whole : (c : Command) (k keys i input : List ℕ) (b n : Sides) (s : ℕ) → WasRead (Some c) k i (answer_of (Some c) k i) b n → Quiet (Some c) keys input b n → writes_along (Some c) ≡ true → s < 2 → (text : List ℕ)
    → (asks_keys (Some c) ≡ true → IsAtEnd n.keys) → Along (Some c) k text i b n s → Offers (answer_of (Some c) k i).text b.err n.err
along_whole command.Check k keys i input b n s read q along small text ends (inl x) = absurd (small_goes_on s small x.stops)
along_whole command.Check k keys i input b n s read q along small text ends (inr x) =
    let w = lines_whole x.tables k keys i input b n s x.is_key_file x.few (keys_ended command.Check k keys i input b n s read q (ends refl)) read q x.checks small in
    subst (λ (t : List ℕ). Offers t b.err n.err) (sym w.1) w.0
along_whole command.CheckPcap k keys i input b n s read q along small text ends (inl x) = absurd (small_goes_on s small x.stops)
along_whole command.CheckPcap k keys i input b n s read q along small text ends (inr x) =
    let w = packets_whole x.tables k keys i input b n s x.is_key_file x.few (keys_ended command.CheckPcap k keys i input b n s read q (ends refl)) read q x.checks small in
    subst (λ (t : List ℕ). Offers t b.err n.err) (sym w.1) w.0
along_whole c k keys i input b n s read q along small text ends x = absurd (cc)

by_usage : (c : Option Command) (keys input : List ℕ) (b n : Sides) (s : ℕ) → c ≡ None → s ≡ 2 → WasWritten [] b.out n.out → Offers usage b.err n.err → Quiet c keys input b n → Gives (answer_of c keys input) s n
by_usage None keys input b n s none is nothing offers q = gives_text (refusal 2 usage) s b n is refl nothing offers q.out_empty q.err_empty q.err_calm
by_usage (Some c) keys input b n s none is nothing offers q = absurd (cc)

by_written : (amiss : Bool) → status_in (Written amiss) < 2
by_written true = omega arith
by_written false = omega arith

by_outcome : (c : Option Command) (k keys i input : List ℕ) (b n : Sides) (s : ℕ) (o : Outcome) → s ≡ status_in o → EndsIn o c k i (answer_of c k i) b n → WasRead c k i (answer_of c k i) b n → Along c k (text_of s (answer_of c k i)) i b n s
    → Quiet c keys input b n → Gives (answer_of c keys input) s n ⊎ (s ≡ 7)
by_outcome c k keys i input b n s Usage is e read along q = inl (by_usage c keys input b n s e.none is e.nothing e.told q)
by_outcome None k keys i input b n s KeysRefused is e read along q = let two = e.is in absurd (omega arith)
by_outcome (Some c) k keys i input b n s KeysRefused is e read along q = inl (refused_keys c k keys i input b n s read q is e.is e.judged e.nothing e.told along)
by_outcome None k keys i input b n s InputRefused is e read along q = let two = e.is in absurd (omega arith)
by_outcome (Some c) k keys i input b n s InputRefused is e read along q = inl (by_along (writes_along (Some c)) refl)
  where
    by_along : (t : Bool) → writes_along (Some c) ≡ t → Gives (answer_of (Some c) keys input) s n
    by_along true x = along_four c k keys i input b n s read q x is (text_of s (answer_of (Some c) k i)) e.keys_end along
    by_along false x = let held = e.held_back x in refused_plain c k keys i input b n s read q is x e.is e.keys_end (e.judged x) held.0 held.1
by_outcome c k keys i input b n s ReadFailed is e read along q =
    ⊎_elim (λ (x : (asks_keys c ≡ true) × Rose b.keys n.keys × ((n.input ≡ b.input) × (i ≡ []))). absurd (q.keys_calm x.1)) (λ (x : (asks_input c ≡ true) × ((answer_of c k i).status ≢ 3) × Rose b.input n.input). absurd (q.input_calm x.2)) e.failed
by_outcome c k keys i input b n s WriteFailed is e read along q = absurd (q.out_calm e.rose)
by_outcome c k keys i input b n s NoMemory is e read along q = inr is
by_outcome None k keys i input b n s (Written amiss) is e read along q = let two = e.is in let small = by_written amiss in absurd (omega arith)
by_outcome (Some c) k keys i input b n s (Written amiss) is e read along q =
    let low = by_written amiss in
    let small : s < 2 = omega arith in
    inl (whole c k keys i input b n s read q small (is ∙ sym e.is) e.keys_end e.input_end e.wrote (by_along (writes_along (Some c)) refl small))
  where
    by_along : (t : Bool) → writes_along (Some c) ≡ t → s < 2 → Offers (answer_of (Some c) k i).text b.err n.err
    by_along true x small = along_whole c k keys i input b n s read q x small (text_of s (answer_of (Some c) k i)) e.keys_end along
    by_along false x small = e.told x

pub answered : IsAnswered
unfolding answer
answered words keys input b n s k i runs m =
    let x = runs.ends in
    by_outcome (command_of words) k keys i input b n s x.outcome x.status_is x.ends x.read x.along
    (record {
      key_file = m.key_file;
      all_input = m.all_input;
      out_empty = m.out_empty;
      err_empty = m.err_empty;
      keys_calm = m.keys_calm;
      input_calm = m.input_calm;
      out_calm = m.out_calm;
      err_calm = m.err_calm;
      within = m.within;
    })
