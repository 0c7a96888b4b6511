-- What each end of a check of a pcap file tells of the answer of `check --pcap KEYS`.
use Rattle.std.proofs.Common.{◌≡◌, inl, inr, ℕ, ◌<◌, ◌≤◌, nat_lt, Bool, List, [], ◌∷◌, ◌++◌, length, map, take, Option, Some, option_map, Result, Ok, Err, refl, sym, ap, ◌∙◌, append_assoc, arith}
use Rattle.std.proofs.lemmas.List.{length-take, map-append}
use Rattle.std.specs.Io.KnownBytes.{Consumes}
use Rattle.ao_base.specs.Outside.{Side, told}
use Rattle.ao_base.proofs.Sides.{told_given}
use Rattle.book_keys.specs.Rows.{Table}
use Rattle.book_pcap.specs.Packets.{BadHead, BadRecord, FileFault, Packet, Packets, packets_of}
use Rattle.cmd_check.proofs.RunLaws.{run_longer}
use Rattle.cmd_check.specs.CheckedPackets.{Breaks, Ends, Finishes, Refuses, segments_of, written_of}
use Rattle.pcap_file.specs.Reads.{packets_at}
use Rattle.cmd_check.specs.declared.halt.Halt.{Halt}
use Rattle.cmd_check.specs.declared.halt.Halt.TheVariants as halt
use Rattle.book_answer.specs.declared.command.Command.TheVariants.{CheckPcap}
use Rattle.book_answer.specs.Answers.{Answer, done, long_text, packets_checked, pcap_fault_line}
use Rattle.book_cmd_check.specs.StoredPackets.{stored_packet}
use Rattle.book_cmd_check.specs.Captures.{Stored, capture_run}
use Rattle.ao_run.specs.Gathered.{answer_in}
use Rattle.ao_run.specs.Obeys.{ChecksPackets, Sides, check_end}
use Rattle.ao_run.proofs.AnswerLaws.{long_input, short_input}
use Rattle.ao_run.proofs.Facts.{Facts, Fewer, done_facts, judged_refused, judged_whole, memory_facts, past_output, past_refused, read_facts, refused_facts, write_facts}
use Rattle.ao_run.proofs.Given.{no_more}

-- a file is refused within the limit and past it
refused_within : (tables : List Table) (input : List ℕ) (fault : FileFault) → (packets_of input).fault ≡ Some fault → (answer_in CheckPcap tables input).status ≡ 4
refused_within tables input fault is =
    past_refused (nat_lt 268435456 (length input)) (long_text CheckPcap input) (packets_checked tables (packets_of input))
    (judged_refused tables (segments_of input) (pcap_fault_line fault) (option_map pcap_fault_line (packets_of input).fault) (ap (λ (f : Option FileFault). option_map pcap_fault_line f) is))

finish_is : (tables : List Table) (input : List ℕ) (i1 o0 o1 : Side) (amiss : Bool) → Finishes tables input i1 o0 o1 amiss →
    answer_in CheckPcap tables input ≡ done amiss (capture_run tables (segments_of input))
finish_is tables input i1 o0 o1 amiss f =
    short_input CheckPcap tables input f.within
    ∙ (judged_whole tables (segments_of input) (option_map pcap_fault_line (packets_of input).fault) (ap (λ (fault : Option FileFault). option_map pcap_fault_line fault) f.faultless)
    ∙ ap (λ (x : Bool). done x (capture_run tables (segments_of input))) (sym f.amiss_is))

module _ (tables : List Table) (i : List ℕ) (i0 i1 o0 o1 : Side) where
  still_refused : (fault : FileFault) → Refuses tables i i1 o0 o1 fault → (input : List ℕ) → i0.bytes ≡ Some input → Consumes i0.bytes i1.bytes i →
      (answer_in CheckPcap tables input).status ≡ 4
  still_refused fault r input is consumes =
      refused_within tables input fault
      (ap (λ (xs : List ℕ). (packets_of xs).fault) (told_given i0.bytes i1.bytes i input is consumes) ∙ (ap (λ (p : Packets). p.fault) r.all ∙ r.fault_is))

  still_long : 268435456 < length i → (input : List ℕ) → i0.bytes ≡ Some input → Consumes i0.bytes i1.bytes i → (answer_in CheckPcap tables input).status ≡ 4
  still_long long input is consumes =
      let more = no_more i0.bytes i1.bytes i input consumes is in
      ap (λ (a : Answer). a.status) (long_input CheckPcap tables input refl (omega (arith, long, more)))

  fewer : Breaks tables i o0 o1 → (input : List ℕ) → i0.bytes ≡ Some input → Consumes i0.bytes i1.bytes i → (answer_in CheckPcap tables input).status < 2 →
      Fewer (answer_in CheckPcap tables input).output o0 o1
  fewer br input is consumes small =
      let read : List Packet = br.read ++ br.last ∷ [] in
      let has = br.has_read in
      let left : List ℕ = told i1.bytes in
      let split : input ≡ has.front ++ (has.rest ++ left) =
      told_given i0.bytes i1.bytes i input is consumes ∙ (ap (λ (xs : List ℕ). xs ++ left) has.split ∙ append_assoc has.front has.rest left) in
      let others : Packets = packets_at has.reader (has.rest ++ left) in
      let list : (packets_of input).list ≡ read ++ others.list = ap (λ (xs : List ℕ). (packets_of xs).list) split ∙ ap (λ (p : Packets). p.list) (has.goes_on (has.rest ++ left)) in
      let stored : segments_of input ≡ map stored_packet read ++ map stored_packet others.list =
      ap (λ (xs : List Packet). map stored_packet xs) list ∙ map-append stored_packet read others.list in
      let output : (answer_in CheckPcap tables input).output ≡ capture_run tables (segments_of input) =
      past_output (nat_lt 268435456 (length input)) (long_text CheckPcap input) tables (segments_of input) (option_map pcap_fault_line (packets_of input).fault) small in
      let more = run_longer tables (map stored_packet read) (map stored_packet others.list) in
      let size : length (answer_in CheckPcap tables input).output ≡ length (capture_run tables (map stored_packet read ++ map stored_packet others.list)) =
      ap length output ∙ ap (λ (xs : List Stored). length (capture_run tables xs)) stored in
      let cut : length (take br.n (written_of tables read)) ≤ length (written_of tables read) = grind (arith, length-take) in
      record { n = length (take br.n (written_of tables read)); few = omega (arith, more, size, cut); counts = br.wrote.counts }

  of_end : (end : Result Bool Halt) → Ends tables i i0 i1 o0 o1 end → Facts CheckPcap tables i i0 i1 o0 o1 (check_end end).0
  of_end (Ok amiss) f = done_facts CheckPcap tables i i0 i1 o0 o1 amiss (capture_run tables (segments_of i)) (finish_is tables i i1 o0 o1 amiss f) f.at_end f.wrote
  of_end (Err (halt.Line n kind)) f = absurd f
  of_end (Err (halt.Head fault)) f = refused_facts CheckPcap tables i i0 i1 o0 o1 (refused_within tables i (BadHead fault) f.fault_is) (still_refused (BadHead fault) f)
  of_end (Err (halt.Record n)) f = refused_facts CheckPcap tables i i0 i1 o0 o1 (refused_within tables i (BadRecord n) f.fault_is) (still_refused (BadRecord n) f)
  of_end (Err halt.TooLong) f = refused_facts CheckPcap tables i i0 i1 o0 o1 (ap (λ (a : Answer). a.status) (long_input CheckPcap tables i refl f.more)) (still_long f.more)
  of_end (Err halt.Read) f = read_facts CheckPcap tables i i0 i1 o0 o1 f.0
  of_end (Err halt.Write) f = write_facts CheckPcap tables i i0 i1 o0 o1 f.rose (fewer f)
  of_end (Err halt.Memory) f = memory_facts CheckPcap tables i i0 i1 o0 o1

-- with the end's own status, or without memory for its text
pub packet_facts : (tables : List Table) (i : List ℕ) (b n : Sides) (status : ℕ) → ChecksPackets tables i b n status → Facts CheckPcap tables i b.input n.input b.out n.out status
packet_facts tables i b n status c = elim (c.ends) [
  | inl h ↦ rw h.0 (of_end tables i b.input n.input b.out n.out c.end c.judges.ends)
  | inr h ↦ rw h.1 (memory_facts CheckPcap tables i b.input n.input b.out n.out)
]
