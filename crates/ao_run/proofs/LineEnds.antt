-- What each end of a check of lines tells of the answer of `check KEYS`.
use Rattle.std.proofs.Common.{◌≡◌, inl, inr, ℕ, ◌+◌, ◌<◌, ◌≤◌, nat_lt, Bool, List, [], ◌∷◌, ◌++◌, length, take, Option, Some, option_map, Result, Ok, Err, refl, sym, ap, ◌∙◌, arith}
use Rattle.std.proofs.lemmas.List.{append-nil, length-take}
use Rattle.std.specs.Io.KnownBytes.{Consumes}
use Rattle.book_lines.specs.declared.line_kind.LineKind.{LineKind}
use Rattle.book_base.specs.Lines.{lines_of}
use Rattle.ao_base.specs.Outside.{Side, told}
use Rattle.ao_base.proofs.Sides.{told_given}
use Rattle.book_keys.specs.Rows.{Table}
use Rattle.cmd_check.specs.CheckedLines.{Breaks, Ends, Finishes, HasRead, Refuses, segments_of, written_of}
use Rattle.cmd_check.specs.declared.halt.Halt.{Halt}
use Rattle.cmd_check.specs.declared.halt.Halt.TheVariants as halt
use Rattle.cmd_check.proofs.RunLaws.{input_is, run_longer, stored_append}
use Rattle.book_answer.specs.declared.command.Command.TheVariants.{Check}
use Rattle.book_answer.specs.Answers.{Answer, done, line_fault_line, lines_checked, long_text}
use Rattle.book_cmd_check.specs.Captures.{Stored, capture_run}
use Rattle.book_cmd_check.specs.StoredLines.{LineFault, StoredInput, stored_from, stored_input}
use Rattle.ao_run.specs.Gathered.{answer_in}
use Rattle.ao_run.specs.Obeys.{ChecksLines, Sides, check_end}
use Rattle.ao_run.proofs.AnswerLaws.{long_input, short_input}
use Rattle.ao_run.proofs.Facts.{Facts, Fewer, done_facts, judged_refused, judged_whole, memory_facts, past_output, past_refused, read_facts, refused_facts, write_facts}
use Rattle.ao_run.proofs.Given.{all_given, no_more}

-- a line is refused within the limit and past it
refused_within : (tables : List Table) (input : List ℕ) (n : ℕ) (kind : LineKind) → (stored_input input).fault ≡ Some (record { number = n; kind = kind }) → (answer_in Check tables input).status ≡ 4
refused_within tables input n kind is =
    past_refused (nat_lt 268435456 (length input)) (long_text Check input) (lines_checked tables (stored_input input))
    (judged_refused tables (stored_input input).stored (line_fault_line (record { number = n; kind = kind })) (option_map line_fault_line (stored_input input).fault)
    (ap (λ (fault : Option LineFault). option_map line_fault_line fault) is))

finish_is : (tables : List Table) (input : List ℕ) (i1 o0 o1 : Side) (amiss : Bool) → Finishes tables input i1 o0 o1 amiss →
    answer_in Check tables input ≡ done amiss (capture_run tables (stored_input input).stored)
finish_is tables input i1 o0 o1 amiss f =
    short_input Check tables input f.within
    ∙ (judged_whole tables (stored_input input).stored (option_map line_fault_line (stored_input input).fault) (ap (λ (fault : Option LineFault). option_map line_fault_line fault) f.faultless)
    ∙ ap (λ (x : Bool). done x (capture_run tables (stored_input input).stored)) (sym f.amiss_is))

-- the segments of all that was told begin with those of the lines read
lines_ahead : (given : List ℕ) (read : List (List ℕ)) (rest input : List ℕ) (side : Side) (before : Option (List ℕ)) → before ≡ Some input → Consumes before side.bytes given →
    HasRead given read rest side → (others : List Stored) × ((stored_input input).stored ≡ segments_of read ++ others)
lines_ahead given read rest input side before is consumes has = elim (has.follows) [
  | inl over ↦
      let all : given ≡ input = all_given before side.bytes given input consumes is over.1 in
      let front : given ≡ has.front = has.split ∙ (ap (λ (xs : List ℕ). has.front ++ xs) over.0 ∙ append-nil has.front) in
      let lines : lines_of input ≡ read = ap lines_of (sym all ∙ front) ∙ has.lines in
      ([], ap (λ (y : StoredInput). y.stored) (input_is input read lines) ∙ sym (append-nil (segments_of read)))
  | inr follows ↦
      let split : input ≡ given ++ told side.bytes = told_given before side.bytes given input is consumes in
      let lines : lines_of input ≡ read ++ lines_of (rest ++ told side.bytes) = ap lines_of split ∙ follows (told side.bytes) in
      let all = stored_append 1 (1 + length read) read (lines_of (rest ++ told side.bytes)) refl has.faultless in (
        (stored_from (1 + length read) (lines_of (rest ++ told side.bytes))).stored,
        ap (λ (y : StoredInput). y.stored) (input_is input (read ++ lines_of (rest ++ told side.bytes)) lines) ∙ ap (λ (y : StoredInput). y.stored) all,
      )
]

module _ (tables : List Table) (i : List ℕ) (i0 i1 o0 o1 : Side) where
  still_refused : (n : ℕ) (kind : LineKind) → Refuses tables i i1 o0 o1 n kind → (input : List ℕ) → i0.bytes ≡ Some input → Consumes i0.bytes i1.bytes i →
      (answer_in Check tables input).status ≡ 4
  still_refused n kind r input is consumes = elim (r.whatever) [
    | inl at_end ↦
        let same : i ≡ input = all_given i0.bytes i1.bytes i input consumes is at_end in
        refused_within tables input n kind (ap (λ (xs : List ℕ). (stored_input xs).fault) (sym same) ∙ r.fault)
    | inr whatever ↦
        refused_within tables input n kind
        (ap (λ (xs : List ℕ). (stored_input xs).fault) (told_given i0.bytes i1.bytes i input is consumes) ∙ (ap (λ (y : StoredInput). y.fault) (whatever (told i1.bytes)) ∙ r.fault))
  ]

  still_long : 268435456 < length i → (input : List ℕ) → i0.bytes ≡ Some input → Consumes i0.bytes i1.bytes i → (answer_in Check tables input).status ≡ 4
  still_long long input is consumes =
      let more = no_more i0.bytes i1.bytes i input consumes is in
      ap (λ (a : Answer). a.status) (long_input Check tables input refl (omega (arith, long, more)))

  fewer : Breaks tables i i1 o0 o1 → (input : List ℕ) → i0.bytes ≡ Some input → Consumes i0.bytes i1.bytes i → (answer_in Check tables input).status < 2 →
      Fewer (answer_in Check tables input).output o0 o1
  fewer br input is consumes small =
      let read : List (List ℕ) = br.read ++ br.last ∷ [] in
      let ahead = lines_ahead i read br.rest input i1 i0.bytes is consumes br.has_read in
      let output : (answer_in Check tables input).output ≡ capture_run tables (stored_input input).stored =
      past_output (nat_lt 268435456 (length input)) (long_text Check input) tables (stored_input input).stored (option_map line_fault_line (stored_input input).fault) small in
      let more = run_longer tables (segments_of read) ahead.0 in
      let size : length (answer_in Check tables input).output ≡ length (capture_run tables (segments_of read ++ ahead.0)) =
      ap length output ∙ ap (λ (xs : List Stored). length (capture_run tables xs)) ahead.1 in
      let cut : length (take br.n (written_of tables read)) ≤ length (written_of tables read) = grind (arith, length-take) in
      record { n = length (take br.n (written_of tables read)); few = omega (arith, more, size, cut); counts = br.wrote.counts }

  of_end : (end : Result Bool Halt) → Ends tables i i0 i1 o0 o1 end → Facts Check tables i i0 i1 o0 o1 (check_end end).0
  of_end (Ok amiss) f = done_facts Check tables i i0 i1 o0 o1 amiss (capture_run tables (stored_input i).stored) (finish_is tables i i1 o0 o1 amiss f) f.at_end f.wrote
  of_end (Err (halt.Line n kind)) f = refused_facts Check tables i i0 i1 o0 o1 (refused_within tables i n kind f.fault) (still_refused n kind f)
  of_end (Err (halt.Head fault)) f = absurd f
  of_end (Err (halt.Record n)) f = absurd f
  of_end (Err halt.TooLong) f = refused_facts Check tables i i0 i1 o0 o1 (ap (λ (a : Answer). a.status) (long_input Check tables i refl f.more)) (still_long f.more)
  of_end (Err halt.Read) f = read_facts Check tables i i0 i1 o0 o1 f.0
  of_end (Err halt.Write) f = write_facts Check tables i i0 i1 o0 o1 f.rose (fewer f)
  of_end (Err halt.Memory) f = memory_facts Check tables i i0 i1 o0 o1

-- with the end's own status, or without memory for its text
pub line_facts : (tables : List Table) (i : List ℕ) (b n : Sides) (status : ℕ) → ChecksLines tables i b n status → Facts Check tables i b.input n.input b.out n.out status
line_facts tables i b n status c = elim (c.ends) [
  | inl h ↦ rw h.0 (of_end tables i b.input n.input b.out n.out c.end c.judges.ends)
  | inr h ↦ rw h.1 (memory_facts Check tables i b.input n.input b.out n.out)
]
