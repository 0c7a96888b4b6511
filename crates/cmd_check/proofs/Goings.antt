-- A check of lines as it goes on, and how it ends.
use Rattle.std.proofs.Common.{◌≡◌, inl, inr, ℕ, ◌+◌, ◌-◌, ◌<◌, ◌≤◌, nat_lt, Bool, true, false, List, [], ◌∷◌, ◌++◌, length, Some, None, Ok, Err, refl, sym, ap, ◌∙◌, append_assoc, arith}
use Rattle.std.proofs.lemmas.Bool.Decides.{nat_tests}
use Rattle.std.proofs.lemmas.List.{append-nil, length-append}
use Rattle.book_lines.specs.declared.line_kind.LineKind.TheVariants.{Range}
use Rattle.book_base.specs.Lines.{lines_of}
use Rattle.ao_base.specs.Outside.{Side, Gave, WasWritten, IsAtEnd}
use Rattle.ao_base.proofs.Sides.{gave_more, gave_none, rose_after, took_none}
use Rattle.book_keys.specs.Rows.{Table}
use Rattle.ao_base.specs.declared.reader.LineStep.{LineStep}
use Rattle.ao_base.specs.declared.reader.LineStep.TheVariants as step
use Rattle.ao_base.specs.Reads.{Advances, IsLong, Reading, Stops as StopsReading}
use Rattle.ao_base.proofs.Newlines.{longer}
use Rattle.ao_base.proofs.Showing.{HasShown, shown_none, shown_still}
use Rattle.book_cmd_check.specs.StoredLines.{StoredInput, stored_from, stored_input, stored_line}
use Rattle.cmd_check.specs.CheckedLines.{Checks, HasRead, Stops, segments_of, written_of}
use Rattle.cmd_check.specs.Judges.{HasHeard, Judging}
use Rattle.cmd_check.specs.declared.halt.Halt.TheVariants as halt
use Rattle.cmd_check.proofs.RunLaws.{input_is, line_refused, run_none}
use Rattle.book_base.proofs.TestLaws.{either}

-- between two lines: these were read, none of them faulty, and the lines of their segments were written
pub record Going (tables : List Table) (reading : Reading) (judging : Judging) (number : ℕ) (given : List ℕ) (read : List (List ℕ)) (source_before source_now out_before out_now : Side) : Type 0 where
  pub gave : Gave given source_before source_now
  pub shown : HasShown reading given read
  pub faultless : (stored_from 1 read).fault ≡ None
  pub tables_same : judging.checking.tables ≡ tables
  pub heard : HasHeard judging (segments_of read)
  pub wrote : WasWritten (written_of tables read) out_before out_now
  pub counted : number ≡ length read
  pub longest : reading.longest ≡ 131200
  pub most : reading.most ≡ 268435456
  pub going : reading.over ≡ false
  pub newline : reading.lacks_newline ≡ false
  pub within : reading.taken - length reading.kept ≤ 268435456

pub going_none : (tables : List Table) (reading : Reading) (judging : Judging) (source out : Side) → reading ≡ record { longest = 131200; most = 268435456; kept = []; taken = 0; lacks_newline = false; over = false; line = None } →
    judging.checking.tables ≡ tables → HasHeard judging [] → Going tables reading judging 0 [] [] source source out out
going_none tables reading judging source out is same heard = rw is (record {
  gave = gave_none source;
  shown = shown_none _ refl refl;
  faultless = refl;
  tables_same = same;
  heard = heard;
  wrote = rw (run_none tables) (took_none out);
  counted = refl;
  longest = refl;
  most = refl;
  going = refl;
  newline = refl;
  within = omega arith;
})

neither : (b : Bool) → b ≡ false → b ≡ true → ⊥
neither b f t = absurd (cc)

too_long : (n : ℕ) (line : List ℕ) → 131200 < length line → stored_line n line ≡ Err Range
unfolding stored_line
too_long n line long = let over : nat_lt 131200 (length line) ≡ true = grind (arith, nat_tests) in rw over refl

-- what was read, by what the reader has shown
pub has_read : (reading : Reading) (given : List ℕ) (read : List (List ℕ)) (source : Side) → HasShown reading given read → (reading.lacks_newline ≡ true → IsAtEnd source) →
    (stored_from 1 read).fault ≡ None → HasRead given read reading.kept source
has_read reading given read source shown at_end faultless = record {
  front = shown.front;
  split = shown.split;
  lines = shown.lines;
  follows = elim (either reading.lacks_newline) [
    | inl ended ↦ inl (shown.last ended, at_end ended)
    | inr still ↦ inr (λ more. ap (λ (xs : List ℕ). lines_of (xs ++ more)) shown.split ∙ (ap lines_of (append_assoc shown.front reading.kept more) ∙ shown.behind still (reading.kept ++ more)))
  ];
  faultless = faultless;
}

pub no_lines : (read : List (List ℕ)) (rest : List ℕ) → rest ≡ [] → read ++ lines_of rest ≡ read
unfolding lines_of
no_lines read rest none = rw none (append-nil read)

-- all the lines of what was given
pub lines_then : (reading : Reading) (given : List ℕ) (read : List (List ℕ)) → HasShown reading given read → (lines_of given ≡ read ++ lines_of reading.kept)
lines_then reading given read shown = elim (either reading.lacks_newline) [
  | inl ended ↦
      let none : reading.kept ≡ [] = shown.last ended in
      ap lines_of (shown.split ∙ (ap (λ (xs : List ℕ). shown.front ++ xs) none ∙ append-nil shown.front)) ∙ (shown.lines ∙ sym (no_lines read reading.kept none))
  | inr still ↦ ap lines_of shown.split ∙ shown.behind still reading.kept
]

module _ (tables : List Table) (reader now : Reading) (judge : Judging) (number : ℕ) (given more : List ℕ) (read : List (List ℕ)) (ib i0 i1 ob on : Side)
    (going : Going tables reader judge number given read ib i0 ob on) where
  gives : {s : LineStep} → Advances reader now i0 i1 more s → Gave (given ++ more) ib i1
  gives advances = gave_more given more ib i0 i1 going.gave advances.gave

  module _ (s : LineStep) (advances : Advances reader now i0 i1 more s) (stops : StopsReading reader now more) where
    still : HasShown now (given ++ more) read
    still = shown_still reader now i0 i1 more given read s going.shown going.newline advances stops

    read_still : HasRead (given ++ more) read now.kept i1
    read_still = has_read now (given ++ more) read i1 still (λ lacks. absurd (neither now.lacks_newline (stops.lacks_newline ∙ going.newline) lacks)) going.faultless

    bounded : length (given ++ more) ≤ 268435456 + 196736
    bounded =
        let total : now.taken ≡ length (given ++ more) = still.taken in
        let kept : length now.kept ≡ length reader.kept + length more = ap (λ (xs : List ℕ). length xs) stops.kept ∙ length-append reader.kept more in
        let taken = advances.taken in
        let within = going.within in
        let bound = advances.bound in
        let long = going.longest in
        omega arith

    pub stopped : (stops : Stops tables (given ++ more) i1 ob on) × (length stops.has_read.front ≤ 268435456)
    stopped =
        let has = read_still in
        let split : length (given ++ more) ≡ length has.front + length now.kept = ap (λ (xs : List ℕ). length xs) has.split ∙ length-append has.front now.kept in
        let whole : length (given ++ more) ≡ length given + length more = length-append given more in
        let kept : length now.kept ≡ length reader.kept + length more = ap (λ (xs : List ℕ). length xs) stops.kept ∙ length-append reader.kept more in
        let taken = going.shown.taken in
        let within = going.within in
        let bound = advances.bound in
        let long = going.longest in
        (record { read = read; rest = now.kept; has_read = has; few = omega arith; wrote = going.wrote }, omega arith)

  pub fault_ends : Advances reader now i0 i1 more step.Fault → Checks tables (given ++ more) ib i1 ob on (Err halt.Read)
  fault_ends advances = record {
    gave = gives advances;
    few = bounded step.Fault advances advances.answers.0;
    ends = (rose_after (length given) ib i0 i1 going.gave.counts advances.answers.1, (stopped step.Fault advances advances.answers.0).0);
  }

  pub long_ends : Advances reader now i0 i1 more step.TooLong → Checks tables (given ++ more) ib i1 ob on (Err halt.TooLong)
  long_ends advances = record {
    gave = gives advances;
    few = bounded step.TooLong advances advances.answers.0;
    ends = record {
      more = (let taken = (still step.TooLong advances advances.answers.0).taken in let most = going.most in let over = advances.answers.1 in omega arith);
      stops = (stopped step.TooLong advances advances.answers.0).0;
      within = (stopped step.TooLong advances advances.answers.0).1;
    };
  }

  all_lines : Advances reader now i0 i1 more step.End → lines_of (given ++ more) ≡ read
  unfolding lines_of
  all_lines advances =
      lines_then now (given ++ more) read (still step.End advances advances.answers.0) ∙ (ap (λ (xs : List ℕ). read ++ lines_of xs) advances.answers.1.all ∙ append-nil read)

  pub end_ends : Advances reader now i0 i1 more step.End → Checks tables (given ++ more) ib i1 ob on (Ok judge.amiss)
  end_ends advances =
      let input : stored_input (given ++ more) ≡ stored_from 1 read = input_is (given ++ more) read (all_lines advances) in
      let taken = (still step.End advances advances.answers.0).taken in
      let most = going.most in
      let within = advances.answers.1.most in
      record {
        gave = gives advances;
        few = bounded step.End advances advances.answers.0;
        ends = record {
          at_end = advances.answers.1.at_end;
          within = omega arith;
          faultless = ap (λ (i : StoredInput). i.fault) input ∙ going.faultless;
          amiss_is = rw (input, ← going.tables_same) going.heard.amiss;
          wrote = rw input going.wrote;
        };
      }

  -- the first of lines is too long
  first_long : (xs : List (List ℕ)) (n : ℕ) → IsLong 131200 xs → (line : List ℕ) × (others : List (List ℕ)) × (xs ≡ line ∷ others) × (stored_line n line ≡ Err Range)
  first_long [] n long = absurd long
  first_long (line ∷ others) n long = (line, others, refl, too_long n line long)

  pub long_line_ends : Advances reader now i0 i1 more step.LongLine → Checks tables (given ++ more) ib i1 ob on (Err (halt.Line (number + 1) Range))
  long_line_ends advances =
      let kept = still step.LongLine advances advances.answers.0 in
      let open_still : now.lacks_newline ≡ false = advances.answers.0.lacks_newline ∙ going.newline in
      let long : IsLong 131200 (lines_of now.kept) = rw going.longest at advances.answers.1 in
      let at : number + 1 ≡ length read + 1 = rw going.counted refl in
      let whole : (tail : List ℕ) → stored_input ((given ++ more) ++ tail) ≡ record { stored = segments_of read; fault = Some (record { number = number + 1; kind = Range }) } =
      λ tail.
      let first = first_long (lines_of (now.kept ++ tail)) (number + 1) (longer 131200 now.kept tail long) in
      let lines : lines_of ((given ++ more) ++ tail) ≡ read ++ first.0 ∷ first.1 =
      ap (λ (xs : List ℕ). lines_of (xs ++ tail)) kept.split ∙ (ap lines_of (append_assoc kept.front now.kept tail) ∙ (kept.behind open_still (now.kept ++ tail) ∙ ap (λ (xs : List (List ℕ)). read ++ xs) first.2)) in
      input_is ((given ++ more) ++ tail) (read ++ first.0 ∷ first.1) lines ∙ line_refused (number + 1) read first.1 first.0 Range at first.3 going.faultless in
      let here : stored_input (given ++ more) ≡ record { stored = segments_of read; fault = Some (record { number = number + 1; kind = Range }) } =
      ap stored_input (sym (append-nil (given ++ more))) ∙ whole [] in
      let count : length (lines_of kept.front) ≡ length read = ap length kept.lines in
      let bound = advances.bound in
      let longest = going.longest in
      record {
        gave = gives advances;
        few = bounded step.LongLine advances advances.answers.0;
        ends = record {
          front = kept.front;
          rest = now.kept;
          split = kept.split;
          lines = let counted = going.counted in omega arith;
          few = omega arith;
          fault = ap (λ (i : StoredInput). i.fault) here;
          wrote = rw here going.wrote;
          whatever = inr (λ tail. whole tail ∙ sym here);
        };
      }

-- nothing was read or written
pub nothing_ends : (tables : List Table) (source out : Side) → Checks tables [] source source out out (Err halt.Memory)
unfolding lines_of
nothing_ends tables source out = record {
  gave = gave_none source;
  few = omega arith;
  ends = record {
    read = [];
    rest = [];
    has_read = record { front = []; split = refl; lines = refl; follows = inr (λ more. refl); faultless = refl };
    few = omega arith;
    wrote = rw (run_none tables) (took_none out);
  };
}
