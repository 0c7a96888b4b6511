-- A check of lines with one more line read: it goes on, or ends there.
use Rattle.std.proofs.Common.{◌≡◌, inl, inr, ℕ, suc, ◌+◌, ◌-◌, ◌<◌, ◌≤◌, Bool, true, false, List, [], ◌∷◌, ◌++◌, length, take, Option, Some, Ok, Err, refl, sym, ap, subst, ◌∙◌, append_assoc, arith}
use Rattle.std.proofs.lemmas.List.{append-nil, length-append}
use Rattle.book_lines.specs.declared.line_kind.LineKind.{LineKind}
use Rattle.book_base.specs.Lines.{lines_of}
use Rattle.ao_base.specs.Outside.{Side, Gave, WasWritten, IsAtEnd}
use Rattle.ao_base.proofs.Sides.{gave_more, rose_after, took_more}
use Rattle.book_keys.specs.Rows.{Table}
use Rattle.ao_base.specs.declared.reader.LineStep.TheVariants as step
use Rattle.ao_base.specs.Reads.{Advances, IsCut, Reading, Shows}
use Rattle.ao_base.proofs.Showing.{HasShown, shown_more}
use Rattle.book_cmd_check.specs.StoredLines.{StoredInput, stored_from, stored_input, stored_line}
use Rattle.cmd_check.specs.CheckedLines.{BreaksLine, Checks, HasRead, JudgedLine, JudgesLine, segments_of, written_of}
use Rattle.cmd_check.specs.declared.halt.Halt.{Halt}
use Rattle.cmd_check.specs.Judges.{Judging}
use Rattle.cmd_check.specs.declared.halt.Halt.TheVariants as halt
use Rattle.cmd_check.proofs.Goings.{Going, has_read, lines_then, no_lines}
use Rattle.book_base.proofs.TestLaws.{either}
use Rattle.cmd_check.proofs.RunLaws.{input_is, line_refused}

end_of : (text line rest : List ℕ) (b : Bool) (side : Side) → b ≡ true → IsCut text line rest b side → IsAtEnd side
end_of text line rest true side is cut = cut.3
end_of text line rest false side is cut = absurd (cc)

-- a line is taken out of the text
cut_length : (text line rest : List ℕ) (b : Bool) (side : Side) → IsCut text line rest b side → length rest < length text
cut_length text line rest false side cut =
    let size : length text ≡ length line + suc (length rest) = ap (λ (xs : List ℕ). length xs) cut ∙ length-append line (10 ∷ rest) in
    omega arith
cut_length text line rest true side cut =
    let size : length text ≡ length line = ap (λ (xs : List ℕ). length xs) cut.0 in
    let none : length rest ≡ 0 = ap (λ (xs : List ℕ). length xs) cut.1 in
    let some = cut.2 in
    omega arith

-- a part of what stands behind
take_behind : (xs ys : List ℕ) (n : ℕ) → take (length xs + n) (xs ++ ys) ≡ xs ++ take n ys
take_behind [] ys n = let same : 0 + n ≡ n = omega arith in rw same refl
take_behind (x ∷ xs) ys n = let same : length (x ∷ xs) + n ≡ suc (length xs + n) = omega arith in rw same (ap (λ (l : List ℕ). x ∷ l) (take_behind xs ys n))

module _ (tables : List Table) (reader now : Reading) (judge : Judging) (number : ℕ) (given more line : List ℕ) (read : List (List ℕ)) (ib i0 i1 ob o0 o1 : Side)
    (going : Going tables reader judge number given read ib i0 ob o0) (advances : Advances reader now i0 i1 more step.Line) (shows : Shows reader now i1 more line) where
  more_shown : HasShown now (given ++ more) (read ++ line ∷ [])
  more_shown = shown_more reader now i0 i1 more given line read going.shown going.newline advances shows

  end_now : now.lacks_newline ≡ true → IsAtEnd i1
  end_now ended = end_of (reader.kept ++ more) line now.kept now.lacks_newline i1 ended shows.cut

  all_length : length (given ++ more) ≡ length (more_shown.front) + length now.kept
  all_length = ap length more_shown.split ∙ length-append more_shown.front now.kept

  front_within : length (more_shown.front) ≤ 268435456
  front_within =
      let all = all_length in
      let taken = more_shown.taken in
      let within = shows.within in
      let most = going.most in
      omega arith

  few_now : length (given ++ more) ≤ 268435456 + 196736
  few_now =
      let all = all_length in
      let front = front_within in
      let bound = advances.bound in
      let long = going.longest in
      omega arith

  gives : Gave (given ++ more) ib i1
  gives = gave_more given more ib i0 i1 going.gave advances.gave

  unwritten : WasWritten [] o0 o1 → WasWritten (written_of tables read) ob o1
  unwritten none = let same : written_of tables read ++ [] ≡ written_of tables read = append-nil (written_of tables read) in rw same at (took_more (written_of tables read) [] ob o0 o1 going.wrote none)

  written_now : (after : Judging) → JudgedLine tables after read line o0 o1 → WasWritten (written_of tables (read ++ line ∷ [])) ob o1
  written_now after judged = rw judged.whole (took_more (written_of tables read) judged.text ob o0 o1 going.wrote judged.wrote)

  pub goes : (after : Judging) → now.lacks_newline ≡ false → JudgedLine tables after read line o0 o1 → Going tables now after (number + 1) (given ++ more) (read ++ line ∷ []) ib i1 ob o1
  goes after newline judged =
      let count : length (read ++ line ∷ []) ≡ length read + 1 = length-append read (line ∷ []) in
      let counted = going.counted in
      record {
        gave = gives;
        shown = more_shown;
        faultless = judged.faultless;
        tables_same = judged.tables_same;
        heard = judged.heard;
        wrote = written_now after judged;
        counted = omega arith;
        longest = advances.longest ∙ going.longest;
        most = advances.most ∙ going.most;
        going = shows.going;
        newline = newline;
        within = let within = shows.within in let most = going.most in omega arith;
      }

  -- a line without a newline is the last one
  pub last_ends : (after : Judging) → now.lacks_newline ≡ true → JudgedLine tables after read line o0 o1 → Checks tables (given ++ more) ib i1 ob o1 (Ok after.amiss)
  last_ends after lacks judged =
      let none : now.kept ≡ [] = more_shown.last lacks in
      let lines : lines_of (given ++ more) ≡ read ++ line ∷ [] = lines_then now (given ++ more) (read ++ line ∷ []) more_shown ∙ no_lines (read ++ line ∷ []) now.kept none in
      let input : stored_input (given ++ more) ≡ stored_from 1 (read ++ line ∷ []) = input_is (given ++ more) (read ++ line ∷ []) lines in
      let kept : length now.kept ≡ 0 = ap length none in
      let taken = more_shown.taken in
      let within = shows.within in
      let most = going.most in
      record {
        gave = gives;
        few = few_now;
        ends = record {
          at_end = end_now lacks;
          within = omega arith;
          faultless = ap (λ (i : StoredInput). i.fault) input ∙ judged.faultless;
          amiss_is = rw (input, ← judged.tables_same) judged.heard.amiss;
          wrote = rw input (written_now after judged);
        };
      }

  read_before : HasRead (given ++ more) read (reader.kept ++ more) i1
  read_before =
      let split : given ++ more ≡ going.shown.front ++ (reader.kept ++ more) = ap (λ (xs : List ℕ). xs ++ more) going.shown.split ∙ append_assoc going.shown.front reader.kept more in
      record {
        front = going.shown.front;
        split = split;
        lines = going.shown.lines;
        follows = inr (λ tail. ap (λ (xs : List ℕ). lines_of (xs ++ tail)) split ∙ (ap lines_of (append_assoc going.shown.front (reader.kept ++ more) tail) ∙ going.shown.behind going.newline ((reader.kept ++ more) ++ tail)));
        faultless = going.faultless;
      }

  pub memory_ends : WasWritten [] o0 o1 → Checks tables (given ++ more) ib i1 ob o1 (Err halt.Memory)
  memory_ends none =
      let held = advances.held in
      let long = going.longest in
      record { gave = gives; few = few_now; ends = record { read = read; rest = reader.kept ++ more; has_read = read_before; few = omega arith; wrote = unwritten none } }

  pub refused_ends : (n : ℕ) (kind : LineKind) → n ≡ length read + 1 → stored_line n line ≡ Err kind → WasWritten [] o0 o1 → Checks tables (given ++ more) ib i1 ob o1 (Err (halt.Line n kind))
  refused_ends n kind at is none =
      let then : (others : List (List ℕ)) → (read ++ line ∷ []) ++ others ≡ read ++ line ∷ others = λ others. append_assoc read (line ∷ []) others in
      let refused : (text : List ℕ) (others : List (List ℕ)) → lines_of text ≡ (read ++ line ∷ []) ++ others → stored_input text ≡ record { stored = segments_of read; fault = Some (record { number = n; kind = kind }) } =
      λ text others lines. input_is text (read ++ line ∷ others) (lines ∙ then others) ∙ line_refused n read others line kind at is going.faultless in
      let here : stored_input (given ++ more) ≡ record { stored = segments_of read; fault = Some (record { number = n; kind = kind }) } =
      refused (given ++ more) (lines_of now.kept) (lines_then now (given ++ more) (read ++ line ∷ []) more_shown) in
      let count : length (lines_of (more_shown.front)) ≡ length read + 1 = ap length more_shown.lines ∙ length-append read (line ∷ []) in
      let bound = advances.bound in
      let long = going.longest in
      record {
        gave = gives;
        few = few_now;
        ends = record {
          front = more_shown.front;
          rest = now.kept;
          split = more_shown.split;
          lines = omega arith;
          few = omega arith;
          fault = ap (λ (i : StoredInput). i.fault) here;
          wrote = rw here (unwritten none);
          whatever = elim (either now.lacks_newline) [
            | inl ended ↦ inl (end_now ended)
            | inr open_still ↦ inr (λ tail. refused ((given ++ more) ++ tail) (lines_of (now.kept ++ tail))
                (ap (λ (xs : List ℕ). lines_of (xs ++ tail)) more_shown.split ∙ (ap lines_of (append_assoc more_shown.front now.kept tail) ∙ more_shown.behind open_still (now.kept ++ tail))) ∙ sym here)
          ];
        };
      }

  pub broken_ends : BreaksLine tables read line o0 o1 → Checks tables (given ++ more) ib i1 ob o1 (Err halt.Write)
  broken_ends b =
      let written : List ℕ = written_of tables read in
      let size : length (written_of tables (read ++ line ∷ [])) ≡ length written + length b.text = ap length b.whole ∙ length-append written b.text in
      let less = b.less in
      let bound = advances.bound in
      let long = going.longest in
      let cut : take (length written + b.n) (written_of tables (read ++ line ∷ [])) ≡ written ++ take b.n b.text = ap (λ (xs : List ℕ). take (length written + b.n) xs) b.whole ∙ take_behind written b.text b.n in
      record {
        gave = gives;
        few = few_now;
        ends = record {
          read = read;
          last = line;
          rest = now.kept;
          segment = b.segment;
          n = length written + b.n;
          has_read = has_read now (given ++ more) (read ++ line ∷ []) i1 more_shown end_now b.faultless;
          few = omega arith;
          of_last = b.of_line;
          all_before = omega arith;
          not_all = omega arith;
          wrote = rw cut (took_more written (take b.n b.text) ob o0 o1 going.wrote b.wrote);
          rose = rose_after (length written) ob o0 o1 going.wrote.counts b.rose;
        };
      }

  pub err_ends : (after : Judging) (why : Halt) (gathered : List ℕ) → JudgesLine tables after read line gathered o0 o1 (Err why) → Checks tables (given ++ more) ib i1 ob o1 (Err why)
  err_ends after (halt.Line n kind) gathered judged = refused_ends n kind judged.0 judged.1 judged.2
  err_ends after (halt.Head fault) gathered judged = absurd judged
  err_ends after (halt.Record n) gathered judged = absurd judged
  err_ends after halt.TooLong gathered judged = absurd judged
  err_ends after halt.Read gathered judged = absurd judged
  err_ends after halt.Write gathered judged = broken_ends judged
  err_ends after halt.Memory gathered judged = memory_ends judged

  -- more of the limit is used up
  pub smaller : 268435456 - (now.taken - length now.kept) < 268435456 - (reader.taken - length reader.kept)
  smaller =
      let grown = cut_length (reader.kept ++ more) line now.kept now.lacks_newline i1 shows.cut in
      let kept = length-append reader.kept more in
      let total : reader.taken ≡ length given = going.shown.taken in
      let split : length given ≡ length (going.shown.front) + length reader.kept = ap (λ (xs : List ℕ). length xs) going.shown.split ∙ length-append going.shown.front reader.kept in
      let taken = advances.taken in
      let within = shows.within in
      let most = going.most in
      omega arith

-- the line that is shown
pub shows_of : (before now : Reading) (a b : Side) (given line : List ℕ) → Advances before now a b given step.Line → now.line ≡ Some line → Shows before now b given line
shows_of before now a b given line advances is =
    let same : ◌≡◌ {A = Option (List ℕ)} (Some (advances.answers.0)) (Some line) = sym (advances.answers.1.shown) ∙ is in
    let plain : advances.answers.0 ≡ line = cc same in
    subst (λ (xs : List ℕ). Shows before now b given xs) plain advances.answers.1
