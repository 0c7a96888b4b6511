use Rattle.std.proofs.Common.{◌≡◌, ◌+◌, List, [], ◌∷◌, ◌++◌, length, Err, refl, subst, sym, ◌∙◌, arith}
use Rattle.book_keys.specs.Rows.{Table}
use Rattle.cmd_check.specs.CheckedLines.{JudgesLine}
use Rattle.cmd_check.proofs.Goings.{end_ends, fault_ends, going_none, long_ends, long_line_ends}
use Rattle.cmd_check.proofs.LineEnds.{err_ends, goes, last_ends, shows_of, smaller}
use Rattle.cmd_check.proofs.lines.check_all.Goals as goal

pub lines-init : goal.lines-init
lines-init g c = ([], [], going_none c.args.judge.now.checking.tables c.args.reader.now c.args.judge.now _ _ c.requires.reader refl c.requires.heard, c.requires.gathered)

pub returns-in-End : goal.returns-in-End
returns-in-End g c =
    let more = c.in-End.ensures.advances in (
      c.lines.invariant.0 ++ more.0,
      rw c.is_amiss.ensures (end_ends c.args.judge.now.checking.tables c.lines.reader c.next.new.self c.lines.judge c.lines.number c.lines.invariant.0 more.0 c.lines.invariant.1 _ _ _ _ _ c.lines.invariant.2 more.1),
    )

pub returns-in-Fault : goal.returns-in-Fault
returns-in-Fault g c =
    let more = c.in-Fault.ensures.advances in (
      c.lines.invariant.0 ++ more.0,
      fault_ends c.args.judge.now.checking.tables c.lines.reader c.next.new.self c.lines.judge c.lines.number c.lines.invariant.0 more.0 c.lines.invariant.1 _ _ _ _ _ c.lines.invariant.2 more.1,
    )

pub returns-in-TooLong : goal.returns-in-TooLong
returns-in-TooLong g c =
    let more = c.in-TooLong.ensures.advances in (
      c.lines.invariant.0 ++ more.0,
      long_ends c.args.judge.now.checking.tables c.lines.reader c.next.new.self c.lines.judge c.lines.number c.lines.invariant.0 more.0 c.lines.invariant.1 _ _ _ _ _ c.lines.invariant.2 more.1,
    )

pub returns-in-LongLine : goal.returns-in-LongLine
returns-in-LongLine g c =
    let more = c.in-LongLine.ensures.advances in (
      c.lines.invariant.0 ++ more.0,
      long_line_ends c.args.judge.now.checking.tables c.lines.reader c.next.new.self c.lines.judge c.lines.number c.lines.invariant.0 more.0 c.lines.invariant.1 _ _ _ _ _ c.lines.invariant.2 more.1,
    )

pub lines-smaller : goal.lines-smaller
lines-smaller g c =
    let more = c.in-Line.ensures.advances in
    let shows = shows_of c.lines.reader c.next.new.self _ _ more.0 c.line.result.now more.1 c.line.ensures in
    smaller c.args.judge.now.checking.tables c.lines.reader c.next.new.self c.lines.judge c.lines.number c.lines.invariant.0 more.0 c.line.result.now c.lines.invariant.1 _ _ _ _ _ (g.O.Sink.side c.lines.out) c.lines.invariant.2 more.1 shows

pub lines-preserved : goal.lines-preserved
lines-preserved g c =
    let more = c.in-Line.ensures.advances in
    let going = c.lines.invariant.2 in
    let shows = shows_of c.lines.reader c.next.new.self _ _ more.0 c.line.result.now more.1 c.line.ensures in
    let counted = going.counted in
    let at : c.lines.number + 1 ≡ length c.lines.invariant.1 + 1 = omega arith in
    let judged = rw going.tables_same at (c.in-Ok.ensures c.lines.invariant.1 at going.faultless going.heard) in
    let newline = sym c.lacks_newline.ensures ∙ c.if-lacks_newline.false in (
      c.lines.invariant.0 ++ more.0,
      c.lines.invariant.1 ++ c.line.result.now ∷ [],
      goes c.args.judge.now.checking.tables c.lines.reader c.next.new.self c.lines.judge c.lines.number c.lines.invariant.0 more.0 c.line.result.now c.lines.invariant.1 _ _ _ _ _ _ going more.1 shows c.judge_line.new.judge newline judged.1,
      judged.0,
    )

pub returns-in-Err : goal.returns-in-Err
returns-in-Err g c =
    let more = c.in-Line.ensures.advances in
    let going = c.lines.invariant.2 in
    let shows = shows_of c.lines.reader c.next.new.self _ _ more.0 c.line.result.now more.1 c.line.ensures in
    let counted = going.counted in
    let at : c.lines.number + 1 ≡ length c.lines.invariant.1 + 1 = omega arith in
    let told : JudgesLine c.lines.judge.checking.tables c.judge_line.new.judge c.lines.invariant.1 c.line.result.now c.judge_line.new.gathered.items (g.O.Sink.side c.lines.out) (g.O.Sink.side c.judge_line.new.out) (Err c.in-Err.halt) =
    c.in-Err.ensures c.lines.invariant.1 at going.faultless going.heard in
    let judged : JudgesLine c.args.judge.now.checking.tables c.judge_line.new.judge c.lines.invariant.1 c.line.result.now c.judge_line.new.gathered.items (g.O.Sink.side c.lines.out) (g.O.Sink.side c.judge_line.new.out) (Err c.in-Err.halt) =
    subst (λ (tables : List Table). JudgesLine tables c.judge_line.new.judge c.lines.invariant.1 c.line.result.now c.judge_line.new.gathered.items (g.O.Sink.side c.lines.out) (g.O.Sink.side c.judge_line.new.out) (Err c.in-Err.halt)) going.tables_same told in (
      c.lines.invariant.0 ++ more.0,
      err_ends c.args.judge.now.checking.tables c.lines.reader c.next.new.self c.lines.judge c.lines.number c.lines.invariant.0 more.0 c.line.result.now c.lines.invariant.1 _ _ _ _ _ _ going more.1 shows c.judge_line.new.judge c.in-Err.halt c.judge_line.new.gathered.items judged,
    )

pub returns-then-lacks_newline : goal.returns-then-lacks_newline
returns-then-lacks_newline g c =
    let more = c.in-Line.ensures.advances in
    let going = c.lines.invariant.2 in
    let shows = shows_of c.lines.reader c.next.new.self _ _ more.0 c.line.result.now more.1 c.line.ensures in
    let counted = going.counted in
    let at : c.lines.number + 1 ≡ length c.lines.invariant.1 + 1 = omega arith in
    let judged = rw going.tables_same at (c.in-Ok.ensures c.lines.invariant.1 at going.faultless going.heard) in
    let lacks = sym c.lacks_newline.ensures ∙ c.if-lacks_newline.true in (
      c.lines.invariant.0 ++ more.0,
      rw c.is_amiss-then-lacks_newline.ensures (last_ends c.args.judge.now.checking.tables c.lines.reader c.next.new.self c.lines.judge c.lines.number c.lines.invariant.0 more.0 c.line.result.now c.lines.invariant.1 _ _ _ _ _ _ going more.1 shows c.judge_line.new.judge lacks judged.1),
    )
