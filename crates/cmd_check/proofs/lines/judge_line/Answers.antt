use Rattle.cmd_check.specs.CheckedLines.{segments_of}
use Rattle.cmd_check.proofs.LineSteps.{broken_line, empty_line, segment_line}
use Rattle.cmd_check.proofs.lines.judge_line.Goals as goal

pub returns-in-Ok-Empty : goal.returns-in-Ok-Empty
returns-in-Ok-Empty g c = λ lines at none heard.
    let said = rw c.in-Ok-Empty.field-0-is at (c.in-Ok-Empty.ensures c.args.number) in
    (c.requires, empty_line c.args.judge.now c.args.number lines c.args.line.now _ at said none heard)

pub returns-in-Ok-write_lines : goal.returns-in-Ok-write_lines
returns-in-Ok-write_lines g c = λ lines at none heard.
    let said = rw c.in-Ok-Segment.field-0-is at (c.in-Ok-Segment.ensures c.args.number) in
    let gathers = rw (c.from-number.ensures, c.as_slice.ensures, c.requires) at (c.in-Ok.ensures.gathers (segments_of lines) heard) in
    let written = c.in-Ok-write_lines.ensures in
    (written.none, segment_line c.args.judge.now c.hear.new.self c.args.number lines c.args.line.now _ _ _ _ _ _ at said none gathers written)

pub returns-in-Ok-Segment : goal.returns-in-Ok-Segment
returns-in-Ok-Segment g c = λ lines at none heard.
    let said = rw c.in-Ok-Segment.field-0-is at (c.in-Ok-Segment.ensures c.args.number) in
    let gathers = rw (c.from-number.ensures, c.as_slice.ensures, c.requires) at (c.in-Ok.ensures.gathers (segments_of lines) heard) in
    broken_line c.args.judge.now c.hear.new.self c.args.number lines c.args.line.now _ _ _ _ _ at said none gathers c.in-Err-write_lines.ensures
