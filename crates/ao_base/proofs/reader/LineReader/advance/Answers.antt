use Rattle.std.proofs.Common.{ap, ◌∙◌}
use Rattle.ao_base.proofs.Newlines.{within}
use Rattle.ao_base.proofs.Calls.{line_call, long_call}
use Rattle.ao_base.proofs.reader.LineReader.advance.Goals as goal

pub past_line-past-requires : goal.past_line-past-requires
past_line-past-requires g c = rw (c.kept.ensures.value, c.in-Line.ensures.1.found.0) (within c.find_line.new.buffer.kept)

pub pass-requires-clause-within : goal.pass-requires-clause-within
pass-requires-clause-within g c = rw c.in-Line.ensures.1.found.0 (within c.find_line.new.buffer.kept)

pub returns-in-Line : goal.returns-in-Line
returns-in-Line g c =
    let over = ap (λ r. r.over) c.self.view_is ∙ c.requires in
    let past = rw c.kept.ensures.value at c.past_line-past.ensures.place in (
      c.in-Line.ensures.0,
      rw (← c.self.view_is, c.pass.ensures)
          (line_call c.self.inside.longest c.self.inside.most c.self.inside.handed c.past_line-past.result c.in-Line.len c.self.inside.shown c.self.inside.lacks_newline c.self.inside.over c.self.inside.buffer c.find_line.new.buffer
          _ _ c.in-Line.ensures.0 over c.self.invariant.0 c.self.invariant.1 past c.in-Line.ensures.1),
    )

pub returns-in-LongLine : goal.returns-in-LongLine
returns-in-LongLine g c = (
  c.in-LongLine.ensures.0,
  rw (← c.self.view_is, c.stop-in-LongLine.ensures.step, c.stop-in-LongLine.ensures.over)
      (long_call c.self.inside.longest c.self.inside.most c.self.inside.handed c.self.inside.shown c.self.inside.lacks_newline c.self.inside.over c.self.inside.buffer c.find_line.new.buffer
      _ _ c.in-LongLine.ensures.0 c.self.invariant.1 c.in-LongLine.ensures.1),
)
