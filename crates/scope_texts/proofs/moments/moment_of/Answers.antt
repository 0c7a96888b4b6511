use Rattle.std.proofs.Common.{◌∙◌}
use Rattle.book_scope_texts.specs.Moments.{moment_digits}
use Rattle.scope_texts.proofs.MomentLaws.{is_time, no_time}
use Rattle.scope_texts.proofs.moments.moment_of.Goals as goal

pub returns-in-Some : goal.returns-in-Some
returns-in-Some c =
    is_time c.args.offset (moment_digits c.args.date c.args.time) c.as_slice.result.now c.read_instant.result c.in_utc.result c.in-Some.seconds
    c.in-Some.is c.read_instant.ensures (c.as_slice.ensures ∙ c.moment_digits.ensures) c.in_utc.ensures

pub returns-in-None : goal.returns-in-None
returns-in-None c =
    no_time c.args.offset (moment_digits c.args.date c.args.time) c.as_slice.result.now c.read_instant.result
    c.in-None.is c.read_instant.ensures (c.as_slice.ensures ∙ c.moment_digits.ensures)
