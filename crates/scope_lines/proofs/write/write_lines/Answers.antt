use Rattle.std.proofs.Common.{[], refl}
use Rattle.scope_lines.proofs.Walk.{ends_none, lines_of}
use Rattle.scope_lines.proofs.write.write_lines.Goals as goal

pub returns-in-Err : goal.returns-in-Err
returns-in-Err g c = ([], ends_none _ _)

pub walk-requires : goal.walk-requires
walk-requires g c = c.in-Ok.ensures

pub returns : goal.returns
returns g c =
    let walked = c.walk.ensures tt tt refl in
    (walked.0, rw c.ended.ensures (lines_of _ _ _ _ _ _ _ walked.1))
