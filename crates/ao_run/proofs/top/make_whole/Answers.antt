use Rattle.std.proofs.Common.{Some}
use Rattle.ao_run.specs.Jobs.{whole_command}
use Rattle.ao_run.proofs.JobLaws.{whole_last}
use Rattle.ao_run.proofs.Telling.{done_ends, refused_ends, unwritten_ends}
use Rattle.ao_run.proofs.top.make_whole.Goals as goal

-- no output was made
pub returns-in-Err : goal.returns-in-Err
returns-in-Err g c =
    let got = c.in-Err.ensures in
    (got.0, record { behind = λ k k0 k1 keyed. refused_ends (Some (whole_command c.args.whole)) k got.0 k0 k1 _ _ (whole_last c.args.whole) (g.O.Sink.side c.args.out.now) c.in-Err.stop (got.1.behind k k0 k1 keyed) })

-- the output was written
pub returns-in-Ok-write_all : goal.returns-in-Ok-write_all
returns-in-Ok-write_all g c =
    let got = c.in-Ok.ensures in
    let wrote = rw c.as_slice.ensures at c.in-Ok-write_all.ensures.1 in
    (got.0, record { behind = λ k k0 k1 keyed. done_ends (Some (whole_command c.args.whole)) k got.0 k0 k1 _ _ (whole_last c.args.whole) _ _ c.in-Ok.output _ _ (got.1.behind k k0 k1 keyed) wrote })

-- writing it failed
pub returns : goal.returns
returns g c =
    let got = c.in-Ok.ensures in
    let wrote = rw c.as_slice.ensures at c.in-Err-write_all.ensures.1 in
    (got.0, record { behind = λ k k0 k1 keyed. unwritten_ends (Some (whole_command c.args.whole)) k got.0 k0 k1 _ _ (whole_last c.args.whole) _ _ c.in-Ok.output _ _ (got.1.behind k k0 k1 keyed) wrote })
