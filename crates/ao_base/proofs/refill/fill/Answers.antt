use Rattle.std.proofs.Common.{[], ◌++◌, refl, sym}
use Rattle.std.proofs.lemmas.List.{append-nil}
use Rattle.ao_base.proofs.Sides.{gave_none}
use Rattle.ao_base.proofs.Fillings.{fill_on, fill_enough, fill_failed, fill_ended}
use Rattle.ao_base.proofs.refill.fill.Goals as goal

pub takes-init : goal.takes-init
takes-init g c = ([], record { gave = gave_none _; kept = sym (append-nil _); size = refl })

pub takes-preserved : goal.takes-preserved
takes-preserved g c = (c.takes.invariant.0 ++ c.in-Ok.ensures.0, fill_on _ _ _ _ _ _ _ _ c.takes.invariant.1 c.in-Ok.n c.in-Ok.ensures.1)

pub returns-in-Err : goal.returns-in-Err
returns-in-Err g c = (c.takes.invariant.0 ++ c.in-Err.ensures.0, fill_failed _ _ _ _ _ _ _ _ c.takes.invariant.1 (rw c.kept.ensures.value at c.count.ensures.bytes) _ _ c.in-Err.ensures.1)

pub returns-then-n-eq0 : goal.returns-then-n-eq0
returns-then-n-eq0 g c =
    let few = rw (c.count.ensures.count, c.kept.ensures.value) at c.if-count-wanted.false in
    let takes = rw c.if-n-eq0.true at c.in-Ok.ensures.1 in
    (c.takes.invariant.0 ++ c.in-Ok.ensures.0, fill_ended _ _ _ _ _ _ _ _ c.takes.invariant.1 (rw c.kept.ensures.value at c.count.ensures.bytes) c.args.wanted few takes)

pub returns-then-count-wanted : goal.returns-then-count-wanted
returns-then-count-wanted g c =
    let enough = rw (c.count.ensures.count, c.kept.ensures.value) at c.if-count-wanted.true in
    (c.takes.invariant.0, fill_enough _ _ _ _ _ c.args.wanted c.takes.invariant.1 enough (rw c.kept.ensures.value at c.kept.ensures.fits) (rw c.kept.ensures.value at c.count.ensures.bytes))
