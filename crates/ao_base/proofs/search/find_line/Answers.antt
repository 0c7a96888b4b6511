use Rattle.std.proofs.Common.{[], ◌<◌, ◌++◌, length, refl, sym, arith}
use Rattle.std.proofs.lemmas.List.{append-nil}
use Rattle.ao_base.proofs.Sides.{gave_none}
use Rattle.ao_base.proofs.Searches.{search_on, search_failed, search_over, search_last}
use Rattle.ao_base.proofs.search.find_line.Goals as goal

pub takes-init : goal.takes-init
takes-init g c = ([], record { gave = gave_none _; kept = sym (append-nil _); size = refl; within = omega arith; none = refl })

pub takes-preserved : goal.takes-preserved
takes-preserved g c =
    let none = rw c.kept.ensures.value at c.in_default.ensures in (
      c.takes.invariant.0 ++ c.in-Ok.ensures.0,
      rw c.kept-seen.ensures.value (search_on _ _ _ _ _ _ _ _ _ c.takes.invariant.1 none _ c.in-Ok.ensures.1),
    )

pub returns-in-Err : goal.returns-in-Err
returns-in-Err g c =
    let none = rw c.kept.ensures.value at c.in_default.ensures in (
      c.takes.invariant.0 ++ c.in-Err.ensures.0,
      search_failed _ _ _ _ _ _ _ _ _ c.takes.invariant.1 none _ _ _ c.in-Err.ensures.1,
    )

pub returns-then-seen-eq0 : goal.returns-then-seen-eq0
returns-then-seen-eq0 g c =
    let none = rw c.kept.ensures.value at c.in_default.ensures in
    let takes = rw c.if-n-eq0.true at c.in-Ok.ensures.1 in
    let empty = rw c.kept-seen.ensures.value at c.if-seen-eq0.true in (
      c.takes.invariant.0 ++ c.in-Ok.ensures.0,
      search_over _ _ _ _ _ _ _ _ _ c.takes.invariant.1 none _ _ takes empty,
    )

pub returns-then-n-eq0 : goal.returns-then-n-eq0
returns-then-n-eq0 g c =
    let none = rw c.kept.ensures.value at c.in_default.ensures in
    let takes = rw c.if-n-eq0.true at c.in-Ok.ensures.1 in
    let short = rw c.kept-seen.ensures.value at c.if-seen-longest.false in
    let few = rw c.kept-seen.ensures.value at c.if-seen-allowed.false in
    let some : 0 < length c.kept-seen.result.now = omega arith in (
      c.takes.invariant.0 ++ c.in-Ok.ensures.0,
      rw c.kept-seen.ensures.value (search_last _ _ _ _ _ _ _ _ _ c.takes.invariant.1 none _ _ takes (rw c.kept-seen.ensures.value at some) short few),
    )
