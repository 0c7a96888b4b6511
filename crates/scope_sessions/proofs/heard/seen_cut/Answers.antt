use Rattle.scope_sessions.proofs.Counting.{none_cut, off_seen}
use Rattle.scope_sessions.proofs.heard.seen_cut.Goals as goal

pub returns-in-None : goal.returns-in-None
returns-in-None c s number time bytes =
    none_cut s c.args.bytes.now c.args.fault c.told_fault.result bytes (rw c.in-None.is at c.in_ok-found.ensures) c.told_fault.ensures

pub returns-in-Err : goal.returns-in-Err
returns-in-Err c s number time bytes =
    let whole = rw c.in-Some.is at c.in_ok-found.ensures in
    let read = rw (← c.as_slice.ensures.value) at whole.1 in
    let impossible = rw c.in-Err.is at (c.seen_whole.ensures s whole.0 read number time) in absurd (cc)

pub returns : goal.returns
returns c s number time bytes =
    let whole = rw c.in-Some.is at c.in_ok-found.ensures in
    let read = rw (← c.as_slice.ensures.value) at whole.1 in
    off_seen s whole.0 c.args.bytes.now c.args.fault c.in-Ok.seen whole.2 (rw c.in-Ok.is at (c.seen_whole.ensures s whole.0 read number time))
