use Rattle.std.proofs.Common.{◌+◌, drop}
use Rattle.std.proofs.lemmas.Result.{err_from_is_err_and}
use Rattle.cmd_link.specs.Links.{expands, happens}
use Rattle.cmd_link.proofs.Expansions.{all_done, one_more, stopped_at}
use Rattle.cmd_link.proofs.LinkLaws.{cut_at, expands_none, expands_one_more, none_left}
use Rattle.cmd_link.proofs.timed_link.Link.happen_all.Goals as goal

pub returns-in_err-happen : goal.returns-in_err-happen
returns-in_err-happen c =
    let all = c.args.events.now in
    let i = c.loop-event.event-index in
    let x = c.event-item.result in
    let once = expands_one_more c.loop-event.self (drop i all) (drop (i + 1) all) x (cut_at all i x c.loop-event-test.true c.event-item.is) in
    let p = err_from_is_err_and c.from_residual.result c.from_residual.ensures.1 in
    rw (p.1, p.2) (stopped_at (expands all) (expands (drop i all)) (happens x) (expands (drop (i + 1) all)) c.args.self.now c.loop-event.self c.happen.new.self
    c.in_err-happen.field-0.0 c.loop-event.invariant once c.in_err-happen.ensures)

pub loop-event-preserved : goal.loop-event-preserved
loop-event-preserved c =
    let all = c.args.events.now in
    let i = c.loop-event.event-index in
    let x = c.event-item.result in
    let once = expands_one_more c.loop-event.self (drop i all) (drop (i + 1) all) x (cut_at all i x c.loop-event-test.true c.event-item.is) in
    one_more (expands all) (expands (drop i all)) (happens x) (expands (drop (i + 1) all)) c.args.self.now c.loop-event.self c.happen.new.self
    c.loop-event.invariant once c.in_ok-happen.ensures

pub returns : goal.returns
returns c =
    let all = c.args.events.now in
    let i = c.loop-event.event-index in
    all_done (expands all) (expands (drop i all)) c.args.self.now c.loop-event.self c.loop-event.invariant
    (expands_none c.loop-event.self (drop i all) (none_left all i c.loop-event-test.false))
