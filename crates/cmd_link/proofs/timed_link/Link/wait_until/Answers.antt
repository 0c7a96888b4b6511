use Rattle.std.proofs.Common.{◌+◌, ◌-◌, arith}
use Rattle.std.proofs.lemmas.Result.{err_from_is_err_and}
use Rattle.cmd_link.specs.Links.{expires, untils, waits}
use Rattle.cmd_link.proofs.Expansions.{last_call, left_as, one_more, stopped_at}
use Rattle.cmd_link.proofs.LinkLaws.{waits_no_more, waits_none, waits_once_more}
use Rattle.cmd_link.proofs.timed_link.Link.wait_until.Goals as goal

pub returns-in-None : goal.returns-in-None
returns-in-None c =
    let e = c.args.end in
    let to = c.args.to in
    let all = waits c.args.most e to in
    let left = waits (c.args.most - c.loop-turn._turn) e to in
    let none = waits_no_more c.loop-turn.self (c.args.most - c.loop-turn._turn) e to (record { time = c.in-None.ensures.time }) in
    last_call all (untils e to) c.args.self.now c.loop-turn.self c.until.new.self c.until.result
    (left_as all left (untils e to) c.args.self.now c.loop-turn.self c.loop-turn.invariant none) c.until.ensures

pub returns-in_err-expire-in-Some : goal.returns-in_err-expire-in-Some
returns-in_err-expire-in-Some c =
    let e = c.args.end in
    let to = c.args.to in
    let m = c.args.most - c.loop-turn._turn in
    let n = c.args.most - (c.loop-turn._turn + 1) in
    let once = waits_once_more c.loop-turn.self m n e to c.in-Some.at (omega arith) (record { time = c.in-Some.ensures.time }) in
    let p = err_from_is_err_and c.from_residual.result c.from_residual.ensures.1 in
    rw (p.1, p.2) (stopped_at (waits c.args.most e to) (waits m e to) (expires e c.in-Some.at) (waits n e to) c.args.self.now c.loop-turn.self c.expire.new.self
    c.in_err-expire-in-Some.field-0.0 c.loop-turn.invariant once c.in_err-expire-in-Some.ensures)

pub loop-turn-preserved : goal.loop-turn-preserved
loop-turn-preserved c =
    let e = c.args.end in
    let to = c.args.to in
    let m = c.args.most - c.loop-turn._turn in
    let n = c.args.most - (c.loop-turn._turn + 1) in
    let once = waits_once_more c.loop-turn.self m n e to c.in-Some.at (omega arith) (record { time = c.in-Some.ensures.time }) in
    one_more (waits c.args.most e to) (waits m e to) (expires e c.in-Some.at) (waits n e to) c.args.self.now c.loop-turn.self c.expire.new.self
    c.loop-turn.invariant once c.in_ok-expire-in-Some.ensures

pub returns : goal.returns
returns c =
    let e = c.args.end in
    let to = c.args.to in
    let all = waits c.args.most e to in
    let n = c.args.most - c.loop-turn._turn in
    let none = waits_none c.loop-turn.self n e to (omega arith) in
    last_call all (untils e to) c.args.self.now c.loop-turn.self c.until-2.new.self c.until-2.result
    (left_as all (waits n e to) (untils e to) c.args.self.now c.loop-turn.self c.loop-turn.invariant none) c.until-2.ensures
