use Rattle.std.proofs.Common.{◌≡◌, ℕ, ◌++◌, drop, length, subst, arith}
use Rattle.book_endpoint.specs.States.{take_out, taking}
use Rattle.tcp_endpoint.specs.Ends.{Stands}
use Rattle.cmd_node.proofs.ActLaws.{took_follows}
use Rattle.link_report.proofs.OfferLaws.{taken_bytes}
use Rattle.cmd_node.proofs.acts.take.Goals as goal

pub returns-clause-took : goal.returns-clause-took
returns-clause-took c = λ s room S.
    let count = c.args.count in
    let out = c.take-taken.new.out in
    let old = c.as_mut_slice.result.now in
    let long : length old ≡ count = omega (arith, c.as_mut_slice.ensures.len, c.in_ok-resize.ensures.len, c.from.ensures) in
    let whole : length out ≡ c.resize.new.self.len = omega (arith, c.take-taken.auto.out, c.as_mut_slice.ensures.len) in
    let stands = subst (λ (k : ℕ). Stands c.take-taken.new.self (take_out k s)) long (c.take-taken.ensures.stands s S) in
    let some = subst (λ (k : ℕ). c.take-taken.result ≡ length (taking k s)) long (c.take-taken.ensures.count s S) in
    let taken = subst (λ (k : ℕ). out ≡ taking k s ++ drop c.take-taken.result old) long (c.take-taken.ensures.taken s S) in
    took_follows count s c.take-taken.new.self room c.from_vec.result c.at_end-at_end.result
    (taken_bytes count c.take-taken.result c.resize.new.self.len s old out _ c.truncate.new.self.items c.from_vec.result whole some taken c.truncate.ensures.items c.from_vec.ensures)
    (c.at_end-at_end.ensures (take_out count s) stands) stands
