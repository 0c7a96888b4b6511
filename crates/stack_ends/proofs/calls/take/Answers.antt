use Rattle.book_endpoint.specs.States.{take_out}
use Rattle.std.proofs.Common.{length}
use Rattle.stack_ends.proofs.calls.take.Goals as goal

pub returns-clause-at_end : goal.returns-clause-at_end
returns-clause-at_end c = λ s S. c.at_end-at_end.ensures (take_out (length c.args.room.now) s) (c.take-count.ensures.stands s S)
