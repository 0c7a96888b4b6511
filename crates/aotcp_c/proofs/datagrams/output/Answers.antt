use Rattle.std.proofs.Common.{refl}
use native.Mathlib.Omega.{arith}
use Rattle.book_stack.specs.Calls.{Output}
use Rattle.aotcp_c.proofs.AnswerLaws.{nothing_handed, something_handed}
use Rattle.aotcp_c.proofs.datagrams.output.Goals as goal

pub returns-in-None-clause-sends : goal.returns-in-None-clause-sends
returns-in-None-clause-sends c = λ s n stands. record {
  late = λ l. absurd (omega (arith, l));
  small = λ _ l. absurd (omega (arith, l));
  sends = λ _ _. nothing_handed c.output.new.self (Output c.args.now) s n c.output.new.room c.args.length.now c.output.result c.in-None.is (c.output.ensures.handed s n stands);
  kept = λ _. c.output.ensures.untouched s n stands c.in-None.is;
}

pub returns-in-Some-clause-sends : goal.returns-in-Some-clause-sends
returns-in-Some-clause-sends c = λ s n stands. record {
  late = λ l. absurd (omega (arith, l));
  small = λ _ l. absurd (omega (arith, l));
  sends = λ _ _. something_handed c.output.new.self (Output c.args.now) s n c.output.new.room c.in-Some.count c.output.result c.in-Some.is (c.output.ensures.handed s n stands);
  kept = λ differ. absurd (differ refl);
}
