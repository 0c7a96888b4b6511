use Rattle.std.proofs.Common.{refl}
use native.Mathlib.Omega.{arith}
use Rattle.aotcp_c.proofs.datagrams.input.Goals as goal

pub returns-clause-hears : goal.returns-clause-hears
returns-clause-hears c = λ s n stands. let f = c.input.ensures.told s n stands in record {
  late = λ l. absurd (omega (arith, l));
  done = λ _. refl;
  hears = λ _. record {
    stands = f.stands;
    answer = record { heard = c.input.result; answer = f.answer; passed = c.input.ensures.passed s n stands; numbers = c.heard_of.ensures };
  };
}
