use Rattle.std.proofs.Common.{rules, inl, inr}
use Rattle.run_tests.proofs.of_ao_run.completeness.over_memory.Goals as goal

pub returns : goal.returns
returns c =
    let whole = c.run-status.ensures.2.completes.done c.args.keys c.args.input c.requires.done (search rules) (search rules) (search rules) in
    elim whole [
      | inl written ↦ inl (written.0, search rules)
      | inr short ↦ inr short
    ]
