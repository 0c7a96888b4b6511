use Rattle.std.proofs.Common.{refl, ap, ◌∙◌}
use Rattle.book_stack.specs.declared.counters.Counters.{Counters}
use Rattle.book_stack.specs.KeyIds.{no_key_ids}
use Rattle.aotcp_c.specs.Counters.{told_counters}
use Rattle.aotcp_c.proofs.counters.node_counters.Goals as goal

pub returns-clause-told : goal.returns-clause-told
returns-clause-told c = λ s n stands. record {
  is = refl;
  counted = c.told_counters.ensures ∙ ap (λ (k : Counters). told_counters k no_key_ids) (c.node_counters.ensures s n stands);
}
