use Rattle.pair_table.proofs.ListLaws.{empty_lies}
use Rattle.pair_table.proofs.table.PairTable.new.Goals as goal

pub invariant_of-result : goal.invariant_of-result
invariant_of-result g c =
    empty_lies c.args.most _ _ c.in_ok-pairs.pairs.items c.in_ok-values.values.items c.in_ok-pairs.ensures.items c.in_ok-values.ensures.items c.in_ok-pairs.ensures.capacity c.in_ok-values.ensures.capacity
