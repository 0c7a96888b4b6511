use Rattle.std.proofs.Common.{leb, leb-true, leb-false, arith, rules}
use Rattle.std.proofs.lemmas.List.Sorted.{IsNonDecreasingBy-insert, IsPartitionPoint-from_clause, IsPartitionedBy-leb}
use Rattle.stack_timers.proofs.PlaceLaws.{placed_between}
use Rattle.stack_timers.proofs.alarms.place_for.Goals as goal

pub returns-clause-placed : goal.returns-clause-placed
returns-clause-placed c a e =
    let parted = IsPartitionedBy-leb (λ b. b.deadline) _ c.args.deadline c.requires in
    let point = IsPartitionPoint-from_clause (λ b. leb b.deadline c.args.deadline) _ _ c.partition_point.ensures.partitioned parted (λ b r q k. search rules) in
    placed_between a _ _ c.partition_point.ensures.bound (λ k d h. let l = leb-true _ _ (point.0 k d (omega arith) h) in omega (arith, l, e)) (λ k d g h. let l = leb-false _ _ (point.1 k d g h) in omega (arith, l, e))

pub returns-clause-rising : goal.returns-clause-rising
returns-clause-rising c a e =
    let parted = IsPartitionedBy-leb (λ b. b.deadline) _ c.args.deadline c.requires in
    let point = IsPartitionPoint-from_clause (λ b. leb b.deadline c.args.deadline) _ _ c.partition_point.ensures.partitioned parted (λ b r q k. search rules) in
    IsNonDecreasingBy-insert (λ b. b.deadline) _ _ a c.requires c.partition_point.ensures.bound (λ k d h. let l = leb-true _ _ (point.0 k d (omega arith) h) in omega (arith, l, e)) (λ k d g h. let l = leb-false _ _ (point.1 k d g h) in omega (arith, l, e))
