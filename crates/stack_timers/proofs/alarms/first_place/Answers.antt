use Rattle.std.proofs.Common.{ltb, ltb-true, arith, rules}
use Rattle.std.proofs.lemmas.List.Sorted.{IsPartitionPoint-from_clause, IsPartitionedBy-ltb}
use Rattle.stack_timers.proofs.alarms.first_place.Goals as goal

pub returns-clause-earlier : goal.returns-clause-earlier
returns-clause-earlier c =
    let parted = IsPartitionedBy-ltb (λ a. a.deadline) _ c.args.deadline c.requires in
    let point = IsPartitionPoint-from_clause (λ a. ltb a.deadline c.args.deadline) _ _ c.partition_point.ensures.partitioned parted (λ a r q k. search rules) in
    λ k d h. ltb-true _ _ (point.0 k d (omega arith) h)
