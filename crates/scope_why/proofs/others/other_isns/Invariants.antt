use Rattle.std.proofs.Common.{◌≡◌, [], drop}
use Rattle.book_why.specs.OtherIsns.{all_told_at, with_isn_pairs}
use Rattle.scope_why.proofs.others.other_isns.Given as goal

abbrev pub invariant-loop-given : goal.invariant-loop-given
invariant-loop-given l =
    with_isn_pairs l.datagram l.own l.pairs.items (all_told_at l.datagram (drop l.given-index l.told)) ≡ with_isn_pairs l.datagram l.own [] (all_told_at l.datagram l.told)
