use Rattle.std.proofs.Common.{arith, rules, ap, ◌∙◌, ◌≡◌, ◌+◌, replicate, length, below_more, length-set}
use Rattle.std.proofs.lemmas.List.{get_or-set_same, get_or-set_other, get_or-replicate, length-replicate}
use Rattle.stream_buffers.proofs.Layouts.{made, seen_is}
use Rattle.stream_buffers.proofs.slots.Slots.new.Goals as goal

pub loop-index-init : goal.loop-index-init
loop-index-init g c =
    let filled : c.in_ok-next.next.items ≡ replicate (c.args.capacity + 1) c.args.capacity = c.in_ok-next.ensures.items_if_clones_equal (λ y h. search rules) in
    record {
      long = ap length filled ∙ length-replicate (c.args.capacity + 1) c.args.capacity;
      each = λ k h. absurd (omega arith);
      last = rw filled (get_or-replicate (c.args.capacity + 1) c.args.capacity c.args.capacity 0 (omega arith));
    }

pub loop-index-preserved : goal.loop-index-preserved
loop-index-preserved g c =
    let i = c.loop-index.invariant in
    let at = c.loop-index.index in
    let xs = c.loop-index.next.items in
    record {
      long = length-set xs at (at + 1) ∙ i.long;
      each = below_more _ _ (λ k h. get_or-set_other xs at k (at + 1) 0 (λ (e : k ≡ at). omega arith) ∙ i.each k h) (get_or-set_same xs at (at + 1) 0 (omega (arith, i.long)));
      last = get_or-set_other xs at c.args.capacity (at + 1) 0 (λ (e : c.args.capacity ≡ at). omega arith) ∙ i.last;
    }

pub invariant_of-result : goal.invariant_of-result
invariant_of-result g c =
    let i = c.loop-index.invariant in
    let e = c.in_ok-items.ensures.items_if_clones_equal (λ y h. search rules) in
    let p = c.in_ok-prev.ensures.items_if_clones_equal (λ y h. search rules) in
    record { used = _; spare = _; layout = made c.args.capacity c.in_ok-items.items.items c.loop-index.next.items c.in_ok-prev.prev.items e p i.long (λ k h. i.each k (omega arith)) i.last }

pub returns : goal.returns
returns g c =
    let i = c.loop-index.invariant in
    let e = c.in_ok-items.ensures.items_if_clones_equal (λ y h. search rules) in
    let p = c.in_ok-prev.ensures.items_if_clones_equal (λ y h. search rules) in
    seen_is (made c.args.capacity c.in_ok-items.items.items c.loop-index.next.items c.in_ok-prev.prev.items e p i.long (λ k h. i.each k (omega arith)) i.last)
