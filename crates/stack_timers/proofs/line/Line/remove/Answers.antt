use Rattle.std.proofs.Common.{◌≡◌, None, sym, ap, ◌∙◌, arith}
use Rattle.std.specs.Prelude.{not}
use Rattle.std.specs.List.{position_from}
use Rattle.stack_timers.specs.Places.{is_pair}
use Rattle.stack_timers.proofs.IndexLaws.{kept_missed, roomier}
use Rattle.stack_timers.proofs.KeptLaws.{line_has, line_left, line_missed, none_of, some_of}
use Rattle.stack_timers.proofs.ListLaws.{pair_removed}
use Rattle.stack_timers.proofs.line.Line.remove.Goals as goal

pub invariant_of-self : goal.invariant_of-self
invariant_of-self c =
    rw c.remove.ensures.removed
    (kept_missed _ c.self.inside.standing _ c.args.pair.now c.self.invariant (sym c.remove.ensures.value ∙ none_of c.remove.result (c.is_none.ensures ∙ ap not c.if-is_none.true)))

pub returns-then-is_none-clause-pairs : goal.returns-then-is_none-clause-pairs
returns-then-is_none-clause-pairs c =
    rw (← c.self.view_is) (sym (line_missed _ c.self.inside.standing c.self.inside.items.items c.args.pair.now c.self.invariant (sym c.remove.ensures.value ∙ none_of c.remove.result (c.is_none.ensures ∙ ap not c.if-is_none.true))))

pub invariant_of-self-in-None : goal.invariant_of-self-in-None
invariant_of-self-in-None c =
    let some = some_of c.remove.result (c.is_none.ensures ∙ ap not c.if-is_none.false) in
    let place : position_from (is_pair c.args.pair.now) 0 c.self.inside.items.items ≡ None = rw c.make_contiguous.ensures.value at (sym c.place_of.ensures.found ∙ c.in-None.is) in
    absurd (line_has _ c.self.inside.standing c.self.inside.items.items c.args.pair.now c.self.invariant some.0 (sym c.remove.ensures.value ∙ some.1) place)

pub returns-in-None-clause-pairs : goal.returns-in-None-clause-pairs
returns-in-None-clause-pairs c =
    let some = some_of c.remove.result (c.is_none.ensures ∙ ap not c.if-is_none.false) in
    let place : position_from (is_pair c.args.pair.now) 0 c.self.inside.items.items ≡ None = rw c.make_contiguous.ensures.value at (sym c.place_of.ensures.found ∙ c.in-None.is) in
    absurd (line_has _ c.self.inside.standing c.self.inside.items.items c.args.pair.now c.self.invariant some.0 (sym c.remove.ensures.value ∙ some.1) place)

pub invariant_of-self-in-Some : goal.invariant_of-self-in-Some
invariant_of-self-in-Some c =
    let some = some_of c.remove.result (c.is_none.ensures ∙ ap not c.if-is_none.false) in
    let back = c.make_contiguous.ensures.writes_back c.make_contiguous.result.now c.make_contiguous.ensures.len ∙ c.make_contiguous.ensures.value in
    let taken = c.remove-pair.ensures.succeeds c.args.pair.now (omega (arith, c.in-Some.ensures.within, c.make_contiguous.ensures.len)) in
    let left = rw (taken, back) at c.remove-pair.ensures.items in
    let is = left ∙ pair_removed c.args.pair.now c.in-Some.place c.self.inside.items.items (rw c.make_contiguous.ensures.value at (sym c.place_of.ensures.found ∙ c.in-Some.is)) in
    rw (c.remove.ensures.removed, is) (roomier _ _ _ _ (omega (arith, c.remove-pair.ensures.capacity)) (line_left _ c.self.inside.standing c.self.inside.items.items c.args.pair.now c.self.invariant some.0 c.len-count.ensures.sound (sym c.remove.ensures.value ∙ some.1)))

pub returns-in-Some-clause-pairs : goal.returns-in-Some-clause-pairs
returns-in-Some-clause-pairs c =
    let back = c.make_contiguous.ensures.writes_back c.make_contiguous.result.now c.make_contiguous.ensures.len ∙ c.make_contiguous.ensures.value in
    let taken = c.remove-pair.ensures.succeeds c.args.pair.now (omega (arith, c.in-Some.ensures.within, c.make_contiguous.ensures.len)) in
    let left = rw (taken, back) at c.remove-pair.ensures.items in
    rw (← c.self.view_is) (left ∙ pair_removed c.args.pair.now c.in-Some.place c.self.inside.items.items (rw c.make_contiguous.ensures.value at (sym c.place_of.ensures.found ∙ c.in-Some.is)))
