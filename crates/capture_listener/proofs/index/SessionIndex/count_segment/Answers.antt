use Rattle.std.proofs.Common.{length, sym, ◌∙◌}
use Rattle.capture_listener.specs.Groups.{lists_of}
use Rattle.capture_listener.proofs.KeepLaws.{lists_length}
use Rattle.capture_listener.proofs.TableLaws.{counted_first, counted_known, kept_known}
use Rattle.capture_listener.proofs.index.SessionIndex.count_segment.Goals as goal

pub signs_among-signs-requires-clause-least : goal.signs_among-signs-requires-clause-least
signs_among-signs-requires-clause-least c =
    let s = c.args.segment.now in
    (c.self.invariant.counted s.source s.destination c.in-Some.number (sym (c.self.invariant.numbered s.source s.destination) ∙ (sym c.number_of.ensures ∙ c.in-Some.is))).0

pub signs_among-signs-requires-clause-most : goal.signs_among-signs-requires-clause-most
signs_among-signs-requires-clause-most c =
    let s = c.args.segment.now in
    rw (lists_length c.self.inside.groups.items) at (c.self.invariant.counted s.source s.destination c.in-Some.number (sym (c.self.invariant.numbered s.source s.destination) ∙ (sym c.number_of.ensures ∙ c.in-Some.is))).1

pub count_known-requires-clause-least : goal.count_known-requires-clause-least
count_known-requires-clause-least c =
    let s = c.args.segment.now in
    (c.self.invariant.counted s.source s.destination c.in-Some.number (sym (c.self.invariant.numbered s.source s.destination) ∙ (sym c.number_of.ensures ∙ c.in-Some.is))).0

pub count_known-requires-clause-most : goal.count_known-requires-clause-most
count_known-requires-clause-most c =
    let s = c.args.segment.now in
    rw (lists_length c.self.inside.groups.items) at (c.self.invariant.counted s.source s.destination c.in-Some.number (sym (c.self.invariant.numbered s.source s.destination) ∙ (sym c.number_of.ensures ∙ c.in-Some.is))).1

pub invariant_of-self : goal.invariant_of-self
invariant_of-self c =
    let s = c.args.segment.now in
    let x = c.self.inside in
    let e = sym (c.self.invariant.numbered s.source s.destination) ∙ (sym c.number_of.ensures ∙ c.in-Some.is) in
    kept_known x.unset c.in-Some.number (length x.groups.items) c.signs_among-signs.result s x.uses.items c.count_known.new.uses.items x.passed.items (lists_of c.count_known.new.groups.items) x.numbers.entries
    c.count_known.result (lists_of x.groups.items) (c.count_known.ensures.counted x.numbers.entries c.self.invariant e) c.count_known.ensures.unchanged c.self.invariant

pub returns-in-Some-clause-counted : goal.returns-in-Some-clause-counted
returns-in-Some-clause-counted c =
    let s = c.args.segment.now in
    let x = c.self.inside in
    let e = sym (c.self.invariant.numbered s.source s.destination) ∙ (sym c.number_of.ensures ∙ c.in-Some.is) in
    let shown = rw (c.as_slice.ensures.value) at (c.signs_among-signs.ensures x.numbers.entries (rw (c.as_slice.ensures.value) c.self.invariant) (rw (c.as_slice.ensures.value) e)) in
    rw (← c.self.view_is) (counted_known x.unset c.in-Some.number (length x.groups.items) c.signs_among-signs.result s x.uses.items c.count_known.new.uses.items x.passed.items (lists_of c.count_known.new.groups.items) x.numbers.entries
    c.count_known.result (length c.count_known.new.groups.items) (c.count_known.ensures.counted x.numbers.entries c.self.invariant e) c.count_known.ensures.size shown e)

pub returns-in-None-clause-counted : goal.returns-in-None-clause-counted
returns-in-None-clause-counted c =
    let s = c.args.segment.now in
    let x = c.self.inside in
    let e = sym (c.self.invariant.numbered s.source s.destination) ∙ (sym c.number_of.ensures ∙ c.in-None.is) in
    rw (← c.self.view_is) (counted_first x.unset (length x.groups.items) s x.uses.items c.count_first.new.uses.items x.passed.items (lists_of c.count_first.new.groups.items) c.count_first.new.numbers.entries
    c.count_first.result (length c.count_first.new.groups.items) c.self.invariant.one (rw (← c.signs_at.ensures) (c.count_first.ensures.counted c.self.invariant e)) c.count_first.ensures.size e)
