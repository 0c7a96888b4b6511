use Rattle.std.proofs.Common.{inl, inr, sym, ◌∙◌, arith}
use Rattle.capture_listener.specs.Groups.{lists_of}
use Rattle.capture_listener.proofs.KeepLaws.{lists_length, places_here}
use Rattle.capture_listener.proofs.TableLaws.{none_outside}
use Rattle.capture_listener.proofs.index.SessionIndex.places_of.Goals as goal

pub returns-then-number-eq0 : goal.returns-then-number-eq0
returns-then-number-eq0 c =
    let x = c.self.inside in
    let zero = c.if-number-eq0.true in
    rw (← c.self.view_is) (sym (none_outside x.uses.items (lists_of x.groups.items) x.numbers.entries c.self.invariant c.args.number (inl (omega (arith, zero)))))

pub returns-then-number-len : goal.returns-then-number-len
returns-then-number-len c =
    let x = c.self.inside in
    let size = lists_length x.groups.items in
    rw (← c.self.view_is) (sym (none_outside x.uses.items (lists_of x.groups.items) x.numbers.entries c.self.invariant c.args.number
    (inr (omega (arith, size, c.len.ensures, x.groups.ok.0, c.if-number-len.true)))))

pub returns : goal.returns
returns c =
    let x = c.self.inside in
    rw (← c.self.view_is) (c.as_slice.ensures.value ∙ places_here x.uses.items x.groups.items x.numbers.entries c.self.invariant c.args.number c.index.result.now
    (omega (arith, c.if-number-eq0.false)) (omega (arith, c.len.ensures, x.groups.ok.0, c.if-number-len.false)) c.index.ensures)
