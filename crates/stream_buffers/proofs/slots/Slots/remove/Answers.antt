use Rattle.std.proofs.Common.{arith, ap, sym, ◌∙◌, None}
use Rattle.std.specs.Option.{is_some}
use Rattle.std.proofs.lemmas.List.{get_or_read}
use Rattle.std.proofs.lemmas.Option.{same_Some}
use Rattle.stream_buffers.proofs.Layouts.{sound}
use Rattle.stream_buffers.proofs.Seen.{stands, standing, taken_out, seen_as, capacity_is}
use Rattle.stream_buffers.proofs.slots.Slots.remove.Goals as goal

pub index-requires : goal.index-requires
index-requires g c =
    omega (arith, (standing c.self.invariant c.self.view_is c.args.at c.requires).in_items, c.self.inside.items.ok.0)

pub unwrap-item-requires : goal.unwrap-item-requires
unwrap-item-requires g c =
    let a = standing c.self.invariant c.self.view_is c.args.at c.requires in
    ap is_some (get_or_read c.self.inside.items.items c.args.at.index _ a.in_items c.index.ensures None ∙ a.item)

pub index-before-requires : goal.index-before-requires
index-before-requires g c =
    omega (arith, (standing c.self.invariant c.self.view_is c.args.at c.requires).in_prev, c.self.inside.prev.ok.0)

pub index-after-requires : goal.index-after-requires
index-after-requires g c =
    omega (arith, (standing c.self.invariant c.self.view_is c.args.at c.requires).in_next, c.self.inside.next.ok.0)

pub index_mut-requires : goal.index_mut-requires
index_mut-requires g c =
    let a = standing c.self.invariant c.self.view_is c.args.at c.requires in
    omega (arith, get_or_read c.self.inside.prev.items c.args.at.index _ a.in_prev c.index-before.ensures 0, a.here, a.here_in, c.self.inside.next.ok.0)

pub index_mut-requires-2 : goal.index_mut-requires-2
index_mut-requires-2 g c =
    let a = standing c.self.invariant c.self.view_is c.args.at c.requires in
    omega (arith, get_or_read c.self.inside.next.items c.args.at.index _ a.in_next c.index-after.ensures 0, a.there, a.there_in, c.self.inside.prev.ok.0)

pub index_mut-requires-3 : goal.index_mut-requires-3
index_mut-requires-3 g c =
    omega (arith, (standing c.self.invariant c.self.view_is c.args.at c.requires).in_next, c.self.inside.next.ok.0)

pub invariant_of-self : goal.invariant_of-self
invariant_of-self g c =
    let r = c.requires in
    record { used = _; spare = _; layout = taken_out c.self.invariant c.self.view_is c.args.at r.0 r.1 r.2 r.3 _ _ c.index-before.ensures c.index-after.ensures }

pub returns-clause-value : goal.returns-clause-value
returns-clause-value g c = λ before x after e.
    let a = stands c.self.invariant c.self.view_is c.args.at before x after e in
    same_Some _ _ (sym c.unwrap-item.ensures ∙ (get_or_read c.self.inside.items.items c.args.at.index _ a.in_items c.index.ensures None ∙ a.item))

pub returns-clause-rest : goal.returns-clause-rest
returns-clause-rest g c = λ before x after e.
    seen_as (taken_out c.self.invariant c.self.view_is c.args.at before x after e _ _ c.index-before.ensures c.index-after.ensures) _ (capacity_is _ _ _ _ c.self.view_is)

pub returns-clause-sound : goal.returns-clause-sound
returns-clause-sound g c =
    let r = c.requires in
    sound (taken_out c.self.invariant c.self.view_is c.args.at r.0 r.1 r.2 r.3 _ _ c.index-before.ensures c.index-after.ensures)
