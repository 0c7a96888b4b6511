use Rattle.std.proofs.Common.{arith, ap, refl}
use Rattle.std.proofs.lemmas.List.{get_or_read}
use Rattle.stream_buffers.specs.Pool.{Pool}
use Rattle.stream_buffers.proofs.Layouts.{sound}
use Rattle.stream_buffers.proofs.Seen.{behind_of, free_within, put_in, sound_now, seen_as, capacity_is, full_now, not_full_now}
use Rattle.stream_buffers.proofs.Held.{parts_of}
use Rattle.stream_buffers.proofs.slots.Slots.insert_after.Goals as goal

pub returns-then-index-self-clause-variant : goal.returns-then-index-self-clause-variant
returns-then-index-self-clause-variant g c =
    let f = full_now c.self.invariant c.self.view_is c.if-index-self.true in
    (λ e. cc, λ l. absurd (omega arith))

pub returns-then-index-self-clause-sound : goal.returns-then-index-self-clause-sound
returns-then-index-self-clause-sound g c = sound_now c.self.invariant c.self.view_is

pub index-after-requires : goal.index-after-requires
index-after-requires g c =
    let r = parts_of _ _ c.requires in
    let b = behind_of c.self.invariant c.self.view_is c.args.at r.0 r.1 r.2 r.3 _ c.node_of-here.ensures in
    omega (arith, b.1, c.self.inside.next.ok.0)

pub index-requires : goal.index-requires
index-requires g c = omega (arith, (free_within _ _ _ _ _ c.self.invariant c.if-index-self.false).1, c.self.inside.next.ok.0)

pub index_mut-requires : goal.index_mut-requires
index_mut-requires g c = omega (arith, (free_within _ _ _ _ _ c.self.invariant c.if-index-self.false).0, c.self.inside.items.ok.0)

pub index_mut-requires-2 : goal.index_mut-requires-2
index_mut-requires-2 g c = omega (arith, (free_within _ _ _ _ _ c.self.invariant c.if-index-self.false).1, c.self.inside.next.ok.0)

pub index_mut-requires-3 : goal.index_mut-requires-3
index_mut-requires-3 g c = omega (arith, (free_within _ _ _ _ _ c.self.invariant c.if-index-self.false).2, c.self.inside.prev.ok.0)

pub index_mut-requires-4 : goal.index_mut-requires-4
index_mut-requires-4 g c =
    let r = parts_of _ _ c.requires in
    let b = behind_of c.self.invariant c.self.view_is c.args.at r.0 r.1 r.2 r.3 _ c.node_of-here.ensures in
    omega (arith, b.1, c.self.inside.next.ok.0)

pub index_mut-requires-5 : goal.index_mut-requires-5
index_mut-requires-5 g c =
    let r = parts_of _ _ c.requires in
    let b = behind_of c.self.invariant c.self.view_is c.args.at r.0 r.1 r.2 r.3 _ c.node_of-here.ensures in
    omega (arith, get_or_read c.self.inside.next.items c.node_of-here.result _ b.1 c.index-after.ensures 0, b.2, b.3, c.self.inside.prev.ok.0)

pub invariant_of-self : goal.invariant_of-self
invariant_of-self g c =
    let r = parts_of _ _ c.requires in
    let p = put_in c.self.invariant c.self.view_is c.if-index-self.false c.args.at r.0 r.1 r.2 r.3 c.args.item _ _ _ c.node_of-here.ensures c.index-after.ensures c.index.ensures in
    record { used = _; spare = p.0; layout = p.1 }

pub returns-clause-variant : goal.returns-clause-variant
returns-clause-variant g c = (λ e. not_full_now c.self.invariant c.self.view_is c.if-index-self.false, λ l. refl)

pub returns-clause-ok : goal.returns-clause-ok
returns-clause-ok g c = λ before after e last.
    seen_as (put_in c.self.invariant c.self.view_is c.if-index-self.false c.args.at before after e last c.args.item _ _ _ c.node_of-here.ensures c.index-after.ensures c.index.ensures).1 _ (capacity_is _ _ _ _ c.self.view_is)

pub returns-clause-sound : goal.returns-clause-sound
returns-clause-sound g c =
    let r = parts_of _ _ c.requires in
    sound (put_in c.self.invariant c.self.view_is c.if-index-self.false c.args.at r.0 r.1 r.2 r.3 c.args.item _ _ _ c.node_of-here.ensures c.index-after.ensures c.index.ensures).1

pub returns-clause-held : goal.returns-clause-held
returns-clause-held g c =
    let r = parts_of _ _ c.requires in
    (r.0, c.args.item, r.1, ap (λ (p : Pool g.row.T.Denot). p.pairs) (returns-clause-ok g c r.0 r.1 r.2 r.3))
