use Rattle.std.proofs.Common.{arith}
use Rattle.stream_buffers.proofs.Layouts.{sound}
use Rattle.stream_buffers.proofs.Seen.{standing, set_at, seen_as, capacity_is}
use Rattle.stream_buffers.proofs.slots.Slots.set.Goals as goal

pub index_mut-requires : goal.index_mut-requires
index_mut-requires g c =
    omega (arith, (standing c.self.invariant c.self.view_is c.args.at c.requires).in_items, c.self.inside.items.ok.0)

pub invariant_of-self : goal.invariant_of-self
invariant_of-self g c =
    let r = c.requires in
    record { used = _; spare = _; layout = set_at c.self.invariant c.self.view_is c.args.at r.0 r.1 r.2 r.3 c.args.item }

pub returns-clause-item : goal.returns-clause-item
returns-clause-item g c = λ before x after e.
    seen_as (set_at c.self.invariant c.self.view_is c.args.at before x after e c.args.item) _ (capacity_is _ _ _ _ c.self.view_is)

pub returns-clause-sound : goal.returns-clause-sound
returns-clause-sound g c =
    let r = c.requires in
    sound (set_at c.self.invariant c.self.view_is c.args.at r.0 r.1 r.2 r.3 c.args.item)
