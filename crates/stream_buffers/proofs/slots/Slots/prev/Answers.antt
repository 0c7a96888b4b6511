use Rattle.std.proofs.Common.{arith, ap, ◌∙◌}
use Rattle.std.proofs.lemmas.List.{get_or_read}
use Rattle.stream_buffers.specs.Links.{slot_of}
use Rattle.stream_buffers.proofs.Seen.{stands, standing, sound_now}
use Rattle.std.proofs.Common.{◌∷◌}
use Rattle.stream_buffers.proofs.Held.{last_held}
use Rattle.stream_buffers.proofs.slots.Slots.prev.Goals as goal

pub index-requires : goal.index-requires
index-requires g c =
    omega (arith, (standing c.self.invariant c.self.view_is c.args.at c.requires).in_prev, c.self.inside.prev.ok.0)

pub returns-clause-prev : goal.returns-clause-prev
returns-clause-prev g c = λ before x after e.
    let a = stands c.self.invariant c.self.view_is c.args.at before x after e in
    c.slot_of.ensures
    ∙ (ap (slot_of c.self.inside.capacity) (get_or_read c.self.inside.prev.items c.args.at.index _ a.in_prev c.index.ensures 0 ∙ a.here)
    ∙ a.last)

pub returns-clause-sound : goal.returns-clause-sound
returns-clause-sound g c = sound_now c.self.invariant c.self.view_is

pub returns-clause-held : goal.returns-clause-held
returns-clause-held g c =
    let r = c.requires in
    last_held c.args.self.now.pairs r.0 ((c.args.at, r.1) ∷ r.2) c.slot_of.result r.3 (returns-clause-prev g c r.0 r.1 r.2 r.3)
