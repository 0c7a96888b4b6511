use Rattle.std.proofs.Common.{arith, ap, ◌∙◌}
use Rattle.std.proofs.lemmas.List.{get_or_read}
use Rattle.stream_buffers.specs.Links.{slot_of}
use Rattle.stream_buffers.proofs.Seen.{stands, standing, sound_now}
use Rattle.std.proofs.Common.{sym, ◌++◌, ◌∷◌, [], append_assoc}
use Rattle.stream_buffers.proofs.Held.{first_held}
use Rattle.stream_buffers.proofs.slots.Slots.next.Goals as goal

pub index-requires : goal.index-requires
index-requires g c =
    omega (arith, (standing c.self.invariant c.self.view_is c.args.at c.requires).in_next, c.self.inside.next.ok.0)

pub returns-clause-next : goal.returns-clause-next
returns-clause-next g c = λ before x after e.
    let a = stands c.self.invariant c.self.view_is c.args.at before x after e in
    c.slot_of.ensures
    ∙ (ap (slot_of c.self.inside.capacity) (get_or_read c.self.inside.next.items c.args.at.index _ a.in_next c.index.ensures 0 ∙ a.there)
    ∙ a.first)

pub returns-clause-sound : goal.returns-clause-sound
returns-clause-sound g c = sound_now c.self.invariant c.self.view_is

pub returns-clause-held : goal.returns-clause-held
returns-clause-held g c =
    let r = c.requires in
    first_held c.args.self.now.pairs (r.0 ++ (c.args.at, r.1) ∷ []) r.2 c.slot_of.result (r.3 ∙ sym (append_assoc r.0 ((c.args.at, r.1) ∷ []) r.2)) (returns-clause-next g c r.0 r.1 r.2 r.3)
