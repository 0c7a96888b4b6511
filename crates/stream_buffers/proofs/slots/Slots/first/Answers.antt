use Rattle.std.proofs.Common.{refl, ◌∙◌}
use Rattle.stream_buffers.proofs.Seen.{first_now, sound_now}
use Rattle.std.proofs.Common.{[]}
use Rattle.stream_buffers.proofs.Held.{first_held}
use Rattle.stream_buffers.proofs.slots.Slots.first.Goals as goal

pub returns-clause-first : goal.returns-clause-first
returns-clause-first g c = c.slot_of.ensures ∙ first_now c.self.invariant c.self.view_is _ c.index.ensures

pub returns-clause-sound : goal.returns-clause-sound
returns-clause-sound g c = sound_now c.self.invariant c.self.view_is

pub returns-clause-held : goal.returns-clause-held
returns-clause-held g c = first_held c.args.self.now.pairs [] c.args.self.now.pairs c.slot_of.result refl (returns-clause-first g c)
