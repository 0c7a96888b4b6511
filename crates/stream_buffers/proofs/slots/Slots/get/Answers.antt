use Rattle.std.proofs.Common.{arith, ap, sym, ◌∙◌, None}
use Rattle.std.specs.Option.{is_some}
use Rattle.std.proofs.lemmas.List.{get_or_read}
use Rattle.std.proofs.lemmas.Option.{same_Some}
use Rattle.stream_buffers.proofs.Seen.{stands, standing, sound_now}
use Rattle.stream_buffers.proofs.slots.Slots.get.Goals as goal

pub index-requires : goal.index-requires
index-requires g c =
    omega (arith, (standing c.self.invariant c.self.view_is c.args.at c.requires).in_items, c.self.inside.items.ok.0)

pub unwrap-requires : goal.unwrap-requires
unwrap-requires g c =
    let a = standing c.self.invariant c.self.view_is c.args.at c.requires in
    ap is_some (get_or_read c.self.inside.items.items c.args.at.index _ a.in_items c.index.ensures None ∙ a.item)

pub returns-clause-value : goal.returns-clause-value
returns-clause-value g c = λ before x after e.
    let a = stands c.self.invariant c.self.view_is c.args.at before x after e in
    same_Some _ _ (sym c.unwrap.ensures ∙ (get_or_read c.self.inside.items.items c.args.at.index _ a.in_items c.index.ensures None ∙ a.item))

pub returns-clause-sound : goal.returns-clause-sound
returns-clause-sound g c = sound_now c.self.invariant c.self.view_is
