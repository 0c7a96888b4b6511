use Rattle.capture_listener.proofs.TableLaws.{picked_of}
use Rattle.capture_listener.proofs.index.SessionIndex.uses_of.Goals as goal

pub returns : goal.returns
returns c = picked_of (λ v. v.items) c.uses_at.result c.args.number c.args.self.now.uses c.uses.result.now c.places_of.result.now c.uses.ensures.uses c.places_of.ensures c.uses_at.ensures
