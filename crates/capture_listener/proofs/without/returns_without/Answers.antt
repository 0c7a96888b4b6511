use Rattle.std.proofs.Common.{◌∙◌}
use Rattle.capture_listener.proofs.OwnUses.{number_either}
use Rattle.capture_listener.proofs.without.returns_without.Goals as goal

pub wanting_by-wanting-requires : goal.wanting_by-wanting-requires
wanting_by-wanting-requires c = number_either c.args.one.now.destination c.args.one.now.source c.args.evidence.now.uses ∙ c.requires
