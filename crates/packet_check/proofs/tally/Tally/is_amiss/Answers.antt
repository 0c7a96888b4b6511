use Rattle.std.proofs.Common.{◌==◌, refl, ◌∙◌}
use Rattle.packet_check.proofs.TallyLaws.{amiss_told}
use Rattle.packet_check.proofs.tally.Tally.is_amiss.Goals as goal

pub returns : goal.returns
returns c = λ classes tallies. c.is_either.ensures ∙ amiss_told c.args.self classes (c.args.self.passing == 0) tallies refl
