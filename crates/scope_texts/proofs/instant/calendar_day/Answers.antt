use Rattle.std.proofs.Common.{◌∙◌, ap, w64, arith}
use Rattle.std.specs.Prelude.{unsigned_abs}
use Rattle.std.proofs.lemmas.Int.{to_z_pos}
use Rattle.scope_texts.proofs.InstantLaws.{same_day, year_kept}
use Rattle.scope_texts.proofs.instant.calendar_day.Goals as goal

pub returns-clause-value : goal.returns-clause-value
returns-clause-value c = same_day c.args.number c.in-Ok.date _ c.requires (c.in-Ok.ensures.value ∙ to_z_pos w64 c.args.number (omega (arith, c.requires))) (c.unsigned_abs.ensures.value ∙ ap unsigned_abs (year_kept c.in-Ok.date))
