use Rattle.std.proofs.Common.{◌∙◌}
use Rattle.scope_texts.proofs.KeyLaws.{any_word}
use Rattle.scope_texts.proofs.unknown.is_known.Goals as goal

pub returns : goal.returns
returns c = c.is_among.ensures ∙ any_word c.args.key.now c.args.known.now
