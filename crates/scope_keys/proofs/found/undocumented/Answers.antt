use Rattle.std.proofs.lemmas.Result.{IfOk-weaker}
use Rattle.scope_keys.proofs.FoundLaws.{found_no_toml}
use Rattle.scope_keys.proofs.found.undocumented.Goals as goal

pub returns : goal.returns
returns c = IfOk-weaker c.syntax_finding.result _ _ (λ found h. found_no_toml c.args.text.now found.items c.requires h) c.syntax_finding.ensures
