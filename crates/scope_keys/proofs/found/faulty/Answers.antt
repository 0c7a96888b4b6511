use Rattle.toml.specs.View.{table_view}
use Rattle.std.proofs.lemmas.Result.{IfOk-weaker}
use Rattle.scope_keys.proofs.FoundLaws.{found_faulty}
use Rattle.scope_keys.proofs.found.faulty.Goals as goal

pub returns : goal.returns
returns c =
    IfOk-weaker c.findings.result _ _ (λ found h. found_faulty c.args.text.now (table_view c.args.document.now) c.args.fault found.items c.requires.document c.requires.refused h) c.findings.ensures
