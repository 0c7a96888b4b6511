use Rattle.std.specs.Prelude.{codes}
use Rattle.toml.proofs.Views.{table_get}
use Rattle.plan_texts.proofs.names.node_value.Goals as goal

pub returns : goal.returns
returns c = table_get c.get.result (codes "node") c.args.document.now.entries c.get.ensures.value
