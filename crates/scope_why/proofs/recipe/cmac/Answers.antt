use Rattle.std.proofs.Common.{[], ◌++◌}
use Rattle.scope_why.proofs.recipe.cmac.Goals as goal

pub returns : goal.returns
returns c =
    c.finish.ensures c.args.key.now (c.args.front.now ++ c.args.rest.now)
    (c.update-2.ensures c.args.key.now c.args.front.now (c.update.ensures c.args.key.now [] c.new-hasher.ensures))
