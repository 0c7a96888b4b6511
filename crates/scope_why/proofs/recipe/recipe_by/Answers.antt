use Rattle.tcp_segment.specs.Views.{view_ao}
use Rattle.scope_why.specs.MacsViews.{choices_view}
use Rattle.scope_why.proofs.FrontParts.{recipe_joined}
use Rattle.scope_why.proofs.recipe.recipe_by.Goals as goal

pub returns-clause-recipe : goal.returns-clause-recipe
returns-clause-recipe c =
    recipe_joined (choices_view c.args.choices) c.args.datagram.now (view_ao c.args.ao) c.in_ok-derivation.derivation.items c.in_ok-front.front.items c.payload.result.now c.bytes_sent.result
    c.in_ok-derivation.ensures c.in_ok-front.ensures c.payload.ensures.value c.bytes_sent.ensures.length
