use Rattle.std.proofs.Common.{arith}
use Rattle.ao_shim.proofs.RewriteLaws.{fits_here, fits_nowhere, fits_below}
use Rattle.ao_shim.proofs.rewrite.+fitted_from.Goals as goal

pub returns-in-Some : goal.returns-in-Some
returns-in-Some t c = fits_here c.args.room c.args.blocks c.args.bare c.args.options.now c.in-Some.area c.in-Some.ensures

pub returns-then-blocks-eq0 : goal.returns-then-blocks-eq0
returns-then-blocks-eq0 t c = fits_nowhere c.args.room c.args.blocks c.args.bare c.args.options.now c.in_default.ensures c.if-blocks-eq0.true

pub returns : goal.returns
returns t c =
    let some = c.if-blocks-eq0.false in
    fits_below c.args.room c.args.blocks c.args.bare c.args.options.now c.fitted_from.result c.in_default.ensures (omega arith) c.fitted_from.ensures
