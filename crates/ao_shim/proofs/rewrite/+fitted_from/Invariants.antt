use Rattle.ao_shim.proofs.rewrite.+fitted_from.Given as goal

abbrev pub decreases-fitted_from : goal.decreases-fitted_from
decreases-fitted_from l = l.blocks
