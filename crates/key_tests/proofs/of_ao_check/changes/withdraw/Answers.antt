use Rattle.ao_check.proofs.FitLaws.{fits_withdrawn_from}
use Rattle.key_tests.proofs.of_ao_check.changes.withdraw.Goals as goal

pub returns : goal.returns
returns c = λ a fits. fits_withdrawn_from c.args.table.now c.withdraw.new.self c.withdraw.result c.args.n a c.withdraw.ensures fits
