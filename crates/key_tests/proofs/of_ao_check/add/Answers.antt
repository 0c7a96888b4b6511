use Rattle.ao_check.proofs.FitLaws.{fits_added_to}
use Rattle.key_tests.proofs.of_ao_check.add.Goals as goal

pub returns : goal.returns
returns c = λ a room fits. fits_added_to c.args.table.now c.add.new.self c.add.result _ a c.add.ensures room fits
