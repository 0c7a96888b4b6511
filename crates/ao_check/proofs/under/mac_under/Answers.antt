use Rattle.std.proofs.Common.{ap, ◌∙◌}
use Rattle.book_macs.specs.Keys.{key_length}
use Rattle.ao_check.proofs.KeyLaws.{lent_long}
use Rattle.ao_check.proofs.under.mac_under.Goals as goal

pub mac_over-requires-in-Some-clause-key : goal.mac_over-requires-in-Some-clause-key
mac_over-requires-in-Some-clause-key g c = λ e. lent_long _ _ _ _ _ c.in-Some.ensures c.keep.ensures.kept ∙ ap key_length e
