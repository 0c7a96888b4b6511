use Rattle.std.proofs.Common.{ap, ◌∙◌}
use Rattle.book_macs.specs.Keys.{key_length}
use Rattle.ao_check.proofs.KeyLaws.{lent_long}
use Rattle.ao_check.proofs.key.has_right_mac.Goals as goal

pub is_right-requires-in-Some-clause-key : goal.is_right-requires-in-Some-clause-key
is_right-requires-in-Some-clause-key g c = lent_long _ _ _ _ _ c.in-Some.ensures c.keep.ensures.kept ∙ ap key_length c.algorithm-algorithm.ensures
