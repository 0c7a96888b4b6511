use Rattle.std.proofs.Common.{ap, length, ◌∙◌}
use Rattle.std.proofs.lemmas.Option.{same_Some}
use Rattle.book_macs.proofs.LengthLaws.{length-traffic_key}
use Rattle.ao_kdf.proofs.cache.KeyCache.get.Goals as goal

pub returns-clause-length : goal.returns-clause-length
returns-clause-length g c = ap length (c.copied.ensures ∙ same_Some _ _ (c.in-Some.ensures ∙ c.keep.ensures.kept)) ∙ length-traffic_key _ _ _
