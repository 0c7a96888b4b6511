use Rattle.ao_kdf.proofs.Filled.{outer_hash}
use Rattle.ao_kdf.proofs.hmac.Hmac.finish.Goals as goal

pub returns : goal.returns
returns g c = λ key fed h. outer_hash _ key fed _ _ (c.hashed.ensures _ h.inner) (c.hashed-2.ensures _ (c.feed.ensures _ h.outer))
