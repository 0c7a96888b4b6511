use Rattle.std.proofs.Common.{◌≡◌, length, rules}
use Rattle.ao_kdf.proofs.Filled.{filled, hashed_first}
use Rattle.ao_kdf.proofs.hmac.block_of.Goals as goal

pub returns-then-key-gt-BLOCK_LEN : goal.returns-then-key-gt-BLOCK_LEN
returns-then-key-gt-BLOCK_LEN g c =
    let digest = c.hashed-hash.ensures _ (c.feed.ensures _ c.empty-hasher.ensures) in
    let size : length c.hashed-hash.result ≡ g.row.N = search rules in
    rw c.copy_from_slice.ensures.after (hashed_first _ _ _ _ c.if-key-gt-BLOCK_LEN.true digest size)

pub returns-else-key-gt-BLOCK_LEN : goal.returns-else-key-gt-BLOCK_LEN
returns-else-key-gt-BLOCK_LEN g c = rw c.copy_from_slice-else-key-gt-BLOCK_LEN.ensures.after (filled _ _ c.if-key-gt-BLOCK_LEN.false)
