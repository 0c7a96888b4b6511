use Rattle.std.proofs.Common.{ℕ, ◌*◌, ◌<◌}
use Rattle.book_base.proofs.HexadecimalLaws.{IsRead}
use Rattle.ao_base.proofs.hexadecimal.decode_blocks.Given as goal

abbrev pub invariant-whole : goal.invariant-whole
invariant-whole l = (j : ℕ) → j < 16 * l.block → IsRead l.word l.bytes j
