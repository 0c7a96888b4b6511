use Rattle.std.proofs.Common.{◌≡◌, ◌++◌, take, drop, map}
use Rattle.std.specs.Prelude.{bit_xor}
use Rattle.ao_kdf.proofs.hmac.xor_block.Given as goal

abbrev pub invariant-loop-byte : goal.invariant-loop-byte
invariant-loop-byte l =
    l.byte-items ≡ map (λ b. bit_xor b l.pad) (take l.byte-index l.initial.byte-items) ++ drop l.byte-index l.initial.byte-items
