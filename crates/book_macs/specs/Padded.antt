-- A message in whole blocks, as AES-CMAC takes it (RFC 4493, section 2.4): the chain of AES over
-- the blocks of `with_subkey` is the CMAC, which a law says.
use Rattle.std.specs.Prelude.{ℕ, zero, suc, ◌+◌, ◌-◌, ◌/◌, ◌%◌, ◌==◌, Bool, not, ◌&&◌}
use Rattle.std.specs.Prelude.{List, [], ◌∷◌, ◌++◌, length, take, drop, replicate, if◌then◌else◌}
use Rattle.book_macs.specs.Ciphers.{xor, aes, doubled}

-- so many blocks of 16 bytes, one after another (RFC 4493, section 2.4, step 2)
abbrev pub blocks : ℕ → List ℕ → List (List ℕ)
blocks zero bytes = []
blocks (suc n) bytes = take 16 bytes ∷ blocks n (drop 16 bytes)

-- how many blocks a message has; one that is empty has one (RFC 4493, section 2.4, steps 2 and 3)
abbrev pub block_count : List ℕ → ℕ
block_count m = if length m == 0 then 1 else (length m + 15) / 16

-- the last block of a message has 16 bytes (RFC 4493, section 2.4, step 3)
abbrev pub is_complete : List ℕ → Bool
is_complete m = not (length m == 0) && (length m % 16 == 0)

-- a message, filled up to whole blocks with a bit 1 and bits 0 where its last block isn't complete
-- (RFC 4493, section 2.4, `padding`)
abbrev pub padded : List ℕ → List ℕ
padded m = if is_complete m then m else m ++ 0x80 ∷ replicate (15 - length m % 16) 0

-- the subkey K1 where the last block is complete, else K2 (RFC 4493, section 2.3)
abbrev pub subkey : (key message : List ℕ) → List ℕ
subkey key m =
    let l = aes key (replicate 16 0) in
    if is_complete m then doubled l else doubled (doubled l)

-- the padded message with the subkey in its last block (RFC 4493, section 2.4, step 4)
abbrev pub with_subkey : (key message : List ℕ) → List ℕ
with_subkey key m =
    let last = length (padded m) - 16 in
    take last (padded m) ++ xor (drop last (padded m)) (subkey key m)

-- a step of the chain: the state, xor a block, through AES (RFC 4493, section 2.4, steps 6 and 7)
abbrev pub chain : (key state block : List ℕ) → List ℕ
chain key state block = aes key (xor state block)
