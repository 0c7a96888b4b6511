-- A block as bytes, and what the table has for a byte.
use Rattle.std.specs.Prelude.{ℕ, ◌/◌, ◌%◌, List, [], ◌∷◌, bit_xor}
use Rattle.book_segments.specs.Bytes.{put4}
use Rattle.book_macs.specs.Ciphers.{xtime}
use Rattle.ao_kdf.specs.declared.block.Block.{Block}
use Rattle.ao_kdf.specs.declared.block.Halves.{Halves}

-- the 16 bytes of four columns, in the order in which they are sent (FIPS 197, 3.4)
abbrev pub bytes_of : Block → List ℕ
bytes_of b = put4 b.first (put4 b.second (put4 b.third (put4 b.fourth [])))

-- the 16 bytes of two halves, in the order in which they are sent (FIPS 197, 3.4)
abbrev pub halves_bytes : Halves → List ℕ
halves_bytes h = put4 (h.high / 4294967296) (put4 (h.high % 4294967296) (put4 (h.low / 4294967296) (put4 (h.low % 4294967296) [])))

-- a byte's products by 2, 1, 1 and 3, the factors of a column's first byte in MixColumns (FIPS 197, 5.1.3)
abbrev pub products_of : ℕ → List ℕ
products_of s = xtime s ∷ s ∷ s ∷ bit_xor (xtime s) s ∷ []

-- its products by 3, 2, 1 and 1, the factors of a column's second byte (FIPS 197, 5.1.3)
abbrev pub second_products_of : ℕ → List ℕ
second_products_of s = bit_xor (xtime s) s ∷ xtime s ∷ s ∷ s ∷ []

-- its products by 1, 3, 2 and 1, the factors of a column's third byte (FIPS 197, 5.1.3)
abbrev pub third_products_of : ℕ → List ℕ
third_products_of s = s ∷ bit_xor (xtime s) s ∷ xtime s ∷ s ∷ []

-- its products by 1, 1, 3 and 2, the factors of a column's fourth byte (FIPS 197, 5.1.3)
abbrev pub fourth_products_of : ℕ → List ℕ
fourth_products_of s = s ∷ s ∷ bit_xor (xtime s) s ∷ xtime s ∷ []
