-- Bytes as hexadecimal (own).
use Rattle.std.specs.Prelude.{ℕ, ◌<◌, List, Option}
use Rattle.std.specs.Result.{result_ok}
use Rattle.hex.specs.Hex.{decode_of, encode_lower}

-- a byte (own)
abbrev pub IsByte : ℕ → Type 0
IsByte b = b < 256

-- the bytes that an even number of hexadecimal digits of either case write (own)
unfoldable pub bytes_of_hex : List ℕ → Option (List ℕ)
bytes_of_hex word = result_ok (decode_of word)

-- two digits for each byte, in lower case (own)
abbrev pub hex_of : List ℕ → List ℕ
hex_of bytes = encode_lower bytes
