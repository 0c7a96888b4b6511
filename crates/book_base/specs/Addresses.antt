-- Addresses as text, and their families (own).
use Rattle.std.specs.Prelude.{◌≡◌, ℕ, ◌==◌, nat_lt, Bool, true, false, cond}
use Rattle.std.specs.Prelude.{List, [], ◌∷◌, ◌++◌, length}
use Rattle.std.specs.Prelude.{Option, Some, None, option_map, decimal}
use Rattle.book_base.specs.declared.address.Address.{Address}
use Rattle.book_base.specs.declared.address.Address.TheVariants.{V4, V6}
use Rattle.book_base.specs.Decimals.{decimal_of}
use Rattle.book_base.specs.Hexadecimal.{bytes_of_hex, hex_of}
use Rattle.book_base.specs.Lines.{onto_first}

-- the greatest port (RFC 9293, section 3.1)
abbrev pub greatest_port : ℕ
greatest_port = 0xffff

-- both addresses are of one family, IPv4 or IPv6 (RFC 791, section 3.1; RFC 8200, section 3)
abbrev pub same_family : (one other : Address) → Bool
same_family (V4 one) (V4 two) = true
same_family (V4 one) (V6 two) = false
same_family (V6 one) (V4 two) = false
same_family (V6 one) (V6 two) = true

-- both addresses are of one family (own)
abbrev pub IsOneFamily : (one other : Address) → Type 0
IsOneFamily one two = same_family one two ≡ true

-- a dot (own)
abbrev pub is_dot : ℕ → Bool
is_dot byte = byte == 46

-- what stands between dots (own)
unfoldable pub between_dots : List ℕ → List (List ℕ)
between_dots [] = [] ∷ []
between_dots (byte ∷ word) =
    cond (is_dot byte) ([] ∷ between_dots word) (onto_first byte (between_dots word))

-- a zero in front of further digits (own)
abbrev pub has_leading_zero : List ℕ → Bool
has_leading_zero (first ∷ next ∷ word) = first == 48
has_leading_zero _ = false

-- the number, where it is at most 255 (own)
abbrev pub below_256 : Option ℕ → Option ℕ
below_256 None = None
below_256 (Some n) = cond (nat_lt n 256) (Some n) None

-- a decimal 0 to 255 without leading zeros (own)
unfoldable pub octet_of : List ℕ → Option ℕ
octet_of word = cond (has_leading_zero word) None (below_256 (decimal_of word))

-- the address of four numbers, where all four are there (own)
abbrev pub four : (first second third fourth : Option ℕ) → Option Address
four (Some a) (Some b) (Some c) (Some d) = Some (V4 (a ∷ b ∷ c ∷ d ∷ []))
four _ _ _ _ = None

-- exactly four decimals 0 to 255 without leading zeros (own)
unfoldable pub dotted_of : List (List ℕ) → Option Address
dotted_of (a ∷ b ∷ c ∷ d ∷ []) = four (octet_of a) (octet_of b) (octet_of c) (octet_of d)
dotted_of _ = None

-- four decimals joined by dots, or 32 hexadecimal digits (own)
unfoldable pub address_of : List ℕ → Option Address
address_of word =
    cond (length word == 32) (option_map V6 (bytes_of_hex word)) (dotted_of (between_dots word))

-- numbers in decimal with dots between them (own)
abbrev pub dotted_text : List ℕ → List ℕ
dotted_text [] = []
dotted_text (n ∷ []) = decimal n
dotted_text (n ∷ m ∷ numbers) = decimal n ++ 46 ∷ dotted_text (m ∷ numbers)

-- the same two forms, hexadecimal in lower case (own)
unfoldable pub address_text : Address → List ℕ
address_text (V4 numbers) = dotted_text numbers
address_text (V6 bytes) = hex_of bytes
