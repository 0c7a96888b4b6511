-- The definitions at a few texts.
use Rattle.std.proofs.Common.{◌≡◌, ◌++◌, [], ◌∷◌, Some, None, codes, refl}
use Rattle.book_base.specs.declared.address.Address.TheVariants.{V4}
use Rattle.book_base.specs.declared.algorithm.Algorithm.TheVariants.{AesCmac, HmacSha256}
use Rattle.book_base.specs.Addresses.{address_of, between_dots, dotted_of, octet_of}
use Rattle.book_base.specs.Algorithms.{algorithm_of}
use Rattle.book_base.specs.Decimals.{decimal_of}
use Rattle.book_base.specs.Hexadecimal.{bytes_of_hex}
use Rattle.book_base.specs.Lines.{lines_of, words_of}
use Rattle.hex.specs.Hex.{decode_pairs}

lines_between : lines_of (codes "a\n\nb") ≡ codes "a" ∷ [] ∷ codes "b" ∷ []
unfolding lines_of
lines_between = refl

no_last_line : lines_of (codes "a\n") ≡ codes "a" ∷ []
unfolding lines_of
no_last_line = refl

words_between : words_of (32 ∷ 9 ∷ codes "send  a" ++ 13 ∷ []) ≡ codes "send" ∷ codes "a" ∷ []
unfolding words_of
words_between = refl

zeros_in_front : decimal_of (codes "00000000000000000001") ≡ Some 1
unfolding decimal_of
zeros_in_front = refl

too_many_digits : decimal_of (codes "000000000000000000001") ≡ None
unfolding decimal_of
too_many_digits = refl

greatest : decimal_of (codes "18446744073709551615") ≡ Some 18446744073709551615
unfolding decimal_of
greatest = refl

too_great : decimal_of (codes "18446744073709551616") ≡ None
unfolding decimal_of
too_great = refl

no_sign : decimal_of (codes "+1") ≡ None
unfolding decimal_of
no_sign = refl

either_case : bytes_of_hex (codes "00fFA5") ≡ Some (0 ∷ 255 ∷ 165 ∷ [])
unfolding bytes_of_hex decode_pairs
either_case = refl

odd : bytes_of_hex (codes "0f0") ≡ None
unfolding bytes_of_hex decode_pairs
odd = refl

dotted : address_of (codes "10.0.0.255") ≡ Some (V4 (10 ∷ 0 ∷ 0 ∷ 255 ∷ []))
unfolding address_of between_dots dotted_of octet_of decimal_of
dotted = refl

above_255 : address_of (codes "256.0.0.1") ≡ None
unfolding address_of between_dots dotted_of octet_of decimal_of
above_255 = refl

leading_zero : address_of (codes "01.0.0.1") ≡ None
unfolding address_of between_dots dotted_of octet_of decimal_of
leading_zero = refl

three_numbers : address_of (codes "1.2.3") ≡ None
unfolding address_of between_dots dotted_of octet_of decimal_of
three_numbers = refl

named : algorithm_of (codes "AES-128-CMAC-96") ≡ Some AesCmac
named = refl

third : algorithm_of (codes "HMAC-SHA-256-128") ≡ Some HmacSha256
third = refl

unnamed : algorithm_of (codes "HMAC-SHA-1") ≡ None
unnamed = refl
