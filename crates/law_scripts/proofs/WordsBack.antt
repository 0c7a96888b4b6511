-- Printed words are read back.
use Rattle.std.proofs.Common.{◌≡◌, ℕ, zero, suc, lit<, ◌<◌, ◌≤◌, ◌^◌, nat_le, nat_lt, Bool, true, false, List, [], ◌∷◌, length, decimal, codes}
use Rattle.std.proofs.Common.{Option, Some, Ok, refl, arith}
use Rattle.std.proofs.lemmas.Bool.{le-leb, lt-ltb}
use Rattle.hex.specs.Hex.{IsBytes}
use Rattle.book_base.specs.declared.address.Address.{Address}
use Rattle.book_base.specs.declared.algorithm.Algorithm.{Algorithm}
use Rattle.book_base.specs.declared.algorithm.Algorithm.TheVariants.{HmacSha1, AesCmac, HmacSha256}
use Rattle.book_base.specs.declared.end.End.{End}
use Rattle.book_base.specs.declared.end.End.TheVariants.{A, B}
use Rattle.book_lines.specs.declared.line_kind.LineKind.TheVariants.{Word}
use Rattle.book_base.specs.Addresses.{address_text}
use Rattle.book_base.specs.Algorithms.{name_of}
use Rattle.book_base.specs.Hexadecimal.{hex_of}
use Rattle.book_base.proofs.AddressLaws.{address_of-address_text}
use Rattle.book_base.proofs.DecimalLaws.{decimal_of-decimal}
use Rattle.book_base.proofs.HexadecimalLaws.{bytes_of_hex-hex_of}
use Rattle.book_lines.specs.Words.{word_in, word_as, choice_of, choice_in, end_of, end_in, address_in, algorithm_in, number_in, hex_in, sized_hex_in}
use Rattle.book_lines.specs.Words.{some_hex_in, byte_in}
use Rattle.book_lines.specs.Texts.{end_text}
use Rattle.book_keys.specs.declared.direction.Direction.{Direction}
use Rattle.book_keys.specs.declared.direction.Direction.TheVariants.{Receive, Send, Both, Disabled}
use Rattle.book_keys.specs.Columns.{direction_of}
use Rattle.book_link.specs.declared.event.Fixing.{Fixing}
use Rattle.book_link.specs.declared.event.Fixing.TheVariants.{Keep, Fix}
use Rattle.book_cmd_link.specs.LinkEvents.{fixing_of}
use Rattle.law_scripts.specs.Printed.{direction_text, fixing_text, flag_text}
use Rattle.law_scripts.specs.Scripts.{AreBytes, IsAddress, IsWithin}

end_of-end_text : (e : End) → end_of (end_text e) ≡ Some e
unfolding end_of
end_of-end_text A = refl
end_of-end_text B = refl

pub end_back : (e : End) (ws : List (List ℕ)) → end_in (end_text e ∷ ws) ≡ Ok (record { value = e; rest = ws })
unfolding end_in word_in
end_back e ws = rw (end_of-end_text e) refl

-- a word that says this value is read as this value
word_back : {A : Type 0} (meaning : List ℕ → Option A) (w : List ℕ) (x : A) (ws : List (List ℕ)) → meaning w ≡ Some x →
    word_as meaning Word (w ∷ ws) ≡ Ok (record { value = x; rest = ws })
unfolding word_in
word_back meaning w x ws h = rw h refl

fixing_of-fixing_text : (f : Fixing) → fixing_of (fixing_text f) ≡ Some f
unfolding fixing_of
fixing_of-fixing_text Keep = refl
fixing_of-fixing_text Fix = refl

pub fixing_back : (f : Fixing) (ws : List (List ℕ)) → word_as fixing_of Word (fixing_text f ∷ ws) ≡ Ok (record { value = f; rest = ws })
fixing_back f ws = word_back fixing_of (fixing_text f) f ws (fixing_of-fixing_text f)

choice_of-flag_text : (b : Bool) → choice_of (codes "no-options") (codes "options") (flag_text b) ≡ Some b
choice_of-flag_text false = refl
choice_of-flag_text true = refl

pub flag_back : (b : Bool) (ws : List (List ℕ)) → choice_in (codes "no-options") (codes "options") (flag_text b ∷ ws) ≡ Ok (record { value = b; rest = ws })
unfolding choice_in
flag_back b ws = word_back (choice_of (codes "no-options") (codes "options")) (flag_text b) b ws (choice_of-flag_text b)

direction_of-direction_text : (d : Direction) → direction_of (direction_text d) ≡ Some d
unfolding direction_of
direction_of-direction_text Receive = refl
direction_of-direction_text Send = refl
direction_of-direction_text Both = refl
direction_of-direction_text Disabled = refl

pub direction_back : (d : Direction) (ws : List (List ℕ)) → word_as direction_of Word (direction_text d ∷ ws) ≡ Ok (record { value = d; rest = ws })
direction_back d ws = word_back direction_of (direction_text d) d ws (direction_of-direction_text d)

pub address_back : (a : Address) (ws : List (List ℕ)) → IsAddress a → address_in (address_text a ∷ ws) ≡ Ok (record { value = a; rest = ws })
unfolding address_in word_in
address_back a ws h = rw (address_of-address_text a h) refl

pub algorithm_back : (a : Algorithm) (ws : List (List ℕ)) → algorithm_in (name_of a ∷ ws) ≡ Ok (record { value = a; rest = ws })
unfolding algorithm_in word_in
algorithm_back HmacSha1 ws = refl
algorithm_back AesCmac ws = refl
algorithm_back HmacSha256 ws = refl

pub within_back : (low high n : ℕ) (ws : List (List ℕ)) → IsWithin low high n → high < 2 ^ 64 →
    number_in low high (decimal n ∷ ws) ≡ Ok (record { value = n; rest = ws })
unfolding number_in word_in
within_back low high n ws h small =
    let a : nat_le low n ≡ true = le-leb _ _ h.least in
    let b : nat_le n high ≡ true = le-leb _ _ h.most in
    rw (decimal_of-decimal n (omega arith), a, b) refl

pub number_back : (high n : ℕ) (ws : List (List ℕ)) → n ≤ high → high < 2 ^ 64 → number_in 0 high (decimal n ∷ ws) ≡ Ok (record { value = n; rest = ws })
number_back high n ws h small = within_back 0 high n ws (record { least = omega arith; most = h }) small

pub hex_back : (low high : ℕ) (bytes : List ℕ) (ws : List (List ℕ)) → AreBytes low high bytes →
    sized_hex_in low high (hex_of bytes ∷ ws) ≡ Ok (record { value = bytes; rest = ws })
unfolding sized_hex_in hex_in word_in
hex_back low high bytes ws h =
    let a : nat_le low (length bytes) ≡ true = le-leb _ _ h.least in
    let b : nat_le (length bytes) high ≡ true = le-leb _ _ h.most in
    rw (bytes_of_hex-hex_of bytes h.small, a, b) refl

pub some_hex_back : (bytes : List ℕ) (ws : List (List ℕ)) → 0 < length bytes → IsBytes bytes →
    some_hex_in (hex_of bytes ∷ ws) ≡ Ok (record { value = bytes; rest = ws })
unfolding some_hex_in hex_in word_in
some_hex_back bytes ws some small =
    let a : nat_lt 0 (length bytes) ≡ true = lt-ltb _ _ some in
    rw (bytes_of_hex-hex_of bytes small, a) refl

pub one_byte : (b : ℕ) → b < 256 → AreBytes 1 1 (b ∷ [])
one_byte b small = record { least = omega arith; most = omega arith; small = is_byte }
  where
    is_byte : IsBytes (b ∷ [])
    is_byte zero = small
    is_byte (suc i) = lit< tt

pub byte_back : (b : ℕ) (ws : List (List ℕ)) → b < 256 → byte_in (hex_of (b ∷ []) ∷ ws) ≡ Ok (record { value = b; rest = ws })
unfolding byte_in
byte_back b ws small = rw (hex_back 1 1 (b ∷ []) ws (one_byte b small)) refl
