-- What a word says is in its range.
use Rattle.std.proofs.Common.{◌≡◌, ℕ, zero, suc, ◌*◌, ◌<◌, ◌≤◌, ◌==◌, ◌&&◌, cond, nat_le, nat_lt, Bool, true, false, List, [], ◌∷◌, length, Option, Some}
use Rattle.std.proofs.Common.{None, option_map, Result, Ok, Err, refl, ap, ◌∙◌, arith, lit<}
use Rattle.std.specs.Result.{result_ok}
use Rattle.std.proofs.lemmas.Bool.{and_parts, leb-true, ltb-true, eqb-true}
use Rattle.hex.specs.Hex.{IsBytes, decode_of}
use Rattle.hex.specs.declared.error.FromHexError.{FromHexError}
use Rattle.hex.proofs.HexLemmas.{decode_of-ok}
use Rattle.book_base.specs.declared.address.Address.{Address}
use Rattle.book_base.specs.declared.address.Address.TheVariants.{V4, V6}
use Rattle.book_lines.specs.declared.line_kind.LineKind.{LineKind}
use Rattle.book_lines.specs.declared.line_kind.LineKind.TheVariants.{Range}
use Rattle.book_base.specs.Addresses.{address_of, between_dots, below_256, dotted_of, four, has_leading_zero, octet_of}
use Rattle.book_base.specs.Decimals.{decimal_of}
use Rattle.book_base.specs.Hexadecimal.{bytes_of_hex}
use Rattle.book_lines.specs.Words.{Taken, address_in, byte_in, first_of, hex_in, sized_hex_in, number_in, some_hex_in, if_within, word_as}
use Rattle.book_base.specs.Results.{◌>>=◌, or_fault}
use Rattle.book_lines.specs.Words.{word_in}
use Rattle.law_scripts.specs.Scripts.{AreBytes, IsAddress, IsWithin}

-- the first of two readings was good, and so was the second
pub bind_ok : {A B F : Type 0} (r : Result A F) (f : A → Result B F) (y : B) → (r >>= f) ≡ Ok y → (x : A) × (r ≡ Ok x) × (f x ≡ Ok y)
bind_ok (Ok x) f y h = (x, refl, h)
bind_ok (Err e) f y h = absurd (cc h)

fault_ok : {A : Type 0} (o : Option A) (kind : LineKind) (x : A) → or_fault o kind ≡ Ok x → o ≡ Some x
fault_ok (Some y) kind x h = cc h
fault_ok None kind x h = absurd (cc h)

-- the word and what it says
pub word_as_ok : {A : Type 0} (meaning : List ℕ → Option A) (kind : LineKind) (ws : List (List ℕ)) (t : Taken A) → word_as meaning kind ws ≡ Ok t →
    (w : List ℕ) × (ws ≡ w ∷ t.rest) × (meaning w ≡ Some t.value)
unfolding word_in
word_as_ok meaning kind [] t h = absurd (cc h)
word_as_ok meaning kind (w ∷ ws) t h =
    let b = bind_ok (or_fault (meaning w) kind) (λ x. Ok (record { value = x; rest = ws })) t h in
    let e : record { value = b.0; rest = ws } ≡ t = cc b.2 in
    (w, ap (λ (x : Taken _). w ∷ x.rest) e, fault_ok (meaning w) kind b.0 b.1 ∙ ap (λ (x : Taken _). Some x.value) e)

within_case : {A : Type 0} (b : Bool) (x y : A) → cond b (Ok x) (Err Range) ≡ Ok y → (b ≡ true) × (x ≡ y)
within_case true x y h = (refl, cc h)
within_case false x y h = absurd (cc h)

within_ok : {A : Type 0} (low high n : ℕ) (x y : A) → if_within low high n x ≡ Ok y → (low ≤ n) × (n ≤ high) × (x ≡ y)
within_ok low high n x y h =
    let c = within_case (nat_le low n && nat_le n high) x y h in
    let p = and_parts (nat_le low n) (nat_le n high) c.0 in
    (leb-true _ _ p.0, leb-true _ _ p.1, c.1)

pub number_ok : (low high : ℕ) (ws : List (List ℕ)) (t : Taken ℕ) → number_in low high ws ≡ Ok t → IsWithin low high t.value
unfolding number_in
number_ok low high ws t h =
    let b = bind_ok (word_as decimal_of _ ws) (λ n. if_within low high n.value n) t h in
    let w = within_ok low high b.0.value b.0 t b.2 in
    let e : b.0.value ≡ t.value = ap (λ (x : Taken ℕ). x.value) w.2 in
    record { least = rw e at w.0; most = rw e at w.1 }

pub decoded : (w : List ℕ) (r : Result (List ℕ) FromHexError) (bytes : List ℕ) → result_ok r ≡ Some bytes → r ≡ Ok bytes
decoded w (Ok x) bytes h = cc h
decoded w (Err e) bytes h = absurd (cc h)

pub hex_bytes : (w bytes : List ℕ) → bytes_of_hex w ≡ Some bytes → (length w ≡ 2 * length bytes) × IsBytes bytes
unfolding bytes_of_hex
hex_bytes w bytes h = let d = decode_of-ok w bytes (decoded w (decode_of w) bytes h) in (d.2, d.3)

pub hex_ok : (low high : ℕ) (ws : List (List ℕ)) (t : Taken (List ℕ)) → sized_hex_in low high ws ≡ Ok t → AreBytes low high t.value
unfolding sized_hex_in hex_in
hex_ok low high ws t h =
    let b = bind_ok (word_as bytes_of_hex _ ws) (λ bytes. if_within low high (length bytes.value) bytes) t h in
    let w = within_ok low high (length b.0.value) b.0 t b.2 in
    let e : b.0.value ≡ t.value = ap (λ (x : Taken (List ℕ)). x.value) w.2 in
    let word = word_as_ok bytes_of_hex _ ws b.0 b.1 in
    let bytes = hex_bytes word.0 b.0.value word.2 in
    record { least = rw e at w.0; most = rw e at w.1; small = rw e at bytes.1 }

pub some_hex_ok : (ws : List (List ℕ)) (t : Taken (List ℕ)) → some_hex_in ws ≡ Ok t → (0 < length t.value) × IsBytes t.value
unfolding some_hex_in hex_in
some_hex_ok ws t h =
    let b = bind_ok (word_as bytes_of_hex _ ws) (λ bytes. cond (nat_lt 0 (length bytes.value)) (Ok bytes) (Err Range)) t h in
    let w = within_case (nat_lt 0 (length b.0.value)) b.0 t b.2 in
    let e : b.0.value ≡ t.value = ap (λ (x : Taken (List ℕ)). x.value) w.1 in
    let word = word_as_ok bytes_of_hex _ ws b.0 b.1 in
    let bytes = hex_bytes word.0 b.0.value word.2 in
    let some : 0 < length b.0.value = ltb-true _ _ w.0 in
    (rw e at some, rw e at bytes.1)

first_byte : (bytes : List ℕ) → IsBytes bytes → first_of bytes < 256
first_byte [] small = lit< tt
first_byte (b ∷ bytes) small = small 0

pub byte_ok : (ws : List (List ℕ)) (t : Taken ℕ) → byte_in ws ≡ Ok t → t.value < 256
unfolding byte_in
byte_ok ws t h =
    let b = bind_ok (sized_hex_in 1 1 ws) (λ bytes. Ok (record { value = first_of bytes.value; rest = bytes.rest })) t h in
    let e : record { value = first_of b.0.value; rest = b.0.rest } ≡ t = cc b.2 in
    let same : first_of b.0.value ≡ t.value = ap (λ (x : Taken ℕ). x.value) e in
    let small : first_of b.0.value < 256 = first_byte b.0.value (hex_ok 1 1 ws b.0 b.1).small in
    omega arith

-- an address has its bytes
octet_case : (b : Bool) (o : Option ℕ) (n : ℕ) → cond b None (below_256 o) ≡ Some n → n < 256
octet_case true o n h = absurd (cc h)
octet_case false None n h = absurd (cc h)
octet_case false (Some m) n h = small (nat_lt m 256) m n refl h
  where
    small : (b : Bool) (m n : ℕ) → nat_lt m 256 ≡ b → cond b (Some m) None ≡ Some n → n < 256
    small true m n e h = let same : m ≡ n = cc h in let below : m < 256 = ltb-true _ _ e in omega arith
    small false m n e h = absurd (cc h)

octet_ok : (w : List ℕ) (n : ℕ) → octet_of w ≡ Some n → n < 256
unfolding octet_of
octet_ok w n h = octet_case (has_leading_zero w) (decimal_of w) n h

four_bytes : (a b c d : ℕ) → a < 256 → b < 256 → c < 256 → d < 256 → IsBytes (a ∷ b ∷ c ∷ d ∷ [])
four_bytes a b c d ha hb hc hd zero = ha
four_bytes a b c d ha hb hc hd (suc zero) = hb
four_bytes a b c d ha hb hc hd (suc (suc zero)) = hc
four_bytes a b c d ha hb hc hd (suc (suc (suc zero))) = hd
four_bytes a b c d ha hb hc hd (suc (suc (suc (suc i)))) = lit< tt

four_ok : (a b c d : Option ℕ) (x : Address) → ((n : ℕ) → a ≡ Some n → n < 256) → ((n : ℕ) → b ≡ Some n → n < 256) → ((n : ℕ) → c ≡ Some n → n < 256) →
    ((n : ℕ) → d ≡ Some n → n < 256) →
    four a b c d ≡ Some x → IsAddress x
four_ok (Some a) (Some b) (Some c) (Some d) x ha hb hc hd h =
    let e : V4 (a ∷ b ∷ c ∷ d ∷ []) ≡ x = cc h in
    rw (← e) (refl, four_bytes a b c d (ha a refl) (hb b refl) (hc c refl) (hd d refl))
four_ok None b c d x ha hb hc hd h = absurd (cc h)
four_ok (Some a) None c d x ha hb hc hd h = absurd (cc h)
four_ok (Some a) (Some b) None d x ha hb hc hd h = absurd (cc h)
four_ok (Some a) (Some b) (Some c) None x ha hb hc hd h = absurd (cc h)

dotted_ok : (ws : List (List ℕ)) (x : Address) → dotted_of ws ≡ Some x → IsAddress x
unfolding dotted_of
dotted_ok [] x h = absurd (cc h)
dotted_ok (a ∷ []) x h = absurd (cc h)
dotted_ok (a ∷ b ∷ []) x h = absurd (cc h)
dotted_ok (a ∷ b ∷ c ∷ []) x h = absurd (cc h)
dotted_ok (a ∷ b ∷ c ∷ d ∷ []) x h = four_ok (octet_of a) (octet_of b) (octet_of c) (octet_of d) x (octet_ok a) (octet_ok b) (octet_ok c) (octet_ok d) h
dotted_ok (a ∷ b ∷ c ∷ d ∷ f ∷ ws) x h = absurd (cc h)

sixteen : (w : List ℕ) (o : Option (List ℕ)) (x : Address) → length w ≡ 32 →
    ((bytes : List ℕ) → o ≡ Some bytes → (length w ≡ 2 * length bytes) × IsBytes bytes) → option_map V6 o ≡ Some x → IsAddress x
sixteen w None x len b h = absurd (cc h)
sixteen w (Some bytes) x len b h =
    let e : V6 bytes ≡ x = cc h in
    let p = b bytes refl in
    rw (← e) (omega (arith, p.0), p.1)

address_case : (b : Bool) (w : List ℕ) (x : Address) → (length w == 32) ≡ b →
    cond b (option_map V6 (bytes_of_hex w)) (dotted_of (between_dots w)) ≡ Some x → IsAddress x
address_case true w x e h = sixteen w (bytes_of_hex w) x (eqb-true _ _ e) (hex_bytes w) h
address_case false w x e h = dotted_ok (between_dots w) x h

address_of_ok : (w : List ℕ) (x : Address) → address_of w ≡ Some x → IsAddress x
unfolding address_of
address_of_ok w x h = address_case (length w == 32) w x refl h

pub address_ok : (ws : List (List ℕ)) (t : Taken Address) → address_in ws ≡ Ok t → IsAddress t.value
unfolding address_in
address_ok ws t h = let w = word_as_ok address_of _ ws t h in address_of_ok w.0 t.value w.2
