-- The pieces of what a MAC is computed over, put one behind the other.
use Rattle.std.proofs.Common.{◌≡◌, ℕ, ◌+◌, ◌-◌, ◌*◌, ◌/◌, ◌%◌, ◌<◌, List, [], ◌∷◌, ◌++◌, length, take, drop, slice_index, refl, sym, subst, ap, ◌∙◌, append_assoc, arith}
use Rattle.std.proofs.lemmas.List.{length-drop, take_all}
use Rattle.book_base.specs.declared.address.Socket.{Socket}
use Rattle.book_segments.specs.Bytes.{put2, put4}
use Rattle.book_segments.specs.Options.{Ao}
use Rattle.book_segments.specs.Segments.{Segment, header, pseudo}
use Rattle.book_segments.specs.Sockets.{octets}
use Rattle.book_macs.specs.Contexts.{context}
use Rattle.book_why.specs.Recipes.{Recipe, MacChoices, behind_pseudo, bytes_sent, covered_with, input_made, recipe_by}
use Rattle.std.specs.Prelude.{Bool, true, false}
use Rattle.ao_mac.proofs.Parts.{pseudo-append, header-append, drop_rest}
use Rattle.book_macs.specs.Keys.{derivation_input}
use Rattle.scope_why.specs.MacsViews.{front_made}

pub context_joined : (s d : Socket) (i j : ℕ) → (octets s.address ++ octets d.address) ++ (put2 s.port (put2 d.port []) ++ put4 i (put4 j [])) ≡ context s d i j
unfolding context put2 put4
context_joined s d i j = append_assoc (octets s.address) (octets d.address) (put2 s.port (put2 d.port []) ++ put4 i (put4 j []))

header-two : (d : Segment) (sum other : ℕ) → header d other [] ≡ take 16 (header d sum []) ++ (put2 other [] ++ drop 18 (header d sum []))
unfolding header put2 put4
header-two d sum other = refl

-- the header with another checksum, in three pieces
pub header_kept : (hd : List ℕ) (d : Segment) (sum other : ℕ) → hd ≡ header d sum [] → take 16 hd ++ (put2 other [] ++ take (length hd - 18) (drop 18 hd)) ≡ header d other []
header_kept hd d sum other e =
    rw drop_rest (subst (λ (l : List ℕ). take 16 l ++ (put2 other [] ++ drop 18 l) ≡ header d other []) (sym e) (sym (header-two d sum other)))

-- the checksum in the header
pub checksum_read : (hd : List ℕ) (d : Segment) → hd ≡ header d d.checksum [] → d.checksum < 65536 → slice_index hd 16 * 256 + slice_index hd 17 ≡ d.checksum
unfolding header put2 put4
checksum_read hd d e small = rw e (let low = small in omega arith)

-- the area with other bytes in the MAC's place, in three pieces
pub covered_kept : (area : List ℕ) (ao : Ao) (mac : List ℕ) (n : ℕ) → n ≡ ao.place + 4 + length ao.mac
    → take (ao.place + 4) area ++ (mac ++ take (length area - n) (drop n area)) ≡ covered_with true area ao mac
covered_kept area ao mac n e = rw (drop_rest, e) refl

put4_wrap : (n : ℕ) (r x y : List ℕ) → r ++ x ≡ y → put4 n r ++ x ≡ put4 n y
unfolding put4
put4_wrap n r x y e = ap (λ (l : List ℕ). put4 n l) e

headers_joined : (d : Segment) (sum : ℕ) (x : List ℕ) → pseudo d (header d sum []) ++ x ≡ pseudo d (header d sum x)
headers_joined d sum x =
    ap (λ (l : List ℕ). l ++ x) (pseudo-append d (header d sum []))
    ∙ (append_assoc (pseudo d []) (header d sum []) x
    ∙ (ap (λ (l : List ℕ). pseudo d [] ++ l) (sym (header-append d sum x)) ∙ sym (pseudo-append d (header d sum x))))

front_joined : (b : Bool) (n : ℕ) (d : Segment) (sum : ℕ) (x : List ℕ) → put4 n (behind_pseudo b d (header d sum [])) ++ x ≡ put4 n (behind_pseudo b d (header d sum x))
front_joined true n d sum x = put4_wrap n (pseudo d (header d sum [])) x (pseudo d (header d sum x)) (headers_joined d sum x)
front_joined false n d sum x = put4_wrap n (header d sum []) x (header d sum x) (sym (header-append d sum x))

input_joined : (m : MacChoices) (d : Segment) (ao : Ao) → front_made m d ao ++ d.payload ≡ input_made m d ao
input_joined m d ao =
    append_assoc (put4 m.extension (behind_pseudo m.pseudo_header d (header d m.checksum []))) (covered_with m.with_options d.area ao m.mac_bytes) d.payload
    ∙ front_joined m.pseudo_header m.extension d m.checksum (covered_with m.with_options d.area ao m.mac_bytes ++ d.payload)

-- the parts of a recipe
pub recipe_joined : (m : MacChoices) (d : Segment) (ao : Ao) (derivation front payload : List ℕ) (taken : ℕ) → derivation ≡ derivation_input (context m.source m.destination m.source_isn m.destination_isn) m.output_length
    → front ≡ front_made m d ao → payload ≡ d.payload → taken ≡ bytes_sent m
    → ◌≡◌ {A = Recipe} (record { algorithm = m.algorithm; master = m.master; derivation = derivation; input = front ++ payload; part = m.part; taken = taken }) (recipe_by m d ao)
recipe_joined m d ao derivation front payload taken e1 e2 e3 e4 =
    let input : front ++ payload ≡ input_made m d ao = rw (e2, e3) (input_joined m d ao) in
    rw (e1, input, e4) refl

-- five pieces as one
pub put_five : (front a b c d now p q r s t : List ℕ) → a ≡ front ++ p → b ≡ a ++ q → c ≡ b ++ r → d ≡ c ++ s → now ≡ d ++ t → now ≡ front ++ (p ++ (q ++ (r ++ (s ++ t))))
put_five front a b c d now p q r s t one two three four five = rw (five, four, three, two, one) (simp append_assoc)
