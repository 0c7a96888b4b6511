-- An address as it is written is read as that address, and what is read is what the grammar spells.
use Rattle.std.proofs.Common.{◌≡◌, ◌⊎◌, inl, inr, ℕ, zero, suc, ◌+◌, ◌-◌, ◌*◌, ◌/◌, ◌%◌, ◌<◌, ◌==◌, List, [], ◌∷◌, ◌++◌, length, get_or, Option, Some, None, sym, refl, ap, ◌∙◌, subst, ⊎_elim, append-nil, arith, lit≤}
use Rattle.std.proofs.lemmas.Bool.{cases_Bool}
use Rattle.std.proofs.lemmas.Bool.Decides.{nat_tests}
use Rattle.std.proofs.lemmas.List.{nil_from_length}
use Rattle.std.specs.Net.Addr.{octets_of, segments_of}
use Rattle.std.specs.Net.Grammar.{IsDotted, IsColonHex}
use Rattle.std.specs.Net.Reader.{read_ipv4, read_ipv6, whole_value}
use Rattle.std.specs.Net.Text.{ipv4_text, ipv6_text}
use Rattle.std.proofs.NetLemmas.Ipv4.{read_ipv4_complete, read_ipv4_sound}
use Rattle.std.proofs.NetLemmas.Ipv6.{read_ipv6_complete, read_ipv6_sound, EndsGroups-nil, IsDotted-not_colon_hex}
use Rattle.std.proofs.NetLemmas.Texts.{IsDotted-ipv4_text, IsColonHex-ipv6_text}
use Rattle.book_base.specs.declared.address.Address.{Address}
use Rattle.book_base.specs.declared.address.Address.TheVariants.{V4, V6}
use Rattle.book_scope_texts.specs.Addresses.{IsAddress, usual_address_of, usual_address_text, ipv4_or, address_of_groups}

option_cases : {A : Type 0} (o : Option A) → (o ≡ None) ⊎ ((x : A) × (o ≡ Some x))
option_cases None = inl refl
option_cases (Some x) = inr (x, refl)

whole_ipv4 : (text octets : List ℕ) → IsDotted text octets → whole_value (read_ipv4 text) ≡ Some octets
whole_ipv4 text octets spelled =
    ap whole_value (ap read_ipv4 (sym (append-nil text)) ∙ read_ipv4_complete text octets [] spelled (lit≤ tt))

whole_ipv6 : (text segments : List ℕ) → IsColonHex text segments → whole_value (read_ipv6 text) ≡ Some segments
whole_ipv6 text segments spelled =
    ap whole_value (ap read_ipv6 (sym (append-nil text)) ∙ read_ipv6_complete text segments [] spelled EndsGroups-nil)

no_ipv4 : (text : List ℕ) → ((octets : List ℕ) → ¬ (IsDotted text octets)) → whole_value (read_ipv4 text) ≡ None
no_ipv4 text never =
    ⊎_elim
    (λ none. ap whole_value none)
    (λ some.
    let sound = read_ipv4_sound text some.0.0 some.0.1 some.1 in
    ap whole_value some.1 ∙ ⊎_elim
    (λ ended. absurd (never some.0.0 (subst (λ t. IsDotted t some.0.0) (sym (sound.1 ∙ ap (λ r. sound.0 ++ r) (nil_from_length some.0.1 (grind (arith, nat_tests))) ∙ append-nil sound.0)) sound.2)))
    (λ more. rw more)
    (cases_Bool (length some.0.1 == 0)))
    (option_cases (read_ipv4 text))

no_ipv6 : (text : List ℕ) → ((segments : List ℕ) → ¬ (IsColonHex text segments)) → whole_value (read_ipv6 text) ≡ None
no_ipv6 text never =
    ⊎_elim
    (λ none. ap whole_value none)
    (λ some.
    let sound = read_ipv6_sound text some.0.0 some.0.1 some.1 in
    ap whole_value some.1 ∙ ⊎_elim
    (λ ended. absurd (never some.0.0 (subst (λ t. IsColonHex t some.0.0) (sym (sound.1 ∙ ap (λ r. sound.0 ++ r) (nil_from_length some.0.1 (grind (arith, nat_tests))) ∙ append-nil sound.0)) sound.2)))
    (λ more. rw more)
    (cases_Bool (length some.0.1 == 0)))
    (option_cases (read_ipv6 text))

-- four decimals with dots between them
pub dotted_read : (text octets : List ℕ) → IsDotted text octets → usual_address_of text ≡ Some (V4 octets)
unfolding usual_address_of
dotted_read text octets spelled =
    ap (λ o. ipv4_or o (address_of_groups (whole_value (read_ipv6 text)))) (whole_ipv4 text octets spelled)

-- groups with colons between them
pub groups_read : (text segments : List ℕ) → IsColonHex text segments → usual_address_of text ≡ Some (V6 (octets_of segments))
unfolding usual_address_of
groups_read text segments spelled =
    ap (λ o. ipv4_or o (address_of_groups (whole_value (read_ipv6 text))))
    (no_ipv4 text (λ octets dotted. IsDotted-not_colon_hex text octets segments dotted spelled))
    ∙ ap address_of_groups (whole_ipv6 text segments spelled)

-- no other text
pub others_refused : (text : List ℕ) → ((octets : List ℕ) → ¬ (IsDotted text octets)) → ((segments : List ℕ) → ¬ (IsColonHex text segments)) → usual_address_of text ≡ None
unfolding usual_address_of
others_refused text four groups =
    ap (λ o. ipv4_or o (address_of_groups (whole_value (read_ipv6 text)))) (no_ipv4 text four)
    ∙ ap address_of_groups (no_ipv6 text groups)

pub octets_of-segments : (n : ℕ) (xs : List ℕ) → length xs ≡ 2 * n → ((k : ℕ) → get_or xs k 0 < 256) → octets_of (segments_of xs) ≡ xs
octets_of-segments n [] even small = refl
octets_of-segments n (a ∷ []) even small = absurd (omega arith)
octets_of-segments n (a ∷ b ∷ xs) even small =
    let low : b < 256 = small 1 in
    let high : (a * 256 + b) / 256 ≡ a = omega arith in
    let rest : (a * 256 + b) % 256 ≡ b = omega arith in
    λ i. high i ∷ rest i ∷ octets_of-segments (n - 1) xs (omega arith) (λ k. small (suc (suc k))) i

length-segments : (n : ℕ) (xs : List ℕ) → length xs ≡ 2 * n → length (segments_of xs) ≡ n
length-segments n [] even = omega arith
length-segments n (a ∷ []) even = absurd (omega arith)
length-segments n (a ∷ b ∷ xs) even = omega (arith, length-segments (n - 1) xs (omega arith))

segments_small : (xs : List ℕ) → ((k : ℕ) → get_or xs k 0 < 256) → (k : ℕ) → get_or (segments_of xs) k 0 < 65536
segments_small [] small k = omega arith
segments_small (a ∷ []) small k = omega arith
segments_small (a ∷ b ∷ xs) small zero = omega (arith, small 0, small 1)
segments_small (a ∷ b ∷ xs) small (suc k) = segments_small xs (λ j. small (suc (suc j))) k

pub read_back : (address : Address) → IsAddress address → usual_address_of (usual_address_text address) ≡ Some address
unfolding usual_address_text
read_back (V4 bytes) (inr h) = absurd h
read_back (V6 bytes) (inl h) = absurd h
read_back (V4 bytes) (inl h) = dotted_read (ipv4_text bytes) bytes (IsDotted-ipv4_text bytes h.0 h.1)
read_back (V6 bytes) (inr h) =
    groups_read (ipv6_text (segments_of bytes)) (segments_of bytes)
    (IsColonHex-ipv6_text (segments_of bytes) (length-segments 8 bytes h.0) (segments_small bytes h.1))
    ∙ ap (λ o. Some (V6 o)) (octets_of-segments 8 bytes h.0 h.1)
