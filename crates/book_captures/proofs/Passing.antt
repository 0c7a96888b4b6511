-- Tags and labels are passed over.
use Rattle.std.proofs.Common.{◌≡◌, ℕ, ◌+◌, ◌*◌, ◌/◌, ◌%◌, List, [], ◌∷◌, ◌++◌, Ok, refl, ap, ◌∙◌, arith}
use Rattle.std.specs.List.{All}
use Rattle.std.proofs.lemmas.List.Elements.{All-head, All-tail}
use Rattle.std.proofs.lemmas.Nat.{div-add-mod'}
use Rattle.book_captures.specs.declared.link_type.Protocol.{Protocol}
use Rattle.book_captures.specs.declared.link_type.Protocol.TheVariants.{Ip, Tag, Labels}
use Rattle.book_captures.specs.Frames.{ethertype, behind_tags, behind_labels}
use Rattle.book_captures.specs.Spelled.{TagEntry, IsTag, first_kind, spell_tags, LabelEntry, spell_label, spell_labels}

-- one tag
tag_passes : (a b c d : ℕ) (rest : List ℕ) → behind_tags Tag (a ∷ b ∷ c ∷ d ∷ rest) ≡ behind_tags (ethertype (c * 256 + d)) rest
unfolding behind_tags
tag_passes a b c d rest = refl

pub tags_pass : (tags : List TagEntry) (kind : ℕ) (body : List ℕ) → All IsTag tags
    → behind_tags (ethertype (first_kind tags kind)) (spell_tags tags kind body) ≡ behind_tags (ethertype kind) body
tags_pass [] kind body all = refl
tags_pass (t ∷ ts) kind body all =
    let next = first_kind ts kind in
    ap (λ (p : Protocol). behind_tags p (spell_tags (t ∷ ts) kind body)) (All-head IsTag t ts all)
    ∙ (tag_passes t.high t.low (next / 256) (next % 256) (spell_tags ts kind body)
    ∙ (ap (λ (n : ℕ). behind_tags (ethertype n) (spell_tags ts kind body)) (div-add-mod' next 256)
    ∙ tags_pass ts kind body (All-tail IsTag t ts all)))

-- one label above the bottom, and the one at the bottom
label_passes : (a b c d : ℕ) (rest : List ℕ) → c % 2 ≡ 0 → behind_labels Labels (a ∷ b ∷ c ∷ d ∷ rest) ≡ behind_labels Labels rest
unfolding behind_labels
label_passes a b c d rest even = rw even refl

bottom_passes : (a b c d : ℕ) (rest : List ℕ) → c % 2 ≡ 1 → behind_labels Labels (a ∷ b ∷ c ∷ d ∷ rest) ≡ Ok (record { protocol = Ip; body = rest })
unfolding behind_labels
bottom_passes a b c d rest odd = rw odd refl

low_bit_0 : (n m : ℕ) → (n % 16 * 16 + m * 2 + 0) % 2 ≡ 0
low_bit_0 n m = omega arith

low_bit_1 : (n m : ℕ) → (n % 16 * 16 + m * 2 + 1) % 2 ≡ 1
low_bit_1 n m = omega arith

pub labels_pass : (above : List LabelEntry) (bottom : LabelEntry) (body : List ℕ)
    → behind_labels Labels (spell_labels above (spell_label bottom 1 ++ body)) ≡ Ok (record { protocol = Ip; body = body })
labels_pass [] e body =
    bottom_passes (e.label / 4096) (e.label / 16 % 256) (e.label % 16 * 16 + e.class * 2 + 1) e.time body (low_bit_1 e.label e.class)
labels_pass (e ∷ es) bottom body =
    label_passes (e.label / 4096) (e.label / 16 % 256) (e.label % 16 * 16 + e.class * 2 + 0) e.time (spell_labels es (spell_label bottom 1 ++ body)) (low_bit_0 e.label e.class)
    ∙ labels_pass es bottom body
