-- A byte past the IP header is altered.
use Rattle.std.proofs.Common.{◌≡◌, ℕ, ◌+◌, ◌/◌, ◌<◌, ◌≤◌, Bool, true, false, List, length, sym, ap, ◌∙◌, subst, arith}
use Rattle.std.specs.Prelude.{slice_index, bit_xor, ◌==◌, if◌then◌else◌}
use Rattle.std.proofs.lemmas.List.{length-set, get_or-set_other}
use Rattle.book_segments.specs.Spelling.{ip_length, with_right_checksum}
use Rattle.tcp_segment.specs.Sums.{HasPlainHeader}
use Rattle.book_link.specs.declared.event.Fixing.{Fixing}
use Rattle.book_link.specs.declared.event.Fixing.TheVariants.{Keep, Fix}
use Rattle.book_link.specs.Alterations.{altered, masked, place_in}

some_length : (four : Bool) → 20 ≤ (if four then 20 else 40)
some_length true = omega arith
some_length false = omega arith

masked_long : (b : List ℕ) (i mask : ℕ) → length (masked b i mask) ≡ length b
masked_long b i mask = length-set b i (bit_xor (slice_index b i) mask)

masked_first : (b : List ℕ) (i mask : ℕ) → 0 < i → slice_index (masked b i mask) 0 ≡ slice_index b 0
masked_first b i mask h = get_or-set_other b i 0 (bit_xor (slice_index b i) mask) 0 (omega arith)

-- its IP header stays plain
masked_plain : (b : List ℕ) (place mask : ℕ) → HasPlainHeader b → HasPlainHeader (masked b (place_in b place) mask)
masked_plain b place mask h =
    let i : ℕ = place_in b place in
    let least : 20 ≤ ip_length b = some_length (slice_index b 0 / 16 == 4) in
    let long : length (masked b i mask) ≡ length b = masked_long b i mask in
    let same : ip_length (masked b i mask) ≡ ip_length b = ap (λ (x : ℕ). if x / 16 == 4 then 20 else 40) (masked_first b i mask (omega (arith, least))) in
    let one = h.least in
    let two = h.most in
    record { least = omega (arith, one, long, same); most = omega (arith, two, long, same) }

-- the copy, in the model's place
masked_in : (b copy : List ℕ) (header behind place mask : ℕ) → header ≡ ip_length b → behind ≡ place → copy ≡ masked b (header + behind) mask
    → copy ≡ masked b (place_in b place) mask
masked_in b copy header behind place mask e p is = is ∙ ap (λ (i : ℕ). masked b i mask) (ap (λ (n : ℕ). n + behind) e ∙ ap (λ (n : ℕ). ip_length b + n) p)

-- the copy that is to be fixed
pub copy_plain : (b copy : List ℕ) (header behind place mask : ℕ) → header ≡ ip_length b → behind ≡ place → copy ≡ masked b (header + behind) mask
    → HasPlainHeader b → HasPlainHeader copy
copy_plain b copy header behind place mask e p is h =
    subst HasPlainHeader (sym (masked_in b copy header behind place mask e p is)) (masked_plain b place mask h)

-- the copy once it was fixed
pub copy_fixed : (b copy : List ℕ) (header behind place mask : ℕ) (fixing : Fixing) → header ≡ ip_length b → behind ≡ place → copy ≡ masked b (header + behind) mask
    → fixing ≡ Fix → with_right_checksum copy ≡ altered b (record { place = place; mask = mask; fixing = fixing })
unfolding altered
copy_fixed b copy header behind place mask fixing e p is on =
    rw on (ap with_right_checksum (masked_in b copy header behind place mask e p is))

-- the copy that stays
pub copy_left : (b copy : List ℕ) (header behind place mask : ℕ) (fixing : Fixing) → header ≡ ip_length b → behind ≡ place → copy ≡ masked b (header + behind) mask
    → fixing ≡ Keep → copy ≡ altered b (record { place = place; mask = mask; fixing = fixing })
unfolding altered
copy_left b copy header behind place mask fixing e p is off = rw off (masked_in b copy header behind place mask e p is)
