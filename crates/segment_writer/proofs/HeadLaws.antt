-- What is laid out of the head of a draft is the segment of the draft.
use Rattle.std.proofs.Common.{◌≡◌, ℕ, ◌+◌, Bool, true, false, List, ◌++◌, length, Option, Some, None, refl, ap, ◌∙◌, arith, if◌then◌else◌}
use Rattle.book_base.specs.declared.address.Address.{Address}
use Rattle.book_base.specs.declared.address.Address.TheVariants.{V4, V6}
use Rattle.book_base.specs.declared.address.Pair.{Pair}
use Rattle.book_base.specs.Algorithms.{mac_length_of}
use Rattle.book_segments.specs.Bytes.{put2}
use Rattle.book_segments.specs.Segments.{IpHeader, Segment, SYN}
use Rattle.book_keys.specs.Coordination.{Sending}
use Rattle.book_endpoint.specs.States.{EndState, own_mss}
use Rattle.book_endpoint.specs.Emissions.{Draft, sets, ao_place, written, written_ip as book_ip, written_area as book_area}
use Rattle.tcp_segment.specs.declared.spelling.Head.{Head}
use Rattle.tcp_segment.specs.Layout.{drafted, mss_length, option_heads, written_ip}
use Rattle.segment_writer.specs.Heads.{head_for}

-- the maximum segment size, by whether SYN is set
abbrev mss_if : Bool → ℕ → Option ℕ
mss_if syn mss = if syn then Some mss else None

mss_is : (syn : Bool) (mss : ℕ) → mss_length (mss_if syn mss) ≡ ao_place syn
mss_is true mss = refl
mss_is false mss = refl

area_is : (pair : Pair) (syn : Bool) (chosen : Sending) (m : List ℕ) (h : Head)
    → h.mss ≡ mss_if syn (own_mss pair.local.address) → h.key_id ≡ chosen.key_id → h.rnext ≡ chosen.rnext_key_id
    → option_heads h (length m) ++ m ≡ book_area pair syn chosen m
unfolding put2
area_is pair true chosen m h e k r = rw (e, k, r) refl
area_is pair false chosen m h e k r = rw (e, k, r) refl

size_is : (pair : Pair) (syn : Bool) (chosen : Sending) (m : List ℕ) → length (book_area pair syn chosen m) ≡ 4 + length m + ao_place syn
unfolding put2
size_is pair true chosen m = omega arith
size_is pair false chosen m = omega arith

ip_is : (h : Head) (pair : Pair) (n : ℕ) (a : Address) → h.source ≡ pair.local → h.destination ≡ pair.remote → written_ip h n a ≡ book_ip pair n a
ip_is h pair n (V4 bytes) p q = rw (p, q) refl
ip_is h pair n (V6 bytes) p q = refl

-- what is laid out is the segment of the draft, whatever its MAC
pub drafts_are : (pair : Pair) (s : EndState) (draft : Draft) (chosen : Sending) (m : List ℕ) → length m ≡ mac_length_of chosen.row.algorithm
    → drafted (head_for pair s draft chosen) m draft.payload ≡ written pair s draft chosen m
drafts_are pair s draft chosen m e =
    let syn = sets draft.flags SYN in
    let h = head_for pair s draft chosen in
    let laid : List ℕ = option_heads h (length m) ++ m in
    let area : laid ≡ book_area pair syn chosen m = area_is pair syn chosen m h refl refl refl in
    let total : 20 + length laid + length draft.payload ≡ 24 + length m + ao_place syn + length draft.payload =
    omega (arith, ap length area, size_is pair syn chosen m) in
    let ip = ip_is h pair (20 + length laid + length draft.payload) pair.local.address refl refl ∙ ap (λ (n : ℕ). book_ip pair n pair.local.address) total in
    let w = written pair s draft chosen m in
    ap (λ (z : IpHeader). let k : Segment = record w { ip = z; area = laid } in k) ip
    ∙ ap (λ (z : List ℕ). let k : Segment = record w { area = z } in k) area

-- where TCP-AO stands in it
pub place_is : (flags : ℕ) (a : Address) → mss_length (mss_if (sets flags SYN) (own_mss a)) ≡ ao_place (sets flags SYN)
place_is flags a = mss_is (sets flags SYN) (own_mss a)
