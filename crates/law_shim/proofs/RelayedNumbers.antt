-- The number under which a segment passes is that under which it was sealed.
use Rattle.std.proofs.Common.{◌≡◌, ℕ, ◌+◌, ◌-◌, ◌/◌, ◌%◌, ◌^◌, ◌<◌, ◌≤◌, ◌==◌, Bool, true, false, nat_lt, nat_le, List, [], ◌∷◌, Option, Some, None, Ok, refl, sym, ap, subst, ◌∙◌, arith, if◌then◌else◌, inl, inr}
use Rattle.std.proofs.lemmas.Bool.Decides.{nat_tests}
use Rattle.book_base.specs.declared.address.Pair.{Pair}
use Rattle.book_segments.specs.Bytes.{ring}
use Rattle.book_segments.specs.Meant.{meant}
use Rattle.book_segments.specs.Options.{Ao}
use Rattle.book_segments.specs.Segments.{Segment, reading, has, SYN, segment_length}
use Rattle.book_segments.specs.Spelling.{AreBytes}
use Rattle.book_segments.proofs.Fields.{put4_law}
use Rattle.book_macs.specs.MacInput.{mac_input}
use Rattle.book_endpoint.specs.States.{number_limit}
use Rattle.book_endpoint.specs.Verdicts.{Finding, segment_number}
use Rattle.book_endpoint.specs.Passing.{Passes}
use Rattle.book_endpoint.proofs.Passing.{meets}
use Rattle.book_shim.specs.declared.kept.Isns.{Isns}
use Rattle.book_shim.specs.declared.kept.Kept.{Kept}
use Rattle.book_shim.specs.Keeping.{Setting}
use Rattle.book_shim.specs.Leaving.{Sealed, entered, kept_for}
use Rattle.book_shim.specs.Arriving.{Opened, inbound, known_for, known_in}
use Rattle.book_shim.specs.Relaying.{coming_area, most_mss}
use Rattle.law_shim.specs.Worlds.{Side, other, Event, Made, kept_at, pair_at, run, was_made, WasSealed, IsBytewise}
use Rattle.law_shim.proofs.Opening.{remainder_of}
use Rattle.law_shim.proofs.Running.{IsMade, AllMade, all_made, was_taken, read_fits, authentic_input}
use Rattle.law_shim.proofs.Sealing.{relaid_keeps}
use Rattle.law_shim.specs.Laps.{HasOneNumber}

-- the numbers over which two MACs are have the same upper half
upper_half : (n m : ℕ) (d e : Segment) (p q : Ao) (f g : Bool) → mac_input n d p f ≡ mac_input m e q g → (n / 4294967296) % 4294967296 ≡ (m / 4294967296) % 4294967296
unfolding mac_input
upper_half n m d e p q f g h = (put4_law _ _ _ _ h).0

same_halves : (n m s t : ℕ) → n + s ≤ number_limit → m + t ≤ number_limit → (n / 4294967296) % 4294967296 ≡ (m / 4294967296) % 4294967296 → n % 4294967296 ≡ m % 4294967296 → n ≡ m
same_halves n m s t a b upper lower = omega arith

-- what is meant is near what is expected
meant_within : (seq expected n : ℕ) → meant seq expected ≡ Some n → (n < expected + 2147483648) × (expected ≤ n + 2147483648)
unfolding meant
meant_within seq expected n e =
    let ahead = (seq + ring - expected % ring) % ring in
    by_tests (nat_lt ahead (2 ^ 31)) (nat_le (ring - ahead) expected) refl refl e
  where
    by_tests : (b c : Bool) → b ≡ nat_lt ((seq + ring - expected % ring) % ring) (2 ^ 31) → c ≡ nat_le (ring - (seq + ring - expected % ring) % ring) expected
        → (if b then Some (expected + (seq + ring - expected % ring) % ring) else (if c then Some (expected - (ring - (seq + ring - expected % ring) % ring)) else None)) ≡ Some n
        → (n < expected + 2147483648) × (expected ≤ n + 2147483648)
    by_tests true c tb tc e =
        let is : expected + (seq + ring - expected % ring) % ring ≡ n = cc in
        let lt : (seq + ring - expected % ring) % ring < 2147483648 = grind (arith, nat_tests) in
        (omega arith, omega arith)
    by_tests false true tb tc e =
        let is : expected - (ring - (seq + ring - expected % ring) % ring) ≡ n = cc in
        let ge : 2147483648 ≤ (seq + ring - expected % ring) % ring = grind (arith, nat_tests) in
        let most : (seq + ring - expected % ring) % ring < ring = omega arith in
        let le : ring - (seq + ring - expected % ring) % ring ≤ expected = grind (arith, nat_tests) in
        (omega arith, omega arith)
    by_tests false false tb tc e = absurd (cc)

-- without SYN the number's lower half is the sequence number
lower_half : (d : Segment) (sent n : ℕ) → has SYN d ≡ false → d.sequence < ring → segment_number d (Some sent) ≡ Some n → n % 4294967296 ≡ d.sequence
lower_half d sent n h fits e =
    let m : meant d.sequence sent ≡ Some n = subst (λ (b : Bool). (if b then Some d.sequence else meant d.sequence sent) ≡ Some n) h e in
    remainder_of d.sequence sent n fits m

-- what is expected is what was heard
heard_in : (i : Option Isns) (heard x : ℕ) → (known_in i heard).expected ≡ Some x → heard ≡ x
heard_in None heard x e = absurd (cc)
heard_in (Some c) heard x e = cc

heard_for : (g : Kept) (d : Segment) (x : ℕ) → has SYN d ≡ false → (known_for g d).expected ≡ Some x → g.heard ≡ x
heard_for g d x h e = heard_in g.isns g.heard x (sym (expected_so g d h) ∙ e)
  where
    expected_so : (g : Kept) (d : Segment) → has SYN d ≡ false → (known_for g d).expected ≡ (known_in g.isns g.heard).expected
    expected_so g d h = rw h refl

-- what was sealed was made in the run
made_of : (pair : Pair) (events : List Event) (at : Side) (m : Sealed) (ms : List Made) → AllMade pair events ms → WasSealed at m ms → IsMade pair events (record { maker = at; sent = m })
made_of pair events at m [] h e = absurd e
made_of pair events at m (one ∷ past) h (inl is) = subst (λ (x : Made). IsMade pair events x) is h.0
made_of pair events at m (one ∷ past) h (inr later) = made_of pair events at m past h.1 later

same_flag : (d e : Segment) → d.flags ≡ e.flags → has SYN e ≡ false → has SYN d ≡ false
same_flag d e f h = ap (λ (n : ℕ). (n / 2) % 2 == 1) f ∙ h

pub one_number : (pair : Pair) (events : List Event) (at : Side) (here : Setting) (bytes : List ℕ) (t : Opened) → IsBytewise events → AreBytes bytes
    → inbound here (pair_at pair at) (kept_at (run pair events) at) bytes ≡ Ok t → was_made at t.passed (run pair events).made ≡ true → has SYN t.segment ≡ false
    → HasOneNumber pair events here at t
one_number pair events at here bytes t all b e made no_syn =
    let P = pair_at pair at in
    let g = kept_at (run pair events) at in
    let o = authentic_input pair events at here bytes t all b e made in
    let m = o.0.sent in
    let s = made_of pair events (other at) m (run pair events).made (all_made pair events all) o.0.made in
    let z = s.sealed_so in
    let w = was_taken here P g (reading bytes) t e in
    let d = w.segment in
    let fd = read_fits bytes d b w.read in
    let p = t.passed in
    let h : Passes here.rows P (known_for g d) here.now d p = meets here.rows P (known_for g d) here.now d p w.opened_so.judgement in
    let k = relaid_keeps d (coming_area (most_mss here.mtu d) d.area) in
    let out_flags : t.segment.flags ≡ d.flags = ap (λ (x : Opened). x.segment.flags) w.opened_so.taken_is ∙ k.flags in
    let out_sequence : t.segment.sequence ≡ d.sequence = ap (λ (x : Opened). x.segment.sequence) w.opened_so.taken_is ∙ k.sequence in
    let same_sequence : m.given.sequence ≡ d.sequence = o.0.agrees.sequence ∙ out_sequence in
    let near = h.number.without (same_flag d t.segment (sym out_flags) no_syn) in
    let lower : p.number % 4294967296 ≡ d.sequence = remainder_of d.sequence near.0 p.number fd.sequence near.2 in
    let sent_lower : m.number % 4294967296 ≡ m.given.sequence =
    lower_half m.given (kept_for (entered s.kept m.given) m.given).sent m.number (same_flag m.given t.segment o.0.agrees.flags no_syn) s.fits.sequence z.number_is in
    let input = sym (ap (λ (x : Sealed). x.input) z.sent_is) ∙ o.1 ∙ ap (λ (x : Finding). x.input) h.finding in
    let upper = upper_half m.number p.number _ d _ h.ao _ h.row.row.with_options input in
    let same : p.number ≡ m.number = same_halves p.number m.number (segment_length d) (segment_length m.given) h.in_range z.ends (sym upper) (lower ∙ sym same_sequence ∙ sym sent_lower) in
    let within = meant_within d.sequence near.0 p.number near.2 in
    let heard : g.heard ≡ near.0 = heard_for g d near.0 (same_flag d t.segment (sym out_flags) no_syn) near.1 in
    record {
      original = o.0;
      number = same;
      below = omega arith;
      above = omega arith;
    }
