-- A SYN with ACK gives both guards its two initial sequence numbers.
use Rattle.std.proofs.Common.{◌≡◌, ℕ, ◌+◌, ◌==◌, ◌&&◌, ◌||◌, Bool, true, false, Option, Some, None, Ok, refl, ap, ◌∙◌, arith, if◌then◌else◌}
use Rattle.std.proofs.lemmas.Bool.Decides.{nat_tests}
use Rattle.book_base.specs.declared.address.Pair.{Pair}
use Rattle.book_segments.specs.Segments.{Segment, has, SYN, ACK}
use Rattle.book_shim.specs.declared.kept.Isns.{Isns}
use Rattle.book_shim.specs.declared.kept.Kept.{Kept}
use Rattle.book_shim.specs.Keeping.{Setting, is_the_number, are_isns, is_opening_syn, answered_isn, connection_begun}
use Rattle.book_shim.specs.Leaving.{Sealed, send_sealed, entered, accepting, resets}
use Rattle.book_shim.specs.Arriving.{Opened, take_in, joined, admitted, is_of_connection}
use Rattle.law_shim.proofs.Sealing.{sends, takes}

-- these numbers
abbrev pub these : ℕ → ℕ → Option Isns
these own peer = Some (record { own = own; peer = peer })

eq_is : (x y : ℕ) → (x == y) ≡ true → x ≡ y
eq_is x y e = grind (arith, nat_tests)

and_two : (a b : Bool) → (a && b) ≡ true → (a ≡ true) × (b ≡ true)
and_two true true e = (refl, refl)
and_two true false e = absurd (cc)
and_two false b e = absurd (cc)

isns_are : (i : Option Isns) (own peer : ℕ) → are_isns i own peer ≡ true → i ≡ these own peer
isns_are None own peer e = absurd (cc)
isns_are (Some c) own peer e =
    let t = and_two (c.own == own) (c.peer == peer) e in
    let o = eq_is c.own own t.0 in
    let p = eq_is c.peer peer t.1 in
    ap (λ (x : ℕ). these x c.peer) o ∙ ap (λ (x : ℕ). these own x) p

accepts_by : (b : Bool) (g : Kept) (own peer : ℕ) → are_isns g.isns own peer ≡ b → (if b then g else connection_begun g own peer).isns ≡ these own peer
accepts_by true g own peer t = isns_are g.isns own peer t
accepts_by false g own peer t = refl

entered_by : (g : Kept) (d : Segment) → has SYN d ≡ true → has ACK d ≡ true → entered g d ≡ accepting g d.sequence (answered_isn d)
entered_by g d s a = rw (s, a) refl

past_isns : (b c s : Bool) (g : Kept) (n : ℕ) → (if b then g else (if c then record g { late = None } else record g { sent = n; settled = s })).isns ≡ g.isns
past_isns true c s g n = refl
past_isns false true s g n = refl
past_isns false false s g n = refl

heard_isns : (b s : Bool) (g : Kept) (n : ℕ) → (if b then record g { heard = n; settled = s } else g).isns ≡ g.isns
heard_isns true s g n = refl
heard_isns false s g n = refl

pub sealed_mirrors : (here : Setting) (pair : Pair) (g : Kept) (d : Segment) (m : Sealed) → send_sealed here pair g d ≡ Ok m → has SYN d ≡ true → has ACK d ≡ true
    → m.kept.isns ≡ these d.sequence (answered_isn d)
sealed_mirrors here pair g d m h s a =
    let z = sends here pair g d m h in
    ap (λ (x : Sealed). x.kept.isns) z.sent_is ∙ past_isns (is_opening_syn d) (resets (entered g d).late d) _ (entered g d) _
    ∙ ap (λ (k : Kept). k.isns) (entered_by g d s a) ∙ accepts_by (are_isns g.isns d.sequence (answered_isn d)) g d.sequence (answered_isn d) refl

admitted_by : (g : Kept) (d : Segment) → has SYN d ≡ true → has ACK d ≡ true → admitted g d ≡ joined g (answered_isn d) d.sequence
admitted_by g d s a = rw (s, a) refl

-- what is kept of a SYN with ACK that was taken has the numbers of what it joined
taken_by : (here : Setting) (pair : Pair) (g : Kept) (d : Segment) (t : Opened) → take_in here pair g d ≡ Ok t → has SYN d ≡ true → has ACK d ≡ true
    → t.kept.isns ≡ (joined g (answered_isn d) d.sequence).isns
taken_by here pair g d t h s a =
    let w = takes here pair g d t h in
    ap (λ (x : Opened). x.kept.isns) w.taken_is ∙ heard_isns (is_of_connection (admitted g d) d) _ (admitted g d) _ ∙ ap (λ (k : Kept). k.isns) (admitted_by g d s a)

joins_by : (b : Bool) (g other : Kept) (own peer : ℕ) → b ≡ true → (if b then connection_begun g own peer else other).isns ≡ these own peer
joins_by true g other own peer h = refl
joins_by false g other own peer h = absurd (cc)

pub taken_joins : (here : Setting) (pair : Pair) (g : Kept) (d : Segment) (t : Opened) → take_in here pair g d ≡ Ok t → has SYN d ≡ true → has ACK d ≡ true
    → is_the_number g.opening (answered_isn d) ≡ true → t.kept.isns ≡ these (answered_isn d) d.sequence
taken_joins here pair g d t h s a o =
    taken_by here pair g d t h s a ∙ joins_by (is_the_number g.opening (answered_isn d)) g _ (answered_isn d) d.sequence o

anew_by : (b c i s : Bool) (g : Kept) (own peer : ℕ) → c ≡ false → s ≡ false → are_isns g.isns own peer ≡ i
    → (if b then connection_begun g own peer else (if c then record g { late = these own peer } else (if i || s then g else record g { isns = these own peer; heard = peer + 1 }))).isns ≡ these own peer
anew_by true c i s g own peer e f t = refl
anew_by false true i s g own peer e f t = absurd (cc)
anew_by false false true s g own peer e f t = isns_are g.isns own peer t
anew_by false false false true g own peer e f t = absurd (cc)
anew_by false false false false g own peer e f t = refl

pub taken_anew : (here : Setting) (pair : Pair) (g : Kept) (d : Segment) (t : Opened) → take_in here pair g d ≡ Ok t → has SYN d ≡ true → has ACK d ≡ true
    → is_the_number g.given_up (answered_isn d) ≡ false → g.settled ≡ false → t.kept.isns ≡ these (answered_isn d) d.sequence
taken_anew here pair g d t h s a u f =
    taken_by here pair g d t h s a
    ∙ anew_by (is_the_number g.opening (answered_isn d)) (is_the_number g.given_up (answered_isn d)) (are_isns g.isns (answered_isn d) d.sequence) g.settled g (answered_isn d) d.sequence u f refl
