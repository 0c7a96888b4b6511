-- What the other kernel gave comes out byte for byte.
use Rattle.std.proofs.Common.{◌≡◌, ℕ, Bool, true, false, List, [], ◌++◌, length, Some, Result, Ok, Err, ◌/◌, ◌%◌, ◌==◌, refl, sym, ap, subst, ◌∙◌, arith, if◌then◌else◌}
use Rattle.std.proofs.lemmas.List.{length-append, nil_from_length}
use Rattle.book_base.specs.declared.address.Pair.{Pair}
use Rattle.book_segments.specs.Segments.{Segment, Read, reading, has, SYN, spell}
use Rattle.book_segments.specs.Sockets.{same_socket}
use Rattle.book_segments.specs.Spelling.{AreBytes}
use Rattle.book_segments.proofs.SocketLaws.{same_socket-refl}
use Rattle.book_segments.proofs.SpellLaws.{read_stands}
use Rattle.book_endpoint.specs.Arrivals.{from_peer}
use Rattle.book_shim.specs.declared.kept.Kept.{Kept}
use Rattle.book_shim.specs.declared.refusal.Unsent.TheVariants.{Foreign}
use Rattle.book_shim.specs.Keeping.{Setting}
use Rattle.book_shim.specs.Leaving.{Sealed, send_sealed, send_read, outbound, as_sent, code_for, input_for}
use Rattle.book_shim.specs.Arriving.{Opened, inbound}
use Rattle.book_shim.specs.Relaying.{relaid, coming_area, most_mss}
use Rattle.law_shim.specs.Worlds.{Side, other, pair_at}
use Rattle.law_shim.specs.Origins.{IsMet, ComesOut}
use Rattle.law_shim.proofs.Returning.{comes_out}
use Rattle.law_shim.proofs.Running.{was_sent, was_taken, local_across, remote_across}
use Rattle.law_shim.proofs.Sealing.{relaid_keeps, sent_keeps}
use Rattle.law_shim.specs.Whole.{StaysWhole, ComesBack}
use Rattle.law_shim.proofs.Again.{relaid_own, sent_twice}
use Rattle.book_endpoint.specs.Emissions.{written_ao}

read_same : (d e : Segment) → Read d ≡ Read e → d ≡ e
read_same d e h = cc

some_same : (a b : List ℕ) → Some a ≡ Some b → a ≡ b
some_same a b e = cc

ok_same : {A F : Type 0} (x y : A) → ◌≡◌ {A = Result A F} (Ok x) (Ok y) → x ≡ y
ok_same x y e = cc

-- what was sent was sealed
sent_by : (b : Bool) (here : Setting) (pair : Pair) (g : Kept) (d : Segment) (m : Sealed) → (if b then send_sealed here pair g d else Err Foreign) ≡ Ok m → send_sealed here pair g d ≡ Ok m
sent_by true here pair g d m e = e
sent_by false here pair g d m e = absurd (cc)

-- it comes from the peer of the guard across
is_from : (pair : Pair) (d : Segment) → d.source ≡ pair.remote → d.destination ≡ pair.local → from_peer pair d ≡ true
is_from pair d s t =
    let one : same_socket d.source pair.remote ≡ true = ap (same_socket d.source) (sym s) ∙ same_socket-refl d.source in
    let two : same_socket d.destination pair.local ≡ true = ap (same_socket d.destination) (sym t) ∙ same_socket-refl d.destination in
    rw (one, two) refl

nothing_after : (bytes front after : List ℕ) → bytes ≡ front ++ after → length bytes ≡ length front → after ≡ []
nothing_after bytes front after e long =
    let a = length-append front after in
    let b : length bytes ≡ length (front ++ after) = ap (λ (l : List ℕ). length l) e in
    nil_from_length after (omega arith)

pub comes_back : (pair : Pair) (at : Side) (sending here : Setting) (there kept : Kept) (bytes arrived : List ℕ) (m : Sealed) → AreBytes bytes
    → outbound sending (pair_at pair (other at)) there bytes ≡ Ok m → StaysWhole m.given m.sending → IsMet here (pair_at pair at) kept m → reading arrived ≡ Read m.segment
    → ComesBack here (pair_at pair at) kept m bytes arrived
comes_back pair at sending here there g bytes arrived m b e stays met came =
    let P = pair_at pair at in
    let Q = pair_at pair (other at) in
    let w = was_sent sending Q there (reading bytes) m e in
    let d = w.given in
    let z = w.sealed_so in
    let given : m.given ≡ d = ap (λ (x : Sealed). x.given) z.sent_is in
    let front = read_stands bytes d b w.read in
    let f = front.1 in
    let sealed_so : send_sealed sending Q there d ≡ Ok m = sent_by _ sending Q there d m (ap (send_read sending Q there) (sym w.read) ∙ e) in
    let out : ComesOut here P g m = comes_out sending here Q P there g d m f sealed_so met in
    let s = m.segment in
    let a = z.area ++ written_ao m.sending (code_for m.sending m.context (input_for d z.area m.sending m.number)) in
    let s_is : s ≡ as_sent (relaid d a) = ap (λ (x : Sealed). x.segment) z.sent_is in
    let k = sent_keeps d a in
    let source : s.source ≡ P.remote = ap (λ (x : Segment). x.source) s_is ∙ k.source ∙ w.source ∙ local_across pair at in
    let destination : s.destination ≡ P.local = ap (λ (x : Segment). x.destination) s_is ∙ k.destination ∙ w.destination ∙ remote_across pair at in
    let t = out.taken in
    let takes : inbound here P g arrived ≡ Ok t = out.takes arrived came (is_from P s source destination) in
    let o = was_taken here P g (reading arrived) t takes in
    let read : o.segment ≡ s = read_same o.segment s (sym o.read ∙ came) in
    let area = coming_area (most_mss here.mtu o.segment) o.segment.area in
    let t_is : t.segment ≡ relaid o.segment area = ap (λ (x : Opened). x.segment) o.opened_so.taken_is in
    let no_syn : has SYN s ≡ false = ap (λ (x : Segment). has SYN x) s_is ∙ ap (λ (n : ℕ). (n / 2) % 2 == 1) (k.flags ∙ ap (λ (x : Segment). x.flags) (sym given)) ∙ stays.no_syn in
    let options : out.options ≡ d.area = some_same out.options d.area (sym out.fit ∙ stays.fits ∙ ap (λ (x : Segment). Some x.area) given) in
    let area_is : area ≡ d.area = sym (relaid_keeps o.segment area).area_is ∙ ap (λ (x : Segment). x.area) (sym t_is) ∙ out.stay no_syn ∙ options in
    let P_ : Segment → Type 0 = λ x. StaysWhole x m.sending in
    let own = subst P_ given stays in
    let same : t.segment ≡ d =
    t_is ∙ ap (λ (x : Segment). relaid x area) (read ∙ s_is) ∙ ap (relaid (as_sent (relaid d a))) area_is ∙ sent_twice d a d.area ∙ relaid_own d f own.right own.below own.ip_below in
    let whole : bytes ≡ spell t.segment ++ front.0 = front.2 ∙ ap (λ (x : Segment). spell x ++ front.0) (sym same) in
    record {
      taken = t;
      takes = takes;
      after = front.0;
      same = whole;
      whole = λ long. nothing_after bytes (spell t.segment) front.0 whole (long ∙ ap (λ (x : Segment). length (spell x)) (given ∙ sym same));
    }
