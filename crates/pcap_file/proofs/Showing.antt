-- What a reader has shown, call by call.
use Rattle.std.proofs.Common.{◌≡◌, ℕ, ◌+◌, ◌-◌, ◌<◌, ◌≤◌, ◌==◌, inl, inr, if◌then◌else◌, Bool, true, false, List, [], ◌∷◌, ◌++◌, length, take, Option, Some, None, Result, Ok, Err, refl, sym, ap, ◌∙◌, append_assoc, arith}
use Rattle.std.proofs.lemmas.Bool.{cases_lt}
use Rattle.std.proofs.lemmas.List.{append-nil, length-append, take-append-le, take_all}
use Rattle.std.proofs.Math.Seq.{take-append-add}
use Rattle.ao_base.specs.Outside.{Side}
use Rattle.book_pcap.specs.declared.pcap_head.Head.{Head}
use Rattle.book_pcap.specs.declared.pcap_head.HeadFault.{HeadFault}
use Rattle.book_pcap.specs.Packets.{FileFault, Packet, Packets, opened, with_packet, packets_behind, packets_of}
use Rattle.book_pcap.proofs.Captures.{record_none, packets_step}
use Rattle.pcap_file.specs.declared.packets.PacketStep.TheVariants as step
use Rattle.pcap_file.specs.Reads.{Reading, GoesOn, Steps, and_packet, in_front, packets_after, packets_at}
use Rattle.pcap_file.proofs.Shorter.{none_shorter}

-- the reader took these bytes in all and showed these packets, besides those without a datagram: they are the packets of the bytes in front of those that it keeps, whatever follows, and no part of these bytes has more of them
pub record HasShown (reading : Reading) (given : List ℕ) (shown : List Packet) : Type 0 where
  pub front : List ℕ
  pub split : given ≡ front ++ reading.kept
  pub packets : (more : List ℕ) → packets_of (front ++ more) ≡ in_front shown (packets_at reading more)
  pub no_more : (n : ℕ) → n ≤ length front → length (packets_of (take n front)).list ≤ length shown
  pub taken : reading.taken ≡ length given

pub none_in_front : (r : Result (Head × List ℕ) HeadFault) → packets_behind r ≡ in_front [] (packets_after 0 r)
none_in_front (Ok body) = refl
none_in_front (Err fault) = refl

-- a new reader
pub shown_none : HasShown (record { kept = []; taken = 0; count = 0; head = None; over = false; packet = None }) [] []
shown_none = record {
  front = [];
  split = refl;
  packets = λ more. none_in_front (opened more);
  no_more = λ n few. (let none : n ≡ 0 = omega arith in rw none (omega arith));
  taken = refl;
}

by_test : (passed : Bool) (shown : List Packet) (p : Packet) (others : Packets) →
    in_front shown (if passed then others else record { list = p ∷ others.list; fault = others.fault }) ≡ in_front (if passed then shown else shown ++ p ∷ []) others
by_test true shown p others = refl
by_test false shown p others = ap (λ ps. record { list = ps; fault = others.fault }) (sym (append_assoc shown (p ∷ []) others.list))

nothing_at : (reading : Reading) (head : Head) → reading.head ≡ Some head → packets_at reading [] ≡ record { list = []; fault = None }
nothing_at reading head is = rw (is, packets_step head (reading.count + 1) [], record_none head.order) refl

no_fewer : (passed : Bool) (shown : List Packet) (p : Packet) → length shown ≤ length (if passed then shown else shown ++ p ∷ [])
no_fewer true shown p = omega arith
no_fewer false shown p = omega (arith, length-append shown (p ∷ []))

-- a packet more
module _ (before now : Reading) (a b : Side) (given next : List ℕ) (shown : List Packet) (p : Packet) (has : HasShown before given shown) (steps : Steps before now a b next step.Packet)
    (goes : GoesOn before now (before.kept ++ next) step.Packet) (packet_is : now.packet ≡ Some p) where
  packets_more : (more : List ℕ) → packets_of ((has.front ++ goes.0) ++ more) ≡ in_front (and_packet shown p) (packets_at now more)
  packets_more more =
      let some = sym goes.3 ∙ packet_is in
      let same : goes.1 ≡ p = cc in
      ap packets_of (append_assoc has.front goes.0 more)
      ∙ (has.packets (goes.0 ++ more)
      ∙ (ap (in_front shown) (goes.5 more)
      ∙ (ap (λ q. in_front shown (with_packet q (packets_at now more))) same
      ∙ by_test (length p.datagram == 0) shown p (packets_at now more))))

  -- no shorter part of the bytes in front has it
  not_before : (n : ℕ) → n < length (has.front ++ goes.0) → length (packets_of (take n (has.front ++ goes.0))).list ≤ length shown
  not_before n short = elim (cases_lt n (length has.front)) [
    | inl inside ↦ rw (take-append-le n has.front (goes.0) (omega arith)) (has.no_more n (omega arith))
    | inr behind ↦
        let k : ℕ = n - length has.front in
        let place : n ≡ length has.front + k = omega arith in
        let part : take n (has.front ++ goes.0) ≡ has.front ++ take k (goes.0) = ap (λ m. take m (has.front ++ goes.0)) place ∙ take-append-add has.front (goes.0) k in
        let some : k < length (goes.0) = omega (arith, short, behind, length-append has.front (goes.0)) in
        let none : (packets_at before (take k (goes.0))).list ≡ [] = none_shorter before now a b next (goes.0) k steps (goes.2) some in
        let list : (packets_of (take n (has.front ++ goes.0))).list ≡ shown =
        ap (λ xs. (packets_of xs).list) part ∙ (ap (λ (ps : Packets). ps.list) (has.packets (take k (goes.0))) ∙ (ap (λ (ps : List Packet). shown ++ ps) none ∙ append-nil shown)) in
        rw list (omega arith)
  ]

  no_more_then : (n : ℕ) → n ≤ length (has.front ++ goes.0) → length (packets_of (take n (has.front ++ goes.0))).list ≤ length (and_packet shown p)
  no_more_then n few = elim (cases_lt n (length (has.front ++ goes.0))) [
    | inl short ↦ let less = not_before n short in omega (arith, less, no_fewer (length p.datagram == 0) shown p)
    | inr all ↦
        let whole : take n (has.front ++ goes.0) ≡ has.front ++ goes.0 = take_all n (has.front ++ goes.0) all in
        let list : (packets_of (has.front ++ goes.0)).list ≡ and_packet shown p =
        ap (λ xs. (packets_of xs).list) (sym (append-nil (has.front ++ goes.0)))
        ∙ (ap (λ (ps : Packets). ps.list) (packets_more [])
        ∙ (ap (λ (ps : Packets). and_packet shown p ++ ps.list) (nothing_at now steps.answers.head steps.answers.known) ∙ append-nil (and_packet shown p))) in
        rw (whole, list) (omega arith)
  ]

  pub shown_more : (more : HasShown now (given ++ next) (and_packet shown p)) × ((n : ℕ) → n < length more.front → length (packets_of (take n more.front)).list ≤ length shown)
  shown_more =
      let size = length-append given next in
      let old = has.taken in
      let taken = steps.taken in (
        record {
          front = has.front ++ goes.0;
          split = ap (λ xs. xs ++ next) has.split ∙ (append_assoc has.front before.kept next ∙ (ap (λ xs. has.front ++ xs) goes.2 ∙ sym (append_assoc has.front (goes.0) now.kept)));
          packets = packets_more;
          no_more = no_more_then;
          taken = omega arith;
        },
        not_before,
      )

-- nothing more, or a fault
pub shown_all : (before : Reading) (given next : List ℕ) (shown : List Packet) (fault : Option FileFault) → HasShown before given shown →
    packets_at before (before.kept ++ next) ≡ record { list = []; fault = fault } → packets_of (given ++ next) ≡ record { list = shown; fault = fault }
shown_all before given next shown fault has none =
    ap packets_of (ap (λ xs. xs ++ next) has.split ∙ append_assoc has.front before.kept next)
    ∙ (has.packets (before.kept ++ next)
    ∙ (ap (in_front shown) none
    ∙ ap (λ ps. record { list = ps; fault = fault }) (append-nil shown)))

-- the bytes in front of those that are kept end with a record
pub shown_alone : (reading : Reading) (given : List ℕ) (shown : List Packet) (head : Head) (has : HasShown reading given shown) → reading.head ≡ Some head →
    packets_of has.front ≡ record { list = shown; fault = None }
shown_alone reading given shown head has is =
    ap packets_of (sym (append-nil has.front))
    ∙ (has.packets []
    ∙ (ap (in_front shown) (nothing_at reading head is)
    ∙ ap (λ ps. record { list = ps; fault = None }) (append-nil shown)))
