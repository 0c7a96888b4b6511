-- What a shim sealed passes at an end that is ready for it.
use Rattle.std.proofs.Common.{◌≡◌, ℕ, ◌==◌, ◌&&◌, not, Bool, true, false, List, Option, Some, None, Ok, refl, sym, ap, subst, ◌∙◌, arith}
use Rattle.std.proofs.lemmas.Bool.Decides.{nat_tests}
use Rattle.book_base.specs.declared.address.Pair.{Pair}
use Rattle.book_segments.specs.Segments.{Segment, Reading, Read, reading, has, good, SYN, ACK}
use Rattle.book_segments.specs.Spelling.{Fits}
use Rattle.book_macs.specs.Contexts.{context_of}
use Rattle.book_keys.specs.Plans.{mirrored}
use Rattle.book_keys.specs.Rows.{Row}
use Rattle.book_endpoint.specs.Arrivals.{arrive, from_peer, judged_by, numbers_known, number_expected}
use Rattle.book_endpoint.specs.States.{EndState, is_closed}
use Rattle.book_endpoint.specs.Verdicts.{Finding, Known, judge, segment_number}
use Rattle.book_shim.specs.declared.kept.Kept.{Kept}
use Rattle.book_shim.specs.Keeping.{Setting, fresh, answered_isn}
use Rattle.book_shim.specs.Leaving.{Sealed, send_sealed}
use Rattle.book_shim.specs.Arriving.{is_awaited, known_for, known_in}
use Rattle.law_shim.proofs.Returning.{comes_out}
use Rattle.law_shim.specs.Origins.{IsMet}
use Rattle.law_shim.proofs.Numbers.{known as both_known}
use Rattle.law_shim.proofs.Runs.{was_taken}
use Rattle.law_shim.specs.Ready.{IsReady, GoesThrough}

passed_at : (rows : List Row) (pair : Pair) (now : ℕ) (s : EndState) (d : Segment) (p : Finding) → from_peer pair d ≡ true → good d ≡ true → is_closed s.phase ≡ false → judged_by rows pair now s d ≡ Ok p
    → (arrive rows pair now s (Read d)).passed ≡ Some p
unfolding arrive
passed_at rows pair now s d p from right awake judged = rw (from, right, awake, judged) refl

same_is : (n : ℕ) → (n == n) ≡ true
same_is n = grind (arith, nat_tests)

-- with SYN the source's number is the segment's own
syn_one : (d : Segment) (a b : Option ℕ) (n : ℕ) → has SYN d ≡ true → context_of d a (Some n) ≡ context_of d b (Some n)
unfolding context_of
syn_one d a b n syn = rw syn refl

syn_alone : (d : Segment) (a b k l : Option ℕ) → has SYN d ≡ true → has ACK d ≡ false → context_of d a k ≡ context_of d b l
unfolding context_of
syn_alone d a b k l syn none = rw (syn, none) refl

syn_number : (d : Segment) (o : Option ℕ) → has SYN d ≡ true → segment_number d o ≡ Some d.sequence
syn_number d None syn = refl
syn_number d (Some x) syn = rw syn refl

judged_syn : (rows : List Row) (pair : Pair) (now : ℕ) (d : Segment) (i : ℕ) (a : Option ℕ) (j : ℕ) (b x y : Option ℕ) → context_of d a (Some i) ≡ context_of d b (Some j) → has SYN d ≡ true
    → judge rows pair (record { own_isn = i; peer_isn = a; expected = x }) now d ≡ judge rows pair (record { own_isn = j; peer_isn = b; expected = y }) now d
unfolding judge
judged_syn rows pair now d i a j b x y c syn = rw (c, syn_number d x syn, syn_number d y syn, syn) refl

known_syn : (g : Kept) (d : Segment) → has SYN d ≡ true → known_for g d ≡ record { own_isn = answered_isn d; peer_isn = None; expected = None }
known_syn g d syn = rw syn refl

known_plain : (g : Kept) (d : Segment) → has SYN d ≡ false → known_for g d ≡ known_in g.isns g.heard
known_plain g d plain = rw plain refl

known_end : (s : EndState) (q : ℕ) → s.peer_isn ≡ Some q → numbers_known s ≡ record { own_isn = s.isn; peer_isn = Some q; expected = Some s.expected }
known_end s q is = rw is refl

awaits : (g : Kept) (d : Segment) → (answered_isn d == answered_isn d) ≡ true → (has SYN d && has ACK d && not (is_awaited (record fresh { opening = Some (answered_isn d) }) d)) ≡ false
awaits g d e = by_tests (has SYN d) (has ACK d) e
  where
    by_tests : (x y : Bool) → (answered_isn d == answered_isn d) ≡ true → (x && y && not (is_awaited (record fresh { opening = Some (answered_isn d) }) d)) ≡ false
    by_tests true true e = rw e refl
    by_tests true false e = refl
    by_tests false y e = refl

no_syn : (g : Kept) (d : Segment) → has SYN d ≡ false → (has SYN d && has ACK d && not (is_awaited g d)) ≡ false
no_syn g d plain = rw plain refl

-- a guard that knows what the end does takes what was sealed, so it passes at the end
module _ (sending : Setting) (pair : Pair) (kept : Kept) (d : Segment) (m : Sealed) (rows : List Row) (now : ℕ) (s : EndState) (fits : Fits d) (h : send_sealed sending pair kept d ≡ Ok m) (ready : IsReady rows (mirrored pair) now s m) where
  through : (g : Kept) → ((p : Finding) → judge rows (mirrored pair) (known_for g m.segment) now m.segment ≡ Ok p → judged_by rows (mirrored pair) now s m.segment ≡ Ok p)
      → IsMet (record { rows = rows; now = now; mtu = 0 }) (mirrored pair) g m → GoesThrough rows (mirrored pair) now s m
  through g same met =
      let here : Setting = record { rows = rows; now = now; mtu = 0 } in
      let far = mirrored pair in
      let c = comes_out sending here pair far kept g d m fits h met in
      record {
        passed = c.taken.passed;
        passes = λ bytes read from.
            let w = was_taken here far g (reading bytes) c.taken (c.takes bytes read from) in
            let is : w.segment ≡ m.segment = read_is w.segment m.segment (sym w.read ∙ read) in
            ap (λ (r : Reading). (arrive rows far now s r).passed) read
            ∙ passed_at rows far now s m.segment c.taken.passed from (subst (λ (x : Segment). good x ≡ true) is w.opened_so.right) ready.awake
            (same c.taken.passed (subst (λ (x : Segment). judge rows far (known_for g x) now x ≡ Ok c.taken.passed) is w.opened_so.judgement));
        number = c.number;
      }
    where
      read_is : (x y : Segment) → Read x ≡ Read y → x ≡ y
      read_is x y e = cc

  syn_known : (b : Bool) → (has ACK m.segment ≡ b) → has SYN m.segment ≡ true → context_of m.segment None (Some (answered_isn m.segment)) ≡ context_of m.segment s.peer_isn (Some s.isn)
  syn_known true a syn =
      let both : (has SYN m.segment && has ACK m.segment) ≡ true = rw (syn, a) refl in
      syn_one m.segment None s.peer_isn (answered_isn m.segment) syn ∙ ap (λ n. context_of m.segment s.peer_isn (Some n)) (ready.answers both)
  syn_known false a syn = syn_alone m.segment None s.peer_isn (Some (answered_isn m.segment)) (Some s.isn) syn a

  with_syn : has SYN m.segment ≡ true → GoesThrough rows (mirrored pair) now s m
  with_syn syn =
      let e = m.segment in
      let g : Kept = record fresh { opening = Some (answered_isn e) } in
      let k : known_for g e ≡ record { own_isn = answered_isn e; peer_isn = None; expected = None } = known_syn g e syn in
      let c = syn_known (has ACK e) refl syn in
      let j = judged_syn rows (mirrored pair) now e (answered_isn e) None s.isn s.peer_isn None (number_expected s s.peer_isn) c syn in
      through g (λ p is. sym j ∙ (ap (λ (x : Known). judge rows (mirrored pair) x now e) (sym k) ∙ is)) (record {
        row = ready.row;
        accepted = ready.accepted;
        algorithm = ready.algorithm;
        master = ready.master;
        with_options = ready.with_options;
        awaited = awaits g e (same_is (answered_isn e));
        context = ap (λ (x : Known). context_of e x.peer_isn (Some x.own_isn)) k ∙ (c ∙ ready.context);
        near = λ plain. let no_way : true ≡ false = sym syn ∙ plain in absurd (cc);
      })

  without_syn : has SYN m.segment ≡ false → GoesThrough rows (mirrored pair) now s m
  without_syn plain =
      let e = m.segment in
      let b = both_known e s.peer_isn (Some s.isn) m.context plain ready.context in
      let g : Kept = record fresh { isns = Some (record { own = s.isn; peer = b.source }); heard = s.expected } in
      let k : known_for g e ≡ record { own_isn = s.isn; peer_isn = Some b.source; expected = Some s.expected } = known_plain g e plain in
      let n : numbers_known s ≡ record { own_isn = s.isn; peer_isn = Some b.source; expected = Some s.expected } = known_end s b.source b.of_source in
      let near = ready.near plain in
      through g (λ p is. ap (λ (x : Known). judge rows (mirrored pair) x now e) (n ∙ sym k) ∙ is) (record {
        row = ready.row;
        accepted = ready.accepted;
        algorithm = ready.algorithm;
        master = ready.master;
        with_options = ready.with_options;
        awaited = no_syn g e plain;
        context = ap (λ (x : Known). context_of e x.peer_isn (Some x.own_isn)) k ∙ (ap (λ (o : Option ℕ). context_of e o (Some s.isn)) (sym b.of_source) ∙ ready.context);
        near = λ q. (s.expected, ap (λ (x : Known). x.expected) k, near.0, near.1);
      })

pub goes_through : (sending : Setting) (pair : Pair) (kept : Kept) (d : Segment) (m : Sealed) (rows : List Row) (now : ℕ) (s : EndState) → Fits d → send_sealed sending pair kept d ≡ Ok m
    → IsReady rows (mirrored pair) now s m → GoesThrough rows (mirrored pair) now s m
goes_through sending pair kept d m rows now s fits h ready = by_test (has SYN m.segment) refl
  where
    by_test : (b : Bool) → has SYN m.segment ≡ b → GoesThrough rows (mirrored pair) now s m
    by_test true e = with_syn sending pair kept d m rows now s fits h ready e
    by_test false e = without_syn sending pair kept d m rows now s fits h ready e
