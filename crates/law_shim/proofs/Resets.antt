-- A RST is sealed under the connection of what it answers.
use Rattle.std.proofs.Common.{◌≡◌, ◌≢◌, ℕ, ◌+◌, ◌-◌, ◌%◌, ◌<◌, ◌==◌, ◌&&◌, ◌||◌, not, max, nat_le, Bool, true, false, List, Option, Some, None, Result, Ok, Err, refl, sym, ap, subst, ◌∙◌, arith, if◌then◌else◌}
use Rattle.std.proofs.lemmas.Bool.Decides.{nat_tests}
use Rattle.std.specs.List.{list_any}
use Rattle.book_base.specs.declared.address.Pair.{Pair}
use Rattle.book_base.specs.Results.{◌>>=◌, or_fault}
use Rattle.book_segments.specs.Bytes.{ring}
use Rattle.book_segments.specs.Options.{plains, listed, options_of}
use Rattle.book_segments.specs.Segments.{Segment, has, SYN, ACK, RST, segment_length}
use Rattle.book_segments.proofs.Fields.{eqb_is, some_is}
use Rattle.book_macs.specs.Contexts.{context, context_of}
use Rattle.book_keys.specs.Coordination.{choose}
use Rattle.book_endpoint.specs.States.{number_limit}
use Rattle.book_endpoint.specs.Verdicts.{Finding, Known, segment_number}
use Rattle.book_endpoint.specs.Emissions.{ao_length, no_mac}
use Rattle.book_endpoint.proofs.Passing.{meets}
use Rattle.book_shim.specs.declared.kept.Isns.{Isns}
use Rattle.book_shim.specs.declared.kept.Kept.{Kept}
use Rattle.book_shim.specs.declared.refusal.Unsent.{Unsent}
use Rattle.book_shim.specs.declared.refusal.Unsent.TheVariants.{Unkeyed, Signed, NoContext, Range, NoKey, NoRoom, TooLong}
use Rattle.book_shim.specs.Keeping.{Setting, demand, own_isn, peer_isn, is_keyed, is_the_number, are_isns, answered_isn, connection_begun}
use Rattle.book_shim.specs.Relaying.{fitted, length_in_header}
use Rattle.book_shim.specs.Leaving.{Sealed, signs, entered, resets, kept_for, send_within, with_ao}
use Rattle.book_shim.specs.Arriving.{Opened, take_in, known_in, known_for, joined, admitted, is_of_connection, handed_on}
use Rattle.law_shim.proofs.Mirrors.{these}
use Rattle.law_shim.proofs.Sealing.{sends, takes}
use Rattle.law_shim.specs.Resetting.{IsResetOf, IsHeardAcross}

-- ---- what is sealed under two numbers

after_demand : (b : Bool) (why : Unsent) (f : Unit {0} → Result Sealed Unsent) → why ≢ NoContext → ((u : Unit {0}) → f u ≢ Err NoContext) → (demand b why >>= f) ≢ Err NoContext
after_demand true why f other more = more tt
after_demand false why f other more = λ e. other (cc)

after_option : {A : Type 0} (o : Option A) (why : Unsent) (f : A → Result Sealed Unsent) → why ≢ NoContext → ((x : A) → f x ≢ Err NoContext) → (or_fault o why >>= f) ≢ Err NoContext
after_option (Some x) why f other more = more x
after_option None why f other more = λ e. other (cc)

after_context : (o : Option (List ℕ)) (c : List ℕ) (f : List ℕ → Result Sealed Unsent) → o ≡ Some c → ((x : List ℕ) → f x ≢ Err NoContext) → (or_fault o NoContext >>= f) ≢ Err NoContext
after_context (Some x) c f is more = more x
after_context None c f is more = absurd (cc)

has_context : (here : Setting) (pair : Pair) (e : Kept) (d : Segment) (c : List ℕ) → context_of d (own_isn (kept_for e d)) (peer_isn (kept_for e d)) ≡ Some c → send_within here pair e d ≢ Err NoContext
unfolding send_within
has_context here pair e d c is =
    let k = kept_for e d in
    after_demand (is_keyed here.rows pair) Unkeyed _ (λ e. cc)
    (λ u. after_demand (not (list_any signs (plains (listed (options_of d.area))))) Signed _ (λ e. cc)
    (λ u. after_context (context_of d (own_isn k) (peer_isn k)) c _ is
    (λ c. after_option (segment_number d (Some k.sent)) Range _ (λ e. cc)
    (λ n. after_demand (nat_le (n + segment_length d) number_limit) Range _ (λ e. cc)
    (λ u. after_option (choose e.current here.rows pair here.now) NoKey _ (λ e. cc)
    (λ s. after_option (fitted (40 - ao_length s) d.area) NoRoom _ (λ e. cc)
    (λ area. after_demand (nat_le (length_in_header d.ip (with_ao d area s (no_mac s))) 65535) TooLong _ (λ e. cc) (λ u e. cc))))))))

later_context : (d : Segment) (own peer : ℕ) → has SYN d ≡ false → context_of d (Some own) (Some peer) ≡ Some (context d.source d.destination own peer)
unfolding context_of
later_context d own peer plain = rw plain refl

not_entered : (k : Kept) (d : Segment) → has SYN d ≡ false → entered k d ≡ k
not_entered k d plain = rw plain refl

-- the two numbers by which a segment without SYN is sealed
record SealsBy (k : Kept) (r : Segment) (own peer : ℕ) : Type 0 where
  plain : has SYN r ≡ false
  isns : (kept_for k r).isns ≡ these own peer

sealed_by : (here : Setting) (pair : Pair) (k : Kept) (r : Segment) (own peer : ℕ) → SealsBy k r own peer
    → context_of r (own_isn (kept_for (entered k r) r)) (peer_isn (kept_for (entered k r) r)) ≡ Some (context r.source r.destination own peer)
sealed_by here pair k r own peer h =
    ap (λ (x : Kept). context_of r (own_isn (kept_for x r)) (peer_isn (kept_for x r))) (not_entered k r h.plain)
    ∙ (ap (λ (i : Option Isns). context_of r (own_isn (record k { isns = i })) (peer_isn (record k { isns = i }))) h.isns ∙ later_context r own peer h.plain)

across : (pair : Pair) (d r : Segment) (t : Opened) (own peer : ℕ) → IsResetOf d r → t.passed.context ≡ context d.source d.destination peer own → SealsBy t.kept r own peer → IsHeardAcross pair d r t
across pair d r t own peer is taken h = record {
  own = own;
  peer = peer;
  taken_in = taken;
  sealed_in = λ later m e.
      let z = sends later pair t.kept r m e in
      some_is m.context (context r.source r.destination own peer) (sym z.context_is ∙ sealed_by later pair t.kept r own peer h)
      ∙ (ap (λ s. context s r.destination own peer) is.source ∙ ap (λ s. context d.destination s own peer) is.destination);
  known = λ later. has_context later pair (entered t.kept r) r (context r.source r.destination own peer) (sealed_by later pair t.kept r own peer h);
}

-- ---- the two numbers of what was taken

-- what was taken names the two numbers of the connection in use
record Names (i : Option Isns) (d : Segment) (c : List ℕ) : Type 0 where
  own : ℕ
  peer : ℕ
  isns : i ≡ these own peer
  context_is : c ≡ context d.source d.destination peer own

none_known : (d : Segment) → has SYN d ≡ false → context_of d None (Some 0) ≡ None
unfolding context_of
none_known d plain = rw plain refl

plain_context : (d : Segment) (i : Option Isns) (heard : ℕ) (c : List ℕ) → has SYN d ≡ false → context_of d (known_in i heard).peer_isn (Some (known_in i heard).own_isn) ≡ Some c → Names i d c
plain_context d None heard c plain e = let no : None ≡ Some c = sym (none_known d plain) ∙ e in absurd (cc)
plain_context d (Some k) heard c plain e =
    record { own = k.own; peer = k.peer; isns = refl; context_is = sym (some_is _ _ (sym (later_context d k.peer k.own plain) ∙ e)) }

both_context : (d : Segment) (own : ℕ) → has SYN d ≡ true → has ACK d ≡ true → context_of d None (Some own) ≡ Some (context d.source d.destination d.sequence own)
unfolding context_of
both_context d own s a = rw (s, a) refl

syn_context : (d : Segment) (own : ℕ) (c : List ℕ) → has SYN d ≡ true → has ACK d ≡ true → context_of d None (Some own) ≡ Some c → c ≡ context d.source d.destination d.sequence own
syn_context d own c s a e = sym (some_is _ c (sym (both_context d own s a) ∙ e))

-- ---- what is kept then

and_two : (a b : Bool) → (a && b) ≡ true → (a ≡ true) × (b ≡ true)
and_two true true e = (refl, refl)
and_two true false e = absurd (cc)
and_two false b e = absurd (cc)

pub isns_are : (i : Option Isns) (own peer : ℕ) → are_isns i own peer ≡ true → i ≡ these own peer
isns_are None own peer e = absurd (cc)
isns_are (Some c) own peer e =
    let t = and_two (c.own == own) (c.peer == peer) e in
    let o = eqb_is c.own own t.0 in
    let p = eqb_is c.peer peer t.1 in
    ap (λ (x : ℕ). these x c.peer) o ∙ ap (λ (x : ℕ). these own x) p

kept_isns : (here : Setting) (pair : Pair) (g : Kept) (d : Segment) (p : Finding) → (handed_on here pair g d p).kept.isns ≡ (admitted g d).isns
kept_isns here pair g d p = by_test (is_of_connection (admitted g d) d)
  where
    by_test : (b : Bool) → (if b then record (admitted g d) { heard = max (admitted g d).heard (p.number + segment_length d); settled = (admitted g d).settled || not (has SYN d) } else admitted g d).isns ≡ (admitted g d).isns
    by_test true = refl
    by_test false = refl

kept_late : (here : Setting) (pair : Pair) (g : Kept) (d : Segment) (p : Finding) → (handed_on here pair g d p).kept.late ≡ (admitted g d).late
kept_late here pair g d p = by_test (is_of_connection (admitted g d) d)
  where
    by_test : (b : Bool) → (if b then record (admitted g d) { heard = max (admitted g d).heard (p.number + segment_length d); settled = (admitted g d).settled || not (has SYN d) } else admitted g d).late ≡ (admitted g d).late
    by_test true = refl
    by_test false = refl

known_plain : (g : Kept) (d : Segment) → has SYN d ≡ false → known_for g d ≡ known_in g.isns g.heard
known_plain g d plain = rw plain refl

known_syn : (g : Kept) (d : Segment) → has SYN d ≡ true → known_for g d ≡ record { own_isn = answered_isn d; peer_isn = None; expected = None }
known_syn g d s = rw s refl

admitted_plain : (g : Kept) (d : Segment) → has SYN d ≡ false → admitted g d ≡ g
admitted_plain g d plain = rw plain refl

admitted_both : (g : Kept) (d : Segment) → has SYN d ≡ true → has ACK d ≡ true → admitted g d ≡ joined g (answered_isn d) d.sequence
admitted_both g d s a = rw (s, a) refl

of_syn : (k : Kept) (d : Segment) → has SYN d ≡ true → is_of_connection k d ≡ true → (has ACK d ≡ true) × (k.isns ≡ these (answered_isn d) d.sequence)
of_syn k d s e =
    let t = and_two (has ACK d) (are_isns k.isns (answered_isn d) d.sequence) (sym (whole k d s) ∙ e) in
    (t.0, isns_are k.isns (answered_isn d) d.sequence t.1)
  where
    whole : (k : Kept) (d : Segment) → has SYN d ≡ true → is_of_connection k d ≡ (has ACK d && are_isns k.isns (answered_isn d) d.sequence)
    whole k d s = rw s refl

-- a segment of the connection in use names its numbers
names : (g : Kept) (d : Segment) (c : List ℕ) → context_of d (known_for g d).peer_isn (Some (known_for g d).own_isn) ≡ Some c → is_of_connection (admitted g d) d ≡ true → Names (admitted g d).isns d c
names g d c e of = by_test (has SYN d) refl
  where
    by_test : (b : Bool) → has SYN d ≡ b → Names (admitted g d).isns d c
    by_test true s =
        let t = of_syn (admitted g d) d s of in
        record {
          own = answered_isn d;
          peer = d.sequence;
          isns = t.1;
          context_is = syn_context d (answered_isn d) c s t.0 (ap (λ (k : Known). context_of d k.peer_isn (Some k.own_isn)) (sym (known_syn g d s)) ∙ e);
        }
    by_test false plain =
        subst (λ (k : Kept). Names k.isns d c) (sym (admitted_plain g d plain))
        (plain_context d g.isns g.heard c plain (ap (λ (k : Known). context_of d k.peer_isn (Some k.own_isn)) (sym (known_plain g d plain)) ∙ e))

-- ---- the law

not_late : (k : Kept) (r : Segment) → resets k.late r ≡ false → kept_for k r ≡ k
not_late k r e = rw e refl

pub in_use : (here : Setting) (pair : Pair) (g : Kept) (d r : Segment) (t : Opened) → take_in here pair g d ≡ Ok t → IsResetOf d r
    → is_of_connection (admitted g d) d ≡ true → resets t.kept.late r ≡ false → IsHeardAcross pair d r t
in_use here pair g d r t h is of none =
    let w = takes here pair g d t h in
    let p = meets here.rows pair (known_for g d) here.now d t.passed w.judgement in
    let n = names g d t.passed.context p.known_context of in
    let isns : t.kept.isns ≡ these n.own n.peer = ap (λ (x : Opened). x.kept.isns) w.taken_is ∙ (kept_isns here pair g d t.passed ∙ n.isns) in
    across pair d r t n.own n.peer is n.context_is (record { plain = is.plain; isns = ap (λ (k : Kept). k.isns) (not_late t.kept r none) ∙ isns })

begun_by : (g : Kept) (own peer : ℕ) → is_the_number g.opening own ≡ true → joined g own peer ≡ connection_begun g own peer
begun_by g own peer e = rw e refl

same_is : (n : ℕ) → (n == n) ≡ true
same_is n = grind (arith, nat_tests)

of_both : (k : Kept) (d : Segment) → has SYN d ≡ true → has ACK d ≡ true → k.isns ≡ these (answered_isn d) d.sequence → is_of_connection k d ≡ true
of_both k d s a e = rw (s, a, e, same_is (answered_isn d), same_is d.sequence) refl

begun_of : (g : Kept) (d : Segment) → has SYN d ≡ true → has ACK d ≡ true → (admitted g d).isns ≡ these (answered_isn d) d.sequence → is_of_connection (admitted g d) d ≡ true
begun_of g d s a e = of_both (admitted g d) d s a e

pub begun : (here : Setting) (pair : Pair) (g : Kept) (d r : Segment) (t : Opened) → take_in here pair g d ≡ Ok t → IsResetOf d r
    → has SYN d ≡ true → has ACK d ≡ true → is_the_number g.opening (answered_isn d) ≡ true → IsHeardAcross pair d r t
begun here pair g d r t h is s a o =
    let w = takes here pair g d t h in
    let begins : admitted g d ≡ connection_begun g (answered_isn d) d.sequence = admitted_both g d s a ∙ begun_by g (answered_isn d) d.sequence o in
    let late : t.kept.late ≡ None = ap (λ (x : Opened). x.kept.late) w.taken_is ∙ (kept_late here pair g d t.passed ∙ ap (λ (k : Kept). k.late) begins) in
    in_use here pair g d r t h is (begun_of g d s a (ap (λ (k : Kept). k.isns) begins)) (ap (λ l. resets l r) late)

given_by : (g : Kept) (own peer : ℕ) → is_the_number g.opening own ≡ false → is_the_number g.given_up own ≡ true → joined g own peer ≡ record g { late = these own peer }
given_by g own peer e f = rw (e, f) refl

answers_it : (n : ℕ) → n < ring → ((n + ring - 1) % ring + 1) % ring ≡ n
answers_it n h = omega arith

resets_late : (r : Segment) (own peer : ℕ) → has RST r ≡ true → has SYN r ≡ false → r.sequence ≡ (own + 1) % ring → resets (these own peer) r ≡ true
resets_late r own peer f s e = rw (f, s, e) (same_is ((own + 1) % ring))

late_kept : (k : Kept) (r : Segment) (own peer : ℕ) → k.late ≡ these own peer → resets (these own peer) r ≡ true → (kept_for k r).isns ≡ these own peer
late_kept k r own peer is e = rw (is, e) refl

pub given_up : (here : Setting) (pair : Pair) (g : Kept) (d r : Segment) (t : Opened) → take_in here pair g d ≡ Ok t → IsResetOf d r
    → has SYN d ≡ true → has ACK d ≡ true → is_the_number g.opening (answered_isn d) ≡ false → is_the_number g.given_up (answered_isn d) ≡ true → d.acknowledgement < ring → IsHeardAcross pair d r t
given_up here pair g d r t h is s a o u fits =
    let own = answered_isn d in
    let w = takes here pair g d t h in
    let p = meets here.rows pair (known_for g d) here.now d t.passed w.judgement in
    let context_is = syn_context d own t.passed.context s a (ap (λ (k : Known). context_of d k.peer_isn (Some k.own_isn)) (sym (known_syn g d s)) ∙ p.known_context) in
    let late : t.kept.late ≡ these own d.sequence =
    ap (λ (x : Opened). x.kept.late) w.taken_is ∙ (kept_late here pair g d t.passed ∙ (ap (λ (k : Kept). k.late) (admitted_both g d s a) ∙ ap (λ (k : Kept). k.late) (given_by g own d.sequence o u))) in
    let resets_it = resets_late r own d.sequence is.resets is.plain (is.number ∙ sym (answers_it d.acknowledgement fits)) in
    across pair d r t own d.sequence is context_is (record { plain = is.plain; isns = late_kept t.kept r own d.sequence late resets_it })
