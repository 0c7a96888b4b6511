-- What a checker answers to a segment with SYN, and what it knows afterwards, is what the definitions say.
use Rattle.std.proofs.Common.{◌≡◌, ◌+◌, ◌<◌, ◌^◌, ℕ, Bool, true, false, not, List, length, Option, Some, None, refl, sym, ap, ◌∙◌, subst, arith, Ok, Err}
use Rattle.std.proofs.lemmas.Bool.Decides.{nat_tests}
use Rattle.std.specs.Prelude.{◌==◌, ◌&&◌, ◌||◌, is_some, nat_le, nat_lt, if◌then◌else◌}
use Rattle.book_base.specs.declared.address.Socket.{Socket}
use Rattle.book_base.specs.declared.address.Pair.{Pair}
use Rattle.book_base.specs.declared.address.Pair.{Pair}
use Rattle.book_base.specs.Orders.{is_low, sorted_pair}
use Rattle.book_segments.specs.Segments.{Segment, has, SYN, ACK}
use Rattle.book_segments.specs.Sockets.{same_socket}
use Rattle.book_segments.proofs.Fields.{some_is}
use Rattle.book_segments.proofs.SocketLaws.{low_apart}
use Rattle.book_keys.specs.Rows.{Row, Table}
use Rattle.ao_check.specs.Verdicts.{Verdict}
use Rattle.book_endpoint.specs.Verdicts.{Judgement, judge}
use Rattle.book_cmd_check.specs.declared.checksum.Checksum.{Checksum}
use Rattle.book_cmd_check.specs.DatagramTexts.{checksum_in}
use Rattle.book_cmd_check.specs.declared.given.GivenIsns.{GivenIsns}
use Rattle.book_cmd_check.specs.Handshakes.{and_given, given_connection, has_room, told_by, with_begun}
use Rattle.book_cmd_check.specs.Captures.{Connection, Heard, acknowledged_isn, connection_between, fixed, hear_judged, hear_later, hear_syn_ack, judge_stored, most_connections, same_isns, with_connection}
use Rattle.book_segments.specs.Segments.{pair_reached}
use Rattle.ao_kdf.specs.declared.way.Way.TheVariants.{Inbound}
use Rattle.ao_kdf.proofs.CacheLaws.{kept-empty}
use Rattle.ao_check.specs.Bonds.{Fits, fresh}
use Rattle.ao_check.proofs.FitLaws.{fits_fresh, fits_learned}
use Rattle.capture_check.specs.declared.answer.CheckLine.{CheckLine}
use Rattle.capture_check.specs.declared.answer.CheckLine.TheVariants as line
use Rattle.capture_check.specs.declared.flow.Flow.{Flow}
use Rattle.capture_check.specs.declared.flows.Flows.{Flows}
use Rattle.capture_check.specs.Answers.{IsJudged, is_pass}
use Rattle.capture_check.specs.Flows.{rows_of, way, both, flow_from, counter_of, new_flow, new_flows, IsFlow, shown}
use Rattle.tcp_segment.specs.Counter.{number}
use Rattle.capture_check.specs.Checkers.{found, IsSound, told, StandsFor, Hears, Isns, isns, KeepsKeys}
use Rattle.capture_check.specs.Judgements.{Puts, key_at, from_low, Alone, Fixed, TooMany, Fixes, has_isns, given_flows, fixing_given, fixing, DoesFix}
use Rattle.capture_check.proofs.PutLaws.{stands_put, sound_put}
use Rattle.capture_check.proofs.KeepLaws.{keys_same, keys_renewed}
use Rattle.capture_check.proofs.StepLaws.{told_judged, not_admitted, not_refused, met}

-- ---- both ways as they begin

way_first : (v : Bool) (f g : Flow) → way v (both v f g) ≡ f
way_first true f g = refl
way_first false f g = refl

way_second : (v : Bool) (f g : Flow) → way (not v) (both v f g) ≡ g
way_second true f g = refl
way_second false f g = refl

new_first : (tables : List Table) (s t : Socket) (i j : ℕ) → flow_from s t (new_flows tables s t i j) ≡ new_flow tables s t i j
new_first tables s t i j = way_first (is_low s t) (new_flow tables s t i j) (new_flow tables t s j i)

new_second : (tables : List Table) (s t : Socket) (i j : ℕ) → same_socket s t ≡ false → flow_from t s (new_flows tables s t i j) ≡ new_flow tables t s j i
new_second tables s t i j ne =
    ap (λ (v : Bool). way v (new_flows tables s t i j)) (low_apart s t ne) ∙ way_second (is_low s t) (new_flow tables s t i j) (new_flow tables t s j i)

stands_at : (n : ℕ) → number (counter_of n) ≡ n
stands_at n = omega arith

shown_new : (tables : List Table) (g : GivenIsns) → same_socket g.one g.other ≡ false
    → shown g.one g.other (given_flows tables g) ≡ given_connection g
shown_new tables g ne =
    rw (new_first tables g.one g.other g.one_isn g.other_isn, new_second tables g.one g.other g.one_isn g.other_isn ne, stands_at (g.one_isn + 1), stands_at (g.other_isn + 1)) refl

new_sound : (tables : List Table) (s t : Socket) (i j : ℕ) → i < 2 ^ 32 → IsFlow tables s t (new_flow tables s t i j) (new_flow tables t s j i)
new_sound tables s t i j small =
    let rows = rows_of tables t in
    let pair : Pair = record { local = t; remote = s } in
    let begins : Fits rows (fresh pair j (length rows)) = fits_fresh rows pair j (length rows) (omega arith) in
    record {
      pair = refl;
      own = refl;
      peer = refl;
      expected = omega arith;
      fits = fits_learned rows (fresh pair j (length rows)) i refl begins;
    }

-- ---- a connection is fixed

-- both ways have the initial sequence numbers exactly where the connection has them
same_numbers : (g : GivenIsns) (h : Flows) → same_socket g.one g.other ≡ false
    → same_isns (shown g.one g.other h) (given_connection g) ≡ has_isns (is_low g.one g.other) h g.one_isn g.other_isn
same_numbers g h ne = ap (λ (v : Bool). ((flow_from g.one g.other h).isn == g.one_isn) && ((way v h).isn == g.other_isn)) (low_apart g.one g.other ne)

-- what is answered: the verdict, or that there is no room
abbrev pub fixed_line : Bool → Verdict → Checksum → CheckLine
fixed_line true v checksum = line.Verdict v checksum
fixed_line false v checksum = line.Full checksum

hears_fixed : (tables : List Table) (before after : List (Pair × Flows)) (held : List Connection) (d : Segment) (v : Verdict) (p : Judgement) (o : Option Flows) (result : Bool)
    → StandsFor before held → same_socket d.source d.destination ≡ false → found before (key_at d) ≡ o → IsJudged v p
    → DoesFix (fixing tables d o (length before)) before after (key_at d) result
    → Hears after (fixed_line result v (checksum_in d)) (hear_syn_ack held d p (told d.source d.destination o))
hears_fixed tables before after held d v p (Some h) result S ne f is D =
    at (has_isns (from_low d) h d.sequence (acknowledged_isn d)) (same_numbers (told_by d) h ne) D
  where
    new : Flows
    new = new_flows tables d.source d.destination d.sequence (acknowledged_isn d)

    at : (b : Bool) → same_isns (shown d.source d.destination h) (fixed d) ≡ b
        → DoesFix (if b then Fixed else Fixes (new_flows tables d.source d.destination d.sequence (acknowledged_isn d))) before after (key_at d) result
        → Hears after (fixed_line result v (checksum_in d)) (hear_syn_ack held d p (Some (shown d.source d.destination h)))
    at true e (same, yes_it_is) = rw (yes_it_is, e) (record { says = (p, refl, is); stands = rw same S })
    at false e (puts, yes_it_is) =
        let stands = stands_put before after held d.source d.destination (new_flows tables d.source d.destination d.sequence (acknowledged_isn d)) S puts ne in
        rw (yes_it_is, e) (record { says = (p, refl, is); stands = subst (λ (c : Connection). StandsFor after (with_connection c held)) (shown_new tables (told_by d) ne) stands })
hears_fixed tables before after held d v p None result S ne f is D =
    at (nat_le most_connections (length before)) (ap (nat_le most_connections) (sym S.count)) D
  where
    at : (b : Bool) → nat_le most_connections (length held) ≡ b
        → DoesFix (if b then TooMany else Fixes (new_flows tables d.source d.destination d.sequence (acknowledged_isn d))) before after (key_at d) result
        → Hears after (fixed_line result v (checksum_in d)) (hear_syn_ack held d p None)
    at true e (same, no_it_isnt) = rw (no_it_isnt, e) (record { says = refl; stands = rw same S })
    at false e (puts, yes_it_is) =
        let stands = stands_put before after held d.source d.destination (new_flows tables d.source d.destination d.sequence (acknowledged_isn d)) S puts ne in
        rw (yes_it_is, e) (record { says = (p, refl, is); stands = subst (λ (c : Connection). StandsFor after (with_connection c held)) (shown_new tables (told_by d) ne) stands })

-- a connection that begins stands for the given one
stands_by : (tables : List Table) (before after : List (Pair × Flows)) (held : List Connection) (g : GivenIsns) (o : Option Flows) (result : Bool)
    → StandsFor before held → same_socket g.one g.other ≡ false
    → DoesFix (fixing_given tables g o (length before)) before after (sorted_pair g.one g.other) result
    → StandsFor after (with_begun (given_connection g) (told g.one g.other o) held)
stands_by tables before after held g (Some h) result S ne D = at (has_isns (is_low g.one g.other) h g.one_isn g.other_isn) (same_numbers g h ne) D
  where
    at : (b : Bool) → same_isns (shown g.one g.other h) (given_connection g) ≡ b → DoesFix (if b then Fixed else Fixes (given_flows tables g)) before after (sorted_pair g.one g.other) result
        → StandsFor after (with_begun (given_connection g) (Some (shown g.one g.other h)) held)
    at true e (same, room) = rw (e, same) S
    at false e (puts, room) =
        rw e (subst (λ (c : Connection). StandsFor after (with_connection c held)) (shown_new tables g ne) (stands_put before after held g.one g.other (given_flows tables g) S puts ne))
stands_by tables before after held g None result S ne D = at (nat_le most_connections (length before)) (ap (nat_le most_connections) (sym S.count)) D
  where
    at : (b : Bool) → nat_le most_connections (length held) ≡ b → DoesFix (if b then TooMany else Fixes (given_flows tables g)) before after (sorted_pair g.one g.other) result
        → StandsFor after (with_begun (given_connection g) None held)
    at true e (same, room) = rw (e, same) S
    at false e (puts, room) =
        rw e (subst (λ (c : Connection). StandsFor after (with_connection c held)) (shown_new tables g ne) (stands_put before after held g.one g.other (given_flows tables g) S puts ne))

pub stands_given : (tables : List Table) (before after : List (Pair × Flows)) (held : List Connection) (g : GivenIsns) (result : Bool)
    → StandsFor before held → same_socket g.one g.other ≡ false
    → DoesFix (fixing_given tables g (found before (sorted_pair g.one g.other)) (length before)) before after (sorted_pair g.one g.other) result
    → StandsFor after (and_given g held)
stands_given tables before after held g result S ne D =
    let is = S.same g.one g.other ne in
    rw (ne, ← is) (stands_by tables before after held g (found before (sorted_pair g.one g.other)) result S ne D)

-- there was room exactly where the answer says so
room_by : (tables : List Table) (before after : List (Pair × Flows)) (held : List Connection) (g : GivenIsns) (o : Option Flows) (result : Bool) → length before ≡ length held
    → DoesFix (fixing_given tables g o (length before)) before after (sorted_pair g.one g.other) result → result ≡ (is_some (told g.one g.other o) || nat_lt (length held) most_connections)
room_by tables before after held g (Some h) result count D = at (has_isns (is_low g.one g.other) h g.one_isn g.other_isn) D
  where
    at : (b : Bool) → DoesFix (if b then Fixed else Fixes (given_flows tables g)) before after (sorted_pair g.one g.other) result → result ≡ true
    at true x = x.1
    at false x = x.1
room_by tables before after held g None result count D = rw (← count) (at (nat_le most_connections (length before)) refl D)
  where
    at : (b : Bool) → nat_le most_connections (length before) ≡ b → DoesFix (if b then TooMany else Fixes (given_flows tables g)) before after (sorted_pair g.one g.other) result
        → result ≡ nat_lt (length before) most_connections
    at true e x = x.1 ∙ grind (arith, nat_tests)
    at false e x = x.1 ∙ grind (arith, nat_tests)

pub room_given : (tables : List Table) (before after : List (Pair × Flows)) (held : List Connection) (g : GivenIsns) (result : Bool)
    → StandsFor before held → same_socket g.one g.other ≡ false
    → DoesFix (fixing_given tables g (found before (sorted_pair g.one g.other)) (length before)) before after (sorted_pair g.one g.other) result → result ≡ has_room g held
room_given tables before after held g result S ne D =
    let is = S.same g.one g.other ne in
    rw (ne, ← is) (room_by tables before after held g (found before (sorted_pair g.one g.other)) result S.count D)

pub sound_fixed : (tables : List Table) (before after : List (Pair × Flows)) (g : GivenIsns) (o : Option Flows) (result : Bool) → IsSound tables before → same_socket g.one g.other ≡ false
    → g.one_isn < 2 ^ 32 → g.other_isn < 2 ^ 32 → DoesFix (fixing_given tables g o (length before)) before after (sorted_pair g.one g.other) result → IsSound tables after
sound_fixed tables before after g o result T ne small less D = at o D
  where
    new_put : Puts before after (sorted_pair g.one g.other) (given_flows tables g) → IsSound tables after
    new_put P =
        let s = g.one in
        let t = g.other in
        let i = g.one_isn in
        let j = g.other_isn in
        sound_put tables before after s t (new_flows tables s t i j) T P ne
        (rw (new_first tables s t i j, new_second tables s t i j ne) (new_sound tables s t i j small))
        (rw (new_first tables s t i j, new_second tables s t i j ne) (new_sound tables t s j i less))

    old_known : (b : Bool) → DoesFix (if b then Fixed else Fixes (given_flows tables g)) before after (sorted_pair g.one g.other) result → IsSound tables after
    old_known true x = rw x.0 T
    old_known false x = new_put x.0

    not_known : (b : Bool) → DoesFix (if b then TooMany else Fixes (given_flows tables g)) before after (sorted_pair g.one g.other) result → IsSound tables after
    not_known true x = rw x.0 T
    not_known false x = new_put x.0

    at : (o : Option Flows) → DoesFix (fixing_given tables g o (length before)) before after (sorted_pair g.one g.other) result → IsSound tables after
    at (Some h) x = old_known (has_isns (is_low g.one g.other) h g.one_isn g.other_isn) x
    at None x = not_known (nat_le most_connections (length before)) x

numbers_told : (x y m n : ℕ) → ◌≡◌ {A = Option Isns} (Some (record { one = x; two = y })) (Some (record { one = m; two = n })) → ((x == m) && (y == n)) ≡ true
numbers_told x y m n e =
    let is = some_is (record { one = x; two = y }) (record { one = m; two = n }) e in
    let p : x ≡ m = ap (λ (i : Isns). i.one) is in
    let q : y ≡ n = ap (λ (i : Isns). i.two) is in
    let a : (m == m) ≡ true = grind (arith, nat_tests) in
    let b : (n == n) ≡ true = grind (arith, nat_tests) in
    rw (p, q, a, b) refl

pub keys_fixed : (tables : List Table) (before after : List (Pair × Flows)) (g : GivenIsns) (o : Option Flows) (result : Bool) → same_socket g.one g.other ≡ false
    → found before (sorted_pair g.one g.other) ≡ o → DoesFix (fixing_given tables g o (length before)) before after (sorted_pair g.one g.other) result → KeepsKeys before after
keys_fixed tables before after g o result ne f D = at o f D
  where
    renewed : Puts before after (sorted_pair g.one g.other) (given_flows tables g)
        → (isns before g.one g.other ≡ Some (record { one = g.one_isn; two = g.other_isn }) → ⊥) → KeepsKeys before after
    renewed P differ =
        let s = g.one in
        let t = g.other in
        let i = g.one_isn in
        let j = g.other_isn in
        keys_renewed before after s t (new_flows tables s t i j) P ne
        (record {
          differ = rw (new_first tables s t i j, new_second tables s t i j ne) differ;
          keys = λ n. rw (new_first tables s t i j) (kept-empty (length (rows_of tables t)) n Inbound);
          other = λ n. rw (new_second tables s t i j ne) (kept-empty (length (rows_of tables s)) n Inbound);
        })

    old_known : (h : Flows) (b : Bool) → found before (sorted_pair g.one g.other) ≡ Some h → has_isns (is_low g.one g.other) h g.one_isn g.other_isn ≡ b
        → DoesFix (if b then Fixed else Fixes (given_flows tables g)) before after (sorted_pair g.one g.other) result → KeepsKeys before after
    old_known h true e b x = keys_same before after x.0
    old_known h false e b x =
        renewed x.0 (λ is.
        let here : ◌≡◌ {A = Option Isns} (Some (record { one = (flow_from g.one g.other h).isn; two = (flow_from g.other g.one h).isn })) (Some (record { one = g.one_isn; two = g.other_isn })) = rw e at is in
        let yes_they_are = numbers_told (flow_from g.one g.other h).isn (flow_from g.other g.one h).isn g.one_isn g.other_isn here in
        let no_they_arent = same_numbers g h ne ∙ b in
        absurd (cc))

    not_known : (b : Bool) → found before (sorted_pair g.one g.other) ≡ None
        → DoesFix (if b then TooMany else Fixes (given_flows tables g)) before after (sorted_pair g.one g.other) result → KeepsKeys before after
    not_known true e x = keys_same before after x.0
    not_known false e x = renewed x.0 (λ is. let here : ◌≡◌ {A = Option Isns} None (Some (record { one = g.one_isn; two = g.other_isn })) = rw e at is in absurd (cc))

    at : (o : Option Flows) → found before (sorted_pair g.one g.other) ≡ o → DoesFix (fixing_given tables g o (length before)) before after (sorted_pair g.one g.other) result → KeepsKeys before after
    at (Some h) e x = old_known h (has_isns (is_low g.one g.other) h g.one_isn g.other_isn) e refl x
    at None e x = not_known (nat_le most_connections (length before)) e x

-- ---- the answer to a segment with SYN

-- what is done with SYN, and with ACK or without it
first_of : (b c : Bool) (after : List (Pair × Flows)) (l : CheckLine) (x y z : Heard) → b ≡ true → c ≡ false → Hears after l z → Hears after l (if not b then x else (if c then y else z))
first_of true false after l x y z e f h = h
first_of true true after l x y z e f h = absurd (cc)
first_of false c after l x y z e f h = absurd (cc)

second_of : (b c : Bool) (after : List (Pair × Flows)) (l : CheckLine) (x y z : Heard) → b ≡ true → c ≡ true → Hears after l y → Hears after l (if not b then x else (if c then y else z))
second_of true true after l x y z e f h = h
second_of true false after l x y z e f h = absurd (cc)
second_of false c after l x y z e f h = absurd (cc)

heard_refused : (after : List (Pair × Flows)) (held : List Connection) (d : Segment) (k : Option Connection) (v : Verdict) (j : Judgement) → StandsFor after held → is_pass v ≡ false → IsJudged v j
    → Hears after (line.Verdict v (checksum_in d)) (hear_judged held d k j)
heard_refused after held d k v (Err why) S no_pass is = record { says = (Err why, refl, is); stands = S }
heard_refused after held d k v (Ok p) S no_pass is = absurd (not_admitted v p is no_pass)

heard_alone : (after : List (Pair × Flows)) (held : List Connection) (d : Segment) (k : Option Connection) (v : Verdict) (j : Judgement) → StandsFor after held → has SYN d ≡ true → has ACK d ≡ false
    → IsJudged v j → Hears after (line.Verdict v (checksum_in d)) (hear_judged held d k j)
heard_alone after held d k v (Err why) S syn ack is = record { says = (Err why, refl, is); stands = S }
heard_alone after held d k v (Ok p) S syn ack is =
    first_of (has SYN d) (has ACK d) after (line.Verdict v (checksum_in d)) (hear_later held d p.number (Ok p) k) (hear_syn_ack held d (Ok p) k) _ syn ack
    (record { says = (Ok p, refl, is); stands = S })

heard_fixed : (after : List (Pair × Flows)) (held : List Connection) (d : Segment) (k : Option Connection) (v : Verdict) (j : Judgement) (l : CheckLine) → has SYN d ≡ true → has ACK d ≡ true
    → is_pass v ≡ true → IsJudged v j → Hears after l (hear_syn_ack held d j k) → Hears after l (hear_judged held d k j)
heard_fixed after held d k v (Err why) l syn ack pass is h = absurd (not_refused v why is pass)
heard_fixed after held d k v (Ok p) l syn ack pass is h =
    second_of (has SYN d) (has ACK d) after l (hear_later held d p.number (Ok p) k) (hear_syn_ack held d (Ok p) k) _ syn ack h

-- a segment with SYN is judged by itself
judged_first : (rows : List Row) (now own : ℕ) (d : Segment) (k : Option Connection) → has SYN d ≡ true → own ≡ acknowledged_isn d
    → judge rows (pair_reached d) (record { own_isn = own; peer_isn = None; expected = None }) now d ≡ judge_stored rows (pair_reached d) now d k
judged_first rows now own d k syn e = rw (e, syn) refl

pub first_refused : (rows : List Row) (after : List (Pair × Flows)) (held : List Connection) (now own : ℕ) (d : Segment) (v : Verdict) → StandsFor after held → has SYN d ≡ true → own ≡ acknowledged_isn d
    → Alone rows now own d v → is_pass v ≡ false → Hears after (line.Verdict v (checksum_in d)) (hear_judged held d (connection_between d held) (judge_stored rows (pair_reached d) now d (connection_between d held)))
first_refused rows after held now own d v S syn e A no_pass =
    let is = told_judged rows (pair_reached d) d v (judge rows (pair_reached d) (record { own_isn = own; peer_isn = None; expected = None }) now d) A.tells in
    subst (λ (j : Judgement). Hears after (line.Verdict v (checksum_in d)) (hear_judged held d (connection_between d held) j)) (judged_first rows now own d (connection_between d held) syn e)
    (heard_refused after held d (connection_between d held) v (judge rows (pair_reached d) (record { own_isn = own; peer_isn = None; expected = None }) now d) S no_pass is)

pub first_alone : (rows : List Row) (after : List (Pair × Flows)) (held : List Connection) (now own : ℕ) (d : Segment) (v : Verdict) → StandsFor after held → has SYN d ≡ true → own ≡ acknowledged_isn d
    → Alone rows now own d v → has ACK d ≡ false → Hears after (line.Verdict v (checksum_in d)) (hear_judged held d (connection_between d held) (judge_stored rows (pair_reached d) now d (connection_between d held)))
first_alone rows after held now own d v S syn e A ack =
    let is = told_judged rows (pair_reached d) d v (judge rows (pair_reached d) (record { own_isn = own; peer_isn = None; expected = None }) now d) A.tells in
    subst (λ (j : Judgement). Hears after (line.Verdict v (checksum_in d)) (hear_judged held d (connection_between d held) j)) (judged_first rows now own d (connection_between d held) syn e)
    (heard_alone after held d (connection_between d held) v (judge rows (pair_reached d) (record { own_isn = own; peer_isn = None; expected = None }) now d) S syn ack is)

-- a SYN with ACK passed, and what is to be done with its connection was done
pub record First (tables : List Table) (rows : List Row) (before after : List (Pair × Flows)) (now : ℕ) (d : Segment) (v : Verdict) (result : Bool) : Type 0 where
  pub heard : (held : List Connection) → StandsFor before held
      → Hears after (fixed_line result v (checksum_in d)) (hear_judged held d (connection_between d held) (judge_stored rows (pair_reached d) now d (connection_between d held)))
  pub sound : IsSound tables after
  pub keys : KeepsKeys before after

pub first : (tables : List Table) (rows : List Row) (before after : List (Pair × Flows)) (now own : ℕ) (d : Segment) (v : Verdict) (result : Bool) → IsSound tables before
    → same_socket d.source d.destination ≡ false → has SYN d ≡ true → has ACK d ≡ true → own ≡ acknowledged_isn d → Alone rows now own d v → is_pass v ≡ true → d.sequence < 2 ^ 32
    → DoesFix (fixing tables d (found before (key_at d)) (length before)) before after (key_at d) result → First tables rows before after now d v result
first tables rows before after now own d v result T ne syn ack e A pass small D =
    record {
      heard = λ held S.
          let o = found before (key_at d) in
          let j = judge rows (pair_reached d) (record { own_isn = own; peer_isn = None; expected = None }) now d in
          let is = told_judged rows (pair_reached d) d v j A.tells in
          let done = hears_fixed tables before after held d v j o result S ne refl is D in
          let known_so = subst (λ (k : Option Connection). Hears after (fixed_line result v (checksum_in d)) (hear_syn_ack held d j k)) (sym (met before held d o S ne refl)) done in
          subst (λ (i : Judgement). Hears after (fixed_line result v (checksum_in d)) (hear_judged held d (connection_between d held) i)) (judged_first rows now own d (connection_between d held) syn e)
          (heard_fixed after held d (connection_between d held) v j (fixed_line result v (checksum_in d)) syn ack pass is known_so);
      sound = sound_fixed tables before after (told_by d) (found before (key_at d)) result T ne small (omega arith) D;
      keys = keys_fixed tables before after (told_by d) (found before (key_at d)) result ne refl D;
    }
