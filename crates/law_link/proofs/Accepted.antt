-- What makes the check pass.
use Rattle.std.proofs.Common.{◌≡◌, ℕ, ◌+◌, ◌-◌, ◌%◌, ◌≤◌, ◌<◌, ◌==◌, Bool, true, false, not, ◌&&◌, List, [], ◌∷◌, length, Option, Some, None, ◌⊎◌, ⊎_elim, if◌then◌else◌, refl, sym, ap, ◌∙◌, arith, nat_lt, nat_le, Ok}
use Rattle.std.specs.Prelude.{is_some}
use Rattle.std.proofs.lemmas.Bool.Decides.{nat_tests}
use Rattle.book_base.specs.declared.address.Socket.{Socket}
use Rattle.book_base.specs.declared.address.Pair.{Pair}
use Rattle.book_base.specs.Algorithms.{mac_length_of}
use Rattle.book_segments.specs.Bytes.{same_bytes, ring}
use Rattle.book_segments.specs.Meant.{meant}
use Rattle.book_segments.specs.Sockets.{same_socket}
use Rattle.book_segments.specs.Options.{Ao, One, find_ao}
use Rattle.book_segments.specs.Segments.{Segment, has, segment_length, ACK, SYN}
use Rattle.book_segments.proofs.Fields.{and_tells}
use Rattle.book_macs.specs.Contexts.{context, context_known, context_of_syn, context_of_later, context_of}
use Rattle.book_keys.specs.Rows.{Row}
use Rattle.book_keys.specs.Choices.{Numbered, accept_row}
use Rattle.book_segments.proofs.SocketLaws.{same_address-refl}
use Rattle.book_endpoint.specs.States.{EndState}
use Rattle.book_endpoint.specs.Verdicts.{Judgement, mac_of, found_with, segment_number}
use Rattle.book_endpoint.proofs.JudgeSteps.{judge_mac, judge_number, judge_context, judge_row, judge_ao, judge_by_steps}
use Rattle.book_endpoint.specs.Arrivals.{number_expected, numbers_known, judged_by}
use Rattle.law_link.proofs.Tests.{choose}
use Rattle.book_link.specs.Worlds.{is_known}
use Rattle.law_link.proofs.Sessions.{known_is}

-- ---- the number meant

pub meant_near : (n x : ℕ) → n < x + 2147483648 → x ≤ n + 2147483648 → meant (n % ring) x ≡ Some n
unfolding meant
meant_near n x a b =
    let ahead : ℕ = (n % ring + ring - x % ring) % ring in
    ⊎_elim
    (λ (up : x ≤ n).
    let is : (n % ring + ring - x % ring) % ring ≡ n - x = omega arith in
    let test : nat_lt (n - x) 2147483648 ≡ true = grind (arith, nat_tests) in
    let sum : x + (n - x) ≡ n = omega arith in
    rw (is, test) (ap (λ k. Some k) sum))
    (λ (down : n < x).
    let is : (n % ring + ring - x % ring) % ring ≡ ring - (x - n) = omega arith in
    let test : nat_lt (ring - (x - n)) 2147483648 ≡ false = grind (arith, nat_tests) in
    let back : ring - (ring - (x - n)) ≡ x - n = omega arith in
    let low : nat_le (x - n) x ≡ true = grind (arith, nat_tests) in
    let left : x - (x - n) ≡ n = omega arith in
    rw (is, test, back, low) (ap (λ k. Some k) left))
    (by_order x n)
  where
    by_order : (x n : ℕ) → (x ≤ n) ⊎ (n < x)
    by_order x n = grind arith

-- ---- the context

pub option_is : (a b : ℕ) → Some a ≡ Some b → a ≡ b
option_is a b e = cc

peer_met : (peer_isn later_peer : Option ℕ) (q r : ℕ) → peer_isn ≡ Some q → ((k : ℕ) → peer_isn ≡ Some k → later_peer ≡ Some k) → is_known later_peer r ≡ true → q ≡ r
peer_met peer_isn later_peer q r e keeps known = option_is q r (sym (keeps q e) ∙ known_is later_peer r known)

syn_met : (d : Segment) (peer_isn later_peer : Option ℕ) (receiver_isn : ℕ) (c : List ℕ) (b : Bool) → ((q : ℕ) → peer_isn ≡ Some q → later_peer ≡ Some q)
    → (if b then context_known d.source d.destination d.sequence peer_isn else Some (context d.source d.destination d.sequence 0)) ≡ Some c
    → (if b then is_known later_peer receiver_isn else true) ≡ true
    → (if b then context_known d.source d.destination d.sequence (Some receiver_isn) else Some (context d.source d.destination d.sequence 0)) ≡ Some c
syn_met d None later_peer receiver_isn c true keeps e known = absurd (cc)
syn_met d (Some q) later_peer receiver_isn c true keeps e known =
    ap (λ k. Some (context d.source d.destination d.sequence k)) (sym (peer_met (Some q) later_peer q receiver_isn refl keeps known)) ∙ e
syn_met d peer_isn later_peer receiver_isn c false keeps e known = e

later_met : (d : Segment) (isn : ℕ) (peer_isn later_peer : Option ℕ) (receiver_isn : ℕ) (receiver_peer : Option ℕ) (c : List ℕ) → ((q : ℕ) → peer_isn ≡ Some q → later_peer ≡ Some q) → context_known d.source d.destination isn peer_isn ≡ Some c
    → is_known later_peer receiver_isn ≡ true → receiver_peer ≡ Some isn → context_of_later d receiver_peer (Some receiver_isn) ≡ Some c
later_met d isn None later_peer receiver_isn receiver_peer c keeps e known back = absurd (cc)
later_met d isn (Some q) later_peer receiver_isn receiver_peer c keeps e known back =
    ap (λ o. context_of_later d o (Some receiver_isn)) back ∙ ap (λ k. Some (context d.source d.destination isn k)) (sym (peer_met (Some q) later_peer q receiver_isn refl keeps known)) ∙ e

-- the receiver to which a segment is addressed finds the sender's context
pub context_met : (d : Segment) (isn : ℕ) (peer_isn later_peer : Option ℕ) (receiver_isn : ℕ) (receiver_peer : Option ℕ) (c : List ℕ) → context_of d (Some isn) peer_isn ≡ Some c → ((q : ℕ) → peer_isn ≡ Some q → later_peer ≡ Some q)
    → (if has SYN d then (if has ACK d then is_known later_peer receiver_isn else true) else is_known later_peer receiver_isn && is_known receiver_peer isn) ≡ true → context_of d receiver_peer (Some receiver_isn) ≡ Some c
unfolding context_of
context_met d isn peer_isn later_peer receiver_isn receiver_peer c e keeps to = by_test (has SYN d) e to
  where
    by_test : (b : Bool) → (if b then context_of_syn d peer_isn else context_of_later d (Some isn) peer_isn) ≡ Some c
        → (if b then (if has ACK d then is_known later_peer receiver_isn else true) else is_known later_peer receiver_isn && is_known receiver_peer isn) ≡ true
        → (if b then context_of_syn d (Some receiver_isn) else context_of_later d receiver_peer (Some receiver_isn)) ≡ Some c
    by_test true e to = syn_met d peer_isn later_peer receiver_isn c (has ACK d) keeps e to
    by_test false e to =
        let t = and_tells (is_known later_peer receiver_isn) (is_known receiver_peer isn) to in later_met d isn peer_isn later_peer receiver_isn receiver_peer c keeps e t.0 (known_is receiver_peer isn t.1)

-- ---- the verdict

pass_number : (r : Numbered) (d : Segment) (ao : Ao) (c : List ℕ) (n : ℕ) → nat_lt 9223372036854775808 (n + segment_length d) ≡ false → same_bytes ao.mac (mac_of (found_with r d ao c n)) ≡ true
    → judge_number r d ao c (Some n) ≡ Ok (found_with r d ao c n)
pass_number r d ao c n range right =
    choose (λ (v : Judgement). v ≡ Ok (found_with r d ao c n)) (nat_lt 9223372036854775808 (n + segment_length d)) _ (judge_mac ao (found_with r d ao c n)) (λ t. absurd (cc)) (λ t.
    choose (λ (v : Judgement). v ≡ Ok (found_with r d ao c n)) (same_bytes ao.mac (mac_of (found_with r d ao c n))) (Ok (found_with r d ao c n)) _ (λ t. refl) (λ t. absurd (cc)))

-- all that a pass needs
pub record Passes (rows : List Row) (pair : Pair) (now : ℕ) (s : EndState) (d : Segment) (ao : Ao) (r : Numbered) (c : List ℕ) (n : ℕ) : Type 0 where
  pub option : find_ao d.area ≡ One ao
  pub accepts : accept_row rows pair ao.key_id now ≡ Some r
  pub long : length ao.mac ≡ mac_length_of r.row.algorithm
  pub known : context_of d s.peer_isn (Some s.isn) ≡ Some c
  pub expects : (not (has SYN d) && not (is_some (number_expected s s.peer_isn))) ≡ false
  pub number : segment_number d (number_expected s s.peer_isn) ≡ Some n
  pub range : nat_lt 9223372036854775808 (n + segment_length d) ≡ false
  pub right : same_bytes ao.mac (mac_of (found_with r d ao c n)) ≡ true

pass_context : (rows : List Row) (pair : Pair) (now : ℕ) (s : EndState) (d : Segment) (ao : Ao) (r : Numbered) (c : List ℕ) (n : ℕ) → Passes rows pair now s d ao r c n
    → judge_context r d ao (number_expected s s.peer_isn) (Some c) ≡ Ok (found_with r d ao c n)
pass_context rows pair now s d ao r c n h =
    let goal : Judgement = Ok (found_with r d ao c n) in
    let expects = h.expects in
    choose (λ (v : Judgement). v ≡ goal) (not (has SYN d) && not (is_some (number_expected s s.peer_isn))) _ (judge_number r d ao c (segment_number d (number_expected s s.peer_isn))) (λ t. absurd (cc)) (λ t.
    ap (judge_number r d ao c) h.number ∙ pass_number r d ao c n h.range h.right)

pass_row : (rows : List Row) (pair : Pair) (now : ℕ) (s : EndState) (d : Segment) (ao : Ao) (r : Numbered) (c : List ℕ) (n : ℕ) → Passes rows pair now s d ao r c n
    → judge_row rows pair d ao (number_expected s s.peer_isn) (Some c) (Some r) ≡ Ok (found_with r d ao c n)
pass_row rows pair now s d ao r c n h =
    let goal : Judgement = Ok (found_with r d ao c n) in
    let long = h.long in
    choose (λ (v : Judgement). v ≡ goal) (not (length ao.mac == mac_length_of r.row.algorithm)) _ (judge_context r d ao (number_expected s s.peer_isn) (Some c)) (λ t. absurd (grind (arith, nat_tests))) (λ t. pass_context rows pair now s d ao r c n h)

pub judged_pass : (rows : List Row) (pair : Pair) (now : ℕ) (s : EndState) (d : Segment) (ao : Ao) (r : Numbered) (c : List ℕ) (n : ℕ) → Passes rows pair now s d ao r c n
    → judged_by rows pair now s d ≡ Ok (found_with r d ao c n)
judged_pass rows pair now s d ao r c n h =
    let x = number_expected s s.peer_isn in
    judge_by_steps rows pair (numbers_known s) now d ∙ ap (λ o. judge_ao rows pair now x d o (find_ao d.area)) h.known ∙ ap (judge_ao rows pair now x d (Some c)) h.option
    ∙ ap (judge_row rows pair d ao x (Some c)) h.accepts ∙ pass_row rows pair now s d ao r c n h
