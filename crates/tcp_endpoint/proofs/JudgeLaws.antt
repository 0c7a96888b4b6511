-- What a pass says of a segment's number, and sockets that are compared.
use Rattle.std.proofs.Common.{◌≡◌, ℕ, ◌+◌, Bool, true, false, not, List, [], ◌∷◌, length, Option, Some, None, refl, sym, ap, ◌∙◌, arith, subst, Ok, Err}
use Rattle.std.specs.Prelude.{nat_lt, ◌==◌, ◌&&◌, if◌then◌else◌, is_some, ⊤}
use Rattle.std.proofs.lemmas.Bool.Decides.{nat_tests}
use Rattle.book_base.specs.declared.address.Address.{Address}
use Rattle.book_base.specs.declared.address.Address.TheVariants.{V4, V6}
use Rattle.book_base.specs.declared.address.Socket.{Socket}
use Rattle.book_base.specs.declared.address.Pair.{Pair}
use Rattle.book_segments.specs.Bytes.{same_bytes}
use Rattle.book_segments.specs.Meant.{meant}
use Rattle.book_segments.specs.Sockets.{same_address, same_socket}
use Rattle.book_segments.specs.Options.{Ao, AoFound, Absent, One, Two, WithMd5 as FoundMd5, find_ao}
use Rattle.book_segments.specs.Segments.{Segment, has, SYN, segment_length}
use Rattle.book_segments.proofs.Fields.{same_bytes_tells}
use Rattle.book_macs.specs.Contexts.{context_of}
use Rattle.book_keys.specs.Rows.{Row}
use Rattle.book_keys.specs.Choices.{Numbered, accept_row, has_id}
use Rattle.book_endpoint.specs.Verdicts as v
use Rattle.book_endpoint.proofs.JudgeSteps as steps
use Rattle.book_endpoint.specs.declared.refusal.Refusal.TheVariants as refusals
use Rattle.book_base.specs.Algorithms.{mac_length_of}
use Rattle.book_segments.proofs.SocketLaws.{same_address_is, same_socket_is}

-- either way of a test
choose : {X : Type 0} (P : X → Type 0) (b : Bool) (x y : X) → (b ≡ true → P x) → (b ≡ false → P y) → P (if b then x else y)
choose P true x y f g = f refl
choose P false x y f g = g refl

-- where it passes, its number is that one
abbrev pub Numbers : Option ℕ → v.Judgement → Type 0
Numbers m (Err why) = ⊤
Numbers m (Ok p) = m ≡ Some p.number

numbers_found : (r : Numbered) (d : Segment) (ao : Ao) (c : List ℕ) (m : Option ℕ) → Numbers m (steps.judge_number r d ao c m)
numbers_found r d ao c None = tt
numbers_found r d ao c (Some n) =
    choose (Numbers (Some n)) (nat_lt 9223372036854775808 (n + segment_length d)) (Err refusals.Range) (steps.judge_mac ao (v.found_with r d ao c n)) (λ u. tt)
    (λ u. choose (Numbers (Some n)) (same_bytes ao.mac (v.mac_of (v.found_with r d ao c n))) (Ok (v.found_with r d ao c n)) (Err refusals.BadMac) (λ w. refl) (λ w. tt))

numbers_context : (r : Numbered) (d : Segment) (ao : Ao) (expected : Option ℕ) (c : Option (List ℕ)) → Numbers (v.segment_number d expected) (steps.judge_context r d ao expected c)
numbers_context r d ao expected None = tt
numbers_context r d ao expected (Some c) =
    choose (Numbers (v.segment_number d expected)) (not (has SYN d) && not (is_some expected)) (Err refusals.NoContext) (steps.judge_number r d ao c (v.segment_number d expected)) (λ t. tt)
    (λ t. numbers_found r d ao c (v.segment_number d expected))

numbers_row : (rows : List Row) (pair : Pair) (d : Segment) (ao : Ao) (expected : Option ℕ) (c : Option (List ℕ)) (r : Option Numbered)
    → Numbers (v.segment_number d expected) (steps.judge_row rows pair d ao expected c r)
numbers_row rows pair d ao expected c None =
    choose (Numbers (v.segment_number d expected)) (has_id rows pair ao.key_id) (Err refusals.Expired) (Err refusals.NoTuple) (λ t. tt) (λ t. tt)
numbers_row rows pair d ao expected c (Some r) =
    choose (Numbers (v.segment_number d expected)) (not (length ao.mac == mac_length_of r.row.algorithm)) (Err refusals.MacLength) (steps.judge_context r d ao expected c) (λ t. tt)
    (λ t. numbers_context r d ao expected c)

numbers_ao : (rows : List Row) (pair : Pair) (now : ℕ) (d : Segment) (expected : Option ℕ) (c : Option (List ℕ)) (f : AoFound)
    → Numbers (v.segment_number d expected) (steps.judge_ao rows pair now expected d c f)
numbers_ao rows pair now d expected c Absent = tt
numbers_ao rows pair now d expected c Two = tt
numbers_ao rows pair now d expected c FoundMd5 = tt
numbers_ao rows pair now d expected c (One ao) = numbers_row rows pair d ao expected c (accept_row rows pair ao.key_id now)

numbers : (rows : List Row) (pair : Pair) (own : ℕ) (peer expected : Option ℕ) (now : ℕ) (d : Segment) → Numbers (v.segment_number d expected) (v.judge rows pair (record { own_isn = own; peer_isn = peer; expected = expected }) now d)
numbers rows pair own peer expected now d =
    subst (Numbers (v.segment_number d expected)) (sym (steps.judge_by_steps rows pair (record { own_isn = own; peer_isn = peer; expected = expected }) now d))
    (numbers_ao rows pair now d expected (context_of d peer (Some own)) (find_ao d.area))

some_is : (a b : ℕ) → Some a ≡ Some b → b ≡ a
some_is a b e = cc

-- before the peer is known a segment's number is its sequence
pub number_first : (rows : List Row) (pair : Pair) (own : ℕ) (peer : Option ℕ) (now : ℕ) (d : Segment) (p : v.Finding) → v.judge rows pair (record { own_isn = own; peer_isn = peer; expected = None }) now d ≡ Ok p → p.number ≡ d.sequence
number_first rows pair own peer now d p e = some_is d.sequence p.number (subst (Numbers (v.segment_number d None)) e (numbers rows pair own peer None now d))

second_of : {X : Type 0} (b : Bool) (x y z : X) → b ≡ false → (if b then x else y) ≡ z → y ≡ z
second_of true x y z t e = absurd (cc)
second_of false x y z t e = e

-- then, without SYN, it is the one that the sequence means
pub number_near : (rows : List Row) (pair : Pair) (own : ℕ) (peer : Option ℕ) (x now : ℕ) (d : Segment) (p : v.Finding) → v.judge rows pair (record { own_isn = own; peer_isn = peer; expected = Some x }) now d ≡ Ok p → has SYN d ≡ false
    → meant d.sequence x ≡ Some p.number
number_near rows pair own peer x now d p e syn =
    second_of (has SYN d) (Some d.sequence) (meant d.sequence x) (Some p.number) syn (subst (Numbers (v.segment_number d (Some x))) e (numbers rows pair own peer (Some x) now d))

-- ---- sockets

and_is : (a b : Bool) → a ≡ true → b ≡ true → (a && b) ≡ true
and_is a b p q = rw (p, q) refl

by_test : (b : Bool) → (b ≡ true → ⊥) → false ≡ b
by_test true h = absurd (h refl)
by_test false h = refl

both_true : (a b : Bool) → (a && b) ≡ true → (a ≡ true) × (b ≡ true)
both_true true b e = (refl, e)
both_true false b e = absurd (cc)

port_is : (a b : ℕ) → (a == b) ≡ true → a ≡ b
port_is a b e = grind (arith, nat_tests)

port_same : (a : ℕ) → (a == a) ≡ true
port_same a = grind (arith, nat_tests)

same_bytes_own : (xs : List ℕ) → same_bytes xs xs ≡ true
same_bytes_own [] = refl
same_bytes_own (x ∷ xs) = let a = port_same x in let b = same_bytes_own xs in and_is (x == x) (same_bytes xs xs) a b

same_address_own : (a : Address) → same_address a a ≡ true
same_address_own (V4 b) = same_bytes_own b
same_address_own (V6 b) = same_bytes_own b

same_socket_own : (s : Socket) → same_socket s s ≡ true
same_socket_own s = and_is (same_address s.address s.address) (s.port == s.port) (same_address_own s.address) (port_same s.port)

-- a test of equality is the book's
pub socket_test : (b : Bool) (one two : Socket) → (b ≡ true → one ≡ two) → (one ≡ two → b ≡ true) → b ≡ same_socket one two
socket_test true one two f g = sym (subst (λ z. same_socket one z ≡ true) (f refl) (same_socket_own one))
socket_test false one two f g = by_test (same_socket one two) (λ t. let h = g (same_socket_is one two t) in absurd (cc))
