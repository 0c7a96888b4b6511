-- Equal contexts of segments without SYN name one connection.
use Rattle.std.proofs.Common.{◌≡◌, ℕ, ◌%◌, false, List, Option, Some, None, refl, sym, ap, subst, ◌∙◌}
use Rattle.std.specs.Prelude.{IsSomeAnd}
use Rattle.book_base.specs.declared.address.Socket.{Socket}
use Rattle.book_segments.specs.Bytes.{ring}
use Rattle.book_segments.specs.Sockets.{octets}
use Rattle.book_segments.specs.Segments.{Segment, has, SYN}
use Rattle.book_segments.proofs.Fields.{append_split, put2_law, put4_law, some_is}
use Rattle.book_macs.specs.Contexts.{context, context_of}
use Rattle.book_endpoint.specs.States.{EndState}
use Rattle.book_shim.specs.declared.kept.Isns.{Isns}
use Rattle.law_shim.specs.EndOrigins.{IsAcross}

-- equal contexts have equal numbers
numbers_of : (source destination : Socket) (i j k l : ℕ) → context source destination i j ≡ context source destination k l → (i % ring ≡ k % ring) × (j % ring ≡ l % ring)
unfolding context
numbers_of source destination i j k l h =
    let one = append_split (octets source.address) (octets source.address) _ _ refl h in
    let two = append_split (octets destination.address) (octets destination.address) _ _ refl one.1 in
    let three = put2_law _ _ _ _ two.1 in
    let four = put2_law _ _ _ _ three.1 in
    let five = put4_law _ _ _ _ four.1 in
    let six = put4_law _ _ _ _ five.1 in
    (five.0, six.0)

-- both numbers are known without SYN
pub record Known (d : Segment) (a b : Option ℕ) (c : List ℕ) : Type 0 where
  pub source : ℕ
  pub destination : ℕ
  pub of_source : a ≡ Some source
  pub of_destination : b ≡ Some destination
  pub is : c ≡ context d.source d.destination source destination

pub without_source : (d : Segment) (b : Option ℕ) → has SYN d ≡ false → context_of d None b ≡ None
unfolding context_of
without_source d b plain = rw plain refl

without_destination : (d : Segment) (i : ℕ) → has SYN d ≡ false → context_of d (Some i) None ≡ None
unfolding context_of
without_destination d i plain = rw plain refl

with_both : (d : Segment) (i j : ℕ) → has SYN d ≡ false → context_of d (Some i) (Some j) ≡ Some (context d.source d.destination i j)
unfolding context_of
with_both d i j plain = rw plain refl

pub known : (d : Segment) (a b : Option ℕ) (c : List ℕ) → has SYN d ≡ false → context_of d a b ≡ Some c → Known d a b c
known d None b c plain e = let none : None ≡ Some c = sym (without_source d b plain) ∙ e in absurd (cc)
known d (Some i) None c plain e = let none : None ≡ Some c = sym (without_destination d i plain) ∙ e in absurd (cc)
known d (Some i) (Some j) c plain e =
    record { source = i; destination = j; of_source = refl; of_destination = refl; is = some_is c _ (sym e ∙ with_both d i j plain) }

across_by : (own peer : Option ℕ) (i : Option Isns) (s : EndState) (k l m n : ℕ) → own ≡ Some k → peer ≡ Some l → (i ≡ None → own ≡ None) → ((c : Isns) → i ≡ Some c → (own ≡ Some c.own) × (peer ≡ Some c.peer))
    → s.isn ≡ m → s.peer_isn ≡ Some n → m % ring ≡ l % ring → n % ring ≡ k % ring → IsAcross i s
across_by own peer None s k l m n a b none some isn is e f = let no_way : None ≡ Some k = sym (none refl) ∙ a in absurd (cc)
across_by own peer (Some c) s k l m n a b none some isn is e f =
    let t = some c refl in
    let one : k ≡ c.own = some_is k c.own (sym a ∙ t.0) in
    let two : l ≡ c.peer = some_is l c.peer (sym b ∙ t.1) in (
      ap (λ x. x % ring) isn ∙ (e ∙ ap (λ x. x % ring) two),
      subst (λ (o : Option ℕ). IsSomeAnd o (λ x. x % ring ≡ c.own % ring)) (sym is) (f ∙ ap (λ x. x % ring) one),
    )

-- what the shim knows of its connection
pub record Shims (i : Option Isns) (own peer : Option ℕ) : Type 0 where
  pub none : i ≡ None → own ≡ None
  pub some : (c : Isns) → i ≡ Some c → (own ≡ Some c.own) × (peer ≡ Some c.peer)

-- the context of what one made is the context in which the other took it: from the end to the shim
pub from_end : (i : Option Isns) (s : EndState) (own peer : Option ℕ) (one two : Segment) (c : List ℕ) → Shims i own peer → one.source ≡ two.source → one.destination ≡ two.destination
    → has SYN one ≡ false → has SYN two ≡ false → context_of one (Some s.isn) s.peer_isn ≡ Some c → context_of two peer own ≡ Some c → IsAcross i s
from_end i s own peer one two c shims source destination plain bare made taken =
    let a = known one (Some s.isn) s.peer_isn c plain made in
    let b = known two peer own c bare taken in
    let same : context two.source two.destination a.source a.destination ≡ context two.source two.destination b.source b.destination =
    ap (λ x. context x two.destination a.source a.destination) (sym source) ∙ (ap (λ x. context one.source x a.source a.destination) (sym destination) ∙ (sym a.is ∙ b.is)) in
    let n = numbers_of two.source two.destination a.source a.destination b.source b.destination same in
    across_by own peer i s b.destination b.source a.source a.destination b.of_destination b.of_source shims.none shims.some (some_is s.isn a.source a.of_source) a.of_destination n.0 n.1

-- and from the shim to the end
pub from_shim : (i : Option Isns) (s : EndState) (own peer : Option ℕ) (one two : Segment) (c : List ℕ) → Shims i own peer → one.source ≡ two.source → one.destination ≡ two.destination
    → has SYN one ≡ false → has SYN two ≡ false → context_of one own peer ≡ Some c → context_of two s.peer_isn (Some s.isn) ≡ Some c → IsAcross i s
from_shim i s own peer one two c shims source destination plain bare made taken =
    let a = known one own peer c plain made in
    let b = known two s.peer_isn (Some s.isn) c bare taken in
    let same : context two.source two.destination a.source a.destination ≡ context two.source two.destination b.source b.destination =
    ap (λ x. context x two.destination a.source a.destination) (sym source) ∙ (ap (λ x. context one.source x a.source a.destination) (sym destination) ∙ (sym a.is ∙ b.is)) in
    let n = numbers_of two.source two.destination a.source a.destination b.source b.destination same in
    across_by own peer i s a.source a.destination b.destination b.source a.of_source a.of_destination shims.none shims.some (some_is s.isn b.destination b.of_destination) b.of_source (sym n.1) (sym n.0)
