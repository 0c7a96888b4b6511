-- An acknowledgement, by the phase.
use Rattle.std.proofs.Common.{◌≡◌, ℕ, Bool, true, false, not, Option, refl, sym, ap, ◌∙◌, subst}
use Rattle.std.specs.Prelude.{◌==◌, ◌&&◌, if◌then◌else◌, List}
use Rattle.book_base.specs.declared.address.Pair.{Pair}
use Rattle.book_segments.specs.Meant.{meant}
use Rattle.book_segments.specs.Segments.{Segment, has, SYN, RST, ACK}
use Rattle.book_keys.specs.Rows.{Row}
use Rattle.book_keys.specs.Coordination.{follow}
use Rattle.ao_check.specs.Bonds.{Bond}
use Rattle.book_endpoint.specs.declared.phase.Phase.{Phase}
use Rattle.book_endpoint.specs.declared.phase.Phase.TheVariants.{SynReceived, Established}
use Rattle.book_endpoint.specs.States.{EndState}
use Rattle.book_endpoint.specs.declared.arrival.Arrival.TheVariants as answers
use Rattle.book_endpoint.specs.Hearing as hearing
use Rattle.endpoint_steps.specs.Arriving as stages

both : (a b : Bool) → a ≡ true → b ≡ false → (a && not b) ≡ true
both a b p q = rw (p, q) refl

ack_if : (s : EndState) (d : Segment) (n now : ℕ) (a : Option ℕ) → hearing.above a s.una ≡ true → hearing.above a s.next ≡ false
    → stages.acknowledged s d n now a SynReceived ≡ stages.go_on (record (hearing.acked s a) { phase = Established }) s.una d n now a
ack_if s d n now a p q = ap (λ b. if b then stages.go_on (record (hearing.acked s a) { phase = Established }) s.una d n now a else hearing.answered s answers.BadAck) (both (hearing.above a s.una) (hearing.above a s.next) p q)

pub both_true : (a b : Bool) → a ≡ true → b ≡ true → (a && b) ≡ true
both_true a b p q = rw (p, q) refl

-- the acknowledgement of the own SYN
pub syn_acked : (s : EndState) (d : Segment) (n now una next : ℕ) (a b : Option ℕ) (p : Phase) → SynReceived ≡ p → a ≡ b → una ≡ s.una → next ≡ s.next → hearing.above a una ≡ true → hearing.above a next ≡ false
    → stages.acknowledged s d n now b p ≡ stages.go_on (record (hearing.acked s a) { phase = Established }) una d n now a
syn_acked s d n now una next a b p e f u v t w =
    let one : hearing.above a s.una ≡ true = subst (λ z. hearing.above a z ≡ true) u t in
    let two : hearing.above a s.next ≡ false = subst (λ z. hearing.above a z ≡ false) v w in
    subst (λ p. stages.acknowledged s d n now b p ≡ stages.go_on (record (hearing.acked s a) { phase = Established }) una d n now a) e
    (subst (λ b. stages.acknowledged s d n now b SynReceived ≡ stages.go_on (record (hearing.acked s a) { phase = Established }) una d n now a) f
    (ack_if s d n now a one two ∙ ap (λ z. stages.go_on (record (hearing.acked s a) { phase = Established }) z d n now a) (sym u)))

last_of : (a b c : Bool) (w x y z : hearing.Moved) → a ≡ false → b ≡ false → c ≡ true → (if a then w else (if b then x else (if not c then y else z))) ≡ z
last_of a b c w x y z p q r = rw (p, q, r) refl

-- a segment with ACK, without RST and SYN
pub ordinary_ack : (s f : EndState) (d : Segment) (n now : ℕ) → has RST d ≡ false → has SYN d ≡ false → has ACK d ≡ true → stages.ordinary s f d n now ≡ stages.acknowledged f d n now (meant d.acknowledgement f.una) f.phase
ordinary_ack s f d n now p q r =
    last_of (has RST d) (has SYN d) (has ACK d) (if n == s.expected then hearing.answered (record s { phase = Rattle.book_endpoint.specs.declared.phase.Phase.TheVariants.Closed }) answers.Reset else hearing.answered (hearing.owing s) answers.Challenge) (hearing.answered (hearing.owing f) answers.Challenge) (hearing.answered f answers.NoAck) (stages.acknowledged f d n now (meant d.acknowledgement f.una) f.phase) p q r

-- the current row, once an RNextKeyID is heard
pub current_heard : (a b : Bond) (rows : List Row) (pair : Pair) (id now : ℕ) (current : Option ℕ) → b ≡ record a { current = follow a.current rows a.pair id now } → a.pair ≡ pair → a.current ≡ current → b.current ≡ follow current rows pair id now
current_heard a b rows pair id now current e p c = ap (λ z. z.current) e ∙ ap (λ z. follow a.current rows z id now) p ∙ ap (λ z. follow z rows pair id now) c
