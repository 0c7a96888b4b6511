-- What is said of a datagram by its sockets, and of stored bytes by what they are.
use Rattle.std.proofs.Common.{◌≡◌, ℕ, Bool, true, false, List, Option, Some, None, refl, sym, ap, ◌∙◌}
use Rattle.std.specs.Prelude.{◌≤◌, ◌^◌, IsSome, not, option_map}
use Rattle.std.specs.List.{find}
use Rattle.book_base.specs.declared.address.Socket.{Socket}
use Rattle.book_base.specs.declared.address.Pair.{Pair}
use Rattle.book_base.specs.Orders.{is_low, sorted_pair}
use Rattle.book_segments.specs.Segments.{Segment, Read, Bad, reading}
use Rattle.book_segments.specs.Sockets.{same_socket}
use Rattle.book_segments.specs.declared.fault.DatagramFault.{DatagramFault}
use Rattle.book_segments.proofs.SocketLaws.{low_apart}
use Rattle.book_keys.specs.Rows.{Table, has_address}
use Rattle.book_cmd_check.specs.Captures.{Connection, connection_between, hear, hear_read}
use Rattle.capture_check.specs.declared.answer.CheckLine.TheVariants as line
use Rattle.capture_check.specs.declared.flows.Flows.{Flows}
use Rattle.capture_check.specs.declared.known.KnownConnection.{KnownConnection}
use Rattle.capture_check.specs.Checkers.{found, told, IsSound, StandsFor, Hears}
use Rattle.capture_check.specs.Flows.{way}
use Rattle.capture_check.specs.Judgements.{numbers_in}
use Rattle.capture_check.specs.Expecting.{hear_expecting, hear_given, known_numbers, numbers_of}

pub unreadable : (tables : List Table) (es : List (Pair × Flows)) (held : List Connection) (time : ℕ) (bytes : List ℕ) (fault : DatagramFault) → StandsFor es held → reading bytes ≡ Bad fault
    → Hears es (line.Bad fault) (hear tables held time bytes)
unfolding hear
unreadable tables es held time bytes fault S e = rw e (record { says = refl; stands = S })

pub readable : (tables : List Table) (held : List Connection) (time : ℕ) (bytes : List ℕ) (d : Segment) → reading bytes ≡ Read d → hear_read tables held time (Read d) ≡ hear tables held time bytes
unfolding hear
readable tables held time bytes d e = rw e refl

-- no node has the address, whichever number is expected
pub no_node : (tables : List Table) (es : List (Pair × Flows)) (held : List Connection) (time : ℕ) (d : Segment) (given : Option ℕ) → StandsFor es held
    → find (has_address d.destination.address) tables ≡ None → Hears es line.UnknownNode (hear_given tables held time d given)
no_node tables es held time d None S n = rw n (record { says = refl; stands = S })
no_node tables es held time d (Some k) S n = at (connection_between d held)
  where
    at : (o : Option Connection) → Hears es line.UnknownNode (hear_expecting tables held time d k o)
    at None = rw n (record { says = refl; stands = S })
    at (Some c) = rw n (record { says = refl; stands = S })

-- both sockets are one, whichever number is expected
pub one_socket : (tables : List Table) (es : List (Pair × Flows)) (held : List Connection) (time : ℕ) (d : Segment) (given : Option ℕ) (t : Table) → StandsFor es held
    → find (has_address d.destination.address) tables ≡ Some t → same_socket d.source d.destination ≡ true → Hears es line.UnknownNode (hear_given tables held time d given)
one_socket tables es held time d None t S n same = rw (n, same) (record { says = refl; stands = S })
one_socket tables es held time d (Some k) t S n same = at (connection_between d held)
  where
    at : (o : Option Connection) → Hears es line.UnknownNode (hear_expecting tables held time d k o)
    at None = rw (n, same) (record { says = refl; stands = S })
    at (Some c) = rw (n, same) (record { says = refl; stands = S })

-- no number is given of a SYN
pub none_given : (given : Option ℕ) (b : Bool) → (IsSome given → b ≡ false) → b ≡ true → given ≡ None
none_given None b h e = refl
none_given (Some n) b h e = let no = h refl in absurd (cc)

-- the numbers of what is found are those of the connection that is held
pub numbers_told : (es : List (Pair × Flows)) (held : List Connection) (s t : Socket) (o : Option KnownConnection) → StandsFor es held → same_socket s t ≡ false
    → o ≡ option_map (numbers_in (is_low s t)) (found es (sorted_pair s t)) → o ≡ known_numbers s t held
numbers_told es held s t o S ne e = e ∙ (at (found es (sorted_pair s t)) ∙ ap (option_map numbers_of) (S.same s t ne))
  where
    at : (f : Option Flows) → option_map (numbers_in (is_low s t)) f ≡ option_map numbers_of (told s t f)
    at None = refl
    at (Some h) =
        let turned : (way (is_low t s) h).isn ≡ (way (not (is_low s t)) h).isn = ap (λ (v : Bool). (way v h).isn) (low_apart s t ne) in
        rw turned refl

-- the same under what the look-up takes
pub at_low : (es : List (Pair × Flows)) (s t : Socket) (low : Bool) (k : Pair) (h : Flows) (n : KnownConnection) → low ≡ is_low s t → k ≡ sorted_pair s t → found es k ≡ Some h → n ≡ numbers_in low h
    → Some n ≡ option_map (numbers_in (is_low s t)) (found es (sorted_pair s t))
at_low es s t low k h n e f g is =
    ap Some is ∙ (ap (λ (v : Bool). Some (numbers_in v h)) e ∙ ap (option_map (numbers_in (is_low s t))) (sym g ∙ ap (found es) f))

-- what is expected of the sender of a connection that is found is at most 2^63
pub few_expected : (tables : List Table) (es : List (Pair × Flows)) (s t : Socket) (low : Bool) (k : Pair) (h : Flows) (n : KnownConnection) → low ≡ is_low s t → k ≡ sorted_pair s t → found es k ≡ Some h → n ≡ numbers_in low h
    → same_socket s t ≡ false → IsSound tables es → n.expected ≤ 2 ^ 63
few_expected tables es s t low k h n l e f is differ sound =
    let flow = sound s t h differ (ap (found es) (sym e) ∙ f) in
    rw (is, l) flow.expected
