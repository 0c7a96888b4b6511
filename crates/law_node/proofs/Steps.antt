-- A step of a node, seen from one connection.
use Rattle.std.proofs.Common.{◌≡◌, ℕ, Bool, true, false, List, [], ◌∷◌, ◌++◌, length, Option, Some, None, refl}
use Rattle.std.specs.Prelude.{nat_le, option_map, if◌then◌else◌}
use Rattle.book_base.specs.declared.address.Pair.{Pair}
use Rattle.book_segments.specs.Segments.{Reading, Read, Bad as Unread, reading}
use Rattle.book_keys.specs.Rows.{Row}
use Rattle.book_endpoint.specs.States.{EndState, connected, listening, started, offered, close, abort, tick}
use Rattle.book_endpoint.specs.Emissions.{emit, resend}
use Rattle.book_endpoint.specs.Arrivals.{arrive}
use Rattle.book_cmd_node.specs.declared.node.Act.{Act}
use Rattle.book_cmd_node.specs.declared.node.Act.TheVariants as act
use Rattle.book_cmd_node.specs.declared.node.NodeEvent.{NodeEvent}
use Rattle.book_cmd_node.specs.declared.node.NodeEvent.TheVariants as event
use Rattle.book_cmd_node.specs.NodeRuns.{Held, NodeState, NodeStep, Called, DatagramAnswered, Performed, NodeFull, InUse, node_offers, NothingToSend, NothingToResend, called, made_called, take_called, same_pair, held_end, ends_ticked, stays, after_call, on_held, new_end, on_other, on_pair, arrived_at, injected, node_step}
use Rattle.book_segments.specs.Segments.{pair_reached}
use Rattle.law_node.specs.Alone.{is_for, is_mine, is_placed}
use Rattle.law_node.proofs.Held.{held, IsOnce, end_with_same, end_with_other, end_without_other, end_ticked, end_pushed_other, end_pushed_same, once_with, once_without, once_ticked, once_pushed}
use Rattle.law_node.proofs.Pairs.{same_pair_is, same_pair-refl}

-- a call of a held end
abbrev act_on : List Row → Pair → ℕ → EndState → Act → Called
act_on rows pair now s (act.Give piece) = offered called node_offers piece s
act_on rows pair now s (act.Take count) = take_called count s
act_on rows pair now s act.Send = made_called s NothingToSend (emit rows pair now s)
act_on rows pair now s act.Resend = made_called s NothingToResend (resend rows pair now s)
act_on rows pair now s act.Close = called (close s) Performed
act_on rows pair now s act.Abort = called (abort s) Performed
act_on rows pair now s _ = called s InUse

-- this end alone, if there is one
abbrev pub only : Pair → Option EndState → List Held
only p None = []
only p (Some s) = held p s ∷ []

-- a node with the connection of this pair alone
abbrev pub alone : Pair → NodeState → NodeState
alone p n = record { clock = n.clock; ends = only p (held_end p n.ends) }

-- a step of it, beside the step of the whole node
abbrev pub lone : Pair → NodeStep → NodeStep
lone p step = record { node = alone p step.node; outcome = step.outcome }

at_ends : (p : Pair) (now : ℕ) (outcome : _) (hs ks : List Held) → hs ≡ ks → stays (record { clock = now; ends = hs }) outcome ≡ stays (record { clock = now; ends = ks }) outcome
at_ends p now outcome hs ks e = rw e refl

pub end_of_only : (p : Pair) (o : Option EndState) → held_end p (only p o) ≡ o
end_of_only p None = refl
end_of_only p (Some s) = rw (same_pair-refl p) refl

-- ---- an event of the connection

after_call_alone : (p : Pair) (n : NodeState) (s : EndState) (c : Called) → held_end p n.ends ≡ Some s
    → after_call (record { clock = n.clock; ends = only p (Some s) }) p c ≡ lone p (after_call n p c)
after_call_alone p n s c e = rw (end_with_same p c.state s n.ends e, same_pair-refl p) refl

arrived_alone : (rows : List Row) (p : Pair) (n : NodeState) (r : Reading) (o : Option EndState) → held_end p n.ends ≡ o
    → arrived_at rows (record { clock = n.clock; ends = only p o }) p r o ≡ lone p (arrived_at rows n p r o)
arrived_alone rows p n r None e = rw e refl
arrived_alone rows p n r (Some s) e = let a = arrive rows p n.clock s r in after_call_alone p n s (called a.state (DatagramAnswered a.answer)) e

new_end_alone : (most : ℕ) (p : Pair) (n : NodeState) (s : EndState) → nat_le most 0 ≡ false → held_end p n.ends ≡ None → is_placed (new_end most n p s).outcome ≡ true
    → new_end most (record { clock = n.clock; ends = [] }) p s ≡ lone p (new_end most n p s)
new_end_alone most p n s m e f = at (nat_le most (length n.ends)) f
  where
    at : (v : Bool) → is_placed (let r : NodeStep = if v then stays n NodeFull else stays (record n { ends = n.ends ++ held p s ∷ [] }) Performed in r.outcome) ≡ true
        → new_end most (record { clock = n.clock; ends = [] }) p s ≡ lone p (if v then stays n NodeFull else stays (record n { ends = n.ends ++ held p s ∷ [] }) Performed)
    at true f = absurd (cc)
    at false f = rw (m, end_pushed_same p s n.ends e) refl

other_alone : (most : ℕ) (p : Pair) (n : NodeState) (a : Act) → nat_le most 0 ≡ false → held_end p n.ends ≡ None → is_placed (on_other most n p a).outcome ≡ true
    → on_other most (record { clock = n.clock; ends = [] }) p a ≡ lone p (on_other most n p a)
other_alone most p n (act.Open isn) m e f = new_end_alone most p n (connected p isn) m e f
other_alone most p n (act.Listen isn) m e f = new_end_alone most p n (listening p isn) m e f
other_alone most p n (act.Start isn peer) m e f = new_end_alone most p n (started p isn peer) m e f
other_alone most p n (act.Give piece) m e f = rw e refl
other_alone most p n (act.Take count) m e f = rw e refl
other_alone most p n act.Send m e f = rw e refl
other_alone most p n act.Resend m e f = rw e refl
other_alone most p n act.Close m e f = rw e refl
other_alone most p n act.Abort m e f = rw e refl
other_alone most p n act.Remove m e f = rw e refl

held_alone : (rows : List Row) (p : Pair) (n : NodeState) (s : EndState) (a : Act) → IsOnce p n.ends → held_end p n.ends ≡ Some s
    → on_held rows (record { clock = n.clock; ends = only p (Some s) }) p s a ≡ lone p (on_held rows n p s a)
held_alone rows p n s act.Remove o e = rw (o, same_pair-refl p) refl
held_alone rows p n s (act.Open isn) o e = after_call_alone p n s (act_on rows p n.clock s (act.Open isn)) e
held_alone rows p n s (act.Listen isn) o e = after_call_alone p n s (act_on rows p n.clock s (act.Listen isn)) e
held_alone rows p n s (act.Start isn peer) o e = after_call_alone p n s (act_on rows p n.clock s (act.Start isn peer)) e
held_alone rows p n s (act.Give piece) o e = after_call_alone p n s (act_on rows p n.clock s (act.Give piece)) e
held_alone rows p n s (act.Take count) o e = after_call_alone p n s (act_on rows p n.clock s (act.Take count)) e
held_alone rows p n s act.Send o e = after_call_alone p n s (act_on rows p n.clock s act.Send) e
held_alone rows p n s act.Resend o e = after_call_alone p n s (act_on rows p n.clock s act.Resend) e
held_alone rows p n s act.Close o e = after_call_alone p n s (act_on rows p n.clock s act.Close) e
held_alone rows p n s act.Abort o e = after_call_alone p n s (act_on rows p n.clock s act.Abort) e

pair_alone : (most : ℕ) (rows : List Row) (p : Pair) (n : NodeState) (a : Act) (o : Option EndState) → nat_le most 0 ≡ false → IsOnce p n.ends → held_end p n.ends ≡ o
    → is_placed (on_pair most rows n (record { pair = p; act = a }) o).outcome ≡ true
    → on_pair most rows (record { clock = n.clock; ends = only p o }) (record { pair = p; act = a }) o ≡ lone p (on_pair most rows n (record { pair = p; act = a }) o)
pair_alone most rows p n a None m once e f = other_alone most p n a m e f
pair_alone most rows p n a (Some s) m once e f = held_alone rows p n s a once e

-- an event of the connection does to the connection alone what it does to it among others
pub mine_step : (most : ℕ) (rows : List Row) (p : Pair) (n : NodeState) (e : NodeEvent) → nat_le most 0 ≡ false → IsOnce p n.ends → is_mine p e ≡ true
    → is_placed (node_step most rows n e).outcome ≡ true → node_step most rows (alone p n) e ≡ lone p (node_step most rows n e)
mine_step most rows p n (event.Clock seconds) m once i f = rw (end_ticked p seconds n.ends) (at (held_end p n.ends))
  where
    at : (o : Option EndState) → stays (record { clock = seconds; ends = ends_ticked seconds (only p o) }) Performed ≡ stays (record { clock = seconds; ends = only p (option_map (tick seconds) o) }) Performed
    at None = refl
    at (Some s) = refl
mine_step most rows p n (event.Inject bytes) m once i f = at (reading bytes) i
  where
    at : (r : Reading) → is_for p r ≡ true → injected rows (alone p n) r ≡ lone p (injected rows n r)
    at (Unread fault) i = absurd (cc)
    at (Read d) i =
        let is = same_pair_is (pair_reached d) p i in
        rw (is, end_of_only p (held_end p n.ends)) (arrived_alone rows p n (Read d) (held_end p n.ends) refl)
mine_step most rows p n (event.On q a) m once i f =
    let is = same_pair_is q p i in
    rw (is, end_of_only p (held_end p n.ends)) (pair_alone most rows p n a (held_end p n.ends) m once refl (rw is at f))

-- ---- an event of another connection

after_call_other : (p q : Pair) (n : NodeState) (c : Called) → same_pair q p ≡ false → alone p (after_call n q c).node ≡ alone p n
after_call_other p q n c e = rw (end_with_other p q c.state n.ends e) refl

arrived_other : (rows : List Row) (p q : Pair) (n : NodeState) (r : Reading) (o : Option EndState) → same_pair q p ≡ false → alone p (arrived_at rows n q r o).node ≡ alone p n
arrived_other rows p q n r None e = refl
arrived_other rows p q n r (Some s) e = let a = arrive rows q n.clock s r in after_call_other p q n (called a.state (DatagramAnswered a.answer)) e

new_end_other : (most : ℕ) (p q : Pair) (n : NodeState) (s : EndState) → same_pair q p ≡ false → alone p (new_end most n q s).node ≡ alone p n
new_end_other most p q n s e = at (nat_le most (length n.ends))
  where
    at : (v : Bool) → alone p (let r : NodeStep = if v then stays n NodeFull else stays (record n { ends = n.ends ++ held q s ∷ [] }) Performed in r.node) ≡ alone p n
    at true = refl
    at false = rw (end_pushed_other p q s n.ends e) refl

pair_other : (most : ℕ) (rows : List Row) (p q : Pair) (n : NodeState) (a : Act) (o : Option EndState) → same_pair q p ≡ false → alone p (on_pair most rows n (record { pair = q; act = a }) o).node ≡ alone p n
pair_other most rows p q n (act.Open isn) None e = new_end_other most p q n (connected q isn) e
pair_other most rows p q n (act.Listen isn) None e = new_end_other most p q n (listening q isn) e
pair_other most rows p q n (act.Start isn peer) None e = new_end_other most p q n (started q isn peer) e
pair_other most rows p q n (act.Give piece) None e = refl
pair_other most rows p q n (act.Take count) None e = refl
pair_other most rows p q n act.Send None e = refl
pair_other most rows p q n act.Resend None e = refl
pair_other most rows p q n act.Close None e = refl
pair_other most rows p q n act.Abort None e = refl
pair_other most rows p q n act.Remove None e = refl
pair_other most rows p q n act.Remove (Some s) e = rw (end_without_other p q n.ends e) refl
pair_other most rows p q n (act.Open isn) (Some s) e = after_call_other p q n (act_on rows q n.clock s (act.Open isn)) e
pair_other most rows p q n (act.Listen isn) (Some s) e = after_call_other p q n (act_on rows q n.clock s (act.Listen isn)) e
pair_other most rows p q n (act.Start isn peer) (Some s) e = after_call_other p q n (act_on rows q n.clock s (act.Start isn peer)) e
pair_other most rows p q n (act.Give piece) (Some s) e = after_call_other p q n (act_on rows q n.clock s (act.Give piece)) e
pair_other most rows p q n (act.Take count) (Some s) e = after_call_other p q n (act_on rows q n.clock s (act.Take count)) e
pair_other most rows p q n act.Send (Some s) e = after_call_other p q n (act_on rows q n.clock s act.Send) e
pair_other most rows p q n act.Resend (Some s) e = after_call_other p q n (act_on rows q n.clock s act.Resend) e
pair_other most rows p q n act.Close (Some s) e = after_call_other p q n (act_on rows q n.clock s act.Close) e
pair_other most rows p q n act.Abort (Some s) e = after_call_other p q n (act_on rows q n.clock s act.Abort) e

-- an event of another connection leaves this one as it is
pub other_step : (most : ℕ) (rows : List Row) (p : Pair) (n : NodeState) (e : NodeEvent) → is_mine p e ≡ false → alone p (node_step most rows n e).node ≡ alone p n
other_step most rows p n (event.Clock seconds) i = absurd (cc)
other_step most rows p n (event.Inject bytes) i = at (reading bytes) i
  where
    at : (r : Reading) → is_for p r ≡ false → alone p (injected rows n r).node ≡ alone p n
    at (Unread fault) i = refl
    at (Read d) i = arrived_other rows p (pair_reached d) n (Read d) (held_end (pair_reached d) n.ends) i
other_step most rows p n (event.On q a) i = pair_other most rows p q n a (held_end q n.ends) i

-- ---- no pair is held twice after an event

new_end_once : (most : ℕ) (p q : Pair) (n : NodeState) (s : EndState) → held_end q n.ends ≡ None → IsOnce p n.ends → IsOnce p (new_end most n q s).node.ends
new_end_once most p q n s e o = at (nat_le most (length n.ends))
  where
    at : (v : Bool) → IsOnce p (let r : NodeStep = if v then stays n NodeFull else stays (record n { ends = n.ends ++ held q s ∷ [] }) Performed in r.node.ends)
    at true = o
    at false = once_pushed p q s n.ends e o

arrived_once : (rows : List Row) (p q : Pair) (n : NodeState) (r : Reading) (o : Option EndState) → IsOnce p n.ends → IsOnce p (arrived_at rows n q r o).node.ends
arrived_once rows p q n r None once = once
arrived_once rows p q n r (Some s) once = once_with p q (arrive rows q n.clock s r).state n.ends once

pair_once : (most : ℕ) (rows : List Row) (p q : Pair) (n : NodeState) (a : Act) (o : Option EndState) → held_end q n.ends ≡ o → IsOnce p n.ends
    → IsOnce p (on_pair most rows n (record { pair = q; act = a }) o).node.ends
pair_once most rows p q n (act.Open isn) None e once = new_end_once most p q n (connected q isn) e once
pair_once most rows p q n (act.Listen isn) None e once = new_end_once most p q n (listening q isn) e once
pair_once most rows p q n (act.Start isn peer) None e once = new_end_once most p q n (started q isn peer) e once
pair_once most rows p q n (act.Give piece) None e once = once
pair_once most rows p q n (act.Take count) None e once = once
pair_once most rows p q n act.Send None e once = once
pair_once most rows p q n act.Resend None e once = once
pair_once most rows p q n act.Close None e once = once
pair_once most rows p q n act.Abort None e once = once
pair_once most rows p q n act.Remove None e once = once
pair_once most rows p q n act.Remove (Some s) e once = once_without p q n.ends once
pair_once most rows p q n (act.Open isn) (Some s) e once = once_with p q s n.ends once
pair_once most rows p q n (act.Listen isn) (Some s) e once = once_with p q s n.ends once
pair_once most rows p q n (act.Start isn peer) (Some s) e once = once_with p q s n.ends once
pair_once most rows p q n (act.Give piece) (Some s) e once = once_with p q (act_on rows q n.clock s (act.Give piece)).state n.ends once
pair_once most rows p q n (act.Take count) (Some s) e once = once_with p q (act_on rows q n.clock s (act.Take count)).state n.ends once
pair_once most rows p q n act.Send (Some s) e once = once_with p q (act_on rows q n.clock s act.Send).state n.ends once
pair_once most rows p q n act.Resend (Some s) e once = once_with p q (act_on rows q n.clock s act.Resend).state n.ends once
pair_once most rows p q n act.Close (Some s) e once = once_with p q (act_on rows q n.clock s act.Close).state n.ends once
pair_once most rows p q n act.Abort (Some s) e once = once_with p q (act_on rows q n.clock s act.Abort).state n.ends once

-- a pair that is held at most once is so after an event
pub once_step : (most : ℕ) (rows : List Row) (p : Pair) (n : NodeState) (e : NodeEvent) → IsOnce p n.ends → IsOnce p (node_step most rows n e).node.ends
once_step most rows p n (event.Clock seconds) once = once_ticked p seconds n.ends once
once_step most rows p n (event.Inject bytes) once = at (reading bytes)
  where
    at : (r : Reading) → IsOnce p (injected rows n r).node.ends
    at (Unread fault) = once
    at (Read d) = arrived_once rows p (pair_reached d) n (Read d) (held_end (pair_reached d) n.ends) once
once_step most rows p n (event.On q a) once = pair_once most rows p q n a (held_end q n.ends) refl once
