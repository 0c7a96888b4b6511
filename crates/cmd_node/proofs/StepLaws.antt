-- What an event makes of a node that stands for a node of the definitions.
use Rattle.std.proofs.Common.{◌≡◌, ℕ, ◌≤◌, Bool, true, false, List, [], ◌∷◌, ◌++◌, length, Option, Some, None, Result, Ok, Err, OnOk, OnErr, refl, sym, ap, subst, ◌∙◌}
use Rattle.std.specs.Prelude.{IfOk, is_some, nat_le, if◌then◌else◌, ⊤}
use Rattle.book_base.specs.declared.address.Pair.{Pair}
use Rattle.book_segments.specs.Segments.{Reading, Read, Bad as Unread, reading}
use Rattle.book_keys.specs.Lifetimes.{greatest_time}
use Rattle.book_keys.specs.Rows.{Row}
use Rattle.book_endpoint.specs.States.{EndState}
use Rattle.book_endpoint.specs.Arrivals.{arrive}
use Rattle.book_cmd_node.specs.declared.node.Act.{Act}
use Rattle.book_cmd_node.specs.declared.node.Act.TheVariants as act
use Rattle.book_cmd_node.specs.declared.node.NodeEvent.TheVariants as event
use Rattle.book_cmd_node.specs.NodeRuns as book
use Rattle.book_cmd_node.specs.NodeRuns.{NodeState, NodeStep, most_ends, same_pair, held_end, with_end, arrived_at, called, stays, after_call, new_end, injected, node_step}
use Rattle.book_segments.specs.Segments.{pair_reached}
use Rattle.law_node.proofs.Pairs.{same_pair_is}
use Rattle.law_node.proofs.Held.{held, once_with, once_without, once_ticked, once_pushed}
use Rattle.tcp_endpoint.specs.declared.endpoint.Endpoint.{Endpoint}
use Rattle.tcp_endpoint.specs.Arrivals.{Arrives}
use Rattle.tcp_endpoint.specs.Ends.{FitsEnd, Stands}
use Rattle.stack_ends.specs.declared.answer.NodeArrival.{NodeArrival}
use Rattle.stack_ends.specs.declared.answer.NodeRefusal.{NodeRefusal}
use Rattle.stack_ends.specs.declared.answer.NodeRefusal.TheVariants as refusals
use Rattle.stack_ends.specs.EndsArrivals.{Comes, ComesTo}
use Rattle.stack_ends.specs.Held.{Holding, end_at, ends, holds, refusal, Adds, Begins, FitsAll, IsRefused, Removes, Ticks}
use Rattle.stack_ends.specs.Loans.{written}
use Rattle.stack_ends.proofs.MapLaws.{written_finds, written_count}
use Rattle.stack_ends.specs.EndsCalls.{act_on}
use Rattle.cmd_node.specs.Calls.{Follows, HasActed}
use Rattle.stack_ends.specs.EndsStands.{StandsFor, StandsAt}
use Rattle.cmd_node.specs.Nodes.{StandsNode, Reaches, IsBegun, called_at, told_of}
use Rattle.cmd_node.specs.declared.told.Told.{Told}
use Rattle.cmd_node.specs.declared.told.Told.TheVariants as tells
use Rattle.stack_ends.proofs.HoldLaws.{put_holds, drop_holds, add_holds, tick_holds}

-- an end that stands for nothing, or a state
at_none : (rows : List Row) (p : Pair) (o : Option Endpoint) (m : Option EndState) → StandsAt rows p o m → o ≡ None → m ≡ None
at_none rows p None None h e = refl
at_none rows p None (Some s) h e = absurd h
at_none rows p (Some x) m h e = absurd (cc)

record AtSome (rows : List Row) (p : Pair) (e : Endpoint) (m : Option EndState) : Type 0 where
  state : EndState
  is : m ≡ Some state
  stands : StandsFor rows p e state

at_some : (rows : List Row) (p : Pair) (o : Option Endpoint) (m : Option EndState) (e : Endpoint) → StandsAt rows p o m → o ≡ Some e → AtSome rows p e m
at_some rows p (Some x) (Some s) e h is = let same : x ≡ e = cc in record { state = s; is = refl; stands = rw (← same) h }
at_some rows p (Some x) None e h is = absurd h
at_some rows p None m e h is = absurd (cc)

-- every table that fits the states' ends fits what is held
pub fits_all : (rows : List Row) (h : Holding) (clock : ℕ) (n : NodeState) → StandsNode rows h clock n → FitsAll rows h
fits_all rows h clock n S q e is = (at_some rows q (end_at h q) (held_end q n.ends) e (S.holds.each q) is).stands.fits

-- ---- an end is put in the place of its pair's

put_stands : (rows : List Row) (h after : Holding) (clock : ℕ) (n : NodeState) (p : Pair) (f : Endpoint) (s t : EndState) → StandsNode rows h clock n → held_end p n.ends ≡ Some s
    → after.most ≡ h.most → ((q : Pair) → end_at after q ≡ (if same_pair p q then Some f else end_at h q)) → ends after ≡ ends h → StandsFor rows p f t
    → StandsNode rows after clock (record n { ends = with_end p t n.ends })
put_stands rows h after clock n p f s t S e most finds count F = record {
  most = most ∙ S.most;
  clock_is = S.clock_is;
  time = S.time;
  holds = put_holds rows h after p f s t n.ends S.holds e finds count F;
  distinct = λ q. once_with q p t n.ends (S.distinct q);
}

-- the end of a pair is called
pub called_reaches : (rows : List Row) (h after : Holding) (clock : ℕ) (n : NodeState) (p from : Pair) (a : Act) (room : List ℕ) (told : Told) (e f : Endpoint)
    → StandsNode rows h clock n → end_at h p ≡ Some e → after ≡ written p h f → e.pair ≡ from → ((s : EndState) → Stands e s → HasActed rows from clock s a f room told)
    → f.pair ≡ from → FitsEnd rows f → Reaches rows after clock room told (called_at rows n p a (held_end p n.ends))
called_reaches rows h after clock n p from a room told e f S is new bound acted pair fits =
    let k = at_some rows p (end_at h p) (held_end p n.ends) e (S.holds.each p) is in
    let from_is : from ≡ p = sym bound ∙ k.stands.pair_is in
    let timed : Follows f room told (act_on rows from n.clock k.state a) =
    subst (λ (t : ℕ). Follows f room told (act_on rows from t k.state a)) (sym S.clock_is) (acted k.state k.stands.stands) in
    let does : Follows f room told (act_on rows p n.clock k.state a) = subst (λ (q : Pair). Follows f room told (act_on rows q n.clock k.state a)) from_is timed in
    let is_held : holds h p ≡ true = ap is_some is in
    let reached : Reaches rows (written p h f) clock room told (called_at rows n p a (Some k.state)) = record {
      stands = put_stands rows h (written p h f) clock n p f k.state (act_on rows p n.clock k.state a).state S k.is refl
          (λ q. written_finds h p q f is_held) (written_count h p f) (record { stands = does.stands; fits = fits; pair_is = pair ∙ from_is });
      tells = does.tells;
    } in
    subst (λ (m : Option EndState). Reaches rows after clock room told (called_at rows n p a m)) (sym k.is)
    (subst (λ (g : Holding). Reaches rows g clock room told (called_at rows n p a (Some k.state))) (sym new) reached)

-- no end is called
pub uncalled_reaches : (rows : List Row) (h after : Holding) (clock : ℕ) (n : NodeState) (p : Pair) (a : Act) (room : List ℕ) → StandsNode rows h clock n → end_at h p ≡ None → after ≡ h
    → Reaches rows after clock room tells.NoConnection (called_at rows n p a (held_end p n.ends))
uncalled_reaches rows h after clock n p a room S is same =
    rw (at_none rows p (end_at h p) (held_end p n.ends) (S.holds.each p) is, same) (record { stands = S; tells = refl })

-- ---- an end begins

same_finds : (h : Holding) (p q : Pair) (e : Endpoint) → end_at h p ≡ Some e → end_at h q ≡ (if same_pair p q then Some e else end_at h q)
same_finds h p q e is = at (same_pair p q) refl
  where
    at : (v : Bool) → same_pair p q ≡ v → end_at h q ≡ (if v then Some e else end_at h q)
    at true g = rw (← same_pair_is p q g) is
    at false g = refl

-- the pair is held already
in_use_reaches : (rows : List Row) (h after : Holding) (clock : ℕ) (n : NodeState) (p : Pair) (room : List ℕ) (told : Told) (r : Result ⊤ NodeRefusal) (e : Endpoint) (s : EndState)
    → StandsNode rows h clock n → end_at h p ≡ Some e → held_end p n.ends ≡ Some s → StandsFor rows p e s → IsRefused r (Some refusals.InUse) → OnErr r (after ≡ h) → IsBegun r told
    → Reaches rows after clock room told (after_call n p (called s book.InUse))
in_use_reaches rows h after clock n p room told (Ok x) e s S is at F refused same begun = absurd (cc)
in_use_reaches rows h after clock n p room told (Err why) e s S is at F refused same begun =
    let told_is : told ≡ tells.InUse = rw refused at begun in
    rw (same, told_is) (record { stands = put_stands rows h h clock n p e s s S at refl (λ q. same_finds h p q e is) refl F; tells = refl })

-- the pair isn't held
added_reaches : (rows : List Row) (h after : Holding) (clock : ℕ) (n : NodeState) (p : Pair) (room : List ℕ) (told : Told) (r : Result ⊤ NodeRefusal) (s : EndState) (full : Bool)
    → StandsNode rows h clock n → held_end p n.ends ≡ None → IsRefused r (if full then Some refusals.Full else None) → OnErr r (after ≡ h)
    → OnOk r ((e : Endpoint) × Adds h after p e × Begins rows p s e) → IsBegun r told
    → Reaches rows after clock room told (if full then stays n book.NodeFull else stays (record n { ends = n.ends ++ held p s ∷ [] }) book.Performed)
added_reaches rows h after clock n p room told (Ok x) s true S at refused same added begun = absurd (cc)
added_reaches rows h after clock n p room told (Err why) s true S at refused same added begun =
    let told_is : told ≡ tells.NodeFull = rw refused at begun in rw (same, told_is) (record { stands = S; tells = refl })
added_reaches rows h after clock n p room told (Err why) s false S at refused same added begun = absurd (rw refused at begun)
added_reaches rows h after clock n p room told (Ok x) s false S at refused same added begun =
    let A = added.1 in
    let B = added.2 in
    rw begun (record {
      stands = record {
        most = A.most ∙ S.most;
        clock_is = S.clock_is;
        time = S.time;
        holds = add_holds rows h after p added.0 s n.ends S.holds at A (record { stands = B.stands; fits = B.fits; pair_is = B.pair_is });
        distinct = λ q. once_pushed q p s n.ends at (S.distinct q);
      };
      tells = refl;
    })

-- an end begins, or doesn't; the step is given by what is held
pub begun_reaches : (rows : List Row) (h after : Holding) (clock : ℕ) (n : NodeState) (p : Pair) (room : List ℕ) (told : Told) (r : Result ⊤ NodeRefusal) (s : EndState) (step : Option EndState → NodeStep)
    → StandsNode rows h clock n → IsRefused r (refusal h p) → OnErr r (after ≡ h) → OnOk r ((e : Endpoint) × Adds h after p e × Begins rows p s e) → IsBegun r told
    → step None ≡ new_end most_ends n p s → ((t : EndState) → step (Some t) ≡ after_call n p (called t book.InUse)) → Reaches rows after clock room told (step (held_end p n.ends))
begun_reaches rows h after clock n p room told r s step S refused same added begun none some = at (end_at h p) refl refused
  where
    at : (o : Option Endpoint) → end_at h p ≡ o → IsRefused r (if is_some o then Some refusals.InUse else (if nat_le h.most (ends h) then Some refusals.Full else None))
        → Reaches rows after clock room told (step (held_end p n.ends))
    at (Some e) is refused =
        let k = at_some rows p (end_at h p) (held_end p n.ends) e (S.holds.each p) is in
        rw (k.is, some k.state) (in_use_reaches rows h after clock n p room told r e k.state S is k.is k.stands refused same begun)
    at None is refused =
        let m = at_none rows p (end_at h p) (held_end p n.ends) (S.holds.each p) is in
        let full : IsRefused r (if nat_le most_ends (length n.ends) then Some refusals.Full else None) = rw (S.most, S.holds.count) at refused in
        rw (m, none) (added_reaches rows h after clock n p room told r s (nat_le most_ends (length n.ends)) S m full same added begun)

-- ---- an end is dropped

pub removed_reaches : (rows : List Row) (h after : Holding) (clock : ℕ) (n : NodeState) (p : Pair) (room : List ℕ) → StandsNode rows h clock n → holds h p ≡ true → Removes h after p
    → Reaches rows after clock room tells.Done (book.on_pair most_ends rows n (record { pair = p; act = act.Remove }) (held_end p n.ends))
removed_reaches rows h after clock n p room S is R = at (end_at h p) refl is
  where
    at : (o : Option Endpoint) → end_at h p ≡ o → is_some o ≡ true → Reaches rows after clock room tells.Done (book.on_pair most_ends rows n (record { pair = p; act = act.Remove }) (held_end p n.ends))
    at None e i = absurd (cc)
    at (Some x) e i =
        let k = at_some rows p (end_at h p) (held_end p n.ends) x (S.holds.each p) e in
        rw k.is (record {
          stands = record {
            most = R.most ∙ S.most;
            clock_is = S.clock_is;
            time = S.time;
            holds = drop_holds rows h after p k.state n.ends S.holds k.is (S.distinct p) R;
            distinct = λ q. once_without q p n.ends (S.distinct q);
          };
          tells = refl;
        })

pub unremoved_reaches : (rows : List Row) (h after : Holding) (clock : ℕ) (n : NodeState) (p : Pair) (room : List ℕ) → StandsNode rows h clock n → holds h p ≡ false → after ≡ h
    → Reaches rows after clock room tells.NoConnection (book.on_pair most_ends rows n (record { pair = p; act = act.Remove }) (held_end p n.ends))
unremoved_reaches rows h after clock n p room S is same = at (end_at h p) refl is
  where
    at : (o : Option Endpoint) → end_at h p ≡ o → is_some o ≡ false → Reaches rows after clock room tells.NoConnection (book.on_pair most_ends rows n (record { pair = p; act = act.Remove }) (held_end p n.ends))
    at (Some x) e i = absurd (cc)
    at None e i = rw (at_none rows p (end_at h p) (held_end p n.ends) (S.holds.each p) e, same) (record { stands = S; tells = refl })

-- ---- a datagram comes, and the clock

pub came_reaches : (rows : List Row) (h after : Holding) (clock : ℕ) (n : NodeState) (bytes room : List ℕ) (answer : NodeArrival) → StandsNode rows h clock n
    → Comes rows clock h after answer (reading bytes) → Reaches rows after clock room (told_of answer) (node_step most_ends rows n (event.Inject bytes))
came_reaches rows h after clock n bytes room answer S C = at (reading bytes) C
  where
    known : (p : Pair) (d : _) (o : Option Endpoint) → pair_reached d ≡ p → end_at h p ≡ o → ComesTo rows clock d h after answer o
        → Reaches rows after clock room (told_of answer) (arrived_at rows n p (Read d) (held_end p n.ends))
    known p d None seen is c = rw (at_none rows p (end_at h p) (held_end p n.ends) (S.holds.each p) is, c.0, c.1) (record { stands = S; tells = refl })
    known p d (Some e) seen is c =
        let k = at_some rows p (end_at h p) (held_end p n.ends) e (S.holds.each p) is in
        let H = c.2.hears in
        let m = arrive rows p n.clock k.state (Read d) in
        let timed : Arrives rows e.pair (Read d) c.2.next c.0 (arrive rows e.pair n.clock k.state (Read d)) =
        subst (λ (t : ℕ). Arrives rows e.pair (Read d) c.2.next c.0 (arrive rows e.pair t k.state (Read d))) (sym S.clock_is) (H.arrives k.state k.stands.stands) in
        let does : Arrives rows e.pair (Read d) c.2.next c.0 m =
        subst (λ (q : Pair). Arrives rows e.pair (Read d) c.2.next c.0 (arrive rows q n.clock k.state (Read d))) k.stands.pair_is timed in
        let finds : (q : Pair) → end_at after q ≡ (if same_pair p q then Some c.2.next else end_at h q) =
        λ q. subst (λ (z : Pair). end_at after q ≡ (if same_pair z q then Some c.2.next else end_at h q)) seen (c.2.finds q) in
        let reached : Reaches rows after clock room (tells.Answered c.0.arrival) (after_call n p (called m.state (book.DatagramAnswered m.answer))) = record {
          stands = put_stands rows h after clock n p c.2.next k.state m.state S k.is c.2.most finds c.2.count
              (record { stands = does.stands; fits = H.fits; pair_is = H.pair ∙ k.stands.pair_is });
          tells = ap (λ a. book.DatagramAnswered a) (sym does.answer);
        } in
        subst (λ (x : Option EndState). Reaches rows after clock room (told_of answer) (arrived_at rows n p (Read d) x)) (sym k.is)
        (subst (λ (x : NodeArrival). Reaches rows after clock room (told_of x) (arrived_at rows n p (Read d) (Some k.state))) (sym c.1) reached)

    at : (r : Reading) → Comes rows clock h after answer r → Reaches rows after clock room (told_of answer) (injected rows n r)
    at (Unread fault) c = rw (c.0, c.1) (record { stands = S; tells = refl })
    at (Read d) c = known (pair_reached d) d (end_at h (pair_reached d)) refl refl c

pub ticked_reaches : (rows : List Row) (h after : Holding) (clock seconds : ℕ) (n : NodeState) (room : List ℕ) → StandsNode rows h clock n → seconds ≤ greatest_time → Ticks seconds h after
    → Reaches rows after seconds room tells.Done (node_step most_ends rows n (event.Clock seconds))
ticked_reaches rows h after clock seconds n room S small T = record {
  stands = record {
    most = T.most ∙ S.most;
    clock_is = refl;
    time = small;
    holds = tick_holds rows h after seconds n.ends S.holds T;
    distinct = λ q. once_ticked q seconds n.ends (S.distinct q);
  };
  tells = refl;
}

-- ---- a call of an end

-- it needs an end that is held
abbrev pub IsCall : Act → Type 0
IsCall (act.Open isn) = ⊥
IsCall (act.Listen isn) = ⊥
IsCall (act.Start isn peer) = ⊥
IsCall act.Remove = ⊥
IsCall _ = ⊤

called_is : (rows : List Row) (n : NodeState) (p : Pair) (a : Act) (o : Option EndState) → IsCall a → called_at rows n p a o ≡ book.on_pair most_ends rows n (record { pair = p; act = a }) o
called_is rows n p (act.Give piece) None h = refl
called_is rows n p (act.Give piece) (Some s) h = refl
called_is rows n p (act.Take count) None h = refl
called_is rows n p (act.Take count) (Some s) h = refl
called_is rows n p act.Send None h = refl
called_is rows n p act.Send (Some s) h = refl
called_is rows n p act.Resend None h = refl
called_is rows n p act.Resend (Some s) h = refl
called_is rows n p act.Close None h = refl
called_is rows n p act.Close (Some s) h = refl
called_is rows n p act.Abort None h = refl
called_is rows n p act.Abort (Some s) h = refl
called_is rows n p (act.Open isn) o h = absurd h
called_is rows n p (act.Listen isn) o h = absurd h
called_is rows n p (act.Start isn peer) o h = absurd h
called_is rows n p act.Remove o h = absurd h

pub call_reaches : {E : Type 0} (r : Result Told E) (rows : List Row) (h after : Holding) (clock : ℕ) (p : Pair) (a : Act) (room : List ℕ) → IsCall a
    → IfOk r (λ told. (n : NodeState) → StandsNode rows h clock n → Reaches rows after clock room told (called_at rows n p a (held_end p n.ends)))
    → IfOk r (λ told. (n : NodeState) → StandsNode rows h clock n → Reaches rows after clock room told (book.on_pair most_ends rows n (record { pair = p; act = a }) (held_end p n.ends)))
call_reaches (Ok told) rows h after clock p a room is reached = λ n S. rw (← called_is rows n p a (held_end p n.ends) is) (reached n S)
call_reaches (Err e) rows h after clock p a room is reached = reached
