-- The turn of each connection that stands in line comes.
use Rattle.std.proofs.Common.{◌≡◌, ◌<◌, ◌≤◌, ◌+◌, ℕ, zero, suc, Bool, true, false, ◌||◌, List, [], ◌∷◌, ◌++◌, length, Option, Some, None, ◌⊎◌, inl, inr, refl, sym, ap, ◌∙◌, arith}
use Rattle.std.specs.Prelude.{◌/◌, ◌==◌, nat_le, is_some, option_map, if◌then◌else◌}
use Rattle.book_base.specs.declared.address.Pair.{Pair}
use Rattle.book_endpoint.specs.States.{EndState, tick}
use Rattle.book_cmd_node.specs.declared.node.NodeEvent.{NodeEvent}
use Rattle.book_cmd_node.specs.NodeRuns.{NodeOutcome, NoUsableKey, Transmitted, held_end, same_pair}
use Rattle.book_stack.specs.Alarms.{lined, stands_in}
use Rattle.book_stack.specs.Calls.{call}
use Rattle.book_stack.specs.Runs.{expanded_from}
use Rattle.book_stack.specs.Stacks.{StackState, watched}
use Rattle.book_stack.specs.Turns.{Turn, ask, asked_first, asked_line, asked_pair, asked_watch, called_at, change_by, clocked, output_at, passing, spoken_by, then_turn, turns, wake}
use Rattle.book_stack.specs.Watches.{awaits}
use Rattle.law_node.proofs.Held.{end_ticked}
use Rattle.law_node.proofs.Pairs.{same_pair_is}
use Rattle.law_stack.proofs.Tidy.{is_held_with}
use Rattle.law_stack.proofs.Turned.{clocked_anew}
use Rattle.law_ends.specs.Turns.{HasItsTurn, asks_pair, is_asked, outputs_at, place}

-- ---- whether a connection was asked

or_front : (a b : Bool) → a ≡ true → (a || b) ≡ true
or_front true b e = refl
or_front false b e = absurd (cc)

asked_front : (p : Pair) (xs ys : List NodeEvent) → is_asked p xs ≡ true → is_asked p (xs ++ ys) ≡ true
asked_front p [] ys e = absurd (cc)
asked_front p (x ∷ xs) ys e = at (asks_pair p x) e (asked_front p xs ys)
  where
    at : (v : Bool) → (v || is_asked p xs) ≡ true → (is_asked p xs ≡ true → is_asked p (xs ++ ys) ≡ true) → (v || is_asked p (xs ++ ys)) ≡ true
    at true e next = refl
    at false e next = next e

asked_back : (p : Pair) (xs ys : List NodeEvent) → is_asked p ys ≡ true → is_asked p (xs ++ ys) ≡ true
asked_back p [] ys e = e
asked_back p (x ∷ xs) ys e = at (asks_pair p x) (asked_back p xs ys e)
  where
    at : (v : Bool) → is_asked p (xs ++ ys) ≡ true → (v || is_asked p (xs ++ ys)) ≡ true
    at true next = refl
    at false next = next

-- ---- its place in line

map_suc : (o : Option ℕ) (n : ℕ) → option_map suc o ≡ Some (suc n) → o ≡ Some n
map_suc None n e = absurd (cc)
map_suc (Some m) n e = let same : suc m ≡ suc n = cc in let is : m ≡ n = omega (arith, same) in rw is refl

map_zero : (o : Option ℕ) → option_map suc o ≡ Some 0 → ⊥
map_zero None e = absurd (cc)
map_zero (Some m) e = let same : suc m ≡ 0 = cc in absurd (omega (arith, same))

map_some : (o : Option ℕ) (n : ℕ) → option_map suc o ≡ Some n → (m : ℕ) × (o ≡ Some m) × (n ≡ suc m)
map_some None n e = absurd (cc)
map_some (Some m) n e = let same : suc m ≡ n = cc in (m, refl, sym same)

place_pushed : (p q : Pair) (line : List Pair) (n : ℕ) → place p line ≡ Some n → place p (line ++ q ∷ []) ≡ Some n
place_pushed p q [] n e = absurd (cc)
place_pushed p q (x ∷ line) n e = at (same_pair x p) (λ m f. place_pushed p q line m f) e
  where
    at : (v : Bool) → ((m : ℕ) → place p line ≡ Some m → place p (line ++ q ∷ []) ≡ Some m) → (if v then Some 0 else option_map suc (place p line)) ≡ Some n → (if v then Some 0 else option_map suc (place p (line ++ q ∷ []))) ≡ Some n
    at true next e = e
    at false next e = let m = map_some (place p line) n e in ap (option_map suc) (next m.0 m.1) ∙ ap (λ (k : ℕ). Some k) (sym m.2)

place_lined : (most : ℕ) (p q : Pair) (line : List Pair) (n : ℕ) → place p line ≡ Some n → place p (lined most q line) ≡ Some n
place_lined most p q line n e = at (stands_in q line) (nat_le most (length line))
  where
    at : (v w : Bool) → place p (if v then line else (if w then line else line ++ q ∷ [])) ≡ Some n
    at true w = e
    at false true = e
    at false false = place_pushed p q line n e

shorter : (p : Pair) (line : List Pair) (n : ℕ) → place p line ≡ Some n → n < length line
shorter p [] n e = absurd (cc)
shorter p (x ∷ line) n e = at (same_pair x p) (λ m f. shorter p line m f) e
  where
    some_zero : (n : ℕ) → Some 0 ≡ Some n → n ≡ 0
    some_zero n e = let same : 0 ≡ n = cc in sym same

    at : (v : Bool) → ((m : ℕ) → place p line ≡ Some m → m < length line) → (if v then Some 0 else option_map suc (place p line)) ≡ Some n → n < suc (length line)
    at true next e = omega (arith, some_zero n e)
    at false next e = let m = map_some (place p line) n e in omega (arith, m.2, next m.0 m.1)

-- the pair is held, and so many stand in line before it
record Waits (p : Pair) (n : ℕ) (s : StackState) : Type 0 where
  stands : place p s.line ≡ Some n
  held : is_some (held_end p s.node.ends) ≡ true

clocked_waits : (p : Pair) (n now : ℕ) (s : StackState) → Waits p n s → Waits p n (clocked now s).stack
clocked_waits p n now s h = at (s.node.clock == now / 1000)
  where
    still : (o : Option EndState) → is_some o ≡ true → is_some (option_map (tick (now / 1000)) o) ≡ true
    still None e = absurd (cc)
    still (Some x) e = refl

    at : (v : Bool) → Waits p n (let t : Turn = if v then passing s else clocked_anew now s in t.stack)
    at true = h
    at false = record {
      stands = h.stands;
      held = ap is_some (end_ticked p (now / 1000) s.node.ends) ∙ still (held_end p s.node.ends) h.held;
    }

line_after : (q : Pair) (o : NodeOutcome) (t : StackState) (p : Pair) (n : ℕ) → place p t.line ≡ Some n → place p (asked_line q o t).line ≡ Some n
line_after q (Transmitted x) t p n e = place_lined t.most p q t.line n e
line_after q NoUsableKey t p n e = place_lined t.most p q t.line n e
line_after q o t p n e = e

held_after : (q : Pair) (o : NodeOutcome) (t : StackState) (p : Pair) → is_some (held_end p t.node.ends) ≡ true → is_some (held_end p (asked_line q o t).node.ends) ≡ true
held_after q (Transmitted x) t p e = e
held_after q NoUsableKey t p e = e
held_after q o t p e = e

-- ---- an end is asked

-- one less stands before a pair that wasn't the first
ask_next : (p : Pair) (m now : ℕ) (s : StackState) → Waits p (suc m) s → Waits p m (ask now s).stack
ask_next p m now s h = at s.line h.stands
  where
    pair : (q : Pair) (ps : List Pair) (o : Option EndState) → held_end q s.node.ends ≡ o → place p ps ≡ Some m → Waits p m (asked_pair now q (record s { line = ps }) o).stack
    pair q ps None is e = record { stands = e; held = h.held }
    pair q ps (Some x) is e =
        let t : StackState = record s { line = ps } in
        let c = spoken_by t q x in
        let u = watched q (asked_watch now (change_by x c) (awaits c.state) c.outcome (t.watches q)) (called_at q c t) in record {
          stands = line_after q c.outcome u p m e;
          held = held_after q c.outcome u p (is_held_with q p x c.state s.node.ends is ∙ h.held);
        }

    first : (q : Pair) (ps : List Pair) (v : Bool) → (if v then Some 0 else option_map suc (place p ps)) ≡ Some (suc m) → place p ps ≡ Some m
    first q ps true e = let same : 0 ≡ suc m = cc in absurd (omega (arith, same))
    first q ps false e = map_suc (place p ps) m e

    at : (line : List Pair) → place p line ≡ Some (suc m) → Waits p m (asked_first now s line).stack
    at [] e = absurd (cc)
    at (q ∷ ps) e = pair q ps (held_end q s.node.ends) refl (first q ps (same_pair q p) e)

-- the first in line is asked
ask_asks : (p : Pair) (now : ℕ) (s : StackState) → Waits p 0 s → is_asked p (ask now s).events ≡ true
ask_asks p now s h = at s.line h.stands
  where
    pair : (q : Pair) (ps : List Pair) (o : Option EndState) → same_pair q p ≡ true → is_some o ≡ true → is_asked p (asked_pair now q (record s { line = ps }) o).events ≡ true
    pair q ps None is held = absurd (cc)
    pair q ps (Some x) is held = rw is refl

    first : (q : Pair) (ps : List Pair) (v : Bool) → (if v then Some 0 else option_map suc (place p ps)) ≡ Some 0 → v ≡ true
    first q ps true e = refl
    first q ps false e = absurd (map_zero (place p ps) e)

    at : (line : List Pair) → place p line ≡ Some 0 → is_asked p (asked_first now s line).events ≡ true
    at [] e = absurd (cc)
    at (q ∷ ps) e =
        let same = first q ps (same_pair q p) e in
        pair q ps (held_end q s.node.ends) same (ap (λ (r : Pair). is_some (held_end r s.node.ends)) (same_pair_is q p same) ∙ h.held)

-- ---- turns one after another

-- the pair was asked; or a datagram was handed out, and less stand before it
record Nears (p : Pair) (n : ℕ) (t : Turn) : Type 0 where
  ahead : ℕ
  less : ahead + 1 ≤ n
  waits : Waits p ahead t.stack
  hands : is_some t.hands ≡ true

abbrev Goes : Pair → ℕ → Turn → Type 0
Goes p n t = (is_asked p t.events ≡ true) ⊎ Nears p n t

-- a turn in which the pair was asked is followed by others, or not
then_asked : (p : Pair) (t : Turn) (next : StackState → Turn) → is_asked p t.events ≡ true → is_asked p (then_turn t next).events ≡ true
then_asked p t next e = at (is_some t.hands)
  where
    at : (v : Bool) → is_asked p (let r : Turn = if v then t else (let u = next t.stack in record { stack = u.stack; events = t.events ++ u.events; outcomes = t.outcomes ++ u.outcomes; hands = u.hands }) in r.events) ≡ true
    at true = e
    at false = asked_front p t.events (next t.stack).events e

-- what follows a turn that handed a datagram out doesn't happen
then_goes : (p : Pair) (n : ℕ) (t : Turn) (next : StackState → Turn) → Goes p n t → Goes p n (then_turn t next)
then_goes p n t next (inl e) = inl (then_asked p t next e)
then_goes p n t next (inr h) = at (is_some t.hands) h.hands
  where
    at : (v : Bool) → v ≡ true → Goes p n (if v then t else (let u = next t.stack in record { stack = u.stack; events = t.events ++ u.events; outcomes = t.outcomes ++ u.outcomes; hands = u.hands }))
    at true e = inr h
    at false e = absurd (cc)

-- a turn after which less stand before the pair is followed by others, or handed a datagram out
then_nears : (p : Pair) (n m : ℕ) (t : Turn) (next : StackState → Turn) → m + 1 ≤ n → Waits p m t.stack → Goes p m (next t.stack) → Goes p n (then_turn t next)
then_nears p n m t next less h g = at (is_some t.hands) refl
  where
    after : Turn → Turn
    after u = record { stack = u.stack; events = t.events ++ u.events; outcomes = t.outcomes ++ u.outcomes; hands = u.hands }

    goes : (u : Turn) → Goes p m u → Goes p n (after u)
    goes u (inl e) = inl (asked_back p t.events u.events e)
    goes u (inr k) = inr (record { ahead = k.ahead; less = omega (arith, k.less, less); waits = k.waits; hands = k.hands })

    at : (v : Bool) → is_some t.hands ≡ v → Goes p n (if v then t else after (next t.stack))
    at true e = inr (record { ahead = m; less = less; waits = h; hands = e })
    at false e = goes (next t.stack) g

asks_go : (p : Pair) (k n now : ℕ) (s : StackState) → n < k → Waits p n s → Goes p n (turns k (ask now) s)
asks_go p zero n now s less h = absurd (omega (arith, less))
asks_go p (suc k) zero now s less h = inl (then_asked p (ask now s) (turns k (ask now)) (ask_asks p now s h))
asks_go p (suc k) (suc m) now s less h =
    let next = ask_next p m now s h in
    then_nears p (suc m) m (ask now s) (turns k (ask now)) (omega arith) next (asks_go p k m now (ask now s).stack (omega (arith, less)) next)

output_goes : (p : Pair) (n now : ℕ) (s : StackState) → Waits p n s → Goes p n (output_at now s)
output_goes p n now s h = at (is_some (clocked now s).hands) (silent (s.node.clock == now / 1000))
  where
    t : StackState
    t = (clocked now s).stack

    later : StackState → Turn
    later u = turns (length u.alarms) (wake now) u

    whole : StackState → Turn
    whole u = then_turn (turns (length u.line) (ask now) u) later

    silent : (v : Bool) → is_some (let r : Turn = if v then passing s else clocked_anew now s in r.hands) ≡ false
    silent true = refl
    silent false = refl

    h' : Waits p n t
    h' = clocked_waits p n now s h

    rest : Goes p n (whole t)
    rest = then_goes p n (turns (length t.line) (ask now) t) later (asks_go p (length t.line) n now t (shorter p t.line n h'.stands) h')

    after : Turn → Turn
    after u = record { stack = u.stack; events = (clocked now s).events ++ u.events; outcomes = (clocked now s).outcomes ++ u.outcomes; hands = u.hands }

    goes : (u : Turn) → Goes p n u → Goes p n (after u)
    goes u (inl e) = inl (asked_back p (clocked now s).events u.events e)
    goes u (inr k) = inr (record { ahead = k.ahead; less = k.less; waits = k.waits; hands = k.hands })

    at : (v : Bool) → v ≡ false → Goes p n (if v then clocked now s else after (whole t))
    at true e = absurd (cc)
    at false e = goes (whole t) rest

-- ---- calls one after another

waits_turn : (p : Pair) (n : ℕ) (s : StackState) (times : List ℕ) → Waits p n s → n < length times → is_asked p (expanded_from s (outputs_at times)) ≡ true
unfolding call
waits_turn p n s [] h less = absurd (omega (arith, less))
waits_turn p n s (now ∷ times) h less = at (λ m w l. waits_turn p m (output_at now s).stack times w l) (output_goes p n now s h)
  where
    rest : List NodeEvent
    rest = expanded_from (output_at now s).stack (outputs_at times)

    at : ((m : ℕ) → Waits p m (output_at now s).stack → m < length times → is_asked p rest ≡ true) → Goes p n (output_at now s) → is_asked p ((output_at now s).events ++ rest) ≡ true
    at next (inl e) = asked_front p (output_at now s).events rest e
    at next (inr k) = asked_back p (output_at now s).events rest (next k.ahead k.waits (omega (arith, k.less, less)))

pub has_its_turn : (p : Pair) (ahead : ℕ) (s : StackState) (times : List ℕ) → HasItsTurn p ahead s times
has_its_turn p ahead s times stands held less = waits_turn p ahead s times (record { stands = stands; held = held }) less
