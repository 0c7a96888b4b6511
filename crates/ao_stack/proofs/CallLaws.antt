-- What the definitions say of a call, once it is known whether its pair is held.
use Rattle.std.proofs.Common.{◌≡◌, ℕ, ◌<◌, ◌≤◌, ◌/◌, Bool, true, false, List, length, Option, Some, None, refl, sym, ap, subst, ◌∙◌, arith}
use Rattle.std.proofs.lemmas.Bool.Decides.{nat_tests}
use Rattle.std.specs.Prelude.{◌==◌, nat_le, if◌then◌else◌}
use Rattle.book_base.specs.declared.address.Pair.{Pair}
use Rattle.book_endpoint.specs.States.{EndState}
use Rattle.book_cmd_node.specs.declared.node.Act.{Act}
use Rattle.book_cmd_node.specs.declared.node.Act.TheVariants as act
use Rattle.book_cmd_node.specs.declared.node.NodeEvent.TheVariants as event
use Rattle.book_cmd_node.specs.NodeRuns as node
use Rattle.book_cmd_node.specs.NodeRuns.{Called, NodeOutcome, NodeState, NodeStep, called, ends_ticked, held_end, most_ends, new_end, on_held, on_other, on_pair, after_call, with_end, without_end}
use Rattle.law_node.proofs.Held.{held}
use Rattle.book_stack.specs.Calls.{CallAnswer, Call, At, Did, Told, asking, at_pair, makes_an_end, begun, call, kept, stepped, unasked}
use Rattle.book_stack.specs.Stacks.{StackState, forgotten, touched}
use Rattle.book_stack.specs.Turns.{called_at, clocked}
use Rattle.stack_ends.specs.EndsCalls.{act_on}
use Rattle.stack_ends.specs.Stands.{with_new}
use Rattle.ao_stack.specs.declared.stack.Stack.{Stack}
use Rattle.ao_stack.specs.Answers.{Follows}
use Rattle.ao_stack.specs.Stands.{Stands}
use Rattle.ao_stack.proofs.StandLaws.{with_same}

-- a stack follows a call that does this
pub follows : (k : Stack) (c : Call) (s : StackState) (IsSo : CallAnswer → Type 0) (d : Did) → call c s ≡ d → Stands k d.stack → IsSo d.answer → Follows k c s IsSo
follows k c s IsSo d e stands answer = record { stands = subst (λ (x : Did). Stands k x.stack) (sym e) stands; answer = subst (λ (x : Did). IsSo x.answer) (sym e) answer }

-- ---- a call at a pair

call_at : (p : Pair) (a : Act) (s : StackState) → call (At p a) s ≡ at_pair p a s (held_end p s.node.ends)
unfolding call
call_at p a s = refl

at_known : (p : Pair) (a : Act) (s : StackState) (m : Option EndState) → held_end p s.node.ends ≡ m → call (At p a) s ≡ at_pair p a s m
at_known p a s m e = call_at p a s ∙ ap (λ (o : Option EndState). at_pair p a s o) e

-- the pair isn't held, and the call makes no end
pub not_held : (p : Pair) (a : Act) (s : StackState) → held_end p s.node.ends ≡ None → makes_an_end a ≡ false → call (At p a) s ≡ asking s (event.On p a) node.NoConnection
not_held p a s e other = at_known p a s None e ∙ ap (λ (b : Bool). if b then begun p a s else asking s (event.On p a) node.NoConnection) other

abbrev did_held : Pair → Act → StackState → NodeStep → Did
did_held p a s step = asking (kept p a step.outcome (stepped s step)) (event.On p a) step.outcome

-- the pair is held
held_so : (p : Pair) (a : Act) (s : StackState) (e : EndState) → held_end p s.node.ends ≡ Some e → call (At p a) s ≡ did_held p a s (on_held s.rows s.node p e a)
held_so p a s e is = at_known p a s (Some e) is ∙ ap (λ (o : Option EndState). did_held p a s (on_pair most_ends s.rows s.node (record { pair = p; act = a }) o)) is

-- the end of a pair that is held is called, with this answer
pub did_called : (p : Pair) (a : Act) (s : StackState) (e : EndState) (o : NodeOutcome) → held_end p s.node.ends ≡ Some e
    → on_held s.rows s.node p e a ≡ after_call s.node p (act_on s.rows p s.node.clock e a) → (act_on s.rows p s.node.clock e a).outcome ≡ o
    → call (At p a) s ≡ asking (kept p a o (called_at p (act_on s.rows p s.node.clock e a) s)) (event.On p a) o
did_called p a s e o is plain outcome =
    held_so p a s e is ∙ ap (did_held p a s) plain
    ∙ ap (λ (x : NodeOutcome). asking (kept p a x (called_at p (act_on s.rows p s.node.clock e a) s)) (event.On p a) x) outcome

-- the connection of a pair that is held is dropped
pub did_remove : (p : Pair) (s : StackState) (e : EndState) → held_end p s.node.ends ≡ Some e
    → call (At p act.Remove) s ≡ asking (forgotten p (record s { node = record (s.node) { ends = without_end p s.node.ends } })) (event.On p act.Remove) node.Performed
did_remove p s e is = held_so p act.Remove s e is

-- ---- a new end

-- the pair is held already
pub did_in_use : (p : Pair) (a : Act) (s : StackState) (e : EndState) → held_end p s.node.ends ≡ Some e → on_held s.rows s.node p e a ≡ after_call s.node p (called e node.InUse)
    → call (At p a) s ≡ asking (kept p a node.InUse (record s { node = s.node })) (event.On p a) node.InUse
did_in_use p a s e is plain =
    held_so p a s e is ∙ ap (did_held p a s) plain
    ∙ ap (λ (hs : List node.Held). asking (kept p a node.InUse (record s { node = record (s.node) { ends = hs } })) (event.On p a) node.InUse) (with_same p e s.node.ends is)

begun_so : (p : Pair) (a : Act) (s : StackState) → held_end p s.node.ends ≡ None → makes_an_end a ≡ true → call (At p a) s ≡ begun p a s
begun_so p a s none makes = at_known p a s None none ∙ ap (λ (b : Bool). if b then begun p a s else asking s (event.On p a) node.NoConnection) makes

abbrev did_new : Pair → Act → StackState → NodeStep → Did
did_new p a s step = asking (touched p (stepped s step)) (event.On p a) step.outcome

abbrev new_step : StackState → Pair → EndState → NodeStep
new_step s p t = record { node = with_new s.node (held p t); outcome = node.Performed }

-- as many ends are held as may be
pub did_full : (p : Pair) (a : Act) (s : StackState) → held_end p s.node.ends ≡ None → makes_an_end a ≡ true → s.most ≤ length s.node.ends → call (At p a) s ≡ unasked s (Told node.NodeFull)
did_full p a s none makes more =
    let full : nat_le s.most (length s.node.ends) ≡ true = grind (arith, nat_tests) in
    begun_so p a s none makes ∙ ap (λ (b : Bool). if b then unasked s (Told node.NodeFull) else did_new p a s (on_pair most_ends s.rows s.node (record { pair = p; act = a }) (held_end p s.node.ends))) full

-- a new end begins
pub did_begin : (p : Pair) (a : Act) (s : StackState) (t : EndState) → held_end p s.node.ends ≡ None → makes_an_end a ≡ true → on_other most_ends s.node p a ≡ new_end most_ends s.node p t
    → length s.node.ends < s.most → s.most ≤ most_ends → call (At p a) s ≡ asking (touched p (record s { node = with_new s.node (held p t) })) (event.On p a) node.Performed
did_begin p a s t none makes plain less few =
    let room : nat_le s.most (length s.node.ends) ≡ false = grind (arith, nat_tests) in
    let place : nat_le most_ends (length s.node.ends) ≡ false = grind (arith, nat_tests) in
    begun_so p a s none makes
    ∙ ap (λ (b : Bool). if b then unasked s (Told node.NodeFull) else did_new p a s (on_pair most_ends s.rows s.node (record { pair = p; act = a }) (held_end p s.node.ends))) room
    ∙ ap (λ (o : Option EndState). did_new p a s (on_pair most_ends s.rows s.node (record { pair = p; act = a }) o)) none
    ∙ ap (did_new p a s) plain
    ∙ ap (λ (b : Bool). did_new p a s (if b then node.stays s.node node.NodeFull else new_step s p t)) place

-- ---- the clock

-- it goes there
pub clock_goes : (now : ℕ) (s : StackState) → (s.node.clock ≡ now / 1000 → ⊥) → (clocked now s).stack ≡ record s { node = record { clock = now / 1000; ends = ends_ticked (now / 1000) s.node.ends } }
clock_goes now s e = let there : (s.node.clock == now / 1000) ≡ false = grind (arith, nat_tests) in rw there refl
