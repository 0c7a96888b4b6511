-- The connection of a pair is called, or dropped.
use Rattle.std.proofs.Common.{◌≡◌, Bool, true, false, Option, Some, None, refl}
use Rattle.book_base.specs.declared.address.Pair.{Pair}
use Rattle.book_endpoint.specs.States.{EndState}
use Rattle.book_cmd_node.specs.declared.node.Act.{Act}
use Rattle.book_cmd_node.specs.declared.node.Act.TheVariants as act
use Rattle.book_cmd_node.specs.NodeRuns as node
use Rattle.book_cmd_node.specs.NodeRuns.{Called, NodeOutcome, after_call, held_end, on_held}
use Rattle.book_stack.specs.Alarms.{without_alarm, without_pair}
use Rattle.book_stack.specs.Calls.{CallAnswer, At, Told, makes_an_end, kept}
use Rattle.book_stack.specs.Stacks.{StackState}
use Rattle.book_stack.specs.Turns.{called_at}
use Rattle.stack_ends.specs.EndsCalls.{act_on}
use Rattle.stack_ends.specs.Calls.{Asking, CallsAt, acting}
use Rattle.stack_ends.specs.Stands as below
use Rattle.stack_ends.specs.Stands.{Removed, most_of}
use Rattle.stack_timers.specs.Timers.{Drops}
use Rattle.ao_stack.specs.declared.stack.Stack.{Stack}
use Rattle.ao_stack.specs.Answers.{Follows, IsDone}
use Rattle.ao_stack.specs.Stands.{Stands}
use Rattle.ao_stack.proofs.CallLaws.{follows, not_held, did_called, did_remove}
use Rattle.ao_stack.proofs.StandLaws.{moved, some_with, dropped}

-- what is asked of the end of a pair
abbrev pub asked : StackState → Pair → Act → Asking
asked s p a = record { rows = s.rows; node = s.node; pair = p; answers = acting a }

-- the end of a pair was called
pub record HasCalled {A : Type 0} (mid : Stack) (s : StackState) (p : Pair) (a : Act) (does : A → EndState → Called → Type 0) (x : A) : Type 0 where
  pub state : EndState
  pub held : held_end p s.node.ends ≡ Some state
  pub done : does x state (act_on s.rows p s.node.clock state a)
  pub stands : Stands mid (called_at p (act_on s.rows p s.node.clock state a) s)

module _ (k mid : Stack) (s : StackState) (S : Stands k s) (p : Pair) (a : Act) (most : most_of mid.ends ≡ most_of k.ends) (w : mid.watches ≡ k.watches) (al : mid.alarms ≡ k.alarms) (li : mid.line ≡ k.line) where
  -- nothing happened
  stays : below.Stands mid.ends s.rows s.node → Stands mid s
  stays E = moved k mid s S s.node E most w al li (λ q. refl)

  -- the pair isn't held
  pub not_called : {A : Type 0} (does : A → EndState → Called → Type 0) (IsSo : CallAnswer → Type 0) → makes_an_end a ≡ false → CallsAt mid.ends (asked s p a) None does (held_end p s.node.ends)
      → IsSo (Told node.NoConnection) → Follows mid (At p a) s IsSo
  not_called {A} does IsSo other C so = at (held_end p s.node.ends) refl C
    where
      at : (m : Option EndState) → held_end p s.node.ends ≡ m → CallsAt mid.ends (asked s p a) None does m → Follows mid (At p a) s IsSo
      at None e c = follows mid (At p a) s IsSo _ (not_held p a s e other) (stays c) so
      at (Some x) e c = absurd c

  -- it isn't held, and nothing happened
  pub missed : {A : Type 0} (does : A → EndState → Called → Type 0) → CallsAt mid.ends (asked s p a) None does (held_end p s.node.ends) → (held_end p s.node.ends ≡ None) × Stands mid s
  missed {A} does C = at (held_end p s.node.ends) refl C
    where
      at : (m : Option EndState) → held_end p s.node.ends ≡ m → CallsAt mid.ends (asked s p a) None does m → (held_end p s.node.ends ≡ None) × Stands mid s
      at None e c = (e, stays c)
      at (Some x) e c = absurd c

  -- its end was called
  pub has_called : {A : Type 0} (does : A → EndState → Called → Type 0) (x : A) → CallsAt mid.ends (asked s p a) (Some x) does (held_end p s.node.ends) → HasCalled mid s p a does x
  has_called {A} does x C = at (held_end p s.node.ends) refl C
    where
      at : (m : Option EndState) → held_end p s.node.ends ≡ m → CallsAt mid.ends (asked s p a) (Some x) does m → HasCalled mid s p a does x
      at None e c = absurd c
      at (Some t) e c =
          record {
            state = t;
            held = e;
            done = c.0;
            stands = moved k mid s S (called_at p (act_on s.rows p s.node.clock t a) s).node c.1 most w al li (λ q. some_with p q t (act_on s.rows p s.node.clock t a).state s.node.ends e);
          }

-- the stack follows the call of an end
pub call_follows : {A : Type 0} (mid after : Stack) (s : StackState) (p : Pair) (a : Act) (does : A → EndState → Called → Type 0) (x : A) (IsSo : CallAnswer → Type 0) (o : NodeOutcome) (H : HasCalled mid s p a does x)
    → on_held s.rows s.node p H.state a ≡ after_call s.node p (act_on s.rows p s.node.clock H.state a) → (act_on s.rows p s.node.clock H.state a).outcome ≡ o
    → Stands after (kept p a o (called_at p (act_on s.rows p s.node.clock H.state a) s)) → IsSo (Told o) → Follows after (At p a) s IsSo
call_follows mid after s p a does x IsSo o H plain outcome stands so = follows after (At p a) s IsSo _ (did_called p a s H.state o H.held plain outcome) stands so

module _ (k after : Stack) (s : StackState) (S : Stands k s) (p : Pair) (b : Bool) (R : Removed after.ends s.rows s.node p b (held_end p s.node.ends)) (most : most_of after.ends ≡ most_of k.ends) where
  pub removed_none : b ≡ false → after.watches ≡ k.watches → after.alarms ≡ k.alarms → after.line ≡ k.line → Follows after (At p act.Remove) s (IsDone false)
  removed_none gone w al li = at (held_end p s.node.ends) refl R
    where
      at : (m : Option EndState) → held_end p s.node.ends ≡ m → Removed after.ends s.rows s.node p b m → Follows after (At p act.Remove) s (IsDone false)
      at None e r = follows after (At p act.Remove) s (IsDone false) _ (not_held p act.Remove s e refl) (moved k after s S s.node r.1 most w al li (λ q. refl)) refl
      at (Some t) e r = let held : b ≡ true = r.0 in absurd (cc)

  pub removed_some : b ≡ true → Drops k.watches after.watches p → after.alarms.alarms ≡ without_alarm p k.alarms.alarms → after.alarms.most ≡ k.alarms.most
      → after.line.pairs ≡ without_pair p k.line.pairs → after.line.most ≡ k.line.most → Follows after (At p act.Remove) s (IsDone true)
  removed_some was D al alm li lim = at (held_end p s.node.ends) refl R
    where
      at : (m : Option EndState) → held_end p s.node.ends ≡ m → Removed after.ends s.rows s.node p b m → Follows after (At p act.Remove) s (IsDone true)
      at None e r = let free : b ≡ false = r.0 in absurd (cc)
      at (Some t) e r = follows after (At p act.Remove) s (IsDone true) _ (did_remove p s t e) (dropped k after s S p t e r.1 most D al alm li lim) refl
