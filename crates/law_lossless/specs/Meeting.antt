-- Meeting: two stacks of which each hears at once all that the other hands out deliver all that was
-- given. Our own law, over RFC 9293.
use Rattle.std.specs.Prelude.{◌≡◌, ℕ, ◌+◌, ◌/◌, ◌≤◌, true, false, ◌⊎◌, List, [], ◌∷◌, length, Some}
use Rattle.std.specs.List.{AllByRecursion}
use Rattle.book_base.specs.declared.end.End.{End}
use Rattle.book_base.specs.declared.end.End.TheVariants.{A, B}
use Rattle.book_segments.specs.Segments.{spell}
use Rattle.book_keys.specs.Rows.{Row}
use Rattle.book_endpoint.specs.States.{EndState, at_end}
use Rattle.book_link.specs.Worlds.{other, Setup, pair_of, World, side}
use Rattle.book_cmd_node.specs.declared.node.Act.TheVariants as act
use Rattle.book_cmd_node.specs.NodeRuns.{held_end, most_ends}
use Rattle.book_stack.specs.Calls.{Call, At, Input, Output, CallAnswer, Hands, call}
use Rattle.book_stack.specs.Runs.{expanded_from, stack_after}
use Rattle.book_stack.specs.Stacks.{StackState, empty_stack, handed}
use Rattle.law_progress.specs.Progress.{all_end, IsUp, IsSame}
use Rattle.law_lossless.specs.Lossless.{Round, speakers, AreInStep}
use Rattle.law_lossless.specs.Once.{IsAt, NoneExpired, sends_any_again}

-- two stacks, one at each end (own)
pub record Stacks : Type 0 where
  pub a : StackState
  pub b : StackState

-- the stack of an end (own)
abbrev pub stack_at : Stacks → End → StackState
stack_at s A = s.a
stack_at s B = s.b

-- another stack at an end (own)
abbrev pub with_stack : Stacks → End → StackState → Stacks
with_stack s A t = record { a = t; b = s.b }
with_stack s B t = record { a = s.a; b = t }

-- the stack of an end is called (own)
abbrev pub called_stack : End → Call → Stacks → Stacks
called_stack e c s = with_stack s e (call c (stack_at s e)).stack

-- the user of an end takes all that is ready (own)
abbrev pub user_takes : Setup → End → Stacks → Stacks
user_takes setup e s = called_stack e (At (pair_of setup e) (act.Take 65535)) s

-- a datagram that was handed out comes to an end, where there is one (own)
abbrev pub comes_to : ℕ → End → CallAnswer → Stacks → Stacks
comes_to now e (Hands x) s =
    called_stack e (Input (record { now = now; bytes = spell (handed x.segment) })) s
comes_to now e _ s = s

-- an end speaks at a time in milliseconds: the users of both ends take all that is ready, its stack
-- is called for what is due, and what that hands out comes to the other stack at once (own)
abbrev pub stack_speaks : Setup → ℕ → End → Stacks → Stacks
stack_speaks setup now e s =
    let taken = user_takes setup (other e) (user_takes setup e s) in
    comes_to now (other e) (call (Output now) (stack_at taken e)).answer
    (called_stack e (Output now) taken)

-- ends speak one after the other (own)
abbrev pub stacks_talk : Setup → ℕ → List End → Stacks → Stacks
stacks_talk setup now [] s = s
stacks_talk setup now (e ∷ ends) s = stacks_talk setup now ends (stack_speaks setup now e s)

-- a stack after some calls (own)
pub record IsRun (s : StackState) : Type 0 where
  pub rows : List Row
  pub most : ℕ
  pub calls : List Call
  pub is : s ≡ stack_after (empty_stack rows most) calls
  pub some : 1 ≤ most
  pub few : most ≤ most_ends

-- a stack at an end of a link: it holds this end under the link's pair, its rows and its clock are
-- those of the link's end, the time is in the second of the clock, none of its timers has expired,
-- and none of its other connections has anything to send (own)
pub record Holds (setup : Setup) (w : World) (now : ℕ) (e : End) (s : StackState)
    (u : EndState) : Type 0 where
  pub run : IsRun s
  pub rows : s.rows ≡ (side w e).rows
  pub clock : s.node.clock ≡ (side w e).clock
  pub time : s.node.clock ≡ now / 1000
  pub held : held_end (pair_of setup e) s.node.ends ≡ Some u
  pub line : (s.line ≡ []) ⊎ (s.line ≡ pair_of setup e ∷ [])
  pub none : NoneExpired now s

-- a stack became another by calls at this time, by which nothing was sent again (own)
pub record GoesOnce (now : ℕ) (s t : StackState) : Type 0 where
  pub calls : List Call
  pub at : AllByRecursion (IsAt now) calls
  pub is : t ≡ stack_after s calls
  pub once : sends_any_again (expanded_from s calls) ≡ false

-- the stacks still hold the same sessions, and sent nothing again; all that was given at both ends
-- before, and the FIN, is acknowledged; the bytes are taken at the partner, and there the end of
-- the stream is reached once close was called (own)
pub record AllDelivered (setup : Setup) (now : ℕ) (old s : Stacks)
    (before : End → EndState) : Type 0 where
  pub after : End → EndState
  pub held : (e : End) → held_end (pair_of setup e) (stack_at s e).node.ends ≡ Some (after e)
  pub same : (e : End) → IsSame (before e) (after e)
  pub once : (e : End) → GoesOnce now (stack_at old e) (stack_at s e)
  pub acknowledged : (e : End) → (after e).una ≡ all_end (after e)
  pub taken : (e : End) → (after (other e)).taken ≡ (after e).given
  pub ended : (e : End) → (after e).closing ≡ true → at_end (after (other e)) ≡ true

-- where two stacks hold the ends of a link that are in step, as many rounds as numbers are to be
-- sent at either end, and two more, at one time, deliver all, and nothing is sent again (own)
abbrev pub StacksDeliver : Setup → World → Type 0
StacksDeliver setup w =
    (lead lag n now : ℕ) (rounds : List Round) (s : Stacks) (up : IsUp setup w lead lag)
    → AreInStep setup w lead lag up
    → ((e : End) → Holds setup w now e (stack_at s e) (up.session e).state)
    → ((e : End) → all_end (up.session e).state ≤ (up.session e).state.next + n)
    → n + 2 ≤ length rounds
    → AllDelivered setup now s
    (user_takes setup B (user_takes setup A (stacks_talk setup now (speakers rounds) s)))
    (λ e. (up.session e).state)
