-- Each stack of a talk goes on by calls at the time of the talk.
use Rattle.std.proofs.Common.{◌≡◌, ℕ, List, [], ◌∷◌, ◌++◌, refl, sym, ap, ◌∙◌}
use Rattle.std.specs.List.{AllByRecursion}
use Rattle.book_base.specs.declared.end.End.{End}
use Rattle.book_base.specs.declared.end.End.TheVariants.{A, B}
use Rattle.book_segments.specs.Segments.{spell}
use Rattle.book_cmd_node.specs.declared.node.Act.TheVariants as act
use Rattle.book_link.specs.Worlds.{other, Setup, pair_of}
use Rattle.book_stack.specs.Calls.{Call, At, Input, Output, CallAnswer, Hands, call}
use Rattle.book_stack.specs.Runs.{stack_after}
use Rattle.book_stack.specs.Stacks.{StackState, handed}
use Rattle.law_lossless.specs.Meeting.{Stacks, stack_at, called_stack, user_takes, comes_to, stack_speaks, stacks_talk}
use Rattle.law_lossless.specs.Once.{IsAt}

-- a stack became another by calls at this time
abbrev pub GoesBy : ℕ → StackState → StackState → Type 0
GoesBy now s t = (calls : List Call) × AllByRecursion (IsAt now) calls × (t ≡ stack_after s calls)

stack_joined : (s : StackState) (xs ys : List Call) → stack_after s (xs ++ ys) ≡ stack_after (stack_after s xs) ys
stack_joined s [] ys = refl
stack_joined s (x ∷ xs) ys = stack_joined (call x s).stack xs ys

all_joined : (now : ℕ) (xs ys : List Call) → AllByRecursion (IsAt now) xs → AllByRecursion (IsAt now) ys → AllByRecursion (IsAt now) (xs ++ ys)
all_joined now [] ys a b = b
all_joined now (x ∷ xs) ys a b = (a.0, all_joined now xs ys a.1 b)

then_goes : (now : ℕ) (s t u : StackState) → GoesBy now s t → GoesBy now t u → GoesBy now s u
then_goes now s t u a b = (a.0 ++ b.0, all_joined now a.0 b.0 a.1 b.1, b.2 ∙ ap (λ (k : StackState). stack_after k b.0) a.2 ∙ sym (stack_joined s a.0 b.0))

-- a call at one of the stacks
called_goes : (now : ℕ) (y x : End) (c : Call) (s : Stacks) → IsAt now c → GoesBy now (stack_at s x) (stack_at (called_stack y c s) x)
called_goes now A A c s at = (c ∷ [], (at, tt), refl)
called_goes now B B c s at = (c ∷ [], (at, tt), refl)
called_goes now A B c s at = ([], tt, refl)
called_goes now B A c s at = ([], tt, refl)

pub take_goes : (setup : Setup) (now : ℕ) (y x : End) (s : Stacks) → GoesBy now (stack_at s x) (stack_at (user_takes setup y s) x)
take_goes setup now y x s = called_goes now y x (At (pair_of setup y) (act.Take 65535)) s refl

comes_goes : (now : ℕ) (y x : End) (answer : CallAnswer) (s : Stacks) → GoesBy now (stack_at s x) (stack_at (comes_to now y answer s) x)
comes_goes now y x (Hands em) s = called_goes now y x (Input (record { now = now; bytes = spell (handed em.segment) })) s refl
comes_goes now y x _ s = ([], tt, refl)

speak_goes : (setup : Setup) (now : ℕ) (e x : End) (s : Stacks) → GoesBy now (stack_at s x) (stack_at (stack_speaks setup now e s) x)
speak_goes setup now e x s =
    let s1 = user_takes setup e s in
    let s2 = user_takes setup (other e) s1 in
    let s3 = called_stack e (Output now) s2 in
    let answer = (call (Output now) (stack_at s2 e)).answer in
    let s4 = comes_to now (other e) answer s3 in
    then_goes now (stack_at s x) (stack_at s1 x) (stack_at s4 x) (take_goes setup now e x s)
    (then_goes now (stack_at s1 x) (stack_at s2 x) (stack_at s4 x) (take_goes setup now (other e) x s1)
    (then_goes now (stack_at s2 x) (stack_at s3 x) (stack_at s4 x) (called_goes now e x (Output now) s2 refl) (comes_goes now (other e) x answer s3)))

talk_goes : (setup : Setup) (now : ℕ) (ends : List End) (x : End) (s : Stacks) → GoesBy now (stack_at s x) (stack_at (stacks_talk setup now ends s) x)
talk_goes setup now [] x s = ([], tt, refl)
talk_goes setup now (e ∷ ends) x s =
    let t = stack_speaks setup now e s in
    then_goes now (stack_at s x) (stack_at t x) (stack_at (stacks_talk setup now ends t) x) (speak_goes setup now e x s) (talk_goes setup now ends x t)

-- a talk, and a take at both ends
pub all_goes : (setup : Setup) (now : ℕ) (ends : List End) (x : End) (s : Stacks) → GoesBy now (stack_at s x) (stack_at (user_takes setup B (user_takes setup A (stacks_talk setup now ends s))) x)
all_goes setup now ends x s =
    let t = stacks_talk setup now ends s in
    let u = user_takes setup A t in
    let v = user_takes setup B u in
    then_goes now (stack_at s x) (stack_at t x) (stack_at v x) (talk_goes setup now ends x s)
    (then_goes now (stack_at t x) (stack_at u x) (stack_at v x) (take_goes setup now A x t) (take_goes setup now B x u))
