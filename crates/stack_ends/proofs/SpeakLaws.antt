-- What is told of an end that was asked for a segment.
use Rattle.std.proofs.Common.{◌≡◌, ℕ, Bool, true, false, List, refl, ap, ◌∙◌}
use Rattle.std.specs.Prelude.{◌++◌, drop, length, nat_lt, not, take, if◌then◌else◌}
use Rattle.std.proofs.Math.Seq.{take-append_seam}
use Rattle.book_segments.specs.Segments.{spell}
use Rattle.book_endpoint.specs.States.{EndState, give, gives, room}
use Rattle.book_endpoint.specs.States as states
use Rattle.book_endpoint.specs.Emissions.{Emitted, Quiet, NoKey, Emits, Emission as BookEmission}
use Rattle.book_cmd_node.specs.NodeRuns as node
use Rattle.tcp_endpoint.specs.declared.emission.Emission.{Emission}
use Rattle.tcp_endpoint.specs.declared.emission.Emission.TheVariants as emissions
use Rattle.tcp_endpoint.specs.declared.emission.Made.{Made}
use Rattle.tcp_endpoint.specs.declared.emission.Resent.{Resent}
use Rattle.tcp_endpoint.specs.declared.emission.Resent.TheVariants as resents
use Rattle.tcp_endpoint.specs.declared.endpoint.Endpoint.{Endpoint}
use Rattle.tcp_endpoint.specs.declared.send.GiveAnswer.{GiveAnswer}
use Rattle.tcp_endpoint.specs.declared.send.GiveAnswer.TheVariants as given
use Rattle.tcp_endpoint.specs.Answers.{give_answer, offered}
use Rattle.tcp_endpoint.specs.Emissions.{EmitCosts, IsMade, Emits as EmitsAs, MakesNone, ResendCosts, Resends as ResendsAs, ResendsNone, state_after}
use Rattle.tcp_endpoint.specs.Ends.{Stands, keys_kept}
use Rattle.book_stack.specs.Watches.{awaits, end_front}
use Rattle.stack_ends.specs.declared.send.Spoken.{Spoken}
use Rattle.stack_ends.specs.Calls.{given_as}
use Rattle.stack_ends.specs.Costs.{CostsSaid}
use Rattle.stack_ends.specs.Said.{Leaves, Speaks, said, said_again}

-- ---- whether more may be given

shut_if : (b full : Bool) (r : GiveAnswer) → r ≡ (if b then given.Closed else (if full then given.Full else given.Ok)) → r ≡ given.Closed → true ≡ b
shut_if true full r e is = refl
shut_if false true r e is = absurd (cc)
shut_if false false r e is = absurd (cc)

open_if : (b full : Bool) (r : GiveAnswer) → r ≡ (if b then given.Closed else (if full then given.Full else given.Ok)) → r ≡ given.Full → false ≡ b
open_if true full r e is = absurd (cc)
open_if false full r e is = refl

pub shut : (s : EndState) (piece : List ℕ) (r : GiveAnswer) → r ≡ give_answer s piece → r ≡ given.Closed → true ≡ not (gives s)
shut s piece r e is = shut_if (not (gives s)) (nat_lt (room s) (length piece)) r e is

pub open_full : (s : EndState) (piece : List ℕ) (r : GiveAnswer) → r ≡ give_answer s piece → r ≡ given.Full → false ≡ not (gives s)
open_full s piece r e is = open_if (not (gives s)) (nat_lt (room s) (length piece)) r e is

given_if : (b full : Bool) (piece : List ℕ) (s : EndState) (r : GiveAnswer) → r ≡ (if b then given.Closed else (if full then given.Full else given.Ok))
    → (if b then node.called s node.ConnectionClosing else (if full then node.called s node.NoRoom else node.called (give piece s) node.Performed)).outcome ≡ given_as r
given_if true full piece s r e = rw e refl
given_if false true piece s r e = rw e refl
given_if false false piece s r e = rw e refl

stood_if : (b full : Bool) (piece : List ℕ) (s : EndState) (e : Endpoint) → Stands e (if b then s else (if full then s else give piece s))
    → Stands e (if b then node.called s node.ConnectionClosing else (if full then node.called s node.NoRoom else node.called (give piece s) node.Performed)).state
stood_if true full piece s e S = S
stood_if false true piece s e S = S
stood_if false false piece s e S = S

-- the end stands for what a node makes of it where a piece was given
pub given_stands : (s : EndState) (piece : List ℕ) (e : Endpoint) → Stands e (offered piece s) → Stands e (states.offered node.called node.node_offers piece s).state
given_stands s piece e S = stood_if (not (gives s)) (nat_lt (room s) (length piece)) piece s e S

-- what a node answers where a piece was given
pub given_called : (s : EndState) (piece : List ℕ) (r : GiveAnswer) → r ≡ give_answer s piece → (states.offered node.called node.node_offers piece s).outcome ≡ given_as r
given_called s piece r e = given_if (not (gives s)) (nat_lt (room s) (length piece)) piece s r e

-- ---- what is told

bytes_of : (before after : List ℕ) (m : Made) (x : BookEmission) → IsMade before after m x → (take m.length after ≡ spell x.segment) × (m.length ≡ length (spell x.segment))
bytes_of before after m x h =
    (ap (take m.length) h.written.bytes ∙ ap (λ n. take n (spell x.segment ++ drop m.length before)) h.written.long ∙ take-append_seam (spell x.segment) (drop m.length before), h.written.long)

module _ (s : EndState) (e f : Endpoint) (before after : List ℕ) (b : Emitted) (told : Spoken) where
  pub speaks_of : (a : Emission) → EmitsAs s e before after a b → (Stands e (state_after s b) → Stands f (state_after s b))
      → told ≡ record { says = said a; change = record { before = end_front s; after = end_front (state_after s b) }; waits = awaits (state_after s b) }
      → Speaks f after told s (node.made_called s node.NothingToSend b)
  speaks_of a h next is = at a b h next is
    where
      at : (x : Emission) (y : Emitted) → EmitsAs s e before after x y → (Stands e (state_after s y) → Stands f (state_after s y))
          → told ≡ record { says = said x; change = record { before = end_front s; after = end_front (state_after s y) }; waits = awaits (state_after s y) }
          → Speaks f after told s (node.made_called s node.NothingToSend y)
      at emissions.Idle Quiet i n q = rw q (record { stands = n i.stands; says_as = tt; change = refl; waits = refl })
      at emissions.Idle NoKey i n q = absurd i.answer_is
      at emissions.Idle (Emits x) i n q = absurd i.answer_is
      at emissions.NoKey Quiet i n q = absurd i.answer_is
      at emissions.NoKey NoKey i n q = rw q (record { stands = n i.stands; says_as = tt; change = refl; waits = refl })
      at emissions.NoKey (Emits x) i n q = absurd i.answer_is
      at (emissions.Segment m) Quiet i n q = absurd i.answer_is
      at (emissions.Segment m) NoKey i n q = absurd i.answer_is
      at (emissions.Segment m) (Emits x) i n q = rw q (record { stands = n i.stands; says_as = bytes_of before after m x i.answer_is; change = refl; waits = refl })

  pub repeats_of : (a : Resent) → ResendsAs s e before after a b → (Stands e (state_after s b) → Stands f (state_after s b))
      → told ≡ record { says = said_again a; change = record { before = end_front s; after = end_front (state_after s b) }; waits = awaits (state_after s b) }
      → Speaks f after told s (node.made_called s node.NothingToResend b)
  repeats_of a h next is = at a b h next is
    where
      at : (x : Resent) (y : Emitted) → ResendsAs s e before after x y → (Stands e (state_after s y) → Stands f (state_after s y))
          → told ≡ record { says = said_again x; change = record { before = end_front s; after = end_front (state_after s y) }; waits = awaits (state_after s y) }
          → Speaks f after told s (node.made_called s node.NothingToResend y)
      at resents.Nothing Quiet i n q = rw q (record { stands = n i.stands; says_as = tt; change = refl; waits = refl })
      at resents.Nothing NoKey i n q = absurd i.answer_is
      at resents.Nothing (Emits x) i n q = absurd i.answer_is
      at resents.NoKey Quiet i n q = absurd i.answer_is
      at resents.NoKey NoKey i n q = rw q (record { stands = n i.stands; says_as = tt; change = refl; waits = refl })
      at resents.NoKey (Emits x) i n q = absurd i.answer_is
      at (resents.Segment m) Quiet i n q = absurd i.answer_is
      at (resents.Segment m) NoKey i n q = absurd i.answer_is
      at (resents.Segment m) (Emits x) i n q = rw q (record { stands = n i.stands; says_as = bytes_of before after m x i.answer_is; change = refl; waits = refl })

-- ---- the buffer

pub leaves_of : (before after : List ℕ) (a : Emission) → (MakesNone a → after ≡ before) → Leaves before after (said a)
leaves_of before after emissions.Idle h = h tt
leaves_of before after emissions.NoKey h = h tt
leaves_of before after (emissions.Segment m) h = tt

pub leaves_again : (before after : List ℕ) (a : Resent) → (ResendsNone a → after ≡ before) → Leaves before after (said_again a)
leaves_again before after resents.Nothing h = h tt
leaves_again before after resents.NoKey h = h tt
leaves_again before after (resents.Segment m) h = tt

-- ---- the work

pub costs_of : (e f : Endpoint) (a : Emission) (old new : ℕ) → EmitCosts (keys_kept e) (keys_kept f) a old new → CostsSaid (said a) old new
costs_of e f emissions.Idle old new c = c
costs_of e f emissions.NoKey old new c = c
costs_of e f (emissions.Segment m) old new c = c.most

pub costs_again : (e f : Endpoint) (a : Resent) (old new : ℕ) → ResendCosts (keys_kept e) (keys_kept f) a old new → CostsSaid (said_again a) old new
costs_again e f resents.Nothing old new c = c
costs_again e f resents.NoKey old new c = c
costs_again e f (resents.Segment m) old new c = c.most
