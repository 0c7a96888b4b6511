-- What a call of an end makes of its state, and what it answers.
use Rattle.std.proofs.Common.{◌≡◌, ℕ, Bool, true, false, List, refl, sym, ap, ◌∙◌}
use Rattle.std.specs.Prelude.{◌++◌, drop, length, nat_lt, not, take, if◌then◌else◌}
use Rattle.std.proofs.Math.Seq.{take-append_seam}
use Rattle.book_segments.specs.Segments.{spell}
use Rattle.book_endpoint.specs.States.{EndState, at_end, give, gives, room, take_out, taking}
use Rattle.book_endpoint.specs.States as states
use Rattle.book_endpoint.specs.Emissions.{Emitted, Quiet, NoKey, Emits, Emission as BookEmission}
use Rattle.book_cmd_node.specs.NodeRuns as book
use Rattle.tcp_endpoint.specs.declared.emission.Emission.{Emission}
use Rattle.tcp_endpoint.specs.declared.emission.Emission.TheVariants as emissions
use Rattle.tcp_endpoint.specs.declared.emission.Made.{Made}
use Rattle.tcp_endpoint.specs.declared.emission.Resent.{Resent}
use Rattle.tcp_endpoint.specs.declared.emission.Resent.TheVariants as resents
use Rattle.tcp_endpoint.specs.declared.endpoint.Endpoint.{Endpoint}
use Rattle.tcp_endpoint.specs.declared.send.GiveAnswer.{GiveAnswer}
use Rattle.tcp_endpoint.specs.declared.send.GiveAnswer.TheVariants as given
use Rattle.tcp_endpoint.specs.Answers.{give_answer, offered}
use Rattle.tcp_endpoint.specs.Emissions.{IsMade, Emits as EmitsAs, Resends as ResendsAs}
use Rattle.tcp_endpoint.specs.Ends.{Stands}
use Rattle.cmd_node.specs.Calls.{Follows, told_given, told_made, told_again}
use Rattle.cmd_node.specs.Told.{TellsMade}
use Rattle.cmd_node.specs.declared.told.Told.TheVariants as tells

-- ---- giving

given_if : (shut long : Bool) (piece room : List ℕ) (s : EndState) (e : Endpoint) (r : GiveAnswer)
    → r ≡ (if shut then given.Closed else (if long then given.Full else given.Ok))
    → Stands e (if shut then s else (if long then s else give piece s))
    → Follows e room (told_given r) (if shut then book.called s book.ConnectionClosing else (if long then book.called s book.NoRoom else book.called (give piece s) book.Performed))
given_if true long piece room s e r is stands = rw is (record { stands = stands; tells = refl })
given_if false true piece room s e r is stands = rw is (record { stands = stands; tells = refl })
given_if false false piece room s e r is stands = rw is (record { stands = stands; tells = refl })

-- a piece is offered
pub given_follows : (piece bytes : List ℕ) (s : EndState) (e : Endpoint) (r : GiveAnswer) → r ≡ give_answer s piece → Stands e (offered piece s)
    → Follows e bytes (told_given r) (states.offered book.called book.node_offers piece s)
given_follows piece bytes s e r is stands = given_if (not (gives s)) (nat_lt (room s) (length piece)) piece bytes s e r is stands

-- ---- sending

pub made_told : (before after : List ℕ) (m : Made) (x : BookEmission) → IsMade before after m x → TellsMade after m x
made_told before after m x h = record {
  bytes = ap (take m.length) h.written.bytes ∙ ap (λ n. take n (spell x.segment ++ drop m.length before)) h.written.long ∙ take-append_seam (spell x.segment) (drop m.length before);
  sending = h.sending;
  number = h.number;
  ack = h.ack;
  flags = h.flags;
  payload = h.payload;
}

pub sent_follows : (s : EndState) (e : Endpoint) (before after : List ℕ) (a : Emission) (b : Emitted) → EmitsAs s e before after a b
    → Follows e after (told_made a) (book.made_called s book.NothingToSend b)
sent_follows s e before after emissions.Idle Quiet h = record { stands = h.stands; tells = refl }
sent_follows s e before after emissions.Idle NoKey h = absurd h.answer_is
sent_follows s e before after emissions.Idle (Emits x) h = absurd h.answer_is
sent_follows s e before after emissions.NoKey Quiet h = absurd h.answer_is
sent_follows s e before after emissions.NoKey NoKey h = record { stands = h.stands; tells = refl }
sent_follows s e before after emissions.NoKey (Emits x) h = absurd h.answer_is
sent_follows s e before after (emissions.Segment m) Quiet h = absurd h.answer_is
sent_follows s e before after (emissions.Segment m) NoKey h = absurd h.answer_is
sent_follows s e before after (emissions.Segment m) (Emits x) h = record { stands = h.stands; tells = (x, refl, made_told before after m x h.answer_is) }

pub resent_follows : (s : EndState) (e : Endpoint) (before after : List ℕ) (a : Resent) (b : Emitted) → ResendsAs s e before after a b
    → Follows e after (told_again a) (book.made_called s book.NothingToResend b)
resent_follows s e before after resents.Nothing Quiet h = record { stands = h.stands; tells = refl }
resent_follows s e before after resents.Nothing NoKey h = absurd h.answer_is
resent_follows s e before after resents.Nothing (Emits x) h = absurd h.answer_is
resent_follows s e before after resents.NoKey Quiet h = absurd h.answer_is
resent_follows s e before after resents.NoKey NoKey h = record { stands = h.stands; tells = refl }
resent_follows s e before after resents.NoKey (Emits x) h = absurd h.answer_is
resent_follows s e before after (resents.Segment m) Quiet h = absurd h.answer_is
resent_follows s e before after (resents.Segment m) NoKey h = absurd h.answer_is
resent_follows s e before after (resents.Segment m) (Emits x) h = record { stands = h.stands; tells = (x, refl, made_told before after m x h.answer_is) }

-- ---- taking

-- bytes are taken
pub took_follows : (count : ℕ) (s : EndState) (e : Endpoint) (room bytes : List ℕ) (shown : Bool) → bytes ≡ taking count s → shown ≡ at_end (take_out count s)
    → Stands e (take_out count s) → Follows e room (tells.Took bytes shown) (book.take_called count s)
took_follows count s e room bytes shown are is stands = rw (are, is) (record { stands = stands; tells = refl })
