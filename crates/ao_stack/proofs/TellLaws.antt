-- What is told of an end that was asked for a segment is what the definitions answer.
use Rattle.std.proofs.Common.{◌≡◌, ℕ, ◌≤◌, List, Option, Some, None, length, take, refl, sym, subst, ◌∙◌, arith}
use Rattle.std.specs.Prelude.{⊤}
use Rattle.book_base.specs.declared.address.Pair.{Pair}
use Rattle.book_segments.specs.Segments.{Segment, checksum_of, complement_of, spell}
use Rattle.book_keys.specs.Rows.{Row}
use Rattle.book_keys.specs.Coordination.{Sending, choose}
use Rattle.book_endpoint.specs.declared.phase.Phase.{Phase}
use Rattle.book_endpoint.specs.States.{EndState}
use Rattle.book_endpoint.specs.Emissions.{Draft, Due, Emission, Emitted, Quiet, NoKey, Emits, draft_again, draft_next, due_again, due_next, emit, made_if_due, most_bytes, resend, seal_known}
use Rattle.book_cmd_node.specs.NodeRuns as node
use Rattle.book_cmd_node.specs.NodeRuns.{NodeOutcome, made_called}
use Rattle.book_stack.specs.Stacks.{StackState, handed}
use Rattle.book_stack.specs.Turns.{asked_line, asked_watch, segment_in, woken_watch}
use Rattle.book_stack.specs.Watches.{ConnectionWatch}
use Rattle.stack_ends.specs.declared.send.Says.{Says}
use Rattle.stack_ends.specs.declared.send.Says.TheVariants as says
use Rattle.stack_ends.specs.declared.send.Spoken.{Spoken}
use Rattle.stack_ends.specs.Said.{SaysAs}
use Rattle.ao_stack.specs.Checksums.{IsFrom, IsFromIf}
use Rattle.ao_stack.specs.Timers.{asked_saying, asked_turn, woken_by}
use Rattle.ao_stack.specs.Turns.{Makes}
use Rattle.ao_stack.specs.declared.outgoing.Outgoing.{Outgoing}
use Rattle.ao_stack.proofs.HandLaws.{handed_long}
use Rattle.book_link.specs.declared.event.Transmission.{Transmission}

-- ---- the segment of an answer

-- a segment was made
pub record IsSent (room : List ℕ) (n : ℕ) (o : NodeOutcome) : Type 0 where
  pub emission : Emission
  pub is : segment_in o ≡ Some emission
  pub bytes : take n room ≡ spell emission.segment
  pub size : n ≡ length (spell emission.segment)

pub said_segment : (room : List ℕ) (n : ℕ) (o : NodeOutcome) → SaysAs room (says.Segment n) o → IsSent room n o
said_segment room n node.Performed h = absurd h
said_segment room n node.InUse h = absurd h
said_segment room n node.NodeFull h = absurd h
said_segment room n node.NoConnection h = absurd h
said_segment room n node.NoRoom h = absurd h
said_segment room n node.ConnectionClosing h = absurd h
said_segment room n (node.Transmitted x) h = record { emission = x; is = refl; bytes = h.0; size = h.1 }
said_segment room n node.NoUsableKey h = absurd h
said_segment room n node.NothingToSend h = absurd h
said_segment room n node.NothingToResend h = absurd h
said_segment room n (node.DatagramAnswered a) h = absurd h
said_segment room n (node.Delivered b t) h = absurd h

pub said_no_key : (room : List ℕ) (o : NodeOutcome) → SaysAs room says.NoKey o → segment_in o ≡ None
said_no_key room node.Performed h = absurd h
said_no_key room node.InUse h = absurd h
said_no_key room node.NodeFull h = absurd h
said_no_key room node.NoConnection h = absurd h
said_no_key room node.NoRoom h = absurd h
said_no_key room node.ConnectionClosing h = absurd h
said_no_key room (node.Transmitted x) h = absurd h
said_no_key room node.NoUsableKey h = refl
said_no_key room node.NothingToSend h = absurd h
said_no_key room node.NothingToResend h = absurd h
said_no_key room (node.DatagramAnswered a) h = absurd h
said_no_key room (node.Delivered b t) h = absurd h

pub said_nothing : (room : List ℕ) (o : NodeOutcome) → SaysAs room says.Nothing o → segment_in o ≡ None
said_nothing room node.Performed h = absurd h
said_nothing room node.InUse h = absurd h
said_nothing room node.NodeFull h = absurd h
said_nothing room node.NoConnection h = absurd h
said_nothing room node.NoRoom h = absurd h
said_nothing room node.ConnectionClosing h = absurd h
said_nothing room (node.Transmitted x) h = absurd h
said_nothing room node.NoUsableKey h = absurd h
said_nothing room node.NothingToSend h = refl
said_nothing room node.NothingToResend h = refl
said_nothing room (node.DatagramAnswered a) h = absurd h
said_nothing room (node.Delivered b t) h = absurd h

-- ---- the timer and the line

pub asked_watch_is : (now : ℕ) (room : List ℕ) (spoken : Spoken) (e : EndState) (w : ConnectionWatch) (b : Emitted) (what : Says) → SaysAs room what (made_called e node.NothingToSend b).outcome
    → asked_saying now spoken what w ≡ asked_watch now spoken.change spoken.waits (made_called e node.NothingToSend b).outcome w
asked_watch_is now room spoken e w Quiet (says.Segment n) h = absurd h
asked_watch_is now room spoken e w Quiet says.NoKey h = absurd h
asked_watch_is now room spoken e w Quiet says.Nothing h = refl
asked_watch_is now room spoken e w NoKey (says.Segment n) h = absurd h
asked_watch_is now room spoken e w NoKey says.NoKey h = refl
asked_watch_is now room spoken e w NoKey says.Nothing h = absurd h
asked_watch_is now room spoken e w (Emits x) (says.Segment n) h = refl
asked_watch_is now room spoken e w (Emits x) says.NoKey h = absurd h
asked_watch_is now room spoken e w (Emits x) says.Nothing h = absurd h

pub asked_line_is : (room : List ℕ) (p : Pair) (s : StackState) (e : EndState) (b : Emitted) (what : Says) → SaysAs room what (made_called e node.NothingToSend b).outcome
    → asked_turn p what s ≡ asked_line p (made_called e node.NothingToSend b).outcome s
asked_line_is room p s e Quiet (says.Segment n) h = absurd h
asked_line_is room p s e Quiet says.NoKey h = absurd h
asked_line_is room p s e Quiet says.Nothing h = refl
asked_line_is room p s e NoKey (says.Segment n) h = absurd h
asked_line_is room p s e NoKey says.NoKey h = refl
asked_line_is room p s e NoKey says.Nothing h = absurd h
asked_line_is room p s e (Emits x) (says.Segment n) h = refl
asked_line_is room p s e (Emits x) says.NoKey h = absurd h
asked_line_is room p s e (Emits x) says.Nothing h = absurd h

pub woken_watch_is : (now : ℕ) (room : List ℕ) (phase : Phase) (e : EndState) (w : ConnectionWatch) (b : Emitted) (what : Says) → SaysAs room what (made_called e node.NothingToResend b).outcome
    → woken_by now phase what w ≡ woken_watch now phase (made_called e node.NothingToResend b).outcome w
woken_watch_is now room phase e w Quiet (says.Segment n) h = absurd h
woken_watch_is now room phase e w Quiet says.NoKey h = absurd h
woken_watch_is now room phase e w Quiet says.Nothing h = refl
woken_watch_is now room phase e w NoKey (says.Segment n) h = absurd h
woken_watch_is now room phase e w NoKey says.NoKey h = refl
woken_watch_is now room phase e w NoKey says.Nothing h = absurd h
woken_watch_is now room phase e w (Emits x) (says.Segment n) h = refl
woken_watch_is now room phase e w (Emits x) says.NoKey h = absurd h
woken_watch_is now room phase e w (Emits x) says.Nothing h = absurd h

-- ---- a segment of an end is over its pair

MadeFrom : Pair → Emitted → Type 0
MadeFrom p Quiet = ⊤
MadeFrom p NoKey = ⊤
MadeFrom p (Emits x) = IsFrom p x.segment

complement_small : (d : Segment) → checksum_of d ≤ 65535
unfolding checksum_of complement_of
complement_small d = omega arith

sealed_from : (p : Pair) (s : EndState) (out : Draft) (sending : Sending) (context : Option (List ℕ)) → MadeFrom p (seal_known p s out sending context)
unfolding MadeFrom
sealed_from p s out sending None = tt
sealed_from p s out sending (Some context) = record { size = _; ip = refl; source = refl; destination = refl; checksum = complement_small _ }

due_from : (p : Pair) (s : EndState) (draft : Due → ℕ → Draft) (due : Option Due) (row : Option Sending) → MadeFrom p (made_if_due p s draft due row)
unfolding MadeFrom
due_from p s draft None row = tt
due_from p s draft (Some due) None = tt
due_from p s draft (Some due) (Some sending) = sealed_from p s (draft due (most_bytes p s sending)) sending _

answered_from : (p : Pair) (e : EndState) (other : NodeOutcome) (b : Emitted) → segment_in other ≡ None → MadeFrom p b → IsFromIf p (segment_in (made_called e other b).outcome)
unfolding MadeFrom
answered_from p e other Quiet is h = rw is tt
answered_from p e other NoKey is h = tt
answered_from p e other (Emits x) is h = h

emit_from : (rows : List Row) (p : Pair) (now : ℕ) (e : EndState) → MadeFrom p (emit rows p now e)
unfolding emit
emit_from rows p now e = due_from p e (draft_next e) (due_next e) (choose e.current rows p now)

resend_from : (rows : List Row) (p : Pair) (now : ℕ) (e : EndState) → MadeFrom p (resend rows p now e)
unfolding resend
resend_from rows p now e = due_from p e (draft_again e) (due_again e) (choose e.current rows p now)

pub spoken_from : (rows : List Row) (p : Pair) (now : ℕ) (e : EndState) → IsFromIf p (segment_in (made_called e node.NothingToSend (emit rows p now e)).outcome)
spoken_from rows p now e = answered_from p e node.NothingToSend (emit rows p now e) refl (emit_from rows p now e)

pub repeated_from : (rows : List Row) (p : Pair) (now : ℕ) (e : EndState) → IsFromIf p (segment_in (made_called e node.NothingToResend (resend rows p now e)).outcome)
repeated_from rows p now e = answered_from p e node.NothingToResend (resend rows p now e) refl (resend_from rows p now e)

-- ---- what is handed out

pub made_segment : (p : Pair) (kind : Transmission) (before room after : List ℕ) (n : ℕ) (o : NodeOutcome) → SaysAs room (says.Segment n) o → IsFromIf p (segment_in o)
    → ((m : ℕ) (d : Segment) → IsFrom p d → take m room ≡ spell d → take m after ≡ spell (handed d)) → Makes p kind before after (Some (record { length = n; pair = p; kind = kind })) (segment_in o)
made_segment p kind before room after n o h from change =
    let X = said_segment room n o h in
    let F : IsFromIf p (Some X.emission) = subst (λ (z : Option Emission). IsFromIf p z) X.is from in
    let told : Outgoing = record { length = n; pair = p; kind = kind } in
    subst (λ (z : Option Emission). Makes p kind before after (Some told) z) (sym X.is) (record { hands = (change n X.emission.segment F X.bytes, X.size ∙ sym (handed_long X.emission.segment)); by = (refl, refl); stays = tt })

pub made_none : (p : Pair) (kind : Transmission) (before after : List ℕ) (o : NodeOutcome) → segment_in o ≡ None → after ≡ before → Makes p kind before after None (segment_in o)
made_none p kind before after o e same = subst (λ (z : Option Emission). Makes p kind before after None z) (sym e) (record { hands = tt; by = tt; stays = same })
