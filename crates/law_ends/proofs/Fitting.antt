-- The events of a link fit where the calls do.
use Rattle.std.proofs.Common.{ℕ, ◌≤◌, Bool, true, false, not, ◌&&◌, nat_le, List, [], ◌∷◌, ◌++◌, length, Option, Some, None, if◌then◌else◌}
use Rattle.std.specs.List.{AllByRecursion}
use Rattle.book_base.specs.declared.address.Pair.{Pair}
use Rattle.book_base.specs.declared.end.End.{End}
use Rattle.book_segments.specs.Spelling.{AreBytes}
use Rattle.book_segments.specs.Segments.{reading}
use Rattle.book_keys.specs.Lifetimes.{greatest_time}
use Rattle.book_keys.specs.Tables.{Adding, AddedAs, TooMany, OverlapsRow, adding, row_of_new, withdrawn}
use Rattle.book_keys.specs.Rows.{Row}
use Rattle.book_keys.specs.declared.new_row.NewRow.{NewRow}
use Rattle.book_endpoint.specs.States.{EndState}
use Rattle.book_link.specs.declared.event.Event.{Event}
use Rattle.book_link.specs.Worlds.{Setup, pair_of}
use Rattle.book_cmd_node.specs.declared.node.Act.{Act}
use Rattle.book_cmd_node.specs.declared.node.Act.TheVariants as act
use Rattle.book_cmd_node.specs.declared.node.NodeEvent.{NodeEvent}
use Rattle.book_cmd_node.specs.declared.node.NodeEvent.TheVariants as event
use Rattle.book_cmd_node.specs.NodeRuns.{NodeOutcome, NodeFull, held_end}
use Rattle.book_stack.specs.Calls.{Call, At, Input, Output, Add, Withdraw, Did, Told, added, withdrew, at_other, at_pair, begun, bytes_received, call, plain_step, asking, unasked, stepped}
use Rattle.book_stack.specs.Stacks.{StackState, touched}
use Rattle.book_stack.specs.Turns.{clocked, output_at}
use Rattle.law_node.specs.Alone.{is_mine}
use Rattle.law_link.specs.Laws.{EventFits, RowFits}
use Rattle.law_ends.specs.Doings.{Doing, Twins, stack_of, after_doing, new_twins, ActFits, CallFits, DoingFits}
use Rattle.law_ends.specs.Links.{act_events, plain_events, answered_events, events_by, did_events, doing_events, link_events_from, link_events, is_refusal}
use Rattle.law_ends.proofs.Making.{all_joined, clocked_makes, received_makes, output_makes}

-- a plain event fits
abbrev pub PlainFits : NodeEvent → Type 0
PlainFits (event.Clock seconds) = seconds ≤ greatest_time
PlainFits (event.Inject bytes) = AreBytes bytes
PlainFits (event.On pair a) = ActFits a

pub joined_fit : (xs ys : List Event) → AllByRecursion EventFits xs → AllByRecursion EventFits ys → AllByRecursion EventFits (xs ++ ys)
joined_fit [] ys a b = b
joined_fit (x ∷ xs) ys a b = (a.0, joined_fit xs ys a.1 b)

act_fits : (e : End) (a : Act) → ActFits a → AllByRecursion EventFits (act_events e a)
act_fits e (act.Open isn) f = (f, tt)
act_fits e (act.Listen isn) f = (f, tt)
act_fits e (act.Start isn peer) f = (f, tt)
act_fits e (act.Give piece) f = (f, tt)
act_fits e (act.Take count) f = (tt, tt)
act_fits e act.Send f = (tt, tt)
act_fits e act.Resend f = (tt, tt)
act_fits e act.Close f = (tt, tt)
act_fits e act.Abort f = (tt, tt)
act_fits e act.Remove f = tt

plain_fits : (e : End) (event : NodeEvent) → PlainFits event → AllByRecursion EventFits (plain_events e event)
plain_fits e (event.Clock seconds) f = (f, tt)
plain_fits e (event.Inject bytes) f = (f, tt)
plain_fits e (event.On pair a) f = act_fits e a f

answered_fit : (pair : Pair) (e : End) (event : NodeEvent) (o : NodeOutcome) → PlainFits event → AllByRecursion EventFits (answered_events pair e event o)
answered_fit pair e event o f = at (is_mine pair event && not (is_refusal o))
  where
    at : (v : Bool) → AllByRecursion EventFits (if v then plain_events e event else [])
    at true = plain_fits e event f
    at false = tt

pub events_fit : (pair : Pair) (e : End) (es : List NodeEvent) (os : List NodeOutcome) → AllByRecursion PlainFits es → AllByRecursion EventFits (events_by pair e es os)
events_fit pair e [] os f = tt
events_fit pair e (event ∷ es) [] f = tt
events_fit pair e (event ∷ es) (o ∷ os) f = joined_fit (answered_events pair e event o) (events_by pair e es os) (answered_fit pair e event o f.0) (events_fit pair e es os f.1)

-- ---- what a call makes

begun_makes : (q : Pair) (a : Act) (s : StackState) → ActFits a → AllByRecursion PlainFits (begun q a s).events
begun_makes q a s f = at (nat_le s.most (length s.node.ends))
  where
    at : (v : Bool) → AllByRecursion PlainFits (let d : Did = if v then unasked s (Told NodeFull) else (let step = plain_step s (event.On q a) in asking (touched q (stepped s step)) (event.On q a) step.outcome) in d.events)
    at true = tt
    at false = (f, tt)

other_makes : (q : Pair) (a : Act) (s : StackState) → ActFits a → AllByRecursion PlainFits (at_other q a s).events
other_makes q (act.Open isn) s f = begun_makes q (act.Open isn) s f
other_makes q (act.Listen isn) s f = begun_makes q (act.Listen isn) s f
other_makes q (act.Start isn peer) s f = begun_makes q (act.Start isn peer) s f
other_makes q (act.Give piece) s f = (f, tt)
other_makes q (act.Take count) s f = (f, tt)
other_makes q act.Send s f = (f, tt)
other_makes q act.Resend s f = (f, tt)
other_makes q act.Close s f = (f, tt)
other_makes q act.Abort s f = (f, tt)
other_makes q act.Remove s f = (f, tt)

pair_makes : (q : Pair) (a : Act) (s : StackState) (o : Option EndState) → ActFits a → AllByRecursion PlainFits (at_pair q a s o).events
pair_makes q a s None f = other_makes q a s f
pair_makes q a s (Some e) f = (f, tt)

added_fits : (e : End) (row : NewRow) (s : StackState) (o : Adding) → RowFits (row_of_new row) → (pair : Pair) → AllByRecursion EventFits (did_events pair e (Add row) (added s o))
added_fits e row s (AddedAs n rows) f pair = (f, tt)
added_fits e row s TooMany f pair = tt
added_fits e row s (OverlapsRow n) f pair = tt

withdrew_fits : (e : End) (n : ℕ) (s : StackState) (o : Option (List Row)) → (pair : Pair) → AllByRecursion EventFits (did_events pair e (Withdraw n) (withdrew s o))
withdrew_fits e n s (Some rows) pair = (tt, tt)
withdrew_fits e n s None pair = tt

call_fits : (pair : Pair) (e : End) (c : Call) (s : StackState) → CallFits c → AllByRecursion EventFits (did_events pair e c (call c s))
unfolding call
call_fits pair e (At q a) s f = joined_fit (events_by pair e (call (At q a) s).events (call (At q a) s).outcomes) [] (events_fit pair e (call (At q a) s).events (call (At q a) s).outcomes (pair_makes q a s (held_end q s.node.ends) f)) tt
call_fits pair e (Input coming) s f =
    let t = clocked coming.now s in
    let d = bytes_received coming (reading coming.bytes) t.stack in
    joined_fit (events_by pair e (t.events ++ d.events) (t.outcomes ++ d.outcomes)) [] (events_fit pair e (t.events ++ d.events) (t.outcomes ++ d.outcomes)
    (all_joined PlainFits t.events d.events (clocked_makes PlainFits coming.now f.0 s) (received_makes PlainFits coming f.1 (reading coming.bytes) t.stack))) tt
call_fits pair e (Output now) s f = joined_fit (events_by pair e (output_at now s).events (output_at now s).outcomes) [] (events_fit pair e (output_at now s).events (output_at now s).outcomes (output_makes PlainFits now f (λ p. tt) (λ p. tt) s)) tt
call_fits pair e (Add row) s f = added_fits e row s (adding s.rows (row_of_new row)) f pair
call_fits pair e (Withdraw n) s f = withdrew_fits e n s (withdrawn s.rows n) pair

pub doing_fits : (setup : Setup) (t : Twins) (d : Doing) → DoingFits d → AllByRecursion EventFits (doing_events setup t d)
doing_fits setup t d f = call_fits (pair_of setup d.end) d.end d.what (stack_of t d.end) f

doings_fit : (setup : Setup) (t : Twins) (doings : List Doing) → AllByRecursion DoingFits doings → AllByRecursion EventFits (link_events_from setup t doings)
doings_fit setup t [] f = tt
doings_fit setup t (d ∷ doings) f = joined_fit (doing_events setup t d) (link_events_from setup (after_doing t d) doings) (doing_fits setup t d f.0) (doings_fit setup (after_doing t d) doings f.1)

pub events_fit_all : (setup : Setup) (most : End → ℕ) (doings : List Doing) → AllByRecursion DoingFits doings → AllByRecursion EventFits (link_events setup most doings)
events_fit_all setup most doings f = doings_fit setup (new_twins setup most) doings f
