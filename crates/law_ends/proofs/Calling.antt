-- What a call at a stack does to a link and to the stack that it mirrors.
use Rattle.std.proofs.Common.{◌≡◌, ℕ, Bool, true, false, nat_le, List, [], ◌∷◌, ◌++◌, length, Option, Some, None, if◌then◌else◌, refl, sym, ap, ◌∙◌, subst, append-nil}
use Rattle.std.specs.List.{AllByRecursion}
use Rattle.book_base.specs.declared.address.Pair.{Pair}
use Rattle.book_base.specs.declared.end.End.{End}
use Rattle.book_segments.specs.Segments.{reading}
use Rattle.book_keys.specs.Rows.{Row}
use Rattle.book_keys.specs.declared.new_row.NewRow.{NewRow}
use Rattle.book_keys.specs.Tables.{Adding, AddedAs, TooMany, OverlapsRow, adding, row_of_new, withdrawn}
use Rattle.book_endpoint.specs.States.{EndState}
use Rattle.book_link.specs.declared.event.Event.{Event}
use Rattle.book_link.specs.Worlds.{Setup, pair_of, World, side}
use Rattle.book_link.specs.Steps.{add_row, withdraw, with_table}
use Rattle.book_link.specs.Runs.{run_from}
use Rattle.book_cmd_node.specs.declared.node.Act.{Act}
use Rattle.book_cmd_node.specs.declared.node.Act.TheVariants as act
use Rattle.book_cmd_node.specs.declared.node.NodeEvent.{NodeEvent}
use Rattle.book_cmd_node.specs.declared.node.NodeEvent.TheVariants as event
use Rattle.book_cmd_node.specs.NodeRuns.{NodeOutcome, NodeFull, NodeState, held_end, most_ends, node_from, node_outcomes_from, same_pair}
use Rattle.book_stack.specs.Calls.{Call, At, Input, Output, Add, Withdraw, Did, Told, added, at_other, at_pair, begun, bytes_received, call, plain_step, withdrew, asking, unasked, stepped}
use Rattle.book_stack.specs.Runs.{keeps_rows}
use Rattle.book_stack.specs.Stacks.{StackState, touched}
use Rattle.book_stack.specs.Turns.{clocked, output_at}
use Rattle.law_node.specs.Alone.{is_mine}
use Rattle.law_stack.proofs.Called.{call_plain}
use Rattle.law_stack.proofs.Turned.{Follows}
use Rattle.law_ends.specs.Users.{UserSession, after_act, after_call_told, AreFresh}
use Rattle.law_ends.specs.Links.{events_by, row_events, did_events}
use Rattle.law_ends.proofs.Standing.{Stands, Goes, goes_put, goes_still}
use Rattle.law_ends.proofs.Plain.{plain_told, answered_told, told_by, events_go}
use Rattle.law_ends.proofs.Making.{all_joined, clocked_makes, received_makes, output_makes}

-- ---- what the user learns of a call is what its plain events tell

-- an event that tells a user nothing of his sessions
abbrev pub IsQuiet : NodeEvent → Type 0
IsQuiet e = (o : NodeOutcome) (us : List UserSession) → plain_told e o us ≡ us

answered_quiet : (pair : Pair) (e : NodeEvent) (o : NodeOutcome) (us : List UserSession) → IsQuiet e → answered_told pair e o us ≡ us
answered_quiet pair e o us quiet = at (is_mine pair e)
  where
    at : (v : Bool) → (if v then plain_told e o us else us) ≡ us
    at true = quiet o us
    at false = refl

pub quiet_told : (pair : Pair) (es : List NodeEvent) (os : List NodeOutcome) (us : List UserSession) → AllByRecursion IsQuiet es → told_by pair es os us ≡ us
quiet_told pair [] os us h = refl
quiet_told pair (e ∷ es) [] us h = refl
quiet_told pair (e ∷ es) (o ∷ os) us h = quiet_told pair es os (answered_told pair e o us) h.1 ∙ answered_quiet pair e o us h.0

full_told : (a : Act) (us : List UserSession) → after_act a NodeFull us ≡ us
full_told (act.Open isn) us = refl
full_told (act.Listen isn) us = refl
full_told (act.Start isn peer) us = refl
full_told (act.Give piece) us = refl
full_told (act.Take count) us = refl
full_told act.Send us = refl
full_told act.Resend us = refl
full_told act.Close us = refl
full_told act.Abort us = refl
full_told act.Remove us = refl

full_if : (a : Act) (us : List UserSession) (b : Bool) → us ≡ (if b then after_act a NodeFull us else us)
full_if a us true = sym (full_told a us)
full_if a us false = refl

-- what a call did tells the user as much as its answer
abbrev pub Tells : Pair → Call → List UserSession → Did → Type 0
Tells pair c us d = told_by pair d.events d.outcomes us ≡ after_call_told pair c d.answer us

begun_tells : (pair q : Pair) (a : Act) (s : StackState) (us : List UserSession) → Tells pair (At q a) us (begun q a s)
begun_tells pair q a s us = at (nat_le s.most (length s.node.ends))
  where
    at : (v : Bool) → Tells pair (At q a) us (if v then unasked s (Told NodeFull) else (let step = plain_step s (event.On q a) in asking (touched q (stepped s step)) (event.On q a) step.outcome))
    at true = full_if a us (same_pair q pair)
    at false = refl

other_tells : (pair q : Pair) (a : Act) (s : StackState) (us : List UserSession) → Tells pair (At q a) us (at_other q a s)
other_tells pair q (act.Open isn) s us = begun_tells pair q (act.Open isn) s us
other_tells pair q (act.Listen isn) s us = begun_tells pair q (act.Listen isn) s us
other_tells pair q (act.Start isn peer) s us = begun_tells pair q (act.Start isn peer) s us
other_tells pair q (act.Give piece) s us = refl
other_tells pair q (act.Take count) s us = refl
other_tells pair q act.Send s us = refl
other_tells pair q act.Resend s us = refl
other_tells pair q act.Close s us = refl
other_tells pair q act.Abort s us = refl
other_tells pair q act.Remove s us = refl

pair_tells : (pair q : Pair) (a : Act) (s : StackState) (us : List UserSession) (o : Option EndState) → Tells pair (At q a) us (at_pair q a s o)
pair_tells pair q a s us None = other_tells pair q a s us
pair_tells pair q a s us (Some e) = refl

input_quiet : (now : ℕ) (coming : _) (s : StackState) → AllByRecursion IsQuiet ((clocked now s).events ++ (bytes_received coming (reading coming.bytes) (clocked now s).stack).events)
input_quiet now coming s =
    all_joined IsQuiet (clocked now s).events (bytes_received coming (reading coming.bytes) (clocked now s).stack).events
    (clocked_makes IsQuiet now (λ o us. refl) s) (received_makes IsQuiet coming (λ o us. refl) (reading coming.bytes) (clocked now s).stack)

call_tells : (pair : Pair) (c : Call) (s : StackState) (us : List UserSession) → keeps_rows (c ∷ []) ≡ true → Tells pair c us (call c s)
unfolding call
call_tells pair (At q a) s us k = pair_tells pair q a s us (held_end q s.node.ends)
call_tells pair (Input coming) s us k = quiet_told pair _ (call (Input coming) s).outcomes us (input_quiet coming.now coming s)
call_tells pair (Output now) s us k = quiet_told pair (output_at now s).events (output_at now s).outcomes us (output_makes IsQuiet now (λ o us. refl) (λ p o us. refl) (λ p o us. refl) s)
call_tells pair (Add row) s us k = absurd (cc)
call_tells pair (Withdraw n) s us k = absurd (cc)

-- ---- a call

module _ (setup : Setup) (w : World) (e : End) (s : StackState) (us : List UserSession) (h : Stands (pair_of setup e) (side w e) s.rows s.node us) where
  -- the link after a call that did this
  abbrev pub GoesAfter : Call → Did → Type 0
  GoesAfter c d = Goes (pair_of setup e) w e (run_from setup w (did_events (pair_of setup e) e c d)) d.stack.rows d.stack.node (after_call_told (pair_of setup e) c d.answer us)

  pub plain_goes : (c : Call) (d : Did) → row_events e c d.answer ≡ [] → Follows s d.stack d.events d.outcomes → Tells (pair_of setup e) c us d → AreFresh (after_call_told (pair_of setup e) c d.answer us) → GoesAfter c d
  plain_goes c d bare f tells fresh =
      let pair = pair_of setup e in
      let os = node_outcomes_from most_ends s.rows s.node d.events in
      let n = node_from most_ends s.rows s.node d.events in
      let told : told_by pair d.events os us ≡ after_call_told pair c d.answer us = ap (λ (x : List NodeOutcome). told_by pair d.events x us) (sym f.told) ∙ tells in
      let gone = events_go setup w e s.rows s.node us d.events h (subst AreFresh (sym told) fresh) in
      let made : events_by pair e d.events os ≡ did_events pair e c d =
      ap (events_by pair e d.events) (sym f.told) ∙ sym (append-nil (events_by pair e d.events d.outcomes)) ∙ ap (λ (l : List Event). events_by pair e d.events d.outcomes ++ l) (sym bare) in
      let one = subst (λ (x : List UserSession). Goes pair w e (run_from setup w (events_by pair e d.events os)) s.rows n x) told gone in
      let two = subst (λ (l : List Event). Goes pair w e (run_from setup w l) s.rows n (after_call_told pair c d.answer us)) made one in
      let three = subst (λ (r : List Row). Goes pair w e (run_from setup w (did_events pair e c d)) r n (after_call_told pair c d.answer us)) (sym f.rows) two in
      subst (λ (x : NodeState). Goes pair w e (run_from setup w (did_events pair e c d)) d.stack.rows x (after_call_told pair c d.answer us)) (sym f.node) three

  -- the end with other rows
  tabled : (rows : List Row) → Stands (pair_of setup e) (with_table (side w e) rows) rows s.node us
  tabled rows = record { rows_are = refl; clock_is = h.clock_is; live_is = h.live_is; once = h.once; told = h.told }

  add_goes : (row : NewRow) (o : Adding) → adding (side w e).rows (row_of_new row) ≡ o → GoesAfter (Add row) (added s o)
  add_goes row (AddedAs n rows) is =
      subst (λ (x : Adding). Goes (pair_of setup e) w e (add_row w e x).world rows s.node us) (sym is) (goes_put (pair_of setup e) w e (with_table (side w e) rows) None rows s.node us (tabled rows))
  add_goes row TooMany is = goes_still (pair_of setup e) w e s.rows s.node us h
  add_goes row (OverlapsRow n) is = goes_still (pair_of setup e) w e s.rows s.node us h

  withdraw_goes : (n : ℕ) (o : Option (List Row)) → withdrawn (side w e).rows n ≡ o → GoesAfter (Withdraw n) (withdrew s o)
  withdraw_goes n (Some rows) is =
      subst (λ (x : Option (List Row)). Goes (pair_of setup e) w e (withdraw w e x).world rows s.node us) (sym is) (goes_put (pair_of setup e) w e (with_table (side w e) rows) None rows s.node us (tabled rows))
  withdraw_goes n None is = goes_still (pair_of setup e) w e s.rows s.node us h

  pub call_goes : (c : Call) → AreFresh (after_call_told (pair_of setup e) c (call c s).answer us) → GoesAfter c (call c s)
  unfolding call
  call_goes (At q a) fresh = plain_goes (At q a) (call (At q a) s) refl (call_plain (At q a) s refl) (call_tells (pair_of setup e) (At q a) s us refl) fresh
  call_goes (Input coming) fresh = plain_goes (Input coming) (call (Input coming) s) refl (call_plain (Input coming) s refl) (call_tells (pair_of setup e) (Input coming) s us refl) fresh
  call_goes (Output now) fresh = plain_goes (Output now) (call (Output now) s) refl (call_plain (Output now) s refl) (call_tells (pair_of setup e) (Output now) s us refl) fresh
  call_goes (Add row) fresh = add_goes row (adding s.rows (row_of_new row)) (ap (λ (r : List Row). adding r (row_of_new row)) h.rows_are)
  call_goes (Withdraw n) fresh = withdraw_goes n (withdrawn s.rows n) (ap (λ (r : List Row). withdrawn r n) h.rows_are)
