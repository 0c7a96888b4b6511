-- A segment that passed at an end is what a log is told of it.
use Rattle.std.proofs.Common.{◌≡◌, ℕ, zero, suc, ◌+◌, ◌-◌, ◌==◌, ◌≤◌, ◌<◌, Bool, true, false, not, ◌&&◌, List, [], ◌∷◌, length, Option, Some, None, if◌then◌else◌, refl, sym, ap, ◌∙◌, subst, arith, nat_lt, Ok, Err}
use Rattle.std.specs.Prelude.{⊤, is_some, slice_get}
use Rattle.book_base.specs.declared.address.Pair.{Pair}
use Rattle.book_base.specs.declared.end.End.{End}
use Rattle.book_base.specs.declared.end.End.TheVariants.{A, B}
use Rattle.book_base.specs.Algorithms.{mac_length_of}
use Rattle.book_segments.specs.Bytes.{same_bytes}
use Rattle.book_segments.specs.Options.{Ao, AoFound, Absent, One, Two, WithMd5 as FoundMd5, find_ao}
use Rattle.book_segments.specs.Segments.{Segment, Reading, Read, Bad as Unread, reading, good, has, segment_length, SYN}
use Rattle.book_segments.specs.declared.fault.DatagramFault.{DatagramFault}
use Rattle.book_segments.proofs.Fields.{some_is}
use Rattle.book_macs.specs.Contexts.{bytes_of, context_of}
use Rattle.book_macs.specs.MacInput.{mac_input}
use Rattle.book_keys.specs.Rows.{Row}
use Rattle.book_keys.specs.Choices.{Numbered, accept_row, acceptable_as, has_id}
use Rattle.book_keys.proofs.ChoiceLaws.{lowest-IsLowest}
use Rattle.book_endpoint.specs.States.{EndState, is_closed}
use Rattle.book_endpoint.specs.declared.passed.Passed.{Passed}
use Rattle.book_endpoint.specs.declared.refusal.Refusal.TheVariants.{NoTuple, Expired, MacLength, NoContext, Range, BadMac}
use Rattle.book_endpoint.specs.Verdicts.{Finding, Judgement, key_of, mac_of, found_with, segment_number}
use Rattle.book_endpoint.proofs.JudgeSteps.{judge_number, judge_context, judge_row, judge_ao, judge_by_steps}
use Rattle.book_endpoint.specs.declared.arrival.Arrival.TheVariants.{Foreign, Checksum, Closed as AtClosed}
use Rattle.book_endpoint.specs.Arrivals.{Arrived, unmoved, number_expected, numbers_known, judged_by, from_peer, arrive}
use Rattle.endpoint_steps.specs.Arriving.{arrive_judged, arrive_read}
use Rattle.endpoint_steps.proofs.Arriving.{read_by_cases}
use Rattle.ao_check.specs.Verdicts.{Names}
use Rattle.tcp_endpoint.specs.Arrivals.{TellsPassed}
use Rattle.tcp_endpoint.specs.declared.arrival.Arrived.{Arrived as Told}
use Rattle.book_link.specs.Steps.{Act, act_on, add, come, on_live, put, view_of}
use Rattle.book_link.specs.Worlds.{Setup, pair_of, Session, LinkSide as EndSide, Came, Happening, Making, Coming, World, side}
use Rattle.law_link.proofs.Tests.{choose}
use Rattle.link_report.specs.declared.side.Side.{Side}
use Rattle.link_report.specs.Segments.{IsCome}
use Rattle.link_report.specs.Entries.{PassesUnder}

-- ---- how it came

-- a segment that passed under the row of this number
passes_under : (rows : List Row) (pair : Pair) (d : Segment) (p : Passed) (f : Finding) (row : Row) → Names rows pair d p f
    → slice_get rows (p.row - 1) ≡ Some row → PassesUnder row d p.number p.context f
passes_under rows pair d p f row n here =
    let same : n.row ≡ row = some_is n.row row (sym n.here ∙ here) in
    let is = n.entry_is in
    record {
      key = ap (λ (g : Finding). g.key) is ∙ ap key_of same;
      context_is = ap (λ (g : Finding). g.context) is;
      ao = n.ao;
      found = n.found;
      input = ap (λ (g : Finding). g.input) is ∙ ap (λ (r : Row). mac_input p.number d n.ao r.with_options) same;
    }

-- what is told of a segment that passed is how it came: under the row of that number, with that number and context
pub passes_told : (rows : List Row) (pair : Pair) (d : Segment) (p : Passed) (o : Option Finding) (row : Row) → TellsPassed rows pair (Read d) (Some p) o
    → slice_get rows (p.row - 1) ≡ Some row → (f : Finding) × (o ≡ Some f) × PassesUnder row d p.number p.context f
passes_told rows pair d p (Some f) row n here = (f, refl, passes_under rows pair d p f row n here)
passes_told rows pair d p None row n here = absurd n

pub none_told : (rows : List Row) (pair : Pair) (d : Segment) (o : Option Finding) → TellsPassed rows pair (Read d) None o → o ≡ None
none_told rows pair d None n = refl
none_told rows pair d (Some f) n = absurd n

pub none_unread : (rows : List Row) (pair : Pair) (fault : DatagramFault) (p : Option Passed) (o : Option Finding) → TellsPassed rows pair (Unread fault) p o → o ≡ None
none_unread rows pair fault None None n = refl
none_unread rows pair fault None (Some f) n = absurd n
none_unread rows pair fault (Some p) None n = absurd n
none_unread rows pair fault (Some p) (Some f) n = absurd n

-- ---- the number of its row

-- what passed, where something did, is under a row, and rows are numbered from 1
abbrev pub IsNumbered : Option Finding → Type 0
IsNumbered None = ⊤
IsNumbered (Some f) = 1 ≤ f.row

abbrev AdmitsNumbered : Judgement → Type 0
AdmitsNumbered (Err why) = ⊤
AdmitsNumbered (Ok f) = 1 ≤ f.row

module _ (rows : List Row) (pair : Pair) (now : ℕ) (d : Segment) (x : Option ℕ) where
  number_numbered : (r : Numbered) (ao : Ao) (c : List ℕ) (n : Option ℕ) → 1 ≤ r.number → AdmitsNumbered (judge_number r d ao c n)
  number_numbered r ao c None low = tt
  number_numbered r ao c (Some n) low =
      choose AdmitsNumbered (nat_lt 9223372036854775808 (n + segment_length d)) (Err Range) _ (λ t. tt)
      (λ t. choose AdmitsNumbered (same_bytes ao.mac (mac_of (found_with r d ao c n))) (Ok (found_with r d ao c n)) (Err BadMac) (λ right. low) (λ wrong. tt))

  context_numbered : (r : Numbered) (ao : Ao) (o : Option (List ℕ)) → 1 ≤ r.number → AdmitsNumbered (judge_context r d ao x o)
  context_numbered r ao None low = tt
  context_numbered r ao (Some c) low =
      choose AdmitsNumbered (not (has SYN d) && not (is_some x)) (Err NoContext) _ (λ t. tt) (λ t. number_numbered r ao c (segment_number d x) low)

  row_numbered : (ao : Ao) (o : Option (List ℕ)) (r : Option Numbered) → ((n : Numbered) → r ≡ Some n → 1 ≤ n.number) → AdmitsNumbered (judge_row rows pair d ao x o r)
  row_numbered ao o None low = choose AdmitsNumbered (has_id rows pair ao.key_id) (Err Expired) (Err NoTuple) (λ t. tt) (λ t. tt)
  row_numbered ao o (Some r) low =
      choose AdmitsNumbered (not (length ao.mac == mac_length_of r.row.algorithm)) (Err MacLength) _ (λ t. tt) (λ t. context_numbered r ao o (low r refl))

  ao_numbered : (o : Option (List ℕ)) (f : AoFound) → AdmitsNumbered (judge_ao rows pair now x d o f)
  ao_numbered o Absent = tt
  ao_numbered o Two = tt
  ao_numbered o FoundMd5 = tt
  ao_numbered o (One ao) =
      row_numbered ao o (accept_row rows pair ao.key_id now) (λ n e. (lowest-IsLowest (acceptable_as pair ao.key_id now) rows n e).low)

judged_numbered : (rows : List Row) (pair : Pair) (now : ℕ) (s : EndState) (d : Segment) → AdmitsNumbered (judged_by rows pair now s d)
judged_numbered rows pair now s d =
    subst AdmitsNumbered (sym (judge_by_steps rows pair (numbers_known s) now d))
    (ao_numbered rows pair now d (number_expected s s.peer_isn) (context_of d s.peer_isn (Some s.isn)) (find_ao d.area))

verdict_numbered : (rows : List Row) (pair : Pair) (now : ℕ) (s : EndState) (d : Segment) (v : Judgement) → AdmitsNumbered v
    → IsNumbered (arrive_judged rows pair now s d v).passed
verdict_numbered rows pair now s d (Err why) low = tt
verdict_numbered rows pair now s d (Ok f) low = low

read_numbered : (rows : List Row) (pair : Pair) (now : ℕ) (s : EndState) (r : Reading) → IsNumbered (arrive_read rows pair now s r).passed
read_numbered rows pair now s (Unread fault) = tt
read_numbered rows pair now s (Read d) =
    let P : Arrived → Type 0 = λ (x : Arrived). IsNumbered x.passed in
    choose P (not (from_peer pair d)) (unmoved s Foreign) _ (λ t. tt) (λ ours.
    choose P (not (good d)) (unmoved s Checksum) _ (λ t. tt) (λ right.
    choose P (is_closed s.phase) (unmoved s AtClosed) _ (λ t. tt) (λ awake.
    verdict_numbered rows pair now s d (judged_by rows pair now s d) (judged_numbered rows pair now s d))))

arrive_numbered : (rows : List Row) (pair : Pair) (now : ℕ) (s : EndState) (r : Reading) → IsNumbered (arrive rows pair now s r).passed
arrive_numbered rows pair now s r = subst (λ (a : Arrived). IsNumbered a.passed) (read_by_cases rows pair now s r) (read_numbered rows pair now s r)

put_history : (w : World) (e : End) (now : EndSide) (h : Option Happening) → (put w e now h).history ≡ add h w.history
put_history w A now h = refl
put_history w B now h = refl

abbrev came_or : Came → List Happening → Came
came_or c (Coming d ∷ past) = d
came_or c _ = c

came_by : (setup : Setup) (w : World) (e : End) (bytes : List ℕ) (c : Came) (sessions : List Session)
    → (act_on w e sessions (come bytes (view_of setup w e))).world.history ≡ Coming c ∷ w.history → IsNumbered c.passed
came_by setup w e bytes c [] is = absurd (let size = ap length is in omega (arith, size))
came_by setup w e bytes c (s ∷ rest) is =
    let act : Act = come bytes (view_of setup w e) s.state in
    let there = sym (put_history w e _ act.happened) ∙ is in
    subst (λ (d : Came). IsNumbered d.passed) (ap (came_or c) there) (arrive_numbered (side w e).rows (pair_of setup e) (side w e).clock s.state (reading bytes))

-- what passed of bytes that came to an end is under a row, and rows are numbered from 1
pub came_numbered : (setup : Setup) (w : World) (e : End) (bytes : List ℕ) (c : Came)
    → (on_live w e (come bytes (view_of setup w e))).world.history ≡ Coming c ∷ w.history → IsNumbered c.passed
came_numbered setup w e bytes c is = came_by setup w e bytes c (side w e).sessions is

-- the row with this number is there
pub record IsRow (rows : List Row) (number : ℕ) : Type 0 where
  pub low : 1 ≤ number
  pub high : number ≤ length rows

within_rows : (rows : List Row) (i : ℕ) (r : Row) → slice_get rows i ≡ Some r → i < length rows
within_rows [] i r e = absurd (cc)
within_rows (x ∷ rows) zero r e = omega arith
within_rows (x ∷ rows) (suc i) r e = let more = within_rows rows i r e in omega (arith, more)

named_row : (rows : List Row) (pair : Pair) (d : Segment) (p : Passed) (f : Finding) → Names rows pair d p f → 1 ≤ f.row → IsRow rows p.row
named_row rows pair d p f n low =
    let same : f.row ≡ p.row = ap (λ (g : Finding). g.row) n.entry_is in
    let inside = within_rows rows (p.row - 1) n.row n.here in
    record { low = omega (arith, same, low); high = omega (arith, inside) }

row_by : (rows : List Row) (pair : Pair) (r : Reading) (p : Passed) (o : Option Finding) → TellsPassed rows pair r (Some p) o → IsNumbered o → IsRow rows p.row
row_by rows pair (Read d) p (Some f) n low = named_row rows pair d p f n low
row_by rows pair (Read d) p None n low = absurd n
row_by rows pair (Unread fault) p (Some f) n low = absurd n
row_by rows pair (Unread fault) p None n low = absurd n

-- the row that is told of a segment that passed is one of the table
pub told_row : (rows : List Row) (pair : Pair) (bytes : List ℕ) (p : Passed) (o : Option Finding) → TellsPassed rows pair (reading bytes) (Some p) o → IsNumbered o
    → IsRow rows p.row
told_row rows pair bytes p o n low = row_by rows pair (reading bytes) p o n low
