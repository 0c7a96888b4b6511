-- Bytes that come to an end.
use Rattle.std.proofs.Common.{◌≡◌, ◌+◌, ◌-◌, ◌≤◌, ◌<◌, ℕ, Bool, true, false, List, [], ◌∷◌, length, Option, Some, None, if◌then◌else◌, slice_get, get_or, refl, sym, ap, ◌∙◌, subst, arith}
use Rattle.book_base.specs.declared.address.Pair.{Pair}
use Rattle.book_base.specs.declared.end.End.{End}
use Rattle.std.proofs.lemmas.Option.{slice_get_read}
use Rattle.book_segments.specs.Options.{One, find_ao}
use Rattle.book_segments.specs.Segments.{Segment, Reading, Read, Bad, bit_of, reading}
use Rattle.book_segments.specs.declared.fault.DatagramFault.{DatagramFault}
use Rattle.tcp_segment.specs.Sums.{HasPlainHeader}
use Rattle.book_keys.specs.Rows.{Row}
use Rattle.book_endpoint.specs.declared.passed.Passed.{Passed}
use Rattle.book_endpoint.specs.Verdicts.{Finding}
use Rattle.tcp_segment.specs.Views.{view_ao}
use Rattle.ao_check.specs.declared.passing.Passing.{Passing}
use Rattle.tcp_endpoint.specs.Arrivals.{OptionIs, TellsOption, TellsPassed, found_of, passed_of}
use Rattle.tcp_endpoint.specs.declared.arrival.Arrived.{Arrived}
use Rattle.book_link.specs.declared.event.Fixing.{Fixing}
use Rattle.book_link.specs.Alterations.{altered, has_place}
use Rattle.book_link.specs.declared.event.Event.TheVariants.{At}
use Rattle.book_link.specs.declared.event.Action.TheVariants.{Alter, Deliver}
use Rattle.book_link.specs.Outcomes as book
use Rattle.book_link.specs.Steps.{Stepped, alter, deliver}
use Rattle.book_link.specs.Worlds.{Setup, World, Made, Came, Happening, Coming, forged, segment_named, side as side_of}
use Rattle.link_report.specs.declared.entry.Entry.{Entry}
use Rattle.link_report.specs.declared.log.Log.{Log}
use Rattle.link_report.specs.Entries.{IsEntry, PassesUnder}
use Rattle.link_report.specs.Logs.{StandsLog, forgery_count, made_count}
use Rattle.link_report.specs.declared.outcome.Outcome.{Outcome}
use Rattle.link_report.specs.Outcomes.{Shows}
use Rattle.link_report.specs.declared.side.Side.{Side}
use Rattle.link_report.specs.Segments.{HasCome}
use Rattle.link_world.specs.declared.arrivals.Answered.{Answered}
use Rattle.link_world.specs.Changes.{HasStepped, by_bytes, by_event}
use Rattle.link_world.specs.Links.{AreOfEnd, StandsAt}
use Rattle.link_world.specs.Arrivals.{Counts, HasReceived, outcome_come}
use Rattle.link_world.proofs.EntranceLaws.{IsRow, came_numbered, none_told, none_unread, passes_told, told_row}

-- ---- what passed

-- what a log says of a segment that passed, it says of what is told of it
pub forged_told : (rows : List Row) (pair : Pair) (e : End) (d : Segment) (p : Passed) (o : Option Finding) (row : Row) (history : List Happening) (b : Bool)
    → TellsPassed rows pair (Read d) (Some p) o → 1 ≤ p.row → p.row ≤ length rows → ((x : Row) → row ≡ get_or rows (p.row - 1) x)
    → ((f : Finding) → PassesUnder row d p.number p.context f → forged e (Some f) history ≡ bit_of b) → forged e o history ≡ bit_of b
forged_told rows pair e d p o row history b n low high is tells =
    let here : slice_get rows (p.row - 1) ≡ Some row = slice_get_read rows (length rows) (p.row - 1) row refl (omega (arith, low, high)) (is row) in
    let t = passes_told rows pair d p o row n here in
    ap (λ (z : Option Finding). forged e z history) t.1 ∙ tells t.0 t.2

-- the option of what passed is the one of the segment
pub option_there : (d : Segment) (told : Arrived) (p : Passing) → TellsOption d told → told.passed ≡ Some p → find_ao d.area ≡ One (view_ao p.option)
option_there d told p h is = subst (λ o. OptionIs d told.arrival o) is h

-- nothing that didn't pass is a forgery
pub forged_none : (rows : List Row) (pair : Pair) (e : End) (d : Segment) (o : Option Finding) (history : List Happening) → TellsPassed rows pair (Read d) None o
    → forged e o history ≡ bit_of false
forged_none rows pair e d o history n = ap (λ (z : Option Finding). forged e z history) (none_told rows pair d o n)

-- the row that is told of what passed is one of the table
pub row_there : (setup : Setup) (w : World) (e : End) (d : Side) (bytes : List ℕ) (told : Arrived) (p : Passing)
    → HasCome w (by_bytes e bytes setup w) e d bytes (Some told) → told.passed ≡ Some p → IsRow d.table.rows p.passed.row
row_there setup w e d bytes told p h is =
    let came : Came = h.tells.0 in
    told_row d.table.rows d.pair bytes p.passed came.passed
    (subst (λ (o : Option Passing). TellsPassed d.table.rows d.pair (reading bytes) (found_of o) came.passed) is h.tells.3.passed)
    (came_numbered setup w e bytes came h.tells.2)

-- ---- what was received

-- nothing came, for want of a session
pub received_none : (setup : Setup) (w : World) (e : End) (d : Side) (bytes : List ℕ) → HasCome w (by_bytes e bytes setup w) e d bytes None
    → HasReceived w (by_bytes e bytes setup w) e d None
received_none setup w e d bytes h = record { side_is = h.stands; others = h.others; counts = h.tells.1; shows = h.tells.0 }

-- bytes came, and it is known whether they are a forgery
received_so : (setup : Setup) (w : World) (e : End) (d : Side) (bytes : List ℕ) (told : Arrived) (b : Bool)
    → HasCome w (by_bytes e bytes setup w) e d bytes (Some told)
    → ((o : Option Finding) → TellsPassed d.table.rows d.pair (reading bytes) (passed_of told) o → forged e o w.history ≡ bit_of b)
    → HasReceived w (by_bytes e bytes setup w) e d (Some (record { arrival = told.arrival; forged = b }))
received_so setup w e d bytes told b h tells =
    let came : Came = h.tells.0 in
    let is = h.tells.3 in
    record {
      side_is = h.stands;
      others = h.others;
      counts = (came, h.tells.2, ap (λ (x : End). forged x came.passed w.history) is.at ∙ tells came.passed is.passed);
      shows = h.tells.1 ∙ ap book.Answered (sym is.answer);
    }

-- a datagram came, and it is known whether it is a forgery
pub received_some : (setup : Setup) (w : World) (e : End) (d : Side) (log : Log) (bytes : List ℕ) (x : Segment) (told : Arrived) (b : Bool) → reading bytes ≡ Read x
    → HasCome w (by_bytes e bytes setup w) e d bytes (Some told) → StandsLog log w.history
    → ((pair : Pair) (history : List Happening) (found : Option Finding) → StandsLog log history → TellsPassed d.table.rows pair (Read x) (passed_of told) found → forged e found history ≡ bit_of b)
    → HasReceived w (by_bytes e bytes setup w) e d (Some (record { arrival = told.arrival; forged = b }))
received_some setup w e d log bytes x told b read h logs tells =
    received_so setup w e d bytes told b h
    (λ o t. tells d.pair w.history o logs (subst (λ (r : Reading). TellsPassed d.table.rows d.pair r (passed_of told) o) read t))

-- what came was no datagram, and is no forgery
pub received_unread : (setup : Setup) (w : World) (e : End) (d : Side) (bytes : List ℕ) (fault : DatagramFault) (told : Arrived) → reading bytes ≡ Bad fault
    → HasCome w (by_bytes e bytes setup w) e d bytes (Some told)
    → HasReceived w (by_bytes e bytes setup w) e d (Some (record { arrival = told.arrival; forged = false }))
received_unread setup w e d bytes fault told read h =
    received_so setup w e d bytes told false h
    (λ o t. ap (λ (z : Option Finding). forged e z w.history)
    (none_unread d.table.rows d.pair fault (passed_of told) o (subst (λ (r : Reading). TellsPassed d.table.rows d.pair r (passed_of told) o) read t)))

-- what was received and counted is a step
pub counted : (e : End) (before after : Side) (old new : Log) (s : Setup → World → Stepped) (answered : Option Answered) (o : Outcome) → after.pair ≡ before.pair
    → made_count new ≡ made_count old → forgery_count new ≤ forgery_count old + 1
    → ((setup : Setup) (w : World) → StandsAt e before old setup w → HasReceived w (s setup w) e after answered)
    → ((history later : List Happening) → StandsLog old history → Counts answered history later → StandsLog new later) → o ≡ outcome_come answered
    → HasStepped e before after old new s o
counted e before after old new s answered o pair made most received stands is =
    record {
      pair = pair;
      made = omega (arith, made);
      forged = most;
      follows = λ setup w h.
          let r = received setup w h in
          record {
            side_is = r.side_is;
            others = r.others;
            log_is = stands w.history (s setup w).world.history h.log_is r.counts;
            shows = subst (λ (x : Outcome). Shows x (s setup w).outcome) (sym is) r.shows;
          };
    }

-- ---- segments that are delivered

-- a segment that is kept comes as it was made
pub delivered : (e : End) (name : ℕ) (bytes : List ℕ) (setup : Setup) (w : World) (m : Made) → segment_named name w.history ≡ Some m → m.bytes ≡ bytes
    → by_bytes e bytes setup w ≡ by_event (At e (Deliver name)) setup w
delivered e name bytes setup w m is same =
    ap (λ (b : List ℕ). by_bytes e b setup w) (sym same) ∙ ap (deliver setup w e) (sym is)

pub undelivered : (e : End) (name : ℕ) (setup : Setup) (w : World) → segment_named name w.history ≡ None
    → by_event (At e (Deliver name)) setup w ≡ record { world = w; outcome = book.NoSegment }
undelivered e name setup w is = ap (deliver setup w e) is

pub unaltered : (e : End) (name place mask : ℕ) (fixing : Fixing) (setup : Setup) (w : World) → segment_named name w.history ≡ None
    → by_event (At e (Alter name place mask fixing)) setup w ≡ record { world = w; outcome = book.NoSegment }
unaltered e name place mask fixing setup w is = ap (alter setup w e (record { place = place; mask = mask; fixing = fixing })) is

altered_if : (b : Bool) (x y : Stepped) → b ≡ true → (if b then x else y) ≡ x
altered_if true x y e = refl
altered_if false x y e = absurd (cc)

else_if : (b : Bool) (x y : Stepped) → b ≡ false → (if b then x else y) ≡ y
else_if true x y e = absurd (cc)
else_if false x y e = refl

-- a copy of a segment that is kept comes
pub altered_comes : (e : End) (name place mask : ℕ) (fixing : Fixing) (bytes copy : List ℕ) (setup : Setup) (w : World) (m : Made)
    → segment_named name w.history ≡ Some m → m.bytes ≡ bytes → has_place bytes place ≡ true → copy ≡ altered bytes (record { place = place; mask = mask; fixing = fixing })
    → by_bytes e copy setup w ≡ by_event (At e (Alter name place mask fixing)) setup w
altered_comes e name place mask fixing bytes copy setup w m is same there is_copy =
    let own : has_place m.bytes place ≡ true = ap (λ (b : List ℕ). has_place b place) same ∙ there in
    ap (λ (b : List ℕ). by_bytes e b setup w) (is_copy ∙ ap (λ (b : List ℕ). altered b (record { place = place; mask = mask; fixing = fixing })) (sym same))
    ∙ sym (altered_if (has_place m.bytes place) (by_bytes e (altered m.bytes (record { place = place; mask = mask; fixing = fixing })) setup w) (record { world = w; outcome = book.NoPlace }) own)
    ∙ ap (alter setup w e (record { place = place; mask = mask; fixing = fixing })) (sym is)

-- the place is past its bytes
pub misplaced : (e : End) (name place mask : ℕ) (fixing : Fixing) (bytes : List ℕ) (setup : Setup) (w : World) (m : Made)
    → segment_named name w.history ≡ Some m → m.bytes ≡ bytes → has_place bytes place ≡ false
    → by_event (At e (Alter name place mask fixing)) setup w ≡ record { world = w; outcome = book.NoPlace }
misplaced e name place mask fixing bytes setup w m is same past =
    let own : has_place m.bytes place ≡ false = ap (λ (b : List ℕ). has_place b place) same ∙ past in
    ap (alter setup w e (record { place = place; mask = mask; fixing = fixing })) is
    ∙ else_if (has_place m.bytes place) (by_bytes e (altered m.bytes (record { place = place; mask = mask; fixing = fixing })) setup w) (record { world = w; outcome = book.NoPlace }) own

-- the IP header of a segment that is kept has no options
pub plain_entry : (k : Entry) (m : Made) → IsEntry k m → HasPlainHeader k.bytes
plain_entry k m is = subst HasPlainHeader is.bytes is.whole.plain
