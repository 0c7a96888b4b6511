-- A world that goes on by one event.
use Rattle.std.proofs.Common.{◌≡◌, ◌+◌, ◌-◌, ◌≤◌, ◌<◌, ℕ, suc, true, List, [], ◌∷◌, ◌++◌, length, get_or, Option, Some, None, Result, Ok, Err, IfOk, OnErr, refl, sym, ap, ◌∙◌, subst, arith}
use Rattle.std.specs.List.{AllByRecursion}
use Rattle.std.specs.declared.alloc.AllocError.{AllocError}
use Rattle.book_base.specs.declared.address.Address.{Address}
use Rattle.book_base.specs.declared.address.Address.TheVariants.{V4, V6}
use Rattle.book_base.specs.declared.end.End.{End}
use Rattle.book_base.specs.declared.end.End.TheVariants.{A, B}
use Rattle.book_keys.specs.Rows.{Row}
use Rattle.key_table.specs.Ranges.{FitsColumns}
use Rattle.book_segments.specs.Sockets.{are_two_of_a_family}
use Rattle.book_link.specs.declared.event.Event.{Event}
use Rattle.book_link.specs.declared.event.Event.TheVariants.{Dump}
use Rattle.book_link.specs.Outcomes as book
use Rattle.book_link.specs.Runs.{begins, empty, outcomes_from, run}
use Rattle.book_link.specs.Steps.{Stepped, image_of, step}
use Rattle.book_link.specs.Worlds.{Happening, Setup, World as Both, other, pair_of, first_rows, segment_named, side as side_of}
use Rattle.both_ends.specs.declared.values.BothEnds.{BothEnds}
use Rattle.both_ends.specs.Values.{at, with_at}
use Rattle.link_report.specs.declared.log.Log.{Log}
use Rattle.link_report.specs.Logs.{StandsLog}
use Rattle.link_report.specs.declared.outcome.Outcome.{Outcome}
use Rattle.link_report.specs.Outcomes.{AreShown, Shows}
use Rattle.link_report.specs.declared.side.Side.{Side}
use Rattle.link_report.specs.Sides.{StandsSide, sockets_of}
use Rattle.link_world.specs.declared.world.World.{World}
use Rattle.law_link.specs.Laws.{EventFits, AddressesFit, RowFits, SetupFits}
use Rattle.link_world.specs.Ranges.{IsPlace, SocketsFit}
use Rattle.link_world.specs.Changes.{Acts, Happens, Moves, Rests, by_event}
use Rattle.link_world.specs.Links.{AreOfEnd, AreOfLink, StandsAt, StandsLink}
use Rattle.link_world.specs.Stands.{StandsFor}
use Rattle.link_world.proofs.RunLaws.{outcomes_more, run_more}

-- what holds holds where there was an error
pub on_err : {T E : Type 0} (r : Result T E) (P : Type 0) → P → OnErr r P
on_err (Ok v) P h = tt
on_err (Err e) P h = h

-- ---- the two ends

-- what holds of either end holds of each
each : (P : End → Side → Type 0) (sides : BothEnds Side) → P A sides.a → P B sides.b → (e : End) → P e (at e sides)
each P sides a b A = a
each P sides a b B = b

-- so also where an end became another one
where_changed : (P : End → Side → Type 0) (e : End) (after : Side) (sides : BothEnds Side) → P e after → P (other e) (at (other e) sides)
    → (x : End) → P x (at x (with_at e after sides))
where_changed P A after sides here there = each P (with_at A after sides) here there
where_changed P B after sides here there = each P (with_at B after sides) there here

-- each end of a link is an end
at_end : (e : End) (sides : BothEnds Side) (log : Log) (setup : Setup) (w : Both) → StandsLink sides log setup w → StandsAt e (at e sides) log setup w
at_end e sides log setup w h = record { pair_is = h.pair_is e; side_is = h.side_is e; log_is = h.log_is }

pub end_of : (e : End) (sides : BothEnds Side) (log : Log) → AreOfLink sides log → AreOfEnd e (at e sides) log
end_of e sides log l = record { setup = l.setup; world = l.world; stands = at_end e sides log l.setup l.world l.stands }

-- what an event does to an end, it does to the link
pub acts_on : (e : End) (sides : BothEnds Side) (after : Side) (old new : Log) (s : Setup → Both → Stepped) (r : Result Outcome AllocError)
    → Acts e (at e sides) after old new s r → Happens sides (with_at e after sides) old new s r
acts_on e sides after old new s (Ok told) h =
    record {
      made = h.made;
      forged = h.forged;
      stands = λ setup w l.
          let f = h.follows setup w (at_end e sides old setup w l) in
          let there = subst (StandsSide (at (other e) sides)) (sym f.others) (l.side_is (other e)) in
          record {
            pair_is = where_changed (λ x d. pair_of setup x ≡ sockets_of d) e after sides (l.pair_is e ∙ sym h.pair) (l.pair_is (other e));
            side_is = where_changed (λ x d. StandsSide d (side_of (s setup w).world x)) e after sides f.side_is there;
            log_is = f.log_is;
          };
      shows = λ setup w l. (h.follows setup w (at_end e sides old setup w l)).shows;
    }
acts_on e sides after old new s (Err error) h =
    record {
      made = h.made;
      forged = h.forged;
      stands = λ setup w l.
          record {
            pair_is = where_changed (λ x d. pair_of setup x ≡ sockets_of d) e after sides (l.pair_is e ∙ sym h.pair) (l.pair_is (other e));
            side_is = where_changed (λ x d. StandsSide d (side_of w x)) e after sides (h.side_is (side_of w e) (l.side_is e)) (l.side_is (other e));
            log_is = h.log_is w.history l.log_is;
          };
    }

-- ---- the link

-- to show a segment moves nothing, and memory may run out
pub looks : (sides : BothEnds Side) (log : Log) (name : ℕ) (r : Result Outcome AllocError)
    → IfOk r (λ told. (history : List Happening) → StandsLog log history → Shows told (image_of (segment_named name history)))
    → Happens sides sides log log (by_event (Dump name)) r
looks sides log name (Ok told) h =
    record {
      made = omega arith;
      forged = omega arith;
      stands = λ setup w l. l;
      shows = λ setup w l. h w.history l.log_is;
    }
looks sides log name (Err error) h = record { made = refl; forged = refl; stands = λ setup w l. l }

-- after an event the ends and the log are still those of a link
pub moved_of : (before after : BothEnds Side) (old new : Log) (event : Event) (o : Outcome) → Moves before after old new (by_event event) o → AreOfLink before old
    → AreOfLink after new
moved_of before after old new event o h l =
    record { setup = l.setup; world = (step l.setup l.world event).world; stands = h.stands l.setup l.world l.stands }

pub rested_of : (before after : BothEnds Side) (old new : Log) → Rests before after old new → AreOfLink before old → AreOfLink after new
rested_of before after old new h l = record { setup = l.setup; world = l.world; stands = h.stands l.setup l.world l.stands }

-- ---- the outcomes

-- one more outcome is shown
shown_more : (os : List Outcome) (xs : List book.Outcome) (o : Outcome) (x : book.Outcome) → AreShown os xs → Shows o x → AreShown (os ++ o ∷ []) (xs ++ x ∷ [])
shown_more [] [] o x h s = (s, tt)
shown_more [] (y ∷ ys) o x h s = absurd h
shown_more (p ∷ ps) [] o x h s = absurd h
shown_more (p ∷ ps) (y ∷ ys) o x h s = (h.0, shown_more ps ys o x h.1 s)

-- one more event fits
pub one_more : (P : Event → Type 0) (events : List Event) (event : Event) → AllByRecursion P events → P event → AllByRecursion P (events ++ event ∷ [])
one_more P [] event all fits = (fits, tt)
one_more P (e ∷ events) event all fits = (all.0, one_more P events event all.1 fits)

-- two places of a family
pub one_family : (a b : Address) → are_two_of_a_family a b ≡ true → IsPlace a → IsPlace b → AddressesFit a b
one_family (V4 a) (V4 b) h x y = (x, y)
one_family (V6 a) (V6 b) h x y = (x, y)
one_family (V4 a) (V6 b) h x y = absurd (cc)
one_family (V6 a) (V4 b) h x y = absurd (cc)

-- rows of a table fit a link
pub rows_fit : (rows : List Row) → AllByRecursion FitsColumns rows → AllByRecursion RowFits rows
rows_fit [] all = tt
rows_fit (r ∷ rs) all = (record { recv_id = all.0.recv_id; send_id = all.0.send_id; master = all.0.master }, rows_fit rs all.1)

-- sockets and rows that fit are a setup that fits
pub setup_fits : (setup : Setup) → SocketsFit setup.a setup.b → AllByRecursion RowFits (first_rows setup A) → AllByRecursion RowFits (first_rows setup B) → SetupFits setup
setup_fits setup sockets a b = record { family = sockets.family; a_port = sockets.a_port; b_port = sockets.b_port; rows = of_end }
  where
    of_end : (e : End) → AllByRecursion RowFits (first_rows setup e)
    of_end A = a
    of_end B = b

-- a world that goes on stands for one more event
pub stepped : (old new : World) (setup : Setup) (events : List Event) (event : Event) (o : Outcome) → StandsFor old setup events
    → Moves old.sides new.sides old.log new.log (by_event event) o → new.outcomes.items ≡ old.outcomes.items ++ o ∷ []
    → EventFits event → StandsFor new setup (events ++ event ∷ [])
stepped old new setup events event o h moves items fits =
    let w = run setup events in
    record {
      link = subst (λ (x : Both). StandsLink new.sides new.log setup x) (sym (run_more setup events event)) (moves.stands setup w h.link);
      shown = subst (λ (os : List Outcome). AreShown os (outcomes_from setup (empty setup) (events ++ event ∷ []))) (sym items)
          (subst (λ (xs : List book.Outcome). AreShown (old.outcomes.items ++ o ∷ []) xs) (sym (outcomes_more setup events event))
          (shown_more old.outcomes.items (outcomes_from setup (empty setup) events) o (step setup w event).outcome h.shown (moves.shows setup w h.link)));
      setup_fits = h.setup_fits;
      events_fit = one_more EventFits events event h.events_fit fits;
    }

-- a world that rests stands for the same events
pub rested : (old new : World) (setup : Setup) (events : List Event) → StandsFor old setup events → Rests old.sides new.sides old.log new.log
    → new.outcomes.items ≡ old.outcomes.items → StandsFor new setup events
rested old new setup events h rests items =
    record {
      link = rests.stands setup (run setup events) h.link;
      shown = subst (λ (os : List Outcome). AreShown os (outcomes_from setup (empty setup) events)) (sym items) h.shown;
      setup_fits = h.setup_fits;
      events_fit = h.events_fit;
    }

-- the last one is shown
last_shown : (os : List Outcome) (xs : List book.Outcome) (x : book.Outcome) (d : Outcome) → AreShown os (xs ++ x ∷ []) → Shows (get_or os (length os - 1) d) x
last_shown [] [] x d h = absurd h
last_shown [] (y ∷ ys) x d h = absurd h
last_shown (o ∷ []) [] x d h = h.0
last_shown (o ∷ p ∷ ps) [] x d h = absurd h.1
last_shown (o ∷ []) (y ∷ []) x d h = absurd h.1
last_shown (o ∷ []) (y ∷ z ∷ ys) x d h = absurd h.1
last_shown (o ∷ p ∷ ps) (y ∷ ys) x d h =
    let e : length (o ∷ p ∷ ps) - 1 ≡ suc (length (p ∷ ps) - 1) = omega arith in
    rw e (last_shown (p ∷ ps) ys x d h.1)

-- the outcome of the last event is the last one
pub last_is : (w : World) (setup : Setup) (events : List Event) (event : Event) (d : Outcome) → StandsFor w setup (events ++ event ∷ [])
    → Shows (get_or w.outcomes.items (length w.outcomes.items - 1) d) (step setup (run setup events) event).outcome
last_is w setup events event d h =
    last_shown w.outcomes.items (outcomes_from setup (empty setup) events) (step setup (run setup events) event).outcome d
    (subst (AreShown w.outcomes.items) (outcomes_more setup events event) h.shown)

-- ---- the beginning

-- two ends without a session, and a log of nothing, stand for the link as it begins
pub begun : (setup : Setup) (sides : BothEnds Side) (log : Log) → sockets_of sides.a ≡ pair_of setup A → sockets_of sides.b ≡ pair_of setup B
    → StandsSide sides.a (begins setup A) → StandsSide sides.b (begins setup B) → StandsLog log [] → StandsLink sides log setup (empty setup)
begun setup sides log a_pair b_pair a_is b_is log_is =
    record {
      pair_is = each (λ x d. pair_of setup x ≡ sockets_of d) sides (sym a_pair) (sym b_pair);
      side_is = each (λ x d. StandsSide d (side_of (empty setup) x)) sides a_is b_is;
      log_is = log_is;
    }
