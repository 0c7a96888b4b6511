-- The calls of a link with timers are the expansions of the definitions.
use Rattle.std.proofs.Common.{◌≡◌, ℕ, zero, suc, ◌+◌, ◌<◌, ◌≤◌, ◌==◌, ◌&&◌, nat_lt, cond, min, Bool, true, false, List, [], ◌∷◌, ◌++◌, length, drop, get_or, Option, Some, None, Ok, Err}
use Rattle.std.proofs.Common.{refl, sym, ap, ◌∙◌, arith, length-append, add-one}
use Rattle.std.proofs.Math.Seq.{drop-cons}
use Rattle.book_base.specs.declared.end.End.{End}
use Rattle.book_base.specs.declared.end.End.TheVariants.{A, B}
use Rattle.book_keys.specs.Lifetimes.{greatest_time}
use Rattle.book_link.specs.declared.event.Event.{Event}
use Rattle.book_link.specs.declared.event.Event.TheVariants as event
use Rattle.book_link.specs.declared.event.Action.TheVariants as action
use Rattle.book_link.specs.declared.event.Transmission.{Transmission}
use Rattle.book_link.specs.Outcomes.{Outcome}
use Rattle.book_link.specs.Runs.{outcomes_from, run, run_from, empty}
use Rattle.book_link.specs.Steps.{step}
use Rattle.book_link.specs.Worlds.{Setup, World as BookWorld, side}
use Rattle.book_cmd_link.specs.declared.timed.TimedEvent.{TimedEvent}
use Rattle.book_cmd_link.specs.declared.timed.TimedEvent.TheVariants.{Wait}
use Rattle.book_cmd_link.specs.TimedRuns.{most_events}
use Rattle.book_cmd_link.specs.TimedRuns as book
use Rattle.book_link.specs.SendFronts.{SendFront, front_at}
use Rattle.both_ends.specs.Values.{at, with_at}
use Rattle.link_report.specs.declared.outcome.Outcome.{Outcome as ToldOutcome}
use Rattle.link_report.specs.Outcomes.{AreShown}
use Rattle.link_world.specs.declared.world.World.{World}
use Rattle.link_world.specs.Stands.{StandsFor}
use Rattle.cmd_link.specs.declared.change.Change.{Change}
use Rattle.cmd_link.specs.declared.timed_link.Link.{Link}
use Rattle.cmd_link.specs.declared.unfinished.Unfinished.{Unfinished}
use Rattle.cmd_link.specs.declared.unfinished.Unfinished.TheVariants as unfinished
use Rattle.cmd_link.specs.declared.watch.Watch.{Watch}
use Rattle.cmd_link.specs.Changes.{changed}
use Rattle.cmd_link.specs.Links.{Does, Makes, expands, expires, happens, progress, steps, untils, up_to, waits}
use Rattle.cmd_link.specs.Watches.{expired_at, front_seen, seen}
use Rattle.cmd_link.proofs.Expansions.{Same, all_left, chained, last_call, nothing, one_more}

run_from_more : (setup : Setup) (w : BookWorld) (past : List Event) (e : Event) → run_from setup w (past ++ e ∷ []) ≡ (step setup (run_from setup w past) e).world
run_from_more setup w [] e = refl
run_from_more setup w (first ∷ past) e = run_from_more setup (step setup w first).world past e

-- one event more
pub run_more : (setup : Setup) (past : List Event) (e : Event) → run setup (past ++ e ∷ []) ≡ (step setup (run setup past) e).world
run_more setup past e = run_from_more setup (empty setup) past e

outcomes_length : (setup : Setup) (w : BookWorld) (past : List Event) → length (outcomes_from setup w past) ≡ length past
outcomes_length setup w [] = refl
outcomes_length setup w (e ∷ past) = ap suc (outcomes_length setup (step setup w e).world past)

shown_length : (shown : List ToldOutcome) (all : List Outcome) → AreShown shown all → length all ≡ length shown
shown_length [] [] h = refl
shown_length [] (is ∷ after) h = absurd h
shown_length (x ∷ shown) [] h = absurd h
shown_length (x ∷ shown) (is ∷ after) h = ap suc (shown_length shown after h.1)

-- as many events as outcomes
pub past_length : (setup : Setup) (past : List Event) (shown : List ToldOutcome) → AreShown shown (outcomes_from setup (empty setup) past)
    → length past ≡ length shown
past_length setup past shown h = sym (outcomes_length setup (empty setup) past) ∙ shown_length shown _ h

-- what an event changed at its end is told
pub record Tells (c : Change) (setup : Setup) (past : List Event) (x : Event) (e : End) : Type 0 where
  pub begins : c.begins ≡ book.is_begin x
  pub done : c.done ≡ book.is_done (step setup (run setup past) x).outcome
  pub transmission : c.transmission ≡ book.transmission_of x
  pub sent : c.sent ≡ book.is_sent (step setup (run setup past) x).outcome
  pub reading : c.reading ≡ (side (run setup (past ++ x ∷ [])) e).clock
  pub old : front_seen c.old ≡ front_at (run setup past) e
  pub new : front_seen c.new ≡ front_at (run setup (past ++ x ∷ [])) e

change_by : (begins done sent begins' done' sent' : Bool) (which which' : Transmission) (r r' : ℕ) (old new old' new' : Option SendFront) (w : book.Watch)
    → begins ≡ begins' → done ≡ done' → which ≡ which' → sent ≡ sent' → r ≡ r' → old ≡ old' → new ≡ new'
    → cond (begins && done) book.new_watch (book.untimed_by which sent (book.watch_by r which old new w))
    ≡ cond (begins' && done') book.new_watch (book.untimed_by which' sent' (book.watch_by r' which' old' new' w))
change_by begins done sent begins' done' sent' which which' r r' old new old' new' w a b c d e f g = rw (a, b, c, d, e, f, g) refl

change_is : (c : Change) (setup : Setup) (past : List Event) (x : Event) (e : End) (w : book.Watch) → Tells c setup past x e
    → changed c w ≡ book.watch_after (run setup past) x e (step setup (run setup past) x) w
change_is c setup past x e w t =
    let more = run_more setup past x in
    change_by c.begins c.done c.sent _ _ _ c.transmission _ c.reading _ (front_seen c.old) (front_seen c.new) _ _ w t.begins t.done t.transmission t.sent
    (t.reading ∙ ap (λ (v : BookWorld). (side v e).clock) more) t.old (t.new ∙ ap (λ (v : BookWorld). front_at v e) more)

-- the link after an event of an end
abbrev pub after_at : Link → World → End → Watch → Link
after_at l world e w = record { world = world; watches = with_at e w l.watches }

plain_at : (l : Link) (setup : Setup) (past : List Event) (x : Event) (e : End) (world : World) (w : Watch) → book.end_of_event x ≡ Some e
    → seen w ≡ book.watch_after (run setup past) x e (step setup (run setup past) x) (seen (at e l.watches))
    → progress (after_at l world e w) setup (past ++ x ∷ []) ≡ book.plain setup (progress l setup past) x
plain_at l setup past x A world w here is = rw (here, is, run_more setup past x) refl
plain_at l setup past x B world w here is = rw (here, is, run_more setup past x) refl

one_longer : (past : List Event) (x : Event) → length past < most_events → length (past ++ x ∷ []) ≤ most_events
one_longer past x h = omega (arith, length-append past (x ∷ []))

-- an event of an end is stepped through
pub steps_at : (l : Link) (x : Event) (e : End) (world : World) (w : Watch) (c : Change) → book.end_of_event x ≡ Some e
    → ((setup : Setup) (past : List Event) → StandsFor l.world setup past → StandsFor world setup (past ++ x ∷ []))
    → ((setup : Setup) (past : List Event) → StandsFor l.world setup past → length past < most_events)
    → ((setup : Setup) (past : List Event) → StandsFor l.world setup past → Tells c setup past x e)
    → seen w ≡ changed c (seen (at e l.watches)) → Does (steps x) l (after_at l world e w) (Ok tt)
steps_at l x e world w c here stood few told is = λ setup past h.
    record {
      stands = record { world_is = stood setup past h.world_is; few = one_longer past x (few setup past h.world_is) };
      progress_is = plain_at l setup past x e world w here (is ∙ change_is c setup past x e (seen (at e l.watches)) (told setup past h.world_is));
    }

plain_nowhere : (l : Link) (setup : Setup) (past : List Event) (x : Event) (world : World) → book.end_of_event x ≡ None
    → progress (record { world = world; watches = l.watches }) setup (past ++ x ∷ []) ≡ book.plain setup (progress l setup past) x
plain_nowhere l setup past x world here = rw (here, run_more setup past x) refl

-- an event of neither end is stepped through
pub steps_nowhere : (l : Link) (x : Event) (world : World) → book.end_of_event x ≡ None
    → ((setup : Setup) (past : List Event) → StandsFor l.world setup past → StandsFor world setup (past ++ x ∷ []))
    → ((setup : Setup) (past : List Event) → StandsFor l.world setup past → length past < most_events)
    → Does (steps x) l (record { world = world; watches = l.watches }) (Ok tt)
steps_nowhere l x world here stood few = λ setup past h.
    record {
      stands = record { world_is = stood setup past h.world_is; few = one_longer past x (few setup past h.world_is) };
      progress_is = plain_nowhere l setup past x world here;
    }

-- the plain events are too many with this one
pub steps_too_many : (l next : Link) (x : Event) → ((setup : Setup) (past : List Event) → StandsFor l.world setup past → most_events ≤ length past)
    → Does (steps x) l next (Err unfinished.TooMany)
steps_too_many l next x many = λ setup past h.
    let long = many setup past h.world_is in
    let one : length (past ++ x ∷ []) ≡ length past + 1 = length-append past (x ∷ []) in omega arith

-- the end's clock reads this, whatever events the link stands for
pub record Reads (l : Link) (e : End) (reading : ℕ) : Type 0 where
  pub reads : (setup : Setup) (past : List Event) → StandsFor l.world setup past → reading ≡ (side (run setup past) e).clock

until_there : (setup : Setup) (e : End) (to : ℕ) (p : book.Progress) (reading : ℕ) → reading ≡ book.reading_at p e → (reading == to) ≡ true
    → book.until setup e to p ≡ record { events = []; progress = p }
until_there setup e to p reading same is = let here : (book.reading_at p e == to) ≡ true = ap (λ (r : ℕ). r == to) (sym same) ∙ is in rw here refl

until_later : (setup : Setup) (e : End) (to : ℕ) (p : book.Progress) (reading : ℕ) → reading ≡ book.reading_at p e → (reading == to) ≡ false
    → book.until setup e to p ≡ steps (event.At e (action.Clock to)) setup p
until_later setup e to p reading same is = let here : (book.reading_at p e == to) ≡ false = ap (λ (r : ℕ). r == to) (sym same) ∙ is in rw here refl

-- the clock is there already
pub untils_there : (l : Link) (e : End) (to reading : ℕ) → Reads l e reading → (reading == to) ≡ true → Same (untils e to) nothing l
untils_there l e to reading r is = record { same = λ setup past h. until_there setup e to (progress l setup past) reading (r.reads setup past h.world_is) is }

-- the clock has to go there
pub untils_later : (l : Link) (e : End) (to reading : ℕ) → Reads l e reading → (reading == to) ≡ false → Same (untils e to) (steps (event.At e (action.Clock to))) l
untils_later l e to reading r is = record { same = λ setup past h. until_later setup e to (progress l setup past) reading (r.reads setup past h.world_is) is }

-- the end sends again, and its timer expired
abbrev pub sends_again : End → Makes
sends_again e setup p = record { events = event.At e action.Resend ∷ []; progress = book.after_expiry e (book.plain setup p (event.At e action.Resend)) }

pub expires_in_two : (e : End) (d : ℕ) (l : Link) → Same (expires e d) (chained (steps (event.At e (action.Clock d))) (sends_again e)) l
expires_in_two e d l = record { same = λ setup past h. refl }

expired_progress : (l : Link) (e : End) (w : Watch) (setup : Setup) (past : List Event) (reading : ℕ) → reading ≡ (side (run setup past) e).clock
    → seen w ≡ expired_at reading (seen (at e l.watches))
    → progress (after_at l l.world e w) setup past ≡ book.after_expiry e (progress l setup past)
expired_progress l A w setup past reading same is = rw (is, same) refl
expired_progress l B w setup past reading same is = rw (is, same) refl

-- the end sent again, and then its timer expired
pub sends_again_done : (before l : Link) (e : End) (w : Watch) (reading : ℕ) → Does (steps (event.At e action.Resend)) before l (Ok tt) → Reads l e reading
    → seen w ≡ expired_at reading (seen (at e l.watches)) → Does (sends_again e) before (after_at l l.world e w) (Ok tt)
sends_again_done before l e w reading did r is = λ setup past h.
    let reached = did setup past h in
    let here = past ++ event.At e action.Resend ∷ [] in
    record {
      stands = record { world_is = reached.stands.world_is; few = reached.stands.few };
      progress_is = expired_progress l e w setup here reading (r.reads setup here reached.stands.world_is) is ∙ ap (book.after_expiry e) reached.progress_is;
    }

-- the clock went to the expiry, the end sent again, and then its timer expired
pub expires_at : (l0 l1 l2 : Link) (e : End) (d : ℕ) (w : Watch) (reading : ℕ) → Does (steps (event.At e (action.Clock d))) l0 l1 (Ok tt)
    → Does (steps (event.At e action.Resend)) l1 l2 (Ok tt) → Reads l2 e reading → seen w ≡ expired_at reading (seen (at e l2.watches))
    → Does (expires e d) l0 (after_at l2 l2.world e w) (Ok tt)
expires_at l0 l1 l2 e d w reading one two r is =
    let left = one_more (expires e d) (expires e d) (steps (event.At e (action.Clock d))) (sends_again e) l0 l0 l1 (all_left (expires e d) l0) (expires_in_two e d l0) one in
    last_call (expires e d) (sends_again e) l0 l1 (after_at l2 l2.world e w) (Ok tt) left (sends_again_done l1 l2 e w reading two r is)

pub sends_again_stopped : (before l : Link) (e : End) (s : Unfinished) → Does (steps (event.At e action.Resend)) before l (Err s) → Does (sends_again e) before l (Err s)
sends_again_stopped before l e (unfinished.Memory error) did = tt
sends_again_stopped before l e unfinished.TooMany did = did

late_by : (b : Bool) (d : ℕ) → cond b None (Some d) ≡ None → b ≡ true
late_by true d h = refl
late_by false d h = absurd (cc h)

early_by : (b : Bool) (d at : ℕ) → cond b None (Some d) ≡ Some at → (b ≡ false) × (d ≡ at)
early_by true d at h = absurd (cc h)
early_by false d at h = (refl, cc h)

none_due : (to : ℕ) (expires : ℕ → book.Expanded) (others : book.Expanded) (next : Option ℕ) → up_to to next ≡ None → book.by_expiry next to expires others ≡ others
none_due to expires others None h = refl
none_due to expires others (Some d) h = rw (late_by (nat_lt to d) d h) refl

some_due : (to at : ℕ) (expires : ℕ → book.Expanded) (others : book.Expanded) (next : Option ℕ) → up_to to next ≡ Some at → book.by_expiry next to expires others ≡ expires at
some_due to at expires others None h = absurd (cc h)
some_due to at expires others (Some d) h = let s = early_by (nat_lt to d) d at h in rw s.0 (ap expires s.1)

waited_none : (n : ℕ) (setup : Setup) (e : End) (to : ℕ) (p : book.Progress) → up_to to (book.due_at p e) ≡ None → book.waited n setup e to p ≡ book.until setup e to p
waited_none zero setup e to p h = refl
waited_none (suc n) setup e to p h = none_due to (book.expired_then setup e p (book.waited n setup e to)) (book.until setup e to p) (book.due_at p e) h

waited_some : (n : ℕ) (setup : Setup) (e : End) (to at : ℕ) (p : book.Progress) → up_to to (book.due_at p e) ≡ Some at
    → book.waited (suc n) setup e to p ≡ chained (expires e at) (waits n e to) setup p
waited_some n setup e to at p h = some_due to at (book.expired_then setup e p (book.waited n setup e to)) (book.until setup e to p) (book.due_at p e) h

-- when the end's timer expires next, whatever events the link stands for
pub record Due (l : Link) (e : End) (to : ℕ) (next : Option ℕ) : Type 0 where
  pub time : (setup : Setup) (past : List Event) → StandsFor l.world setup past → next ≡ up_to to (book.due_at (progress l setup past) e)

-- the timer doesn't expire any more, or not often enough
pub waits_no_more : (l : Link) (n : ℕ) (e : End) (to : ℕ) → Due l e to None → Same (waits n e to) (untils e to) l
waits_no_more l n e to d = record {
  same = λ setup past h.
      waited_none n setup e to (progress l setup past) (sym (d.time setup past h.world_is));
}

pub waits_none : (l : Link) (n : ℕ) (e : End) (to : ℕ) → n ≡ 0 → Same (waits n e to) (untils e to) l
waits_none l n e to none = record {
  same = λ setup past h.
      ap (λ (k : ℕ). book.waited k setup e to (progress l setup past)) none;
}

-- the timer expires once more
pub waits_once_more : (l : Link) (m n : ℕ) (e : End) (to at : ℕ) → m ≡ suc n → Due l e to (Some at) → Same (waits m e to) (chained (expires e at) (waits n e to)) l
waits_once_more l m n e to at one d = record {
  same = λ setup past h.
      let p = progress l setup past in
      ap (λ (k : ℕ). book.waited k setup e to p) one ∙ waited_some n setup e to at p (sym (d.time setup past h.world_is));
}

-- a wait up to this reading
pub happens_waiting : (l : Link) (e : End) (count reading to : ℕ) → Reads l e reading → to ≡ min (reading + count) greatest_time
    → Same (happens (Wait e count)) (waits (count + 1) e to) l
happens_waiting l e count reading to r is = record {
  same = λ setup past h.
      let p = progress l setup past in
      let same : min (book.reading_at p e + count) greatest_time ≡ to =
      sym (is ∙ ap (λ (k : ℕ). min (k + count) greatest_time) (r.reads setup past h.world_is)) in
      ap (λ (k : ℕ). book.waited (count + 1) setup e k p) same;
}

-- one event more, and those behind it
pub expands_one_more : (l : Link) (all rest : List TimedEvent) (x : TimedEvent) → all ≡ x ∷ rest → Same (expands all) (chained (happens x) (expands rest)) l
expands_one_more l all rest x cut = record { same = λ setup past h. ap (λ (es : List TimedEvent). book.expand_from setup (progress l setup past) es) cut }

pub expands_none : (l : Link) (all : List TimedEvent) → all ≡ [] → Same (expands all) nothing l
expands_none l all none = record { same = λ setup past h. ap (λ (es : List TimedEvent). book.expand_from setup (progress l setup past) es) none }

-- the event at a place, and those behind it
pub cut_at : (all : List TimedEvent) (i : ℕ) (x : TimedEvent) → i < length all → x ≡ get_or all i x → drop i all ≡ x ∷ drop (i + 1) all
cut_at all i x low here = rw (add-one i) (drop-cons all i x low ∙ ap (λ (y : TimedEvent). y ∷ drop (suc i) all) (sym here))

-- behind the last event there is none
pub none_left : (all : List TimedEvent) (i : ℕ) → length all ≤ i → drop i all ≡ []
none_left [] zero h = refl
none_left [] (suc i) h = refl
none_left (x ∷ all) zero h = absurd (omega arith)
none_left (x ∷ all) (suc i) h = none_left all i (omega arith)
