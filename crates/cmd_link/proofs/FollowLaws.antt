-- Following a run event by event.
use Rattle.std.proofs.Common.{◌≡◌, inl, inr, ℕ, suc, ◌+◌, ◌^◌, ◌<◌, ◌≤◌, Bool, true, false, List, [], ◌∷◌, ◌++◌, length, length-append, None, refl, sym, ap, ◌∙◌, subst, arith, append_assoc, append-nil}
use Rattle.book_base.specs.declared.end.End.{End}
use Rattle.book_base.specs.declared.end.End.TheVariants.{A, B}
use Rattle.book_bgp.specs.Messages.{fault_in, message_front}
use Rattle.book_bgp.proofs.Fronts.{front_short}
use Rattle.book_bgp.proofs.Streams.{behind_none, none_before, fault_of, fault_behind}
use Rattle.bgp_messages.specs.Readers.{Reading, StandsFor, greatest_place, new_reading}
use Rattle.bgp_messages.proofs.Standing.{new_stands}
use Rattle.book_link.specs.declared.event.Event.{Event}
use Rattle.book_link.specs.declared.event.Event.TheVariants.{At, Dump}
use Rattle.book_link.specs.declared.event.Action.TheVariants.{Clock, Connect, Listen, Start, Give, Fill, Send, Resend, Deliver, Inject, Alter, Take, Close, Abort, AddRow, Withdraw}
use Rattle.book_link.specs.Outcomes as book
use Rattle.book_link.specs.Runs.{empty, run_from, run}
use Rattle.book_link.specs.Steps.{Stepped, step}
use Rattle.book_link.specs.Worlds.{Setup, Session, World, other, side, live}
use Rattle.book_link.specs.Reports.{summary}
use Rattle.both_ends.specs.declared.values.BothEnds.{BothEnds}
use Rattle.both_ends.specs.Values.{at, with_at}
use Rattle.both_ends.proofs.ValueLaws.{at_with_at, other_stays}
use Rattle.book_cmd_link.specs.BgpRuns.{Place as BookPlace, bgp_text, bgp_faults, bgp_lines_from, event_lines, faults_of, is_faulty, place_at, taken_by, taken_lines}
use Rattle.link_report.specs.declared.outcome.Outcome.{Outcome}
use Rattle.link_report.specs.declared.outcome.Outcome.TheVariants as outcome
use Rattle.link_report.specs.Outcomes.{Shows}
use Rattle.cmd_link.specs.declared.lines.Place.{Place}
use Rattle.cmd_link.specs.Places.{place_of}
use Rattle.cmd_link.specs.Follows.{Follows, IsHeard, is_done, renewed, taken_in, turn_of}
use Rattle.cmd_link.specs.declared.bgp_runs.Turn.TheVariants as turn
use Rattle.cmd_link.specs.Streams.{streams_of, streams, newest}
use Rattle.cmd_link.proofs.TakenLaws.{AllSame, Begins, Takes, changes}

-- ---- one more event

run_more : (setup : Setup) (w : World) (events : List Event) (event : Event) → run_from setup w (events ++ event ∷ []) ≡ (step setup (run_from setup w events) event).world
run_more setup w [] event = refl
run_more setup w (e ∷ events) event = run_more setup (step setup w e).world events event

lines_more : (setup : Setup) (n : ℕ) (w : World) (events : List Event) (event : Event)
    → bgp_lines_from setup n w (events ++ event ∷ []) ≡ bgp_lines_from setup n w events ++ event_lines (n + length events) event (run_from setup w events) (step setup (run_from setup w events) event).world
lines_more setup n w [] event =
    let v = (step setup w event).world in
    append-nil (event_lines n event w v) ∙ ap (λ k. event_lines k event w v) (omega arith)
lines_more setup n w (e ∷ events) event =
    let v = (step setup w e).world in
    let last = run_from setup v events in
    let more = lines_more setup (suc n) v events event in
    ap (λ l. event_lines n e w v ++ l) (more ∙ ap (λ k. bgp_lines_from setup (suc n) v events ++ event_lines k event last (step setup last event).world) (omega arith))
    ∙ sym (append_assoc (event_lines n e w v) (bgp_lines_from setup (suc n) v events) (event_lines (n + suc (length events)) event last (step setup last event).world))

-- ---- the faults of streams

abbrev pub faults_in : List (List ℕ) → ℕ
faults_in [] = 0
faults_in (b ∷ bs) = is_faulty (fault_in b) + faults_in bs

faults_of_streams : (ss : List Session) → faults_of ss ≡ faults_in (streams_of ss)
faults_of_streams [] = refl
faults_of_streams (s ∷ ss) = ap (λ n. is_faulty (fault_in s.state.taken) + n) (faults_of_streams ss)

-- the faults of both ends
pub faults_both : (w : World) → bgp_faults w ≡ faults_in (streams w A) + faults_in (streams w B)
faults_both w = let a = faults_of_streams w.a.sessions in let b = faults_of_streams w.b.sessions in omega (arith, a, b)

pub faults_at : (w : World) (e : End) → bgp_faults w ≡ faults_in (streams w e) + faults_in (streams w (other e))
faults_at w A = faults_both w
faults_at w B = let both = faults_both w in omega (arith, both)

pub sound_start : fault_in [] ≡ None
sound_start =
    let here = front_short [] (omega arith) in
    fault_behind [] ∙ (ap (λ (l : List ℕ). fault_of (message_front l)) (behind_none [] (none_before [] here)) ∙ ap fault_of here)

-- ---- outcomes that are shown

the_bytes : (a b : List ℕ) (s t : Bool) → book.Took a s ≡ book.Took b t → a ≡ b
the_bytes a b s t e = cc

shows_took : (o : Outcome) (bytes : List ℕ) (shown : Bool) → Shows o (book.Took bytes shown) → taken_in o ≡ bytes
shows_took (outcome.Took piece s) bytes shown h = sym (the_bytes bytes piece shown s h)
shows_took (outcome.Sent name m) bytes shown h = absurd (let e = h.1 in cc)
shows_took _ bytes shown h = absurd (cc)

shows_none : (o : Outcome) (is : book.Outcome) → Shows o is → is ≡ book.NoSession → taken_in o ≡ []
shows_none (outcome.Took piece s) is h none = absurd (cc)
shows_none _ is h none = refl

shows_done : (o : Outcome) (is : book.Outcome) → Shows o is → is ≡ book.Done → is_done o ≡ true
shows_done outcome.Done is h done = refl
shows_done (outcome.Sent name m) is h done = absurd (let e = h.1 in cc)
shows_done _ is h done = absurd (cc)

shows_used : (o : Outcome) (is : book.Outcome) → Shows o is → is ≡ book.IsnUsed → is_done o ≡ false
shows_used outcome.Done is h used = absurd (cc)
shows_used _ is h used = refl

-- ---- what follows an event

pub newest_taken : (ss : List Session) → taken_by (live ss) ≡ newest (streams_of ss)
newest_taken [] = refl
newest_taken (s ∷ ss) = refl

pub both : (P : End → Type 0) (e : End) → P e → P (other e) → (f : End) → P f
both P A one two A = one
both P A one two B = two
both P B one two A = two
both P B one two B = one

-- the readers stand for the ends of this world, the text and the count are those of it
record Reached (setup : Setup) (events : List Event) (event : Event) (v : World) (readers : BothEnds Reading) (text : List ℕ) (faults : ℕ) : Type 0 where
  stands : (e : End) → StandsFor (at e readers) (newest (streams v e))
  text_is : text ≡ bgp_lines_from setup 1 (empty setup) events ++ event_lines (suc (length events)) event (run setup events) v
  faults_are : faults ≡ bgp_faults v

reaches : (setup : Setup) (events : List Event) (event : Event) (readers : BothEnds Reading) (text : List ℕ) (faults : ℕ)
    → Reached setup events event (step setup (run setup events) event).world readers text faults → Follows setup (events ++ event ∷ []) readers text faults
reaches setup events event readers text faults r =
    let w = run setup events in
    let v = (step setup w event).world in
    let is : run setup (events ++ event ∷ []) ≡ v = run_more setup (empty setup) events event in
    let lines = lines_more setup 1 (empty setup) events event in
    let number : 1 + length events ≡ suc (length events) = omega arith in
    record {
      stands = λ e. subst (λ (u : World). StandsFor (at e readers) (newest (streams u e))) (sym is) (r.stands e);
      text_is = r.text_is ∙ sym (lines ∙ ap (λ n. bgp_lines_from setup 1 (empty setup) events ++ event_lines n event w v) number);
      faults_are = r.faults_are ∙ sym (ap bgp_faults is);
    }

-- an event that changes nothing that was delivered
still : (setup : Setup) (events : List Event) (event : Event) (readers : BothEnds Reading) (text : List ℕ) (faults : ℕ) → Follows setup events readers text faults
    → AllSame (run setup events) (step setup (run setup events) event).world
    → event_lines (suc (length events)) event (run setup events) (step setup (run setup events) event).world ≡ [] → Follows setup (events ++ event ∷ []) readers text faults
still setup events event readers text faults f same none =
    let w = run setup events in
    let v = (step setup w event).world in
    let ones = faults_both w in
    let twos = faults_both v in
    let at_a = ap faults_in (same A) in
    let at_b = ap faults_in (same B) in
    let were = f.faults_are in
    reaches setup events event readers text faults (record {
      stands = λ e. subst (StandsFor (at e readers)) (ap newest (sym (same e))) (f.stands e);
      text_is = f.text_is ∙ sym (append-nil (bgp_lines_from setup 1 (empty setup) events)) ∙ ap (λ l. bgp_lines_from setup 1 (empty setup) events ++ l) (sym none);
      faults_are = omega (arith, ones, twos, at_a, at_b, were);
    })

-- a session of an end began, or its number was used before
begun : (setup : Setup) (events : List Event) (event : Event) (e : End) (o : Outcome) (readers next : BothEnds Reading) (text : List ℕ) (faults : ℕ) → Follows setup events readers text faults
    → Begins e (run setup events) (step setup (run setup events) event) → Shows o (step setup (run setup events) event).outcome
    → event_lines (suc (length events)) event (run setup events) (step setup (run setup events) event).world ≡ []
    → at e next ≡ renewed (is_done o) (at e readers) → at (other e) next ≡ at (other e) readers
    → Follows setup (events ++ event ∷ []) next text faults
begun setup events event e o readers next text faults f k h none here there =
    let w = run setup events in
    let s = step setup w event in
    let v = s.world in
    let P : End → Type 0 = λ x. StandsFor (at x next) (newest (streams v x)) in
    let near : P e × (faults_in (streams v e) ≡ faults_in (streams w e)) = elim k.either [
      | inl done ↦
          let is = k.new done in
          let r : at e next ≡ new_reading = here ∙ ap (λ t. renewed t (at e readers)) (shows_done o s.outcome h done) in
          let zeros : is_faulty (fault_in []) ≡ 0 = ap is_faulty sound_start in
          let count = ap faults_in is in
          (subst (λ x. StandsFor x (newest (streams v e))) (sym r) (subst (StandsFor new_reading) (ap newest (sym is)) new_stands), omega (arith, count, zeros))
      | inr used ↦
          let is = k.used used in
          let r : at e next ≡ at e readers = here ∙ ap (λ t. renewed t (at e readers)) (shows_used o s.outcome h used) in
          (subst (λ x. StandsFor x (newest (streams v e))) (sym r) (subst (StandsFor (at e readers)) (ap newest (sym is)) (f.stands e)), ap faults_in is)
    ] in
    let far : P (other e) = subst (λ x. StandsFor x (newest (streams v (other e)))) (sym there) (subst (StandsFor (at (other e) readers)) (ap newest (sym k.others)) (f.stands (other e))) in
    let ones = faults_at w e in
    let twos = faults_at v e in
    let same = near.1 in
    let others = ap faults_in k.others in
    let were = f.faults_are in
    reaches setup events event next text faults (record {
      stands = both P e near.0 far;
      text_is = f.text_is ∙ sym (append-nil (bgp_lines_from setup 1 (empty setup) events)) ∙ ap (λ l. bgp_lines_from setup 1 (empty setup) events ++ l) (sym none);
      faults_are = omega (arith, ones, twos, same, others, were);
    })

-- what a take does to the stream of the live session
record Grown (w v : World) (e : End) (piece : List ℕ) : Type 0 where
  delivered : newest (streams v e) ≡ newest (streams w e) ++ piece
  many : length (streams v e) ≡ length (streams w e)
  counted : faults_in (streams v e) + is_faulty (fault_in (newest (streams w e))) ≡ faults_in (streams w e) + is_faulty (fault_in (newest (streams v e)))

grown : (w : World) (e : End) (s : Stepped) (o : Outcome) → Takes e w s → Shows o s.outcome → Grown w s.world e (taken_in o)
grown w e s o k h = elim k.either [
  | inl none ↦
      let is = k.none none in
      let nothing : taken_in o ≡ [] = shows_none o s.outcome h none in
      let count = ap faults_in is in
      let new = ap (λ l. is_faulty (fault_in (newest l))) is in
      record {
        delivered = ap newest is ∙ sym (append-nil (newest (streams w e))) ∙ ap (λ l. newest (streams w e) ++ l) (sym nothing);
        many = ap length is;
        counted = omega (arith, count, new);
      }
  | inr (bytes, shown, took) ↦
      let d = k.some bytes shown took in
      let piece : taken_in o ≡ bytes = shows_took o bytes shown (subst (Shows o) took h) in
      let before = d.before in
      let after = d.after in
      let one = ap faults_in before in
      let two = ap faults_in after in
      let three = ap (λ l. is_faulty (fault_in (newest l))) before in
      let four = ap (λ l. is_faulty (fault_in (newest l))) after in
      record {
        delivered = ap newest after ∙ ap (λ l. d.old ++ l) (sym piece) ∙ ap (λ l. l ++ taken_in o) (sym (ap newest before));
        many = ap length after ∙ sym (ap length before);
        counted = omega (arith, one, two, three, four);
      }
]

-- the live session of an end was asked for bytes
taken : (setup : Setup) (events : List Event) (e : End) (count : ℕ) (o : Outcome) (p : Place) (readers next : BothEnds Reading) (text next_text : List ℕ) (faults next_faults : ℕ)
    → Follows setup events readers text faults → Shows o (step setup (run setup events) (At e (Take count))).outcome → place_of p ≡ place_at (run setup events) e (suc (length events))
    → IsHeard p (newest (streams (run setup events) e)) (taken_in o) text next_text (at e next) faults next_faults
    → at (other e) next ≡ at (other e) readers → Follows setup (events ++ At e (Take count) ∷ []) next next_text next_faults
taken setup events e count o p readers next text next_text faults next_faults f h place heard there =
    let w = run setup events in
    let s = step setup w (At e (Take count)) in
    let v = s.world in
    let k : Takes e w s = changes setup w (At e (Take count)) in
    let g = grown w e s o k h in
    let old = newest (streams w e) in
    let P : End → Type 0 = λ x. StandsFor (at x next) (newest (streams v x)) in
    let near : P e = subst (StandsFor (at e next)) (sym g.delivered) heard.stands in
    let far : P (other e) = subst (λ x. StandsFor x (newest (streams v (other e)))) (sym there) (subst (StandsFor (at (other e) readers)) (ap newest (sym k.others)) (f.stands (other e))) in
    let n = suc (length events) in
    let was : old ≡ taken_by (live (side w e).sessions) = sym (newest_taken (side w e).sessions) in
    let is : old ++ taken_in o ≡ taken_by (live (side v e).sessions) = sym g.delivered ∙ sym (newest_taken (side v e).sessions) in
    let lines : taken_lines (place_of p) old (old ++ taken_in o) ≡ event_lines n (At e (Take count)) w v =
    ap (λ q. taken_lines q old (old ++ taken_in o)) place ∙ ap (λ l. taken_lines (place_at w e n) l (old ++ taken_in o)) was
    ∙ ap (taken_lines (place_at w e n) (taken_by (live (side w e).sessions))) is in
    let ones = faults_at w e in
    let twos = faults_at v e in
    let counted = g.counted in
    let others = ap faults_in k.others in
    let were = f.faults_are in
    let more = heard.faults in
    let same = ap (λ l. is_faulty (fault_in l)) g.delivered in
    reaches setup events (At e (Take count)) next next_text next_faults (record {
      stands = both P e near far;
      text_is = heard.text ∙ ap (λ l. l ++ taken_lines (place_of p) old (old ++ taken_in o)) f.text_is ∙ ap (λ l. bgp_lines_from setup 1 (empty setup) events ++ l) lines;
      faults_are = omega (arith, ones, twos, counted, others, were, more, same);
    })

-- ---- by what an event may bring

-- an event by which a session of this end begins
record BeginsBy (e : End) (setup : Setup) (w : World) (event : Event) : Type 0 where
  how : Begins e w (step setup w event)
  none : (n : ℕ) (v : World) → event_lines n event w v ≡ []

the_begun : (e f : End) → turn.Begins e ≡ turn.Begins f → e ≡ f
the_begun e f is = cc

the_taker : (e f : End) → turn.Takes e ≡ turn.Takes f → e ≡ f
the_taker e f is = cc

begins_by : (e : End) (setup : Setup) (w : World) (event : Event) → turn_of event ≡ turn.Begins e → BeginsBy e setup w event
begins_by e setup w (At f (Connect isn)) is =
    let same = the_begun f e is in record { how = subst (λ x. Begins x w (step setup w (At f (Connect isn)))) same (changes setup w (At f (Connect isn))); none = λ n v. refl }
begins_by e setup w (At f (Listen isn)) is =
    let same = the_begun f e is in record { how = subst (λ x. Begins x w (step setup w (At f (Listen isn)))) same (changes setup w (At f (Listen isn))); none = λ n v. refl }
begins_by e setup w (At f (Start isn peer)) is =
    let same = the_begun f e is in record { how = subst (λ x. Begins x w (step setup w (At f (Start isn peer)))) same (changes setup w (At f (Start isn peer))); none = λ n v. refl }
begins_by e setup w _ is = absurd (cc)

-- an event by which the live session of this end is asked for bytes
takes_by : (e : End) (event : Event) → turn_of event ≡ turn.Takes e → (count : ℕ) × (event ≡ At e (Take count))
takes_by e (At f (Take count)) is = (count, ap (λ x. At x (Take count)) (the_taker f e is))
takes_by e _ is = absurd (cc)

-- another event
record LeavesBy (setup : Setup) (w : World) (event : Event) : Type 0 where
  same : AllSame w (step setup w event).world
  none : (n : ℕ) (v : World) → event_lines n event w v ≡ []

leaves_by : (setup : Setup) (w : World) (event : Event) → turn_of event ≡ turn.Neither → LeavesBy setup w event
leaves_by setup w (At f (Connect isn)) is = absurd (cc)
leaves_by setup w (At f (Listen isn)) is = absurd (cc)
leaves_by setup w (At f (Start isn peer)) is = absurd (cc)
leaves_by setup w (At f (Take count)) is = absurd (cc)
leaves_by setup w (At e (Clock seconds)) is = record { same = changes setup w (At e (Clock seconds)); none = λ n v. refl }
leaves_by setup w (At e (Give piece)) is = record { same = changes setup w (At e (Give piece)); none = λ n v. refl }
leaves_by setup w (At e (Fill count byte)) is = record { same = changes setup w (At e (Fill count byte)); none = λ n v. refl }
leaves_by setup w (At e Send) is = record { same = changes setup w (At e Send); none = λ n v. refl }
leaves_by setup w (At e Resend) is = record { same = changes setup w (At e Resend); none = λ n v. refl }
leaves_by setup w (At e (Deliver name)) is = record { same = changes setup w (At e (Deliver name)); none = λ n v. refl }
leaves_by setup w (At e (Inject bytes)) is = record { same = changes setup w (At e (Inject bytes)); none = λ n v. refl }
leaves_by setup w (At e (Alter name place mask fixing)) is = record { same = changes setup w (At e (Alter name place mask fixing)); none = λ n v. refl }
leaves_by setup w (At e Close) is = record { same = changes setup w (At e Close); none = λ n v. refl }
leaves_by setup w (At e Abort) is = record { same = changes setup w (At e Abort); none = λ n v. refl }
leaves_by setup w (At e (AddRow row)) is = record { same = changes setup w (At e (AddRow row)); none = λ n v. refl }
leaves_by setup w (At e (Withdraw number)) is = record { same = changes setup w (At e (Withdraw number)); none = λ n v. refl }
leaves_by setup w (Dump name) is = record { same = changes setup w (Dump name); none = λ n v. refl }

pub follows_begin : (setup : Setup) (events : List Event) (event : Event) (e : End) (o : Outcome) (readers next : BothEnds Reading) (text : List ℕ) (faults : ℕ) → Follows setup events readers text faults
    → turn_of event ≡ turn.Begins e → Shows o (step setup (run setup events) event).outcome
    → at e next ≡ renewed (is_done o) (at e readers) → at (other e) next ≡ at (other e) readers
    → Follows setup (events ++ event ∷ []) next text faults
follows_begin setup events event e o readers next text faults f is h here there =
    let w = run setup events in
    let k = begins_by e setup w event is in
    begun setup events event e o readers next text faults f k.how h (k.none (suc (length events)) (step setup w event).world) here there

pub follows_take : (setup : Setup) (events : List Event) (event : Event) (e : End) (o : Outcome) (p : Place) (readers next : BothEnds Reading) (text next_text : List ℕ) (faults next_faults : ℕ)
    → Follows setup events readers text faults → turn_of event ≡ turn.Takes e → Shows o (step setup (run setup events) event).outcome
    → place_of p ≡ place_at (run setup events) e (suc (length events))
    → IsHeard p (newest (streams (run setup events) e)) (taken_in o) text next_text (at e next) faults next_faults
    → at (other e) next ≡ at (other e) readers → Follows setup (events ++ event ∷ []) next next_text next_faults
follows_take setup events event e o p readers next text next_text faults next_faults f is h place heard there =
    let t = takes_by e event is in
    let same : event ≡ At e (Take t.0) = t.1 in
    subst (λ x. Follows setup (events ++ x ∷ []) next next_text next_faults) (sym same)
    (taken setup events e t.0 o p readers next text next_text faults next_faults f (subst (λ x. Shows o (step setup (run setup events) x).outcome) same h) place heard there)

pub follows_other : (setup : Setup) (events : List Event) (event : Event) (readers : BothEnds Reading) (text : List ℕ) (faults : ℕ) → Follows setup events readers text faults → turn_of event ≡ turn.Neither
    → Follows setup (events ++ event ∷ []) readers text faults
follows_other setup events event readers text faults f is =
    let w = run setup events in
    let k = leaves_by setup w event is in
    still setup events event readers text faults f k.same (k.none (suc (length events)) (step setup w event).world)

-- ---- what the code asks for

abbrev place_with : ℕ → End → ℕ → BookPlace
place_with n e s = record { number = n; end = e; session = s }

as_many : (ss : List Session) → length (streams_of ss) ≡ length ss
as_many [] = refl
as_many (s ∷ ss) = ap suc (as_many ss)

pub follows_begun : (setup : Setup) (events : List Event) (event : Event) (e : End) (o : Outcome) (began : Bool) (readers : BothEnds Reading) (text : List ℕ) (faults : ℕ)
    → Follows setup events readers text faults → turn_of event ≡ turn.Begins e → Shows o (step setup (run setup events) event).outcome → began ≡ is_done o
    → Follows setup (events ++ event ∷ []) (with_at e (renewed began (at e readers)) readers) text faults
follows_begun setup events event e o began readers text faults f is h began_is =
    let next = renewed began (at e readers) in
    follows_begin setup events event e o readers (with_at e next readers) text faults f is h (at_with_at e next readers ∙ ap (λ t. renewed t (at e readers)) began_is) (other_stays e next readers)

-- what is known of a take: where it is from, and how much the session has delivered after it
pub record IsTake (setup : Setup) (events : List Event) (event : Event) (e : End) (o : Outcome) (p : Place) (piece : List ℕ) (delivered : ℕ) : Type 0 where
  pub is : turn_of event ≡ turn.Takes e
  pub shows : Shows o (step setup (run setup events) event).outcome
  pub piece_is : piece ≡ taken_in o
  pub number : p.number ≡ suc (length events)
  pub end : p.end ≡ e
  pub session : p.session ≡ length (side (run setup (events ++ event ∷ [])) e).sessions
  pub delivered_is : delivered ≡ length (taken_by (live (side (run setup (events ++ event ∷ [])) e).sessions))
  pub small : delivered < 2 ^ 64

-- its place is that of the definitions, and all that is delivered can be counted
record Placed (setup : Setup) (events : List Event) (e : End) (p : Place) (piece : List ℕ) : Type 0 where
  place : place_of p ≡ place_at (run setup events) e (suc (length events))
  small : length (newest (streams (run setup events) e)) + length piece ≤ greatest_place

same_place : (n m s t : ℕ) (e f : End) → n ≡ m → e ≡ f → s ≡ t → place_with n e s ≡ place_with m f t
same_place n m s t e f a b c = ap (λ k. place_with k e s) a ∙ ap (λ x. place_with m x s) b ∙ ap (place_with m f) c

placed_by : (setup : Setup) (events : List Event) (e : End) (count : ℕ) (o : Outcome) (p : Place) (piece : List ℕ) (delivered : ℕ) → IsTake setup events (At e (Take count)) e o p piece delivered
    → Placed setup events e p piece
placed_by setup events e count o p piece delivered t =
    let w = run setup events in
    let v = (step setup w (At e (Take count))).world in
    let g = grown w e (step setup w (At e (Take count))) o (changes setup w (At e (Take count))) t.shows in
    let is : run setup (events ++ At e (Take count) ∷ []) ≡ v = run_more setup (empty setup) events (At e (Take count)) in
    let session : p.session ≡ length (side w e).sessions =
    t.session ∙ ap (λ u. length (side u e).sessions) is ∙ sym (as_many (side v e).sessions) ∙ g.many ∙ as_many (side w e).sessions in
    let all : delivered ≡ length (newest (streams w e) ++ taken_in o) =
    t.delivered_is ∙ ap (λ u. length (taken_by (live (side u e).sessions))) is ∙ ap length (newest_taken (side v e).sessions) ∙ ap length g.delivered in
    let sum = length-append (newest (streams w e)) (taken_in o) in
    let size = ap length t.piece_is in
    let small = t.small in
    record { place = same_place p.number (suc (length events)) p.session (length (side w e).sessions) p.end e t.number t.end session; small = omega (arith, all, sum, size, small) }

placed : (setup : Setup) (events : List Event) (event : Event) (e : End) (o : Outcome) (p : Place) (piece : List ℕ) (delivered : ℕ) → IsTake setup events event e o p piece delivered
    → Placed setup events e p piece
placed setup events event e o p piece delivered t =
    let k = takes_by e event t.is in
    placed_by setup events e k.0 o p piece delivered (subst (λ x. IsTake setup events x e o p piece delivered) k.1 t)

take_at : (setup : Setup) (events : List Event) (event : Event) (e : End) (o : Outcome) (p : Place) (piece : List ℕ) (delivered : ℕ) (readers next : BothEnds Reading) (text next_text : List ℕ) (faults next_faults : ℕ)
    → IsTake setup events event e o p piece delivered → Follows setup events readers text faults
    → ((bytes : List ℕ) → StandsFor (at e readers) bytes → length bytes + length piece ≤ greatest_place → IsHeard p bytes piece text next_text (at e next) faults next_faults)
    → at (other e) next ≡ at (other e) readers → Follows setup (events ++ event ∷ []) next next_text next_faults
take_at setup events event e o p piece delivered readers next text next_text faults next_faults t f heard there =
    let k = placed setup events event e o p piece delivered t in
    let old = newest (streams (run setup events) e) in
    let h : IsHeard p old (taken_in o) text next_text (at e next) faults next_faults =
    subst (λ l. IsHeard p old l text next_text (at e next) faults next_faults) t.piece_is (heard old (f.stands e) k.small) in
    follows_take setup events event e o p readers next text next_text faults next_faults f t.is t.shows k.place h there

pub follows_taken : (setup : Setup) (events : List Event) (event : Event) (e : End) (o : Outcome) (p : Place) (piece : List ℕ) (delivered : ℕ) (readers : BothEnds Reading) (next : Reading) (text next_text : List ℕ) (faults next_faults : ℕ)
    → IsTake setup events event e o p piece delivered → Follows setup events readers text faults
    → ((bytes : List ℕ) → StandsFor (at e readers) bytes → length bytes + length piece ≤ greatest_place → IsHeard p bytes piece text next_text next faults next_faults)
    → Follows setup (events ++ event ∷ []) (with_at e next readers) next_text next_faults
follows_taken setup events event e o p piece delivered readers next text next_text faults next_faults t f heard =
    let is = at_with_at e next readers in
    take_at setup events event e o p piece delivered readers (with_at e next readers) text next_text faults next_faults t f
    (λ bytes stands small. subst (λ r. IsHeard p bytes piece text next_text r faults next_faults) (sym is) (heard bytes stands small)) (other_stays e next readers)

-- no event yet
pub starts : (setup : Setup) (readers : BothEnds Reading) → readers.a ≡ new_reading → readers.b ≡ new_reading → Follows setup [] readers [] 0
starts setup readers is_a is_b =
    record {
      stands = both (λ e. StandsFor (at e readers) (newest (streams (empty setup) e))) A (subst (λ r. StandsFor r []) (sym is_a) new_stands) (subst (λ r. StandsFor r []) (sym is_b) new_stands);
      text_is = refl;
      faults_are = refl;
    }

-- the reader of an end after the run
pub reader_of : (setup : Setup) (events : List Event) (e : End) (readers : BothEnds Reading) (text : List ℕ) (faults : ℕ) → Follows setup events readers text faults
    → StandsFor (at e readers) (taken_by (live (side (run setup events) e).sessions))
reader_of setup events e readers text faults f = subst (StandsFor (at e readers)) (sym (newest_taken (side (run setup events) e).sessions)) (f.stands e)

-- the text of the run
pub whole_text : (setup : Setup) (events : List Event) (readers : BothEnds Reading) (text whole end : List ℕ) (faults : ℕ) → Follows setup events readers text faults → whole ≡ text ++ end → end ≡ summary (run setup events)
    → whole ≡ bgp_text setup events
unfolding bgp_text
whole_text setup events readers text whole end faults f is end_is = is ∙ ap (λ l. l ++ end) f.text_is ∙ ap (λ l. bgp_lines_from setup 1 (empty setup) events ++ l) end_is
