-- The messages and the faults that a run's text tells are those of the bytes that were delivered.
use Rattle.std.proofs.Common.{◌≡◌, ◌⊎◌, inl, inr, ℕ, suc, ◌+◌, ◌<◌, ◌≤◌, ◌==◌, Bool, true, false, ◌&&◌, List, [], ◌∷◌, ◌++◌, length, Option, Some, None, if◌then◌else◌, refl, sym, ap, ◌∙◌, subst, arith, append_assoc, append-nil}
use Rattle.std.specs.Prelude.{⊤}
use Rattle.std.proofs.lemmas.Bool.Decides.{nat_tests}
use Rattle.std.specs.List.{AllByRecursion}
use Rattle.book_base.specs.declared.end.End.{End}
use Rattle.book_base.specs.declared.end.End.TheVariants.{A, B}
use Rattle.book_bgp.specs.Messages.{Message, messages, place_of as place_in, fault_in}
use Rattle.book_bgp.proofs.Fronts.{front_short}
use Rattle.book_bgp.proofs.Streams.{none_before}
use Rattle.book_endpoint.specs.States.{ready}
use Rattle.book_link.specs.declared.event.Event.{Event}
use Rattle.book_link.specs.declared.event.Event.TheVariants.{At, Dump}
use Rattle.book_link.specs.declared.event.Action.TheVariants.{Clock, Connect, Listen, Start, Give, Fill, Send, Resend, Deliver, Inject, Alter, Take, Close, Abort, AddRow, Withdraw}
use Rattle.law_link.specs.Headline.{ComesFrom}
use Rattle.law_link.specs.Laws.{SetupFits, EventFits}
use Rattle.book_link.specs.Reports.{summary}
use Rattle.book_link.specs.Runs.{empty, run_from, run}
use Rattle.book_link.specs.Steps.{Stepped, step}
use Rattle.book_link.specs.Worlds.{Setup, Session, World, other, same_end, side, live, partner}
use Rattle.law_link.proofs.Prefix.{delivers_in_order}
use Rattle.book_cmd_link.specs.BgpRuns.{Place, bgp_faults, is_faulty, taken_by, place_at, event_lines, bgp_lines_from, bgp_text}
use Rattle.cmd_link.specs.Streams.{streams_of, streams, newest}
use Rattle.cmd_link.specs.Tellings.{What, Telling, line_of, lines_of, is_of, told_of, tells, fails, to_tell, faults_told, AllNumbered, TellsMessages, TellsRun, ComeFrom, SpeaksInOrder}
use Rattle.cmd_link.proofs.AddedLaws.{at, added, added_lines, at_of, at_none, none_added, added_is, added_faults, faults_append}
use Rattle.cmd_link.proofs.FollowLaws.{both, faults_at, faults_both, faults_in, newest_taken, sound_start}
use Rattle.cmd_link.proofs.ReadLaws.{further, further_is}
use Rattle.cmd_link.proofs.TakenLaws.{AllSame, Begins, Delivers, Takes, changes}

-- ---- the lines of a run

told_by : ℕ → Event → World → World → List Telling
told_by n (At e (Take count)) before after = at (place_at before e n) (added (taken_by (live (side before e).sessions)) (taken_by (live (side after e).sessions)))
told_by n _ before after = []

told_from : Setup → ℕ → World → List Event → List Telling
told_from setup n w [] = []
told_from setup n w (e ∷ es) = told_by n e w (step setup w e).world ++ told_from setup (suc n) (step setup w e).world es

-- ---- their text

lines_append : (one two : List Telling) → lines_of (one ++ two) ≡ lines_of one ++ lines_of two
lines_append [] two = refl
lines_append (t ∷ ts) two = ap (λ l. line_of t.place t.what ++ l) (lines_append ts two) ∙ sym (append_assoc (line_of t.place t.what) (lines_of ts) (lines_of two))

event_told : (n : ℕ) (e : Event) (before after : World) → lines_of (told_by n e before after) ≡ event_lines n e before after
unfolding told_by
event_told n (At e (Take count)) before after = added_lines (place_at before e n) (taken_by (live (side before e).sessions)) (taken_by (live (side after e).sessions))
event_told n _ before after = refl

from_told : (setup : Setup) (n : ℕ) (w : World) (es : List Event) → lines_of (told_from setup n w es) ≡ bgp_lines_from setup n w es
unfolding told_from
from_told setup n w [] = refl
from_told setup n w (e ∷ es) =
    let v = (step setup w e).world in
    lines_append (told_by n e w v) (told_from setup (suc n) v es)
    ∙ ap (λ l. l ++ lines_of (told_from setup (suc n) v es)) (event_told n e w v)
    ∙ ap (λ l. event_lines n e w v ++ l) (from_told setup (suc n) v es)

-- ---- the lines of a session

told_append : (e : End) (i : ℕ) (one two : List Telling) → told_of e i (one ++ two) ≡ told_of e i one ++ told_of e i two
told_append e i [] two = refl
told_append e i (t ∷ ts) two =
    let here : List What = if is_of e i t.place then t.what ∷ [] else [] in
    ap (λ l. here ++ l) (told_append e i ts two) ∙ sym (append_assoc here (told_of e i ts) (told_of e i two))

same_number : (e : End) (i : ℕ) → (same_end e e && (i == i)) ≡ true
same_number A i = grind (arith, nat_tests)
same_number B i = grind (arith, nat_tests)

other_number : (e : End) (i j : ℕ) → (i < j) ⊎ (j < i) → (same_end e e && (i == j)) ≡ false
other_number A i j (inl lt) = grind (arith, nat_tests)
other_number A i j (inr lt) = grind (arith, nat_tests)
other_number B i j (inl lt) = grind (arith, nat_tests)
other_number B i j (inr lt) = grind (arith, nat_tests)

other_end : (e : End) (i j : ℕ) → (same_end (other e) e && (i == j)) ≡ false
other_end A i j = refl
other_end B i j = refl

-- ---- what is told so far

-- of each stream of an end is told what is to be told
abbrev AllTold : End → List Telling → List (List ℕ) → Type 0
AllTold e ts [] = ⊤
AllTold e ts (b ∷ bs) = (told_of e (suc (length bs)) ts ≡ to_tell b) × AllTold e ts bs

-- of an end, and nothing is told of sessions that it hasn't
record IsTold (e : End) (ts : List Telling) (bs : List (List ℕ)) : Type 0 where
  all : AllTold e ts bs
  none : (i : ℕ) → length bs < i → told_of e i ts ≡ []

no_messages : messages [] ≡ []
no_messages = none_before [] (front_short [] (omega arith))

nothing_to_tell : to_tell [] ≡ []
nothing_to_tell = ap (λ ms. tells ms ++ fails (fault_in []) (place_in [])) no_messages ∙ ap (λ o. fails o (place_in [])) sound_start

more_told : (e : End) (ts us : List Telling) (bs : List (List ℕ)) → ((i : ℕ) → i ≤ length bs → told_of e i us ≡ []) → AllTold e ts bs → AllTold e (ts ++ us) bs
more_told e ts us [] h all = tt
more_told e ts us (b ∷ bs) h all =
    let i = suc (length bs) in (
      told_append e i ts us ∙ ap (λ l. told_of e i ts ++ l) (h i (omega arith)) ∙ append-nil (told_of e i ts) ∙ all.0,
      more_told e ts us bs (λ j le. h j (omega (arith, le))) all.1,
    )

still_told : (e : End) (ts us : List Telling) (bs : List (List ℕ)) → ((i : ℕ) → told_of e i us ≡ []) → IsTold e ts bs → IsTold e (ts ++ us) bs
still_told e ts us bs h t =
    record {
      all = more_told e ts us bs (λ i le. h i) t.all;
      none = λ i lt. told_append e i ts us ∙ ap (λ l. told_of e i ts ++ l) (h i) ∙ append-nil (told_of e i ts) ∙ t.none i lt;
    }

begun_told : (e : End) (ts : List Telling) (bs : List (List ℕ)) → IsTold e ts bs → IsTold e ts ([] ∷ bs)
begun_told e ts bs t =
    record { all = (t.none (suc (length bs)) (omega arith) ∙ sym nothing_to_tell, t.all); none = λ i lt. t.none i (omega (arith, lt)) }

took_told : (e : End) (ts : List Telling) (p : Place) (old bytes : List ℕ) (older : List (List ℕ)) → p.end ≡ e → p.session ≡ suc (length older) → IsTold e ts (old ∷ older)
    → IsTold e (ts ++ at p (added old (old ++ bytes))) ((old ++ bytes) ∷ older)
took_told e ts p old bytes older here_is number t =
    let more : List What = added old (old ++ bytes) in
    let us = at p more in
    let k = suc (length older) in
    let here : (i : ℕ) (b : Bool) → (same_end e e && (i == k)) ≡ b → is_of e i p ≡ b = λ i b is. ap (λ (f : End). same_end e f && (i == p.session)) here_is ∙ ap (λ (n : ℕ). same_end e e && (i == n)) number ∙ is in
    let of : told_of e k us ≡ more = at_of e k p more (here k true (same_number e k)) in
    let not : (i : ℕ) → (i < k) ⊎ (k < i) → told_of e i us ≡ [] = λ i apart. at_none e i p more (here i false (other_number e i k apart)) in
    record {
      all = (
        told_append e k ts us ∙ ap (λ l. told_of e k ts ++ l) of ∙ ap (λ l. l ++ more) t.all.0 ∙ sym (added_is old bytes),
        more_told e ts us older (λ i le. not i (inl (omega (arith, le)))) t.all.1,
      );
      none = λ i lt. told_append e i ts us ∙ ap (λ l. told_of e i ts ++ l) (not i (inr (omega (arith, lt)))) ∙ append-nil (told_of e i ts) ∙ t.none i (omega (arith, lt));
    }

-- ---- how many faults

-- what was delivered stays, and with it the faults
same_faults : (w v : World) → AllSame w v → bgp_faults v ≡ bgp_faults w
same_faults w v same =
    let ones = faults_both w in
    let twos = faults_both v in
    let a = ap faults_in (same A) in
    let b = ap faults_in (same B) in
    omega (arith, ones, twos, a, b)

-- a new session has no fault
begins_faults : (e : End) (w : World) (after : Stepped) → Begins e w after → bgp_faults after.world ≡ bgp_faults w
begins_faults e w after b =
    let ones = faults_at w e in
    let twos = faults_at after.world e in
    let others = ap faults_in b.others in
    let none : is_faulty (fault_in []) ≡ 0 = ap is_faulty sound_start in
    elim b.either [
      | inl is ↦ let new = ap faults_in (b.new is) in omega (arith, ones, twos, others, none, new)
      | inr is ↦ let used = ap faults_in (b.used is) in omega (arith, ones, twos, others, used)
    ]

-- the faults that a take adds are those of its lines
takes_faults : (e : End) (p : Place) (bytes : List ℕ) (w v : World) (d : Delivers e w bytes v) → streams v (other e) ≡ streams w (other e)
    → bgp_faults w + faults_told (at p (added d.old (d.old ++ bytes))) ≡ bgp_faults v
takes_faults e p bytes w v d same =
    let ones = faults_at w e in
    let twos = faults_at v e in
    let others = ap faults_in same in
    let before = ap faults_in d.before in
    let after = ap faults_in d.after in
    let counted = added_faults p d.old bytes in
    omega (arith, ones, twos, others, before, after, counted)

-- ---- a run

-- of both ends, and how many lines are of faults
record Told (w : World) (ts : List Telling) : Type 0 where
  of : (e : End) → IsTold e ts (streams w e)
  count : faults_told ts ≡ bgp_faults w

nothing : (e : End) (ts : List Telling) (bs : List (List ℕ)) → IsTold e ts bs → IsTold e (ts ++ []) bs
nothing e ts bs t = subst (λ l. IsTold e l bs) (sym (append-nil ts)) t

-- nothing was told, and there are as many faults
as_before : (w v : World) (ts : List Telling) → Told w ts → bgp_faults v ≡ bgp_faults w → ((e : End) → IsTold e ts (streams v e)) → Told v (ts ++ [])
as_before w v ts t same of =
    record { of = λ e. nothing e ts (streams v e) (of e); count = ap faults_told (append-nil ts) ∙ t.count ∙ sym same }

same_told : (w v : World) (ts : List Telling) → AllSame w v → Told w ts → Told v (ts ++ [])
same_told w v ts same t = as_before w v ts t (same_faults w v same) (λ e. subst (IsTold e ts) (sym (same e)) (t.of e))

begins_told : (e : End) (w : World) (after : Stepped) (ts : List Telling) → Begins e w after → Told w ts → Told after.world (ts ++ [])
begins_told e w after ts b t =
    let P : End → Type 0 = λ f. IsTold f ts (streams after.world f) in
    let there : P e = elim b.either [
      | inl is ↦ subst (IsTold e ts) (sym (b.new is)) (begun_told e ts (streams w e) (t.of e))
      | inr is ↦ subst (IsTold e ts) (sym (b.used is)) (t.of e)
    ] in
    as_before w after.world ts t (begins_faults e w after b) (both P e there (subst (IsTold (other e) ts) (sym b.others) (t.of (other e))))

as_many : (ss : List Session) → length (streams_of ss) ≡ length ss
as_many [] = refl
as_many (s ∷ ss) = ap suc (as_many ss)

-- what a take adds, at its end
abbrev take_told : ℕ → End → World → World → List Telling
take_told n e w v = at (place_at w e n) (added (taken_by (live (side w e).sessions)) (taken_by (live (side v e).sessions)))

-- without a session nothing is told
none_taken : (n : ℕ) (e : End) (w v : World) → streams v e ≡ streams w e → take_told n e w v ≡ []
none_taken n e w v none =
    let old = taken_by (live (side w e).sessions) in
    let new = taken_by (live (side v e).sessions) in
    let same : new ≡ old = newest_taken (side v e).sessions ∙ ap newest none ∙ sym (newest_taken (side w e).sessions) in
    ap (λ l. at (place_at w e n) (added old l)) same ∙ ap (at (place_at w e n)) (none_added old)

-- with one, what the bytes add to its stream
some_taken : (n : ℕ) (e : End) (bytes : List ℕ) (w v : World) (d : Delivers e w bytes v) → at (place_at w e n) (added d.old (d.old ++ bytes)) ≡ take_told n e w v
some_taken n e bytes w v d =
    let old_is : taken_by (live (side w e).sessions) ≡ d.old = newest_taken (side w e).sessions ∙ ap newest d.before in
    let new_is : taken_by (live (side v e).sessions) ≡ d.old ++ bytes = newest_taken (side v e).sessions ∙ ap newest d.after in
    ap (λ l. at (place_at w e n) (added l (d.old ++ bytes))) (sym old_is)
    ∙ ap (λ l. at (place_at w e n) (added (taken_by (live (side w e).sessions)) l)) (sym new_is)

some_told : (n : ℕ) (e : End) (bytes : List ℕ) (w v : World) (ts : List Telling) → Delivers e w bytes v → streams v (other e) ≡ streams w (other e) → Told w ts → Told v (ts ++ take_told n e w v)
some_told n e bytes w v ts d same t =
    let p = place_at w e n in
    let us = take_told n e w v in
    let lines : List Telling = at p (added d.old (d.old ++ bytes)) in
    let is : lines ≡ us = some_taken n e bytes w v d in
    let P : End → Type 0 = λ f. IsTold f (ts ++ us) (streams v f) in
    let elsewhere : (i : ℕ) → told_of (other e) i us ≡ [] =
    λ i. at_none (other e) i p (added (taken_by (live (side w e).sessions)) (taken_by (live (side v e).sessions))) (other_end e i p.session) in
    let far : P (other e) = subst (IsTold (other e) (ts ++ us)) (sym same) (still_told (other e) ts us (streams w (other e)) elsewhere (t.of (other e))) in
    let number : p.session ≡ suc (length d.older) = sym (as_many (side w e).sessions) ∙ ap length d.before in
    let before : IsTold e ts (d.old ∷ d.older) = subst (IsTold e ts) d.before (t.of e) in
    let told : IsTold e (ts ++ lines) ((d.old ++ bytes) ∷ d.older) = took_told e ts p d.old bytes d.older refl number before in
    let near : P e = subst (IsTold e (ts ++ us)) (sym d.after) (subst (λ l. IsTold e (ts ++ l) ((d.old ++ bytes) ∷ d.older)) is told) in
    record {
      of = both P e near far;
      count = faults_append ts us ∙ ap (λ k. k + faults_told us) t.count ∙ ap (λ l. bgp_faults w + faults_told l) (sym is) ∙ takes_faults e p bytes w v d same;
    }

none_told_by : (n : ℕ) (e : End) (w v : World) (ts : List Telling) → streams v e ≡ streams w e → streams v (other e) ≡ streams w (other e) → Told w ts → Told v (ts ++ take_told n e w v)
none_told_by n e w v ts none others t =
    let same : AllSame w v = both (λ f. streams v f ≡ streams w f) e none others in
    subst (λ l. Told v (ts ++ l)) (sym (none_taken n e w v none)) (same_told w v ts same t)

takes_told : (n : ℕ) (e : End) (w : World) (after : Stepped) (ts : List Telling) → Takes e w after → Told w ts → Told after.world (ts ++ take_told n e w after.world)
takes_told n e w after ts k t = elim k.either [
  | inl none ↦ none_told_by n e w after.world ts (k.none none) k.others t
  | inr (bytes, shown, took) ↦ some_told n e bytes w after.world ts (k.some bytes shown took) k.others t
]

step_told : (setup : Setup) (n : ℕ) (w : World) (event : Event) (ts : List Telling) → Told w ts → Told (step setup w event).world (ts ++ told_by n event w (step setup w event).world)
unfolding told_by
step_told setup n w (At e (Clock seconds)) ts t = same_told w (step setup w (At e (Clock seconds))).world ts (changes setup w (At e (Clock seconds))) t
step_told setup n w (At e (Connect isn)) ts t = begins_told e w (step setup w (At e (Connect isn))) ts (changes setup w (At e (Connect isn))) t
step_told setup n w (At e (Listen isn)) ts t = begins_told e w (step setup w (At e (Listen isn))) ts (changes setup w (At e (Listen isn))) t
step_told setup n w (At e (Start isn peer)) ts t = begins_told e w (step setup w (At e (Start isn peer))) ts (changes setup w (At e (Start isn peer))) t
step_told setup n w (At e (Take count)) ts t = takes_told n e w (step setup w (At e (Take count))) ts (changes setup w (At e (Take count))) t
step_told setup n w (At e (Give piece)) ts t = same_told w (step setup w (At e (Give piece))).world ts (changes setup w (At e (Give piece))) t
step_told setup n w (At e (Fill count byte)) ts t = same_told w (step setup w (At e (Fill count byte))).world ts (changes setup w (At e (Fill count byte))) t
step_told setup n w (At e Send) ts t = same_told w (step setup w (At e Send)).world ts (changes setup w (At e Send)) t
step_told setup n w (At e Resend) ts t = same_told w (step setup w (At e Resend)).world ts (changes setup w (At e Resend)) t
step_told setup n w (At e (Deliver name)) ts t = same_told w (step setup w (At e (Deliver name))).world ts (changes setup w (At e (Deliver name))) t
step_told setup n w (At e (Inject bytes)) ts t = same_told w (step setup w (At e (Inject bytes))).world ts (changes setup w (At e (Inject bytes))) t
step_told setup n w (At e (Alter name place mask fixing)) ts t = same_told w (step setup w (At e (Alter name place mask fixing))).world ts (changes setup w (At e (Alter name place mask fixing))) t
step_told setup n w (At e Close) ts t = same_told w (step setup w (At e Close)).world ts (changes setup w (At e Close)) t
step_told setup n w (At e Abort) ts t = same_told w (step setup w (At e Abort)).world ts (changes setup w (At e Abort)) t
step_told setup n w (At e (AddRow row)) ts t = same_told w (step setup w (At e (AddRow row))).world ts (changes setup w (At e (AddRow row))) t
step_told setup n w (At e (Withdraw number)) ts t = same_told w (step setup w (At e (Withdraw number))).world ts (changes setup w (At e (Withdraw number))) t
step_told setup n w (Dump name) ts t = same_told w (step setup w (Dump name)).world ts (changes setup w (Dump name)) t

run_told : (setup : Setup) (n : ℕ) (w : World) (es : List Event) (ts : List Telling) → Told w ts → Told (run_from setup w es) (ts ++ told_from setup n w es)
unfolding told_from
run_told setup n w [] ts t = subst (Told w) (sym (append-nil ts)) t
run_told setup n w (e ∷ es) ts t =
    let v = (step setup w e).world in
    subst (Told (run_from setup v es)) (append_assoc ts (told_by n e w v) (told_from setup (suc n) v es))
    (run_told setup (suc n) v es (ts ++ told_by n e w v) (step_told setup n w e ts t))

none_told : (setup : Setup) → Told (empty setup) []
none_told setup =
    record {
      of = both (λ e. IsTold e [] (streams (empty setup) e)) A (record { all = tt; none = λ i lt. refl }) (record { all = tt; none = λ i lt. refl });
      count = refl;
    }

each_session : (e : End) (ts : List Telling) (ss : List Session) → AllTold e ts (streams_of ss) → AllNumbered (λ i s. told_of e i ts ≡ to_tell s.state.taken) ss
each_session e ts [] h = tt
each_session e ts (s ∷ ss) h = (ap (λ n. told_of e (suc n) ts) (sym (as_many ss)) ∙ h.0, each_session e ts ss h.1)

-- a run's text tells of each session the messages and the fault of what it delivered, and so many faults
pub tells_messages : (setup : Setup) (events : List Event) → TellsMessages setup events
unfolding bgp_text
tells_messages setup events =
    let ts = told_from setup 1 (empty setup) events in
    let told : Told (run setup events) ts = run_told setup 1 (empty setup) events [] (none_told setup) in
    record {
      tellings = ts;
      text_is = ap (λ l. l ++ summary (run setup events)) (sym (from_told setup 1 (empty setup) events));
      each = λ e. each_session e ts (side (run setup events) e).sessions (told.of e).all;
      count = told.count;
    }

-- a text and a number that are those of a run
pub tells_run : (setup : Setup) (events : List Event) (text : List ℕ) (faults : ℕ) → text ≡ bgp_text setup events → faults ≡ bgp_faults (run setup events) → TellsRun (run setup events) text faults
tells_run setup events text faults text_is faults_are =
    let t = tells_messages setup events in
    record { tellings = t.tellings; text_is = text_is ∙ t.text_is; each = t.each; count = t.count ∙ sym faults_are }

-- ---- in order

nil_front : (xs ys : List ℕ) → xs ++ ys ≡ [] → xs ≡ []
nil_front [] ys e = refl
nil_front (x ∷ xs) ys e = absurd (cc)

comes_from : (o : Option Session) (bytes more : List ℕ) → ComesFrom o (bytes ++ more) → ComeFrom o (messages bytes)
comes_from None bytes more h = ap messages (nil_front bytes more h) ∙ no_messages
comes_from (Some t) bytes more (rest, is) =
    (further bytes (more ++ rest), sym (further_is bytes (more ++ rest)) ∙ ap messages (sym (append_assoc bytes more rest) ∙ is))

all_come : (w : World) (e : End) (ss : List Session) → AllByRecursion (λ (s : Session). ComesFrom (partner w e s.state) (s.state.taken ++ ready s.state)) ss
    → AllByRecursion (λ (s : Session). ComeFrom (partner w e s.state) (messages s.state.taken)) ss
all_come w e [] h = tt
all_come w e (s ∷ ss) h = (comes_from (partner w e s.state) s.state.taken (ready s.state) h.0, all_come w e ss h.1)

-- where no forgery is counted, messages begin those that were given to the partner
pub speaks_in_order : (setup : Setup) (events : List Event) → SetupFits setup → AllByRecursion EventFits events → SpeaksInOrder (run setup events)
speaks_in_order setup events fits all =
    λ none e. all_come (run setup events) e (side (run setup events) e).sessions (delivers_in_order setup fits events all none e)
