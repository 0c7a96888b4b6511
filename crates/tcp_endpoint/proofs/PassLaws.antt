-- An arrival that the check judged.
use Rattle.std.proofs.Common.{◌≡◌, ℕ, Bool, true, false, not, List, Option, Some, None, refl, sym, ap, ◌∙◌, subst, Ok, Err}
use Rattle.std.specs.Prelude.{if◌then◌else◌, is_some}
use Rattle.book_base.specs.declared.address.Pair.{Pair}
use Rattle.book_segments.specs.Options.{AoFound, One, find_ao}
use Rattle.book_segments.specs.Segments.{Segment, Read, good}
use Rattle.tcp_segment.specs.Views.{view_ao}
use Rattle.tcp_segment.specs.declared.ao.AoOption.{AoOption}
use Rattle.book_keys.specs.Rows.{Row}
use Rattle.book_endpoint.specs.States as states
use Rattle.book_endpoint.specs.Verdicts as v
use Rattle.book_endpoint.specs.Arrivals as book
use Rattle.endpoint_steps.specs.Arriving as stages
use Rattle.ao_check.specs.Bonds.{Bond}
use Rattle.ao_check.specs.declared.passing.Passing.{Passing}
use Rattle.ao_check.specs.Verdicts.{Names, Tells}
use Rattle.book_endpoint.specs.declared.passed.Passed.{Passed}
use Rattle.book_endpoint.specs.declared.refusal.Refusal.{Refusal}
use Rattle.book_endpoint.specs.declared.refusal.Refusal.TheVariants as checked
use Rattle.book_endpoint.specs.declared.arrival.Arrival.{Arrival}
use Rattle.book_endpoint.specs.declared.arrival.Arrival.TheVariants as answers
use Rattle.endpoint_steps.proofs.Arriving.{read_by_cases}
use Rattle.tcp_endpoint.specs.declared.arrival.Arrived.{Arrived}
use Rattle.tcp_endpoint.specs.declared.endpoint.Endpoint.{Endpoint}
use Rattle.tcp_endpoint.specs.Numbers.{expected_in}
use Rattle.tcp_endpoint.specs.Ends.{Stands}
use Rattle.tcp_endpoint.specs.Arrivals.{Reaches, Arrives, IsStopped, TellsOption}

third : {X : Type 0} (a b c : Bool) (w x y z : X) → a ≡ true → b ≡ true → c ≡ false → (if not a then w else (if not b then x else (if c then y else z))) ≡ z
third a b c w x y z p q r = rw (p, q, r) refl

judged : (rows : List Row) (pair : Pair) (now : ℕ) (s : states.EndState) (d : Segment) (w : v.Judgement) → book.from_peer pair d ≡ true → good d ≡ true → states.is_closed s.phase ≡ false → book.judged_by rows pair now s d ≡ w
    → book.arrive rows pair now s (Read d) ≡ stages.arrive_judged rows pair now s d w
judged rows pair now s d w a b c e =
    sym (read_by_cases rows pair now s (Read d))
    ∙ third (book.from_peer pair d) (good d) (states.is_closed s.phase) (book.unmoved s answers.Foreign) (book.unmoved s answers.Checksum) (book.unmoved s answers.Closed) (stages.arrive_judged rows pair now s d (book.judged_by rows pair now s d)) a b c
    ∙ ap (λ z. stages.arrive_judged rows pair now s d z) e

check_move : (pair : Pair) (rows : List Row) (s : states.EndState) (d : Segment) (now id key n number : ℕ) → id ≡ key → n ≡ number
    → stages.after_check pair s (book.heard rows pair now s id) d n now s.phase ≡ stages.after_check pair s (book.heard rows pair now s key) d number now s.phase
check_move pair rows s d now id key n number p q =
    ap (λ z. stages.after_check pair s (book.heard rows pair now s z) d n now s.phase) p ∙ ap (λ z. stages.after_check pair s (book.heard rows pair now s key) d z now s.phase) q

pub arrives_pass : (rows : List Row) (pair : Pair) (now : ℕ) (s : states.EndState) (d : Segment) (entry : v.Finding) (e : Endpoint) (a : Arrival) (p : Passing) (id n : ℕ)
    → book.from_peer pair d ≡ true → good d ≡ true → states.is_closed s.phase ≡ false → book.judged_by rows pair now s d ≡ Ok entry → id ≡ entry.rnext_key_id → n ≡ entry.number
    → Reaches e a (stages.after_check pair s (book.heard rows pair now s id) d n now s.phase) → Names rows pair d p.passed entry
    → Arrives rows pair (Read d) e (record { arrival = a; passed = Some p }) (book.arrive rows pair now s (Read d))
arrives_pass rows pair now s d entry e a p id n peer right alive j i m reach names =
    let there = subst (λ z. Reaches e a z) (check_move pair rows s d now id entry.rnext_key_id n entry.number i m) reach in
    let at : Arrives rows pair (Read d) e (record { arrival = a; passed = Some p }) (stages.arrive_judged rows pair now s d (Ok entry)) = record { stands = there.stands; answer = there.answer_is; passed = names } in
    subst (λ z. Arrives rows pair (Read d) e (record { arrival = a; passed = Some p }) z) (sym (judged rows pair now s d (Ok entry) peer right alive j)) at

refused_at : (rows : List Row) (pair : Pair) (now : ℕ) (s : states.EndState) (d : Segment) (e : Endpoint) (w : Refusal)
    → book.from_peer pair d ≡ true → good d ≡ true → states.is_closed s.phase ≡ false → book.judged_by rows pair now s d ≡ Err w
    → Stands e s
    → Arrives rows pair (Read d) e (record { arrival = answers.Refused w; passed = None }) (book.arrive rows pair now s (Read d))
refused_at rows pair now s d e w peer right alive j st =
    let at : Arrives rows pair (Read d) e (record { arrival = answers.Refused w; passed = None }) (stages.arrive_judged rows pair now s d (Err w)) = record { stands = st; answer = refl; passed = tt } in
    subst (λ z. Arrives rows pair (Read d) e (record { arrival = answers.Refused w; passed = None }) z) (sym (judged rows pair now s d (Err w) peer right alive j)) at

pub arrives_refused : {e : Endpoint} (rows : List Row) (pair : Pair) (now : ℕ) (s : states.EndState) (d : Segment) (w : Refusal) (told : Arrived) → told ≡ record { arrival = answers.Refused w; passed = None }
    → book.from_peer pair d ≡ true → good d ≡ true → states.is_closed s.phase ≡ false → book.judged_by rows pair now s d ≡ Err w
    → Stands e s → Arrives rows pair (Read d) e told (book.arrive rows pair now s (Read d))
arrives_refused {e} rows pair now s d w told q peer right alive j st =
    subst (λ z. Arrives rows pair (Read d) e z (book.arrive rows pair now s (Read d))) (sym q) (refused_at rows pair now s d e w peer right alive j st)

expected_case : (peer_isn : Option ℕ) (s : states.EndState) (o : Option ℕ) → (is_some peer_isn ≡ true → o ≡ Some s.expected) → (is_some peer_isn ≡ false → o ≡ None) → o ≡ book.number_expected s peer_isn
expected_case None s o some none = none refl
expected_case (Some q) s o some none = some refl

judge_move : (rows : List Row) (p q : Pair) (own isn : ℕ) (peer peer_isn o x : Option ℕ) (now : ℕ) (d : Segment) → p ≡ q → own ≡ isn → peer ≡ peer_isn → o ≡ x → v.judge rows p (record { own_isn = own; peer_isn = peer; expected = o }) now d ≡ v.judge rows q (record { own_isn = isn; peer_isn = peer_isn; expected = x }) now d
judge_move rows p q own isn peer peer_isn o x now d a b c e =
    ap (λ z. v.judge rows z (record { own_isn = own; peer_isn = peer; expected = o }) now d) a ∙ ap (λ z. v.judge rows q (record { own_isn = z; peer_isn = peer; expected = o }) now d) b ∙ ap (λ z. v.judge rows q (record { own_isn = isn; peer_isn = z; expected = o }) now d) c ∙ ap (λ z. v.judge rows q (record { own_isn = isn; peer_isn = peer_isn; expected = z }) now d) e

-- the check's verdict is the end's
pub judged_is : (rows : List Row) (e : Endpoint) (s : states.EndState) (now : ℕ) (d : Segment) (o : Option ℕ) → Stands e s
    → (is_some e.sequence.received ≡ true → o ≡ Some (expected_in e.sequence.received)) → (is_some e.sequence.received ≡ false → o ≡ None)
    → v.judge rows e.association.pair (record { own_isn = e.association.own; peer_isn = e.association.peer; expected = o }) now d ≡ book.judged_by rows e.pair now s d
judged_is rows e s now d o h some none =
    let same : is_some e.sequence.received ≡ is_some s.peer_isn = e.receives.same ∙ ap is_some h.peer_isn in
    judge_move rows e.association.pair e.pair e.association.own s.isn e.association.peer s.peer_isn o (book.number_expected s s.peer_isn) now d e.bound.pair (e.bound.own ∙ h.isn) (e.bound.peer ∙ h.peer_isn)
    (expected_case s.peer_isn s o (λ t. some (same ∙ t) ∙ ap Some h.expected) (λ t. none (same ∙ t)))

rnext_in : AoFound → ℕ
rnext_in (One ao) = ao.rnext_key_id
rnext_in _ = 0

-- the option that was handed on is the one that the check found
pub rnext_is : (rows : List Row) (pair : Pair) (d : Segment) (p : Passed) (option : AoOption) (entry : v.Finding) → Names rows pair d p entry → find_ao d.area ≡ One (view_ao option)
    → option.rnext ≡ entry.rnext_key_id
unfolding rnext_in
rnext_is rows pair d p option entry names found = ap rnext_in (sym found ∙ names.found) ∙ sym (ap (λ z. z.rnext_key_id) names.entry_is)

pub number_is : (rows : List Row) (pair : Pair) (d : Segment) (p : Passed) (entry : v.Finding) → Names rows pair d p entry → p.number ≡ entry.number
number_is rows pair d p entry names = sym (ap (λ z. z.number) names.entry_is)

pub checked_stands : (e : Endpoint) (a : Bond) (s : states.EndState) → Stands e s → a.current ≡ e.association.current → a.current ≡ s.current
checked_stands e a s h c = c ∙ h.current

-- where nothing passed, no option is told
pub stopped : (d : Segment) (a : Arrival) (told : Arrived) → told ≡ record { arrival = a; passed = None } → IsStopped a → TellsOption d told
stopped d a told e h = subst (λ z. TellsOption d z) (sym e) h
