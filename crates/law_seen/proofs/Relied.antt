-- What is seen of a run is reliable: the laws of its states, said of what is seen.
use Rattle.std.proofs.Common.{◌≡◌, ℕ, ◌+◌, ◌-◌, ◌≤◌, ◌==◌, min, nat_lt, Bool, true, false, ◌&&◌, List, [], ◌∷◌, ◌++◌, length, Option, Some, None, if◌then◌else◌, refl, sym, ap, ◌∙◌, subst, arith, append_assoc, length-append, length-take}
use Rattle.std.specs.List.{AllByRecursion, AllZip}
use Rattle.std.proofs.lemmas.Bool.Decides.{nat_tests}
use Rattle.book_base.specs.declared.end.End.{End}
use Rattle.book_segments.proofs.Fields.{eqb_is, some_is}
use Rattle.book_segments.specs.Received.{below_limit, bytes_from}
use Rattle.book_segments.specs.Segments.{bit_of}
use Rattle.book_endpoint.specs.States.{EndState, first, ready_at, ready_count, ready, passed_fin, taking, take_out, at_end}
use Rattle.book_link.specs.declared.event.Event.{Event}
use Rattle.book_link.specs.Runs.{run}
use Rattle.book_link.specs.Steps.{act_on, took}
use Rattle.book_link.specs.Worlds.{other, Setup, Session, World, side, find, partner, forgeries}
use Rattle.law_link.specs.Headline.{IsPrefixOf, ComesFrom, IsWhole}
use Rattle.law_link.specs.Laws.{SetupFits, EventFits}
use Rattle.law_link.proofs.Invariant.{AllWhole, Distinct}
use Rattle.law_link.proofs.Lists.{length-bytes_from}
use Rattle.law_link.proofs.Partners.{partner_is_one}
use Rattle.law_link.proofs.Prefix.{delivers_in_order, shows_ends}
use Rattle.law_link.proofs.Running.{run_inv}
use Rattle.law_link.proofs.Sessions.{find_own, partner_is}
use Rattle.law_link.proofs.Whole.{Whole}
use Rattle.law_seen.proofs.Told.{Match, seen_match}
use Rattle.law_seen.specs.Seen.{Seen, seen, HasLine, ArePeers, ReliableUnlessForged, WouldTake, AcknowledgesReceived}
use Rattle.law_seen.specs.Summaries.{SaysSeen, SummarySaysSeen}

-- ---- lists

all_both : (P Q : Session → Type 0) (sessions : List Session) → AllByRecursion P sessions → AllByRecursion Q sessions → AllByRecursion (λ (s : Session). P s × Q s) sessions
all_both P Q [] p q = tt
all_both P Q (s ∷ rest) p q = ((p.0, q.0), all_both P Q rest p.1 q.1)

-- what holds of each session is said of what is seen of it
zip_all : (P : Seen → Type 0) (R : Session → Type 0) (ones : List Seen) (sessions : List Session) → AllZip Match ones sessions → AllByRecursion R sessions → ((one : Seen) (s : Session) → Match one s → R s → P one) → AllByRecursion P ones
zip_all P R [] [] zip all says = tt
zip_all P R (one ∷ ones) [] zip all says = absurd zip
zip_all P R [] (s ∷ rest) zip all says = absurd zip
zip_all P R (one ∷ ones) (s ∷ rest) zip all says = (says one s zip.0 all.0, zip_all P R ones rest zip.1 all.1 says)

-- what is seen of a session that is found
abbrev Shown : (P : Seen → Type 0) → Session → Type 0
Shown P t = (one : Seen) × Match one t × P one

seen_if : (P : Seen → Type 0) (one : Seen) (s t : Session) (o : Option Session) (b : Bool) → Match one s → P one → (o ≡ Some t → Shown P t) → (if b then Some s else o) ≡ Some t → Shown P t
seen_if P one s t o true m p more is = let same = some_is s t is in (one, subst (λ (x : Session). Match one x) same m, p)
seen_if P one s t o false m p more is = more is

seen_found : (P : Seen → Type 0) (ones : List Seen) (sessions : List Session) (isn : ℕ) (t : Session) → AllZip Match ones sessions → AllByRecursion P ones → find sessions isn ≡ Some t → Shown P t
seen_found P [] [] isn t zip all is = absurd (cc)
seen_found P (one ∷ ones) [] isn t zip all is = absurd zip
seen_found P [] (s ∷ rest) isn t zip all is = absurd zip
seen_found P (one ∷ ones) (s ∷ rest) isn t zip all is = seen_if P one s t (find rest isn) (s.state.isn == isn) zip.0 all.0 (λ more. seen_found P ones rest isn t zip.1 all.1 more) is

-- each session is the one that is found by its number
abbrev EachFound : List Session → List Session → Type 0
EachFound all sessions = AllByRecursion (λ (t : Session). find all t.state.isn ≡ Some t) sessions

found_later : (s t : Session) (rest : List Session) (b : Bool) → (s.state.isn == t.state.isn) ≡ b → find rest s.state.isn ≡ None → find rest t.state.isn ≡ Some t
    → (if b then Some s else find rest t.state.isn) ≡ Some t
found_later s t rest true is none e = let same : s.state.isn ≡ t.state.isn = eqb_is s.state.isn t.state.isn is in absurd (cc)
found_later s t rest false is none e = e

each_later : (s : Session) (rest sessions : List Session) → find rest s.state.isn ≡ None → EachFound rest sessions → EachFound (s ∷ rest) sessions
each_later s rest [] none h = tt
each_later s rest (t ∷ sessions) none h = (found_later s t rest (s.state.isn == t.state.isn) refl none h.0, each_later s rest sessions none h.1)

pub each_found : (sessions : List Session) → Distinct sessions → EachFound sessions sessions
each_found [] h = tt
each_found (s ∷ rest) h = (find_own s rest (s.state.isn == s.state.isn) refl, each_later s rest rest h.0 (each_found rest h.1))

-- ---- peers are partners

-- the session of a line is the one of that number
of_line : (w : World) (e : End) (s : Session) (isn peer : ℕ) → isn ≡ s.state.isn → find (side w e).sessions s.state.isn ≡ Some s → HasLine w e isn peer → s.state.peer_isn ≡ Some peer
of_line w e s isn peer at found line =
    let same : line.0 ≡ s = some_is line.0 s (sym line.1 ∙ ap (λ n. find (side w e).sessions n) at ∙ found) in
    subst (λ (x : Session). x.state.peer_isn ≡ Some peer) same line.2

peers_partner : (w : World) (e : End) (here there : Seen) (s t : Session) → Match here s → Match there t → find (side w e).sessions s.state.isn ≡ Some s → find (side w (other e)).sessions t.state.isn ≡ Some t
    → ArePeers w e here there → partner w e s.state ≡ Some t
peers_partner w e here there s t a b mine yours peers =
    let to = of_line w e s here.isn there.isn a.isn mine peers.0 in
    let back = of_line w (other e) t there.isn here.isn b.isn yours peers.1 in
    partner_is (side w (other e)).sessions s.state.isn s.state.peer_isn t.state.isn t (to ∙ ap (λ n. Some n) b.isn) yours (back ∙ ap (λ n. Some n) a.isn)

prefix_is : (here there : Seen) (s t : Session) (more : List ℕ) → Match here s → Match there t → IsPrefixOf (s.state.taken ++ more) t.state.given → IsPrefixOf here.got there.gave
prefix_is here there s t more a b p =
    (more ++ p.0, ap (λ (l : List ℕ). l ++ (more ++ p.0)) a.got ∙ sym (append_assoc s.state.taken more p.0) ∙ p.1 ∙ sym b.gave)

nothing_of : (xs ys : List ℕ) → xs ++ ys ≡ [] → xs ≡ []
nothing_of [] ys e = refl
nothing_of (x ∷ xs) ys e = absurd (cc)

untold : (b : Bool) → (b ≡ true → ⊥) → b ≡ false
untold true never = absurd (never refl)
untold false never = refl

-- what the laws say of a session, and that it is found
abbrev Known : World → End → Session → Type 0
Known w e s = (ComesFrom (partner w e s.state) (s.state.taken ++ ready s.state) × (s.end_shown ≡ true → IsWhole (partner w e s.state) s.state.taken)) × (find (side w e).sessions s.state.isn ≡ Some s)

-- ---- one session

module _ (w : World) (e : End) (here : Seen) (s : Session) (a : Match here s) (k : Known w e s) where
  -- beside a partner
  order_by : (there : Seen) (t : Session) → Match there t → find (side w (other e)).sessions t.state.isn ≡ Some t → ArePeers w e here there → IsPrefixOf here.got there.gave
  order_by there t b yours peers =
      prefix_is here there s t (ready s.state) a b
      (subst (λ (o : Option Session). ComesFrom o (s.state.taken ++ ready s.state)) (peers_partner w e here there s t a b k.1 yours peers) k.0.0)

  whole_by : (there : Seen) (t : Session) → Match there t → find (side w (other e)).sessions t.state.isn ≡ Some t → ArePeers w e here there → here.end_told ≡ true → (there.closed ≡ true) × (here.got ≡ there.gave)
  whole_by there t b yours peers told =
      let all : IsWhole (Some t) s.state.taken = subst (λ (o : Option Session). IsWhole o s.state.taken) (peers_partner w e here there s t a b k.1 yours peers) (k.0.1 (sym a.end_told ∙ told)) in
      (b.closed all.0, a.got ∙ all.1 ∙ sym b.gave)

  -- beside none
  lone_by : (o : Option Session) → partner w e s.state ≡ o → ((t : Session) → o ≡ Some t → ⊥) → (here.got ≡ []) × (here.end_told ≡ false)
  lone_by (Some t) is never = absurd (never t refl)
  lone_by None is never = (
    a.got ∙ nothing_of s.state.taken (ready s.state) (subst (λ (o : Option Session). ComesFrom o (s.state.taken ++ ready s.state)) is k.0.0),
    a.end_told ∙ untold s.end_shown (λ told. subst (λ (o : Option Session). IsWhole o s.state.taken) is (k.0.1 told)),
  )

  no_partner : (theres : List Seen) → AllZip Match theres (side w (other e)).sessions → AllByRecursion (λ there. ArePeers w e here there → ⊥) theres → (t : Session) → partner w e s.state ≡ Some t → ⊥
  no_partner theres zip nobody t is =
      let one = partner_is_one w e s.state t is in
      let shown = seen_found (λ there. ArePeers w e here there → ⊥) theres (side w (other e)).sessions t.state.isn t zip nobody one.1 in
      let b = shown.1 in
      shown.2 (
        (s, ap (λ n. find (side w e).sessions n) a.isn ∙ k.1, one.0.here ∙ ap (λ n. Some n) (sym b.isn)),
        (t, ap (λ n. find (side w (other e)).sessions n) b.isn ∙ one.1, one.0.there ∙ ap (λ n. Some n) (sym a.isn)),
      )

-- ---- all sessions

-- what is known of a world and of what is seen of it
record Facts (seens : End → List Seen) (w : World) : Type 0 where
  zip : (e : End) → AllZip Match (seens e) (side w e).sessions
  known : (e : End) → AllByRecursion (Known w e) (side w e).sessions
  found : (e : End) → EachFound (side w e).sessions (side w e).sessions

module _ (seens : End → List Seen) (w : World) (facts : Facts seens w) where
  two_peers : (Holds : Seen → Seen → Type 0) → ((e : End) (here : Seen) (s : Session) → Match here s → Known w e s → (there : Seen) (t : Session) → Match there t → find (side w (other e)).sessions t.state.isn ≡ Some t → ArePeers w e here there → Holds here there)
      → (e : End) → AllByRecursion (λ here. AllByRecursion (λ there. ArePeers w e here there → Holds here there) (seens (other e))) (seens e)
  two_peers Holds says e =
      zip_all (λ here. AllByRecursion (λ there. ArePeers w e here there → Holds here there) (seens (other e))) (Known w e) (seens e) (side w e).sessions (facts.zip e) (facts.known e) (λ here s a k.
      zip_all (λ there. ArePeers w e here there → Holds here there) (λ (t : Session). find (side w (other e)).sessions t.state.isn ≡ Some t) (seens (other e)) (side w (other e)).sessions (facts.zip (other e)) (facts.found (other e)) (λ there t b yours.
      says e here s a k there t b yours))

  all_lone : (e : End) → AllByRecursion (λ here. AllByRecursion (λ there. ArePeers w e here there → ⊥) (seens (other e)) → (here.got ≡ []) × (here.end_told ≡ false)) (seens e)
  all_lone e =
      zip_all (λ here. AllByRecursion (λ there. ArePeers w e here there → ⊥) (seens (other e)) → (here.got ≡ []) × (here.end_told ≡ false)) (Known w e) (seens e) (side w e).sessions (facts.zip e) (facts.known e) (λ here s a k nobody.
      lone_by w e here s a k (partner w e s.state) refl (no_partner w e here s a k (seens (other e)) (facts.zip (other e)) nobody))

facts_of : (setup : Setup) (fits : SetupFits setup) (events : List Event) → AllByRecursion EventFits events → forgeries (run setup events).history ≡ 0 → Facts (seen setup events) (run setup events)
facts_of setup fits events f none =
    let w = run setup events in
    let found : (e : End) → EachFound (side w e).sessions (side w e).sessions = λ e. each_found (side w e).sessions ((run_inv setup fits events f).distinct e) in
    record {
      zip = seen_match setup fits events f;
      known = λ e.
          all_both (λ (s : Session). ComesFrom (partner w e s.state) (s.state.taken ++ ready s.state) × (s.end_shown ≡ true → IsWhole (partner w e s.state) s.state.taken)) (λ (s : Session). find (side w e).sessions s.state.isn ≡ Some s) (side w e).sessions
          (all_both (λ (s : Session). ComesFrom (partner w e s.state) (s.state.taken ++ ready s.state)) (λ (s : Session). s.end_shown ≡ true → IsWhole (partner w e s.state) s.state.taken) (side w e).sessions
          (delivers_in_order setup fits events f none e) (shows_ends setup fits events f none e)) (found e);
      found = found;
    }

pub is_reliable : (setup : Setup) (fits : SetupFits setup) (events : List Event) → AllByRecursion EventFits events → ReliableUnlessForged setup events
is_reliable setup fits events f none =
    let w = run setup events in
    let seens = seen setup events in
    let facts = facts_of setup fits events f none in
    record {
      in_order = two_peers seens w facts (λ here there. IsPrefixOf here.got there.gave) (λ e here s a k there t b yours peers. order_by w e here s a k there t b yours peers);
      of_nobody = all_lone seens w facts;
      whole = two_peers seens w facts (λ here there. here.end_told ≡ true → (there.closed ≡ true) × (here.got ≡ there.gave)) (λ e here s a k there t b yours peers. whole_by w e here s a k there t b yours peers);
    }

-- ---- what is acknowledged

end_bit : (fin : Option ℕ) (x at count : ℕ) → ((f : ℕ) → fin ≡ Some f → x ≤ f + 1) → count ≡ below_limit fin x - at → at ≤ below_limit fin x
    → x ≤ at + count + bit_of (passed_fin fin x && (below_limit fin x - (at + count) == 0))
end_bit None x at count high is low = omega arith
end_bit (Some f) x at count high is low =
    let top = high f refl in
    bit_if (nat_lt f x) (min f x - (at + count) == 0) refl refl
  where
    not_over : nat_lt f x ≡ false → x ≤ f
    not_over p = grind (arith, nat_tests)

    bit_if : (a b : Bool) → nat_lt f x ≡ a → (min f x - (at + count) == 0) ≡ b → x ≤ at + count + bit_of (a && b)
    bit_if true true p q = let top = high f refl in omega arith
    bit_if true false p q = absurd (grind (arith, nat_tests))
    bit_if false b p q = let up : x ≤ f = not_over p in omega arith

ready_long : (s : EndState) → Whole s → length (taking 65535 s) ≡ ready_count s
unfolding ready
ready_long s h =
    let all = length-bytes_from s.received (ready_at s) (ready_count s) in
    let some : length (taking 65535 s) ≡ min 65535 (length (bytes_from s.received (ready_at s) (ready_count s))) = length-take 65535 (bytes_from s.received (ready_at s) (ready_count s)) in
    let room = h.stream.room in
    omega arith

-- after a take of all that is ready, the end is told where the number expected is past the FIN
end_now : (s : EndState) → Whole s → at_end (take_out 65535 s) ≡ (passed_fin s.fin s.expected && (below_limit s.fin s.expected - (ready_at s + ready_count s) == 0))
end_now s h =
    let long = length-append s.taken (taking 65535 s) in
    let some = ready_long s h in
    let sum : first s.peer_isn + length (s.taken ++ taking 65535 s) ≡ ready_at s + ready_count s = omega arith in
    ap (λ (n : ℕ). passed_fin s.fin s.expected && (below_limit s.fin s.expected - n == 0)) sum

all_received : (s : EndState) (peer : ℕ) → Whole s → s.peer_isn ≡ Some peer → s.expected ≤ peer + 1 + length (s.taken ++ taking 65535 s) + bit_of (at_end (take_out 65535 s))
all_received s peer h is =
    let count = ready_count s in
    let at = ready_at s in
    let up = end_bit s.fin s.expected at count h.stream.fin_high refl h.stream.begun in
    let long = length-append s.taken (taking 65535 s) in
    let some = ready_long s h in
    let begin : first s.peer_isn ≡ peer + 1 = ap first is in
    let bit = ap bit_of (end_now s h) in
    omega arith

received_by : (setup : Setup) (w : World) (e : End) (sessions : List Session) (newest : Seen) (dropped : List Seen) (peer : ℕ) → (side w e).sessions ≡ sessions → AllZip Match (newest ∷ dropped) sessions → AllWhole sessions → EachFound sessions sessions
    → HasLine w e newest.isn peer → (bytes : List ℕ) × (ended : Bool) × WouldTake setup w e bytes ended × (newest.acknowledged ≤ peer + 1 + length (newest.got ++ bytes) + bit_of ended)
received_by setup w e [] newest dropped peer at zip whole found line = absurd zip
received_by setup w e (s ∷ rest) newest dropped peer at zip whole found line =
    let bytes = taking 65535 s.state in
    let ended = at_end (take_out 65535 s.state) in
    let here : find (side w e).sessions s.state.isn ≡ Some s = ap (λ (l : List Session). find l s.state.isn) at ∙ found.0 in
    let up = all_received s.state peer whole.0 (of_line w e s newest.isn peer zip.0.isn here line) in
    let low = zip.0.acknowledged in
    let long : length (newest.got ++ bytes) ≡ length (s.state.taken ++ bytes) = ap (λ (l : List ℕ). length (l ++ bytes)) zip.0.got in
    (bytes, ended, ap (λ (l : List Session). (act_on w e l (took 65535)).outcome) at, omega arith)

pub acknowledges_received : (setup : Setup) (fits : SetupFits setup) (events : List Event) → AllByRecursion EventFits events → AcknowledgesReceived setup events
acknowledges_received setup fits events f e newest dropped peer is line =
    let w = run setup events in
    let inv = run_inv setup fits events f in
    received_by setup w e (side w e).sessions newest dropped peer refl (subst (λ (l : List Seen). AllZip Match l (side w e).sessions) is (seen_match setup fits events f e)) (inv.whole e) (each_found (side w e).sessions (inv.distinct e)) line

-- ---- what the summary says

all_say : (ones : List Seen) (sessions : List Session) → AllZip Match ones sessions → AllZip SaysSeen ones sessions
all_say [] [] h = tt
all_say (one ∷ ones) [] h = absurd h
all_say [] (s ∷ rest) h = absurd h
all_say (one ∷ ones) (s ∷ rest) h =
    let a = h.0 in
    (record { isn = sym a.isn; given = sym a.gave; delivered = sym a.got; end = sym a.end_told }, all_say ones rest h.1)

pub summary_says_seen : (setup : Setup) (fits : SetupFits setup) (events : List Event) → AllByRecursion EventFits events → SummarySaysSeen setup events
summary_says_seen setup fits events f e = all_say (seen setup events e) (side (run setup events) e).sessions (seen_match setup fits events f e)
