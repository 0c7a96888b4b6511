-- All that was to be sent is acknowledged: what was given is taken.
use Rattle.std.proofs.Common.{◌≡◌, ℕ, ◌+◌, ◌<◌, ◌≤◌, ◌==◌, Bool, true, false, ◌&&◌, List, [], ◌++◌, length, Option, Some, None, ◌⊎◌, ⊎_elim, refl, sym, ap, ◌∙◌, subst, arith, append-nil, length-append}
use Rattle.std.proofs.lemmas.Bool.Decides.{nat_tests}
use Rattle.std.proofs.lemmas.Option.{slice_get_within}
use Rattle.book_base.specs.declared.end.End.{End}
use Rattle.book_base.specs.declared.end.End.TheVariants.{A, B}
use Rattle.book_segments.specs.Received.{below_limit, bytes_from}
use Rattle.book_segments.specs.Segments.{bit_of}
use Rattle.book_segments.proofs.Fields.{some_is}
use Rattle.book_endpoint.specs.States.{EndState, first, ready, ready_count, ready_at, take_out, given_end, passed_fin, at_end}
use Rattle.book_link.specs.declared.event.Event.TheVariants.{At}
use Rattle.book_link.specs.declared.event.Action.TheVariants.{Take}
use Rattle.book_link.specs.Worlds.{other, Setup, Session, World, side, live, partner_among, forgeries}
use Rattle.book_link.specs.Steps.{step}
use Rattle.book_link.specs.Runs.{run_from}
use Rattle.law_link.specs.Headline.{IsPrefixOf, ComesFrom}
use Rattle.law_link.specs.Laws.{SetupFits}
use Rattle.law_link.proofs.Carrying.{GivenAt}
use Rattle.law_link.proofs.Invariant.{live_whole}
use Rattle.law_link.proofs.Prefix.{comes, whole_prefix}
use Rattle.law_link.proofs.Received.{FinMade, OfPartner, Received}
use Rattle.law_link.proofs.Sessions.{both, partner_is}
use Rattle.law_link.proofs.Whole.{Whole}
use Rattle.law_progress.specs.Progress.{all_end, IsUp, IsSame, CaughtUp, takings}
use Rattle.law_progress.proofs.Facts.{Facts, limit_none, live_all, live_found, partner_live, back_again, forth_again}
use Rattle.law_progress.proofs.Finishing.{over_taken}
use Rattle.law_progress.proofs.Trips.{Over, same_then, flip, flip_back}
use Rattle.law_progress.proofs.Turning.{Two, near_ends, far_ends, near_lives, far_lives, all_taken, two_taken, took_window}

-- the limit of what was received, once all of the partner's is
limit_at : (o : Option ℕ) (x g : ℕ) → ((f : ℕ) → o ≡ Some f → f ≡ g) → g ≤ x → g ≤ below_limit o x
limit_at None x g h low = low
limit_at (Some f) x g h low = let is = h f refl in omega arith

-- the live sessions are partners, where no forgery is counted
record Linked (setup : Setup) (v : World) (y : End) (a b : Session) : Type 0 where
  facts : Facts setup v
  unforged : forgeries v.history ≡ 0
  far_lives : live (side v (other y)).sessions ≡ Some a
  near_lives : live (side v y).sessions ≡ Some b
  far_peer : a.state.peer_isn ≡ Some b.state.isn
  near_peer : b.state.peer_isn ≡ Some a.state.isn

linked_two : (setup : Setup) (v : World) (lead lag : ℕ) (y : End) (a b : Session) → Two setup v lead lag y a b → Linked setup v y a b
linked_two setup v lead lag y a b two = record {
  facts = two.facts;
  unforged = two.up.unforged;
  far_lives = far_lives setup v lead lag y a b two;
  near_lives = near_lives setup v lead lag y a b two;
  far_peer = (far_ends setup v lead lag y a b two).peer;
  near_peer = (near_ends setup v lead lag y a b two).peer;
}

passed_so : (o : Option ℕ) (f x : ℕ) → o ≡ Some f → f < x → passed_fin o x ≡ true
passed_so None f x e more = absurd (cc)
passed_so (Some g) f x e more = let same = some_is g f e in grind (arith, nat_tests)

both_true : (p q : Bool) → p ≡ true → q ≡ true → (p && q) ≡ true
both_true true q e f = f
both_true false q e f = absurd (cc)

module _ (setup : Setup) (v : World) (y : End) (a b : Session) (h : Linked setup v y a b) (none : ready_count b.state ≡ 0) where
  whole_near : Whole b.state
  whole_near = live_whole (side v y).sessions b h.near_lives (h.facts.inv.whole y)

  from_far : Received (side v (other y)).sessions b.state
  from_far = live_all (λ (x : Session). Received (side v (other y)).sessions x.state) (side v y).sessions b h.near_lives (h.facts.heard.origin h.unforged y)

  of_far : (P : EndState → Type 0) → OfPartner (side v (other y)).sessions b.state P → P a.state
  of_far P o = partner_live (side v (other y)).sessions b.state a P h.far_lives h.near_peer o

  fin_is : (f : ℕ) → b.state.fin ≡ Some f → f ≡ given_end a.state
  fin_is f e = (of_far (λ t. FinMade t f) (from_far.fins f e)).1

  -- all that was given to the far end was taken at the near end
  all_taken_is : given_end a.state ≤ b.state.expected → b.state.taken ≡ a.state.given
  unfolding ready
  all_taken_is all =
      let others = (side v (other y)).sessions in
      let s = b.state in
      let come : ComesFrom (partner_among others s.isn s.peer_isn) (s.taken ++ ready s) = comes others s whole_near from_far in
      let partner : partner_among others s.isn s.peer_isn ≡ Some a = partner_is others s.isn s.peer_isn a.state.isn a h.near_peer (live_found others a h.far_lives) h.far_peer in
      let prefix : IsPrefixOf (s.taken ++ ready s) a.state.given = subst (λ (o : Option Session). ComesFrom o (s.taken ++ ready s)) partner come in
      let empty_ready : ready s ≡ [] = ap (λ (k : ℕ). bytes_from s.received (ready_at s) k) none in
      let bare : s.taken ++ ready s ≡ s.taken = ap (λ (l : List ℕ). s.taken ++ l) empty_ready ∙ append-nil s.taken in
      let only : IsPrefixOf s.taken a.state.given = subst (λ (l : List ℕ). IsPrefixOf l a.state.given) bare prefix in
      let start : first s.peer_isn ≡ a.state.isn + 1 = ap first h.near_peer in
      let limit = limit_at s.fin s.expected (given_end a.state) fin_is all in
      let longer = length-append s.taken only.0 in
      let sum : length (s.taken ++ only.0) ≡ length a.state.given = ap length only.1 in
      whole_prefix s.taken a.state.given only (omega arith)

  -- the near end is at the end of the stream, where the FIN was received
  at_end_is : given_end a.state < b.state.expected → at_end b.state ≡ true
  at_end_is more =
      let s = b.state in
      let start : first s.peer_isn ≡ a.state.isn + 1 = ap first h.near_peer in
      let zero_now : (ready_count s == 0) ≡ true = grind (arith, nat_tests) in
      by_fin s.fin refl start zero_now
    where
      by_fin : (o : Option ℕ) → b.state.fin ≡ o → first b.state.peer_isn ≡ a.state.isn + 1 → (ready_count b.state == 0) ≡ true → at_end b.state ≡ true
      by_fin (Some f) e start zero_now = let at = fin_is f e in both_true (passed_fin b.state.fin b.state.expected) (ready_count b.state == 0) (passed_so b.state.fin f b.state.expected e (omega arith)) zero_now
      by_fin None e start zero_now =
          let limit = limit_none b.state.fin b.state.expected e in
          let byte = whole_near.stream.filled (given_end a.state) (omega arith) (omega arith) in
          let given = of_far (λ t. GivenAt t (given_end a.state) byte.0) (from_far.bytes (given_end a.state) byte.0 byte.1) in
          let inside = slice_get_within a.state.given given.0 byte.0 given.2 in
          let at = given.1 in
          absurd (omega arith)

-- both took all, and all is acknowledged
caught : (setup : Setup) (w v : World) (lead lag : ℕ) (up : IsUp setup w lead lag) (session : End → Session) → ((e : End) → live (side v e).sessions ≡ Some (session e)) → ((e : End) → IsSame (up.session e).state (session e).state)
    → ((e : End) → Linked setup v e (session (other e)) (session e)) → ((e : End) → ready_count (session e).state ≡ 0) → ((e : End) → (session e).state.una ≡ all_end (session e).state) → ((e : End) → all_end (session (other e)).state ≤ (session e).state.expected)
    → CaughtUp setup w v lead lag up
caught setup w v lead lag up session lives same linked none all got = record {
  after = record { session = session; lives = lives; same = same };
  acknowledged = all;
  taken = λ e. forth_again (λ (f : End). (session (other e)).state.taken ≡ (session f).state.given) e
      (let low = got (other e) in all_taken_is setup v (other e) (session (other (other e))) (session (other e)) (linked (other e)) (none (other e)) (omega arith));
  ended = λ e on.
      let one : bit_of (session e).state.closing ≡ 1 = ap bit_of on in
      let low = got (other e) in
      let is : all_end (session (other (other e))).state ≡ all_end (session e).state = back_again (λ (f : End). all_end (session f).state ≡ all_end (session e).state) e refl in
      let given_is : given_end (session (other (other e))).state ≡ given_end (session e).state = back_again (λ (f : End). given_end (session f).state ≡ given_end (session e).state) e refl in
      at_end_is setup v (other e) (session (other (other e))) (session (other e)) (linked (other e)) (none (other e)) (omega arith);
}

took_none : (s : EndState) → Whole s → ready_count (take_out 65535 s) ≡ 0
took_none s h = let wide = took_window s h in omega arith

abbrev pick_end : Session → Session → End → Session
pick_end s t A = s
pick_end s t B = t

-- both ends of a link that is up, or finished, with all acknowledged at both
pub record Settled (setup : Setup) (v : World) (lead lag : ℕ) (a b : EndState) : Type 0 where
  pub here : Session
  pub there : Session
  pub two : Two setup v lead lag B here there
  pub same_here : IsSame a here.state
  pub same_there : IsSame b there.state
  pub all_here : all_end here.state ≤ here.state.una
  pub all_there : all_end there.state ≤ there.state.una

pub takes_all : (setup : Setup) (fits : SetupFits setup) (w v : World) (lead lag : ℕ) (up : IsUp setup w lead lag) → Settled setup v lead lag (up.session A).state (up.session B).state ⊎ Over setup v A (up.session A).state (up.session B).state
    → CaughtUp setup w (run_from setup v takings) lead lag up
takes_all setup fits w v lead lag up done =
    let a0 = up.session A in
    let b0 = up.session B in
    let v1 = (step setup v (At A (Take 65535))).world in
    let v2 = (step setup v1 (At B (Take 65535))).world in
    ⊎_elim
    (λ (r : Settled setup v lead lag a0.state b0.state).
    let a = r.here in
    let b = r.there in
    let one = flip setup v lead lag A a b r.two in
    let two1 = two_taken setup fits v lead lag A b a one in
    let a1 = all_taken a in
    let back_two = flip_back setup v1 lead lag A b a1 two1 in
    let two2 = two_taken setup fits v1 lead lag B a1 b back_two in
    let b1 = all_taken b in
    let turned = flip setup v2 lead lag A a1 b1 two2 in
    let a_none = took_none a.state (near_ends setup v lead lag A b a one).whole in
    let b_none = took_none b.state (near_ends setup v1 lead lag B a1 b back_two).whole in
    let all_a = r.all_here in
    let all_b = r.all_there in
    let far = far_ends setup v2 lead lag B a1 b1 two2 in
    let near = near_ends setup v2 lead lag B a1 b1 two2 in
    let a_una = far.numbers.una in
    let a_next = far.numbers.next in
    let b_una = near.numbers.una in
    let b_next = near.numbers.next in
    let a_acked = far.acked in
    let b_acked = near.acked in
    let session : End → Session = pick_end a1 b1 in
    caught setup w v2 lead lag up session
    (both (λ e. live (side v2 e).sessions ≡ Some (session e)) (far_lives setup v2 lead lag B a1 b1 two2) (near_lives setup v2 lead lag B a1 b1 two2))
    (both (λ e. IsSame (up.session e).state (session e).state) (record { isn = r.same_here.isn; given = r.same_here.given; closing = r.same_here.closing }) (record { isn = r.same_there.isn; given = r.same_there.given; closing = r.same_there.closing }))
    (both (λ e. Linked setup v2 e (session (other e)) (session e)) (linked_two setup v2 lead lag A b1 a1 turned) (linked_two setup v2 lead lag B a1 b1 two2))
    (both (λ e. ready_count (session e).state ≡ 0) a_none b_none)
    (both (λ e. (session e).state.una ≡ all_end (session e).state) (omega arith) (omega arith))
    (both (λ e. all_end (session (other e)).state ≤ (session e).state.expected) (omega arith) (omega arith)))
    (λ (o : Over setup v A a0.state b0.state).
    let r1 = over_taken setup fits v o.over A in
    let f1 = r1.0.now in
    let r2 = over_taken setup fits v1 f1 B in
    let f2 = r2.0.now in
    let a_is : f2.session A ≡ all_taken (o.over.session A) = r2.1 A ∙ r1.1 A in
    let b_is : f2.session B ≡ all_taken (o.over.session B) = r2.1 B ∙ ap all_taken (r1.1 B) in
    let a_whole = live_whole (side v A).sessions (o.over.session A) (o.over.lives A) (o.over.facts.inv.whole A) in
    let b_whole = live_whole (side v B).sessions (o.over.session B) (o.over.lives B) (o.over.facts.inv.whole B) in
    caught setup w v2 lead lag up f2.session f2.lives
    (both (λ e. IsSame (up.session e).state (f2.session e).state)
    (same_then a0.state (f1.session A).state (f2.session A).state (same_then a0.state (o.over.session A).state (f1.session A).state o.here (r1.0.same A)) (r2.0.same A))
    (same_then b0.state (f1.session B).state (f2.session B).state (same_then b0.state (o.over.session B).state (f1.session B).state o.there (r1.0.same B)) (r2.0.same B)))
    (λ e. record { facts = f2.facts; unforged = f2.unforged; far_lives = f2.lives (other e); near_lives = f2.lives e; far_peer = forth_again (λ (f : End). (f2.session (other e)).state.peer_isn ≡ Some (f2.session f).state.isn) e (f2.peer (other e)); near_peer = f2.peer e })
    (both (λ e. ready_count (f2.session e).state ≡ 0)
    (subst (λ (s : Session). ready_count s.state ≡ 0) (sym a_is) (took_none (o.over.session A).state a_whole))
    (subst (λ (s : Session). ready_count s.state ≡ 0) (sym b_is) (took_none (o.over.session B).state b_whole)))
    f2.all f2.got)
    done
