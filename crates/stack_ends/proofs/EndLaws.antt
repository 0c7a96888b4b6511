-- Ends stand for a node of the definitions after an end was taken, dropped, called, and after a tick.
use Rattle.std.proofs.Common.{◌≡◌, ℕ, ◌<◌, ◌≤◌, Bool, true, false, List, length, Option, Some, None, Result, Ok, Err, OnErr, OnOk, refl, sym, ap, subst, ◌∙◌, arith}
use Rattle.std.proofs.lemmas.Bool.Decides.{nat_tests}
use Rattle.std.specs.Prelude.{is_some, nat_le, if◌then◌else◌}
use Rattle.book_base.specs.declared.address.Pair.{Pair}
use Rattle.book_keys.specs.Rows.{Row}
use Rattle.book_segments.specs.Segments.{Segment, Reading, Read, Bad as Unread}
use Rattle.book_endpoint.specs.States.{EndState}
use Rattle.book_endpoint.specs.Arrivals.{arrive}
use Rattle.book_cmd_node.specs.NodeRuns.{Called, Held, NodeState, held_end, same_pair, ends_ticked, with_end, without_end}
use Rattle.book_segments.specs.Segments.{pair_reached}
use Rattle.law_node.proofs.Held.{held, once_with, once_without, once_ticked, once_pushed}
use Rattle.tcp_endpoint.specs.declared.endpoint.Endpoint.{Endpoint}
use Rattle.tcp_endpoint.specs.Ends.{FitsEnd, Stands as EndStands}
use Rattle.tcp_endpoint.specs.Arrivals.{Arrives}
use Rattle.tcp_endpoint.specs.declared.arrival.Arrived.{Arrived}
use Rattle.stack_ends.specs.declared.answer.NodeArrival.{NodeArrival}
use Rattle.stack_ends.specs.declared.answer.NodeArrival.TheVariants as answers
use Rattle.stack_ends.specs.declared.answer.NodeRefusal.{NodeRefusal}
use Rattle.stack_ends.specs.declared.answer.NodeRefusal.TheVariants as refusals
use Rattle.stack_ends.specs.EndsArrivals.{Comes, ComesTo, HearsAt}
use Rattle.stack_ends.specs.Held.{Holding, end_at, ends, holds, refusal, Adds, Begins, IsRefused, Removes, Ticks}
use Rattle.stack_ends.specs.Loans.{written}
use Rattle.stack_ends.proofs.MapLaws.{written_finds, written_count}
use Rattle.stack_ends.specs.EndsStands.{StandsFor, StandsAt, HoldsAs}
use Rattle.stack_ends.proofs.HoldLaws.{put_holds, drop_holds, add_holds, tick_holds, held_alike}
use Rattle.stack_ends.specs.declared.ends.Ends.{Ends}
use Rattle.stack_ends.specs.Calls.{Asking, CallsAt}
use Rattle.stack_ends.specs.Arrivals.{Meets, MeetsPair, MeetsRead}
use Rattle.stack_ends.specs.Stands.{Stands, Begun, Removed, most_of, with_new}

-- a new end leaves how many there may be
pub opened_most : {A : Type 0} (before after : Holding) (p : Pair) (B : Endpoint → Type 0) (r : Result A NodeRefusal) → OnErr r (after ≡ before)
    → OnOk r ((e : Endpoint) × Adds before after p e × B e) → after.most ≡ before.most
opened_most before after p B (Ok x) same added = added.1.most
opened_most before after p B (Err why) same added = ap (λ h. h.most) same

-- the state that the definitions hold where an end is held
pub record AtSome (rows : List Row) (p : Pair) (e : Endpoint) (m : Option EndState) : Type 0 where
  pub state : EndState
  pub is : m ≡ Some state
  pub stands : StandsFor rows p e state

pub at_some : (rows : List Row) (p : Pair) (o : Option Endpoint) (m : Option EndState) (e : Endpoint) → StandsAt rows p o m → Some e ≡ o → AtSome rows p e m
at_some rows p (Some x) (Some s) e h is = let same : x ≡ e = cc in record { state = s; is = refl; stands = rw (← same) h }
at_some rows p (Some x) None e h is = absurd h
at_some rows p None m e h is = absurd (cc)

pub at_none : (rows : List Row) (p : Pair) (o : Option Endpoint) (m : Option EndState) → StandsAt rows p o m → None ≡ o → m ≡ None
at_none rows p None None h e = refl
at_none rows p None (Some s) h e = absurd h
at_none rows p (Some x) m h e = absurd (cc)

module _ (k after : Ends) (rows : List Row) (n : NodeState) (p : Pair) (S : Stands k rows n) (table : after.table ≡ k.table) (clock : after.clock ≡ k.clock) where
  pub stands_with : (hs : List Held) → HoldsAs rows after.node hs → ((q : Pair) → held_end q (without_end q hs) ≡ None) → Stands after rows (record n { ends = hs })
  stands_with hs H once = record { rows_are = ap (λ t. t.rows) table ∙ S.rows_are; clock = S.clock ∙ sym clock; holds = H; once = once }

  pub stands_same : after.node ≡ k.node → Stands after rows n
  stands_same same = record { rows_are = ap (λ t. t.rows) table ∙ S.rows_are; clock = S.clock ∙ sym clock; holds = rw same S.holds; once = S.once }

  held_as : holds k.node p ≡ is_some (held_end p n.ends)
  held_as = held_alike rows p (end_at k.node p) (held_end p n.ends) (S.holds.each p)

  added : (s : EndState) → held_end p n.ends ≡ None → (e : Endpoint) × Adds k.node after.node p e × Begins rows p s e → Stands after rows (with_new n (held p s))
  added s none a =
      let B = a.2 in
      stands_with _ (add_holds rows k.node after.node p a.0 s n.ends S.holds none a.1 (record { stands = B.stands; fits = B.fits; pair_is = B.pair_is })) (λ q. once_pushed q p s n.ends none (S.once q))

  pub begun : {A : Type 0} (s : EndState) (r : Result A NodeRefusal) → IsRefused r (refusal k.node p) → OnErr r (after.node ≡ k.node)
      → OnOk r ((e : Endpoint) × Adds k.node after.node p e × Begins rows p s e) → most_of after ≡ most_of k → Begun after rows n (held p s) r
  begun {A} s r refused same taken most = at (is_some (held_end p n.ends)) (nat_le k.node.most (ends k.node)) r refl refl
      (rw held_as at refused) same taken
    where
      none_of : (m : Option EndState) → is_some m ≡ false → m ≡ None
      none_of None e = refl
      none_of (Some x) e = absurd (cc)

      room : nat_le k.node.most (ends k.node) ≡ false → length n.ends < most_of after
      room g = let c = S.holds.count in let less : ends k.node < k.node.most = grind (arith, nat_tests, g) in rw (most, ← c) less

      full : nat_le k.node.most (ends k.node) ≡ true → most_of after ≤ length n.ends
      full g = let c = S.holds.count in let more : k.node.most ≤ ends k.node = grind (arith, nat_tests, g) in rw (most, ← c) more

      at : (b f : Bool) (t : Result A NodeRefusal) → is_some (held_end p n.ends) ≡ b → nat_le k.node.most (ends k.node) ≡ f
          → IsRefused t (if b then Some refusals.InUse else (if f then Some refusals.Full else None)) → OnErr t (after.node ≡ k.node)
          → OnOk t ((e : Endpoint) × Adds k.node after.node p e × Begins rows p s e) → Begun after rows n (held p s) t
      at true f (Ok x) h g why u v = absurd (cc)
      at false true (Ok x) h g why u v = absurd (cc)
      at false false (Ok x) h g why u v = let none = none_of (held_end p n.ends) h in (none, room g, added s none v)
      at true f (Err refusals.InUse) h g why u v = (h, stands_same u)
      at true f (Err refusals.Full) h g why u v = absurd (cc)
      at true f (Err refusals.Memory) h g why u v = stands_same u
      at false true (Err refusals.InUse) h g why u v = absurd (cc)
      at false true (Err refusals.Full) h g why u v = (none_of (held_end p n.ends) h, full g, stands_same u)
      at false true (Err refusals.Memory) h g why u v = stands_same u
      at false false (Err refusals.InUse) h g why u v = absurd (cc)
      at false false (Err refusals.Full) h g why u v = absurd (cc)
      at false false (Err refusals.Memory) h g why u v = stands_same u

  pub removed : (b : Bool) → b ≡ holds k.node p → Removes k.node after.node p → (b ≡ false → after.node ≡ k.node) → Removed after rows n p b (held_end p n.ends)
  removed b is R same = at (held_end p n.ends) refl (is ∙ held_as)
    where
      at : (m : Option EndState) → held_end p n.ends ≡ m → b ≡ is_some m → Removed after rows n p b m
      at None e i = (i, stands_same (same i))
      at (Some s) e i = (i, stands_with _ (drop_holds rows k.node after.node p s n.ends S.holds e (S.once p) R) (λ q. once_without q p n.ends (S.once q)))

  -- an end was written in the place of its pair's
  pub put : (s t : EndState) (e f : Endpoint) → held_end p n.ends ≡ Some s → end_at k.node p ≡ Some e → after.node ≡ written p k.node f → StandsFor rows p f t
      → Stands after rows (record n { ends = with_end p t n.ends })
  put s t e f is at new F = stands_with _ (subst (λ h. HoldsAs rows h (with_end p t n.ends)) (sym new)
      (put_holds rows k.node (written p k.node f) p f s t n.ends S.holds is (λ q. written_finds k.node p q f (ap is_some at)) (written_count k.node p f) F)) (λ q. once_with q p t n.ends (S.once q))

pub ticked_stands : (k after : Ends) (rows : List Row) (n : NodeState) (seconds : ℕ) → Stands k rows n → after.table ≡ k.table → after.clock ≡ seconds → Ticks seconds k.node after.node
    → Stands after rows (record { clock = seconds; ends = ends_ticked seconds n.ends })
ticked_stands k after rows n seconds S table clock T = record {
  rows_are = ap (λ t. t.rows) table ∙ S.rows_are;
  clock = sym clock;
  holds = tick_holds rows k.node after.node seconds n.ends S.holds T;
  once = λ q. once_ticked q seconds n.ends (S.once q);
}

-- ---- the end of a pair was called

module _ (k after : Ends) (q : Asking) (S : Stands k q.rows q.node) (table : after.table ≡ k.table) (clock : after.clock ≡ k.clock) where
  pub called : {A : Type 0} (does : A → EndState → Called → Type 0) (r : Option A) (a : A) (e f : Endpoint) → r ≡ Some a → Some e ≡ end_at k.node q.pair
      → after.node ≡ written q.pair k.node f → f.pair ≡ e.pair → FitsEnd k.table.rows f
      → ((s : EndState) → EndStands e s → EndStands f (q.answers k.table.rows e.pair k.clock s).state × does a s (q.answers k.table.rows e.pair k.clock s))
      → CallsAt after q r does (held_end q.pair q.node.ends)
  called {A} does r a e f is found new pair fits acted =
      let F = at_some q.rows q.pair (end_at k.node q.pair) (held_end q.pair q.node.ends) e (S.holds.each q.pair) found in
      let s = F.state in
      let first = acted s F.stands.stands in
      let second = subst (λ (t : ℕ). EndStands f (q.answers k.table.rows e.pair t s).state × does a s (q.answers k.table.rows e.pair t s)) (sym S.clock) first in
      let third = subst (λ (p : Pair). EndStands f (q.answers k.table.rows p q.node.clock s).state × does a s (q.answers k.table.rows p q.node.clock s)) F.stands.pair_is second in
      let fourth = subst (λ (rs : List Row). EndStands f (q.answers rs q.pair q.node.clock s).state × does a s (q.answers rs q.pair q.node.clock s)) S.rows_are third in
      let stands = put k after q.rows q.node q.pair S table clock s (q.answers q.rows q.pair q.node.clock s).state e f F.is (sym found) new
      (record { stands = fourth.0; fits = subst (λ (rs : List Row). FitsEnd rs f) S.rows_are fits; pair_is = pair ∙ F.stands.pair_is }) in
      let some : CallsAt after q (Some a) does (Some s) = (fourth.1, stands) in
      subst (λ (m : Option EndState). CallsAt after q r does m) (sym F.is) (subst (λ (o : Option A). CallsAt after q o does (Some s)) (sym is) some)

-- ---- a datagram came

module _ (k after : Ends) (rows : List Row) (n : NodeState) (S : Stands k rows n) (table : after.table ≡ k.table) (clock : after.clock ≡ k.clock) where
  stays : after.node ≡ k.node → Stands after rows n
  stays same = record { rows_are = ap (λ t. t.rows) table ∙ S.rows_are; clock = S.clock ∙ sym clock; holds = rw same S.holds; once = S.once }

  met_none : (d : Segment) (told : NodeArrival) → None ≡ end_at k.node (pair_reached d) → told ≡ answers.NoConnection → after.node ≡ k.node → MeetsRead after rows n d told (held_end (pair_reached d) n.ends)
  met_none d told is answer same =
      let m = at_none rows (pair_reached d) (end_at k.node (pair_reached d)) (held_end (pair_reached d) n.ends) (S.holds.each (pair_reached d)) is in
      let none : MeetsRead after rows n d told None = (answer, stays same) in
      subst (λ (o : Option EndState). MeetsRead after rows n d told o) (sym m) none

  met_some : (d : Segment) (p : Pair) (told : NodeArrival) (arrived : Arrived) (e : Endpoint) → pair_reached d ≡ p → Some e ≡ end_at k.node p → told ≡ answers.At p arrived
      → HearsAt k.table.rows k.clock d k.node after.node e arrived → MeetsPair after rows n d p told (held_end p n.ends)
  met_some d p told arrived e seen is answer h =
      let F = at_some rows p (end_at k.node p) (held_end p n.ends) e (S.holds.each p) is in
      let s = F.state in
      let H = h.hears in
      let first = H.arrives s F.stands.stands in
      let second = subst (λ (t : ℕ). Arrives k.table.rows e.pair (Read d) h.next arrived (arrive k.table.rows e.pair t s (Read d))) (sym S.clock) first in
      let third = subst (λ (q : Pair). Arrives k.table.rows q (Read d) h.next arrived (arrive k.table.rows q n.clock s (Read d))) F.stands.pair_is second in
      let A = subst (λ (rs : List Row). Arrives rs p (Read d) h.next arrived (arrive rs p n.clock s (Read d))) S.rows_are third in
      let finds : (q : Pair) → end_at after.node q ≡ (if same_pair p q then Some h.next else end_at k.node q) =
      λ q. subst (λ (z : Pair). end_at after.node q ≡ (if same_pair z q then Some h.next else end_at k.node q)) seen (h.finds q) in
      let holds = put_holds rows k.node after.node p h.next s (arrive rows p n.clock s (Read d)).state n.ends S.holds F.is finds h.count
      (record { stands = A.stands; fits = subst (λ (rs : List Row). FitsEnd rs h.next) S.rows_are H.fits; pair_is = H.pair ∙ F.stands.pair_is }) in
      let stands = stands_with k after rows n p S table clock _ holds (λ q. once_with q p (arrive rows p n.clock s (Read d)).state n.ends (S.once q)) in
      let some : MeetsPair after rows n d p told (Some s) = (arrived, answer, A.answer, A.passed, H.option, stands) in
      subst (λ (o : Option EndState). MeetsPair after rows n d p told o) (sym F.is) some

  met : (d : Segment) (told : NodeArrival) (o : Option Endpoint) → o ≡ end_at k.node (pair_reached d) → ComesTo k.table.rows k.clock d k.node after.node told o
      → MeetsRead after rows n d told (held_end (pair_reached d) n.ends)
  met d told None is c = met_none d told is c.0 c.1
  met d told (Some e) is c = met_some d (pair_reached d) told c.0 e refl is c.1 c.2

  pub came : (r : Reading) (told : NodeArrival) → Comes k.table.rows k.clock k.node after.node told r → Meets after rows n told r
  came (Unread fault) told c = (c.0, stays c.1)
  came (Read d) told c = met d told (end_at k.node (pair_reached d)) refl c
