-- Ends in step speak one after the other.
use Rattle.std.proofs.Common.{◌≡◌, ℕ, zero, suc, ◌+◌, ◌-◌, ◌<◌, ◌≤◌, min, List, [], ◌∷◌, ◌++◌, length, ◌⊎◌, inl, inr, ⊎_elim, refl, sym, ap, ◌∙◌, subst, arith}
use Rattle.book_base.specs.declared.end.End.{End}
use Rattle.book_base.specs.declared.end.End.TheVariants.{A, B}
use Rattle.book_segments.specs.Segments.{bit_of}
use Rattle.book_endpoint.specs.States.{EndState}
use Rattle.book_link.specs.declared.event.Event.TheVariants.{At}
use Rattle.book_link.specs.declared.event.Action.TheVariants.{Take}
use Rattle.book_link.specs.Worlds.{other, Setup, Session, World}
use Rattle.book_link.specs.Steps.{step}
use Rattle.book_link.specs.Runs.{run_from}
use Rattle.law_link.specs.Laws.{SetupFits}
use Rattle.law_link.proofs.Stream.{or_lt}
use Rattle.law_progress.specs.Progress.{Sends, all_end, IsSame}
use Rattle.law_progress.proofs.Finishing.{over_take}
use Rattle.law_progress.proofs.Progressing.{run_append}
use Rattle.law_progress.proofs.Trips.{Over, same_then, over_after, flip, flip_back}
use Rattle.law_progress.proofs.Turning.{Two, near_ends}
use Rattle.law_lossless.specs.Lossless.{speaking, conversation, at_length, Round, speakers}
use Rattle.law_lossless.proofs.Speaking.{Step, Spoken, Spoke, speaks}

-- ---- the worlds

-- the world once these ends have spoken
abbrev pub said : Setup → World → List End → World
said setup w ends = run_from setup w (conversation setup w ends)

pub said_none : (setup : Setup) (w : World) → said setup w [] ≡ w
unfolding conversation
said_none setup w = refl

pub said_more : (setup : Setup) (w : World) (e : End) (ends : List End) → said setup w (e ∷ ends) ≡ said setup (run_from setup w (speaking setup w e)) ends
unfolding conversation
said_more setup w e ends = let now = speaking setup w e in run_append setup w now (conversation setup (run_from setup w now) ends)

said_one : (setup : Setup) (w : World) (e : End) → said setup w (e ∷ []) ≡ run_from setup w (speaking setup w e)
said_one setup w e = said_more setup w e [] ∙ said_none setup (run_from setup w (speaking setup w e))

pub said_append : (setup : Setup) (w : World) (xs ys : List End) → said setup w (xs ++ ys) ≡ said setup (said setup w xs) ys
said_append setup w [] ys = ap (λ (v : World). said setup v ys) (sym (said_none setup w))
said_append setup w (x ∷ xs) ys =
    let v = run_from setup w (speaking setup w x) in
    said_more setup w x (xs ++ ys) ∙ said_append setup v xs ys ∙ ap (λ (k : World). said setup k ys) (sym (said_more setup w x xs))

-- ---- a link that is finished

pub over_spoken : (setup : Setup) (fits : SetupFits setup) (w : World) (x e : End) (s t : EndState) → Over setup w e s t → Over setup (run_from setup w (speaking setup w x)) e s t
unfolding speaking
over_spoken setup fits w x e s t o =
    let w0 = (step setup w (At x (Take 65535))).world in
    let r = over_take setup fits w o.over x in
    let one : Over setup w0 e s t = record { over = r.now; here = same_then s (o.over.session e).state (r.now.session e).state o.here (r.same e); there = same_then t (o.over.session (other e)).state (r.now.session (other e)).state o.there (r.same (other e)) } in
    over_after setup fits w0 e s t one (Sends x)

pub over_said : (setup : Setup) (fits : SetupFits setup) (w : World) (ends : List End) (e : End) (s t : EndState) → Over setup w e s t → Over setup (said setup w ends) e s t
over_said setup fits w [] e s t o = subst (λ (v : World). Over setup v e s t) (sym (said_none setup w)) o
over_said setup fits w (x ∷ ends) e s t o =
    subst (λ (v : World). Over setup v e s t) (sym (said_more setup w x ends)) (over_said setup fits (run_from setup w (speaking setup w x)) ends e s t (over_spoken setup fits w x e s t o))

pub over_turned : (setup : Setup) (v : World) (s t : EndState) → Over setup v B t s → Over setup v A s t
over_turned setup v s t o = record { over = o.over; here = o.there; there = o.here }

-- ---- the same sessions

pub same_all : (a b : EndState) → IsSame a b → all_end b ≡ all_end a
same_all a b h = let isn = h.isn in let long : length b.given ≡ length a.given = ap length h.given in let bit : bit_of b.closing ≡ bit_of a.closing = ap bit_of h.closing in omega arith

pub over_as : (setup : Setup) (v : World) (e : End) (s t s1 t1 : EndState) → IsSame s s1 → IsSame t t1 → Over setup v e s1 t1 → Over setup v e s t
over_as setup v e s t s1 t1 a b o = record { over = o.over; here = same_then s s1 (o.over.session e).state a o.here; there = same_then t t1 (o.over.session (other e)).state b o.there }

-- ---- an end speaks at length

then_spoken : (setup : Setup) (v u : World) (lead lag : ℕ) (y : End) (a b : EndState) (one : Spoken setup v lead lag y a b) → Spoken setup u lead lag y one.far.state one.near.state → Spoken setup u lead lag y a b
then_spoken setup v u lead lag y a b one two =
    let una_far1 = one.una_far in
    let una_far2 = two.una_far in
    let una_near1 = one.una_near in
    let una_near2 = two.una_near in
    let next_far1 = one.next_far in
    let next_far2 = two.next_far in
    let next_near1 = one.next_near in
    let next_near2 = two.next_near in
    record {
      far = two.far;
      near = two.near;
      two = two.two;
      same_far = same_then a one.far.state two.far.state one.same_far two.same_far;
      same_near = same_then b one.near.state two.near.state one.same_near two.same_near;
      far_step = two.far_step;
      near_step = two.near_step;
      acked = two.acked;
      una_far = omega arith;
      una_near = omega arith;
      next_far = omega arith;
      next_near = omega arith;
      gained = λ all left. let more = one.gained all left in omega arith;
    }

pub speaks_long : (setup : Setup) (fits : SetupFits setup) (w : World) (lead lag : ℕ) (e : End) (n : ℕ) (a b : Session) → Two setup w lead lag (other e) a b → Step a.state b.state → Step b.state a.state
    → Spoke setup (said setup w (at_length n e)) lead lag e a.state b.state
speaks_long setup fits w lead lag e zero a b two here there =
    subst (λ (v : World). Spoke setup v lead lag e a.state b.state) (sym (said_one setup w e)) (speaks setup fits w lead lag e a b two here there)
speaks_long setup fits w lead lag e (suc n) a b two here there =
    let v = run_from setup w (speaking setup w e) in
    let u = said setup v (at_length n e) in
    subst (λ (k : World). Spoke setup k lead lag e a.state b.state) (sym (said_more setup w e (at_length n e)))
    (⊎_elim
    (λ (r : Spoken setup v lead lag (other e) a.state b.state).
    let goal : Spoke setup u lead lag e a.state b.state =
    ⊎_elim (λ (q : Spoken setup u lead lag (other e) r.far.state r.near.state). inl (then_spoken setup v u lead lag (other e) a.state b.state r q))
    (λ (o : Over setup u e r.far.state r.near.state). inr (over_as setup u e a.state b.state r.far.state r.near.state r.same_far r.same_near o))
    (speaks_long setup fits v lead lag e n r.far r.near r.two r.far_step r.near_step) in goal)
    (λ (o : Over setup v e a.state b.state). let goal : Spoke setup u lead lag e a.state b.state = inr (over_said setup fits v (at_length n e) e a.state b.state o) in goal)
    (speaks setup fits w lead lag e a b two here there))

-- ---- rounds

-- both ends in step after some rounds, of which the first end's is far: what was sent of each, and what is acknowledged
pub record Rounded (setup : Setup) (v : World) (lead lag : ℕ) (a b : EndState) : Type 0 where
  pub here : Session
  pub there : Session
  pub two : Two setup v lead lag B here there
  pub same_here : IsSame a here.state
  pub same_there : IsSame b there.state
  pub step_here : Step here.state there.state
  pub step_there : Step there.state here.state
  pub acked : here.state.next ≤ here.state.una
  pub next_here : a.next ≤ here.state.next
  pub next_there : b.next ≤ there.state.next
  pub una_there : b.next ≤ there.state.una
  pub gained_here : a.next ≤ a.una → a.next < all_end a → a.next < here.state.next
  pub gained_there : b.next < all_end b → b.next < there.state.next

abbrev pub AfterRound : Setup → World → ℕ → ℕ → EndState → EndState → Type 0
AfterRound setup v lead lag a b = Rounded setup v lead lag a b ⊎ Over setup v A a b

abbrev pub round_of : Round → List End
round_of r = at_length r.more_of_a A ++ at_length r.more_of_b B

pub one_round : (setup : Setup) (fits : SetupFits setup) (w : World) (lead lag : ℕ) (r : Round) (a b : Session) → Two setup w lead lag B a b → Step a.state b.state → Step b.state a.state
    → AfterRound setup (said setup w (round_of r)) lead lag a.state b.state
one_round setup fits w lead lag r a b two here there =
    let xs = at_length r.more_of_a A in
    let ys = at_length r.more_of_b B in
    let v = said setup w xs in
    let u = said setup v ys in
    subst (λ (k : World). AfterRound setup k lead lag a.state b.state) (sym (said_append setup w xs ys))
    (⊎_elim
    (λ (p : Spoken setup v lead lag B a.state b.state).
    let turned : Two setup v lead lag A p.near p.far = flip setup v lead lag A p.far p.near p.two in
    let goal : AfterRound setup u lead lag a.state b.state =
    ⊎_elim
    (λ (q : Spoken setup u lead lag A p.near.state p.far.state).
    let acked_p = p.acked in
    let next_far_p = p.next_far in
    let next_near_p = p.next_near in
    let una_near_p = p.una_near in
    let una_far_q = q.una_far in
    let next_far_q = q.next_far in
    let next_near_q = q.next_near in
    let all_b = same_all b.state p.near.state p.same_near in
    let both : Rounded setup u lead lag a.state b.state = record {
      here = q.near;
      there = q.far;
      two = flip_back setup u lead lag A q.far q.near q.two;
      same_here = same_then a.state p.far.state q.near.state p.same_far q.same_near;
      same_there = same_then b.state p.near.state q.far.state p.same_near q.same_far;
      step_here = q.near_step;
      step_there = q.far_step;
      acked = q.acked;
      next_here = omega arith;
      next_there = omega arith;
      una_there = omega arith;
      gained_here = λ all left. let more = p.gained all left in omega arith;
      gained_there = λ left. let more = q.gained acked_p (omega arith) in omega arith;
    } in inl both)
    (λ (o : Over setup u B p.near.state p.far.state). inr (over_as setup u A a.state b.state p.far.state p.near.state p.same_far p.same_near (over_turned setup u p.far.state p.near.state o)))
    (speaks_long setup fits v lead lag B r.more_of_b p.near p.far turned p.near_step p.far_step) in goal)
    (λ (o : Over setup v A a.state b.state). let goal : AfterRound setup u lead lag a.state b.state = inr (over_said setup fits v ys A a.state b.state o) in goal)
    (speaks_long setup fits w lead lag A r.more_of_a a b two here there))

-- what so many rounds have sent and acknowledged, where all of the first end was acknowledged before
pub record Talked (setup : Setup) (v : World) (lead lag : ℕ) (a b : EndState) (n : ℕ) : Type 0 where
  pub here : Session
  pub there : Session
  pub two : Two setup v lead lag B here there
  pub same_here : IsSame a here.state
  pub same_there : IsSame b there.state
  pub all_here : min (all_end a) (a.next + n) ≤ here.state.una
  pub una_there : b.una ≤ there.state.una
  pub all_there : (k : ℕ) → k + 1 ≤ n → min (all_end b) (b.next + k) ≤ there.state.una

abbrev pub Talk : Setup → World → ℕ → ℕ → EndState → EndState → ℕ → Type 0
Talk setup v lead lag a b n = Talked setup v lead lag a b n ⊎ Over setup v A a b

pub said_round : (setup : Setup) (w : World) (r : Round) (rounds : List Round) → said setup w (speakers (r ∷ rounds)) ≡ said setup (said setup w (round_of r)) (speakers rounds)
said_round setup w r rounds =
    let xs = at_length r.more_of_a A in
    let ys = at_length r.more_of_b B in
    said_append setup w xs (ys ++ speakers rounds) ∙ said_append setup (said setup w xs) ys (speakers rounds) ∙ ap (λ (v : World). said setup v (speakers rounds)) (sym (said_append setup w xs ys))

pub talks : (setup : Setup) (fits : SetupFits setup) (w : World) (lead lag : ℕ) (rounds : List Round) (a b : Session) → Two setup w lead lag B a b → Step a.state b.state → Step b.state a.state → a.state.next ≤ a.state.una
    → Talk setup (said setup w (speakers rounds)) lead lag a.state b.state (length rounds)
talks setup fits w lead lag [] a b two here there all =
    let goal : Talked setup w lead lag a.state b.state 0 = record {
      here = a;
      there = b;
      two = two;
      same_here = record { isn = refl; given = refl; closing = refl };
      same_there = record { isn = refl; given = refl; closing = refl };
      all_here = omega arith;
      una_there = omega arith;
      all_there = λ k le. absurd (omega arith);
    } in
    subst (λ (v : World). Talk setup v lead lag a.state b.state 0) (sym (said_none setup w)) (inl goal)
talks setup fits w lead lag (r ∷ rounds) a b two here there all =
    let v = said setup w (round_of r) in
    let u = said setup v (speakers rounds) in
    let n = length rounds in
    let low = (near_ends setup w lead lag B a b two).numbers.una in
    subst (λ (k : World). Talk setup k lead lag a.state b.state (suc n)) (sym (said_round setup w r rounds))
    (⊎_elim
    (λ (p : Rounded setup v lead lag a.state b.state).
    let all_a = same_all a.state p.here.state p.same_here in
    let all_b = same_all b.state p.there.state p.same_there in
    let next_here = p.next_here in
    let next_there = p.next_there in
    let una_there = p.una_there in
    let up_a : min (all_end a.state) (a.state.next + 1) ≤ p.here.state.next =
    ⊎_elim (λ (x : a.state.next < all_end a.state). let more = p.gained_here all x in omega arith) (λ (x : all_end a.state ≤ a.state.next). omega arith) (or_lt a.state.next (all_end a.state)) in
    let up_b : min (all_end b.state) (b.state.next + 1) ≤ p.there.state.next =
    ⊎_elim (λ (x : b.state.next < all_end b.state). let more = p.gained_there x in omega arith) (λ (x : all_end b.state ≤ b.state.next). omega arith) (or_lt b.state.next (all_end b.state)) in
    let goal : Talk setup u lead lag a.state b.state (suc n) =
    ⊎_elim
    (λ (q : Talked setup u lead lag p.here.state p.there.state n).
    let here_q = q.all_here in
    let low_q = q.una_there in
    let there_q : (k : ℕ) → k + 1 ≤ suc n → min (all_end b.state) (b.state.next + k) ≤ q.there.state.una =
    λ k le. ⊎_elim (λ (x : 0 < k). let more = q.all_there (k - 1) (omega arith) in omega arith) (λ (x : k ≤ 0). omega arith) (or_lt 0 k) in
    let more : Talked setup u lead lag a.state b.state (suc n) = record {
      here = q.here;
      there = q.there;
      two = q.two;
      same_here = same_then a.state p.here.state q.here.state p.same_here q.same_here;
      same_there = same_then b.state p.there.state q.there.state p.same_there q.same_there;
      all_here = omega arith;
      una_there = omega arith;
      all_there = there_q;
    } in inl more)
    (λ (o : Over setup u A p.here.state p.there.state). inr (over_as setup u A a.state b.state p.here.state p.there.state p.same_here p.same_there o))
    (talks setup fits v lead lag rounds p.here p.there p.two p.step_here p.step_there p.acked) in goal)
    (λ (o : Over setup v A a.state b.state). let goal : Talk setup u lead lag a.state b.state (suc n) = inr (over_said setup fits v (speakers rounds) A a.state b.state o) in goal)
    (one_round setup fits w lead lag r a b two here there))
