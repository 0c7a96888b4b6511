-- A stack stands for a state after a part of it changed.
use Rattle.std.proofs.Common.{◌≡◌, ℕ, Bool, true, false, List, [], ◌∷◌, ◌++◌, Option, Some, None, refl, sym, ap, subst, ◌∙◌}
use Rattle.std.specs.Prelude.{is_some, option_map, if◌then◌else◌}
use Rattle.book_base.specs.declared.address.Pair.{Pair}
use Rattle.book_endpoint.specs.States.{EndState, tick}
use Rattle.book_cmd_node.specs.NodeRuns.{Held, NodeState, held_end, same_pair, with_end, without_end, ends_ticked}
use Rattle.law_node.proofs.Pairs.{same_pair_is}
use Rattle.law_node.proofs.Held.{held, end_with_same, end_with_other, end_without_other, end_ticked, end_pushed_other, end_pushed_same}
use Rattle.book_keys.specs.Rows.{Row}
use Rattle.book_stack.specs.declared.alarm.Alarm.{Alarm}
use Rattle.book_stack.specs.Alarms.{lined, with_alarm, without_alarm, without_pair}
use Rattle.book_stack.specs.Stacks.{StackState, touched, watched, forgotten}
use Rattle.book_stack.specs.Watches as book
use Rattle.book_base.specs.Addresses.{IsOneFamily}
use Rattle.stack_ends.specs.declared.ends.Ends.{Ends}
use Rattle.stack_ends.specs.Stands as ends
use Rattle.stack_ends.specs.Stands.{most_of, with_new}
use Rattle.stack_timers.specs.declared.watch.Watch.{Watch}
use Rattle.stack_timers.specs.Loans.{written}
use Rattle.stack_timers.specs.Places.{Alarmed, Lined}
use Rattle.stack_timers.specs.Timers.{Timing, KeepsNew, Drops, watch_at}
use Rattle.stack_timers.specs.Watches.{seen}
use Rattle.stack_timers.proofs.MapLaws.{written_finds}
use Rattle.ao_stack.specs.declared.stack.Stack.{Stack}
use Rattle.ao_stack.specs.Stands.{Stands, WatchIs}

-- ---- which pairs are held

pub some_with : (p q : Pair) (s t : EndState) (hs : List Held) → held_end p hs ≡ Some s → is_some (held_end q (with_end p t hs)) ≡ is_some (held_end q hs)
some_with p q s t hs e = at (same_pair p q) refl
  where
    at : (v : Bool) → same_pair p q ≡ v → is_some (held_end q (with_end p t hs)) ≡ is_some (held_end q hs)
    at true g = let is = same_pair_is p q g in rw (← is) (rw (end_with_same p t s hs e, e) refl)
    at false g = rw (end_with_other q p t hs g) refl

pub some_mapped : {A B : Type 0} (f : A → B) (o : Option A) → is_some (option_map f o) ≡ is_some o
some_mapped f None = refl
some_mapped f (Some x) = refl

pub some_ticked : (now : ℕ) (q : Pair) (hs : List Held) → is_some (held_end q (ends_ticked now hs)) ≡ is_some (held_end q hs)
some_ticked now q hs = rw (end_ticked q now hs) (some_mapped (tick now) (held_end q hs))

-- an end that is written with its own state changes nothing
pub with_same : (p : Pair) (s : EndState) (hs : List Held) → held_end p hs ≡ Some s → with_end p s hs ≡ hs
with_same p s [] e = refl
with_same p s (h ∷ hs) e = at (same_pair h.pair p) refl (λ f. with_same p s hs f) e
  where
    at : (v : Bool) → same_pair h.pair p ≡ v → (held_end p hs ≡ Some s → with_end p s hs ≡ hs) → (if v then Some h.state else held_end p hs) ≡ Some s
        → (if v then held p s ∷ hs else h ∷ with_end p s hs) ≡ h ∷ hs
    at true f next e =
        let state : h.state ≡ s = cc in
        ap (λ (q : Pair). held q s ∷ hs) (sym (same_pair_is h.pair p f)) ∙ ap (λ (x : EndState). held h.pair x ∷ hs) (sym state)
    at false f next e = ap (λ (xs : List Held). h ∷ xs) (next e)

-- ---- the lists

lined_alike : (a b : ℕ) (p : Pair) (xs ys : List Pair) → a ≡ b → xs ≡ ys → lined a p xs ≡ lined b p ys
lined_alike a b p xs ys e f = ap (λ (n : ℕ). lined n p xs) e ∙ ap (λ (zs : List Pair). lined b p zs) f

module _ (k after : Stack) (s : StackState) (S : Stands k s) where
  -- its node became another, which holds the same pairs
  pub moved : (n : NodeState) → ends.Stands after.ends s.rows n → most_of after.ends ≡ most_of k.ends → after.watches ≡ k.watches → after.alarms ≡ k.alarms → after.line ≡ k.line
      → ((q : Pair) → is_some (held_end q n.ends) ≡ is_some (held_end q s.node.ends)) → Stands after (record s { node = n })
  moved n E most w a l same = record {
    ends = E;
    most = most ∙ S.most;
    few = S.few;
    alarms = ap (λ (x : Alarmed). x.alarms) a ∙ S.alarms;
    alarms_most = ap (λ (x : Alarmed). x.most) a ∙ S.alarms_most;
    line = ap (λ (x : Lined). x.pairs) l ∙ S.line;
    line_most = ap (λ (x : Lined). x.most) l ∙ S.line_most;
    watches = λ q. subst (λ (t : Timing). WatchIs (watch_at t q) (s.watches q)) (sym w) (S.watches q);
    kept = λ q. ap (λ (t : Timing). is_some (watch_at t q)) w ∙ S.kept q ∙ sym (same q);
    family = λ q e. S.family q (sym (same q) ∙ e);
  }

  -- a pair came into the line
  pub came_in_line : (p : Pair) → after.ends ≡ k.ends → after.watches ≡ k.watches → after.alarms ≡ k.alarms → after.line.pairs ≡ lined k.line.most p k.line.pairs → after.line.most ≡ k.line.most
      → Stands after (touched p s)
  came_in_line p e w a pairs most = record {
    ends = subst (λ (x : Ends). ends.Stands x s.rows s.node) (sym e) S.ends;
    most = ap most_of e ∙ S.most;
    few = S.few;
    alarms = ap (λ (x : Alarmed). x.alarms) a ∙ S.alarms;
    alarms_most = ap (λ (x : Alarmed). x.most) a ∙ S.alarms_most;
    line = pairs ∙ lined_alike k.line.most s.most p k.line.pairs s.line S.line_most S.line;
    line_most = most ∙ S.line_most;
    watches = λ q. subst (λ (t : Timing). WatchIs (watch_at t q) (s.watches q)) (sym w) (S.watches q);
    kept = λ q. ap (λ (t : Timing). is_some (watch_at t q)) w ∙ S.kept q;
    family = S.family;
  }

  -- the line became another
  pub left_line : (ps : List Pair) → after.ends ≡ k.ends → after.watches ≡ k.watches → after.alarms ≡ k.alarms → after.line.pairs ≡ ps → after.line.most ≡ k.line.most
      → Stands after (record s { line = ps })
  left_line ps e w a pairs most = record {
    ends = subst (λ (x : Ends). ends.Stands x s.rows s.node) (sym e) S.ends;
    most = ap most_of e ∙ S.most;
    few = S.few;
    alarms = ap (λ (x : Alarmed). x.alarms) a ∙ S.alarms;
    alarms_most = ap (λ (x : Alarmed). x.most) a ∙ S.alarms_most;
    line = pairs;
    line_most = most ∙ S.line_most;
    watches = λ q. subst (λ (t : Timing). WatchIs (watch_at t q) (s.watches q)) (sym w) (S.watches q);
    kept = λ q. ap (λ (t : Timing). is_some (watch_at t q)) w ∙ S.kept q;
    family = S.family;
  }

  -- the alarms became others
  pub left_alarms : (left : List Alarm) → after.ends ≡ k.ends → after.watches ≡ k.watches → after.alarms.alarms ≡ left → after.alarms.most ≡ k.alarms.most → after.line ≡ k.line
      → Stands after (record s { alarms = left })
  left_alarms left e w alarms most l = record {
    ends = subst (λ (x : Ends). ends.Stands x s.rows s.node) (sym e) S.ends;
    most = ap most_of e ∙ S.most;
    few = S.few;
    alarms = alarms;
    alarms_most = most ∙ S.alarms_most;
    line = ap (λ (x : Lined). x.pairs) l ∙ S.line;
    line_most = ap (λ (x : Lined). x.most) l ∙ S.line_most;
    watches = λ q. subst (λ (t : Timing). WatchIs (watch_at t q) (s.watches q)) (sym w) (S.watches q);
    kept = λ q. ap (λ (t : Timing). is_some (watch_at t q)) w ∙ S.kept q;
    family = S.family;
  }

  -- a pair that is held has a timer
  pub has_timer : (p : Pair) → is_some (held_end p s.node.ends) ≡ true → is_some (watch_at k.watches p) ≡ true
  has_timer p e = S.kept p ∙ e

  pub timer_missed : (p : Pair) → is_some (held_end p s.node.ends) ≡ true → None ≡ watch_at k.watches p → ⊥
  timer_missed p e none = let no : is_some (watch_at k.watches p) ≡ false = ap is_some (sym none) in let yes = has_timer p e in absurd (cc)

  -- the timer of a pair that is held was written, and its alarm was set
  pub timed : (p : Pair) (w : Watch) (v : book.ConnectionWatch) → is_some (held_end p s.node.ends) ≡ true → seen w ≡ v → after.ends ≡ k.ends → after.watches ≡ written p k.watches w
      → after.alarms.alarms ≡ with_alarm k.alarms.most p v.deadline k.alarms.alarms → after.alarms.most ≡ k.alarms.most → after.line ≡ k.line → Stands after (watched p v s)
  timed p w v is same e t alarms most l = record {
    ends = subst (λ (x : Ends). ends.Stands x s.rows s.node) (sym e) S.ends;
    most = ap most_of e ∙ S.most;
    few = S.few;
    alarms = alarms ∙ ap (λ (n : ℕ). with_alarm n p v.deadline k.alarms.alarms) S.alarms_most ∙ ap (with_alarm s.most p v.deadline) S.alarms;
    alarms_most = most ∙ S.alarms_most;
    line = ap (λ (x : Lined). x.pairs) l ∙ S.line;
    line_most = ap (λ (x : Lined). x.most) l ∙ S.line_most;
    watches = λ q. subst (λ (o : Option Watch). WatchIs o (if same_pair p q then v else s.watches q)) (sym (finds q)) (watch q (same_pair p q));
    kept = λ q. ap is_some (finds q) ∙ timer q (same_pair p q) refl;
    family = S.family;
  }
    where
      finds : (q : Pair) → watch_at after.watches q ≡ (if same_pair p q then Some w else watch_at k.watches q)
      finds q = ap (λ (x : Timing). watch_at x q) t ∙ written_finds k.watches p q w (has_timer p is)

      watch : (q : Pair) (b : Bool) → WatchIs (if b then Some w else watch_at k.watches q) (if b then v else s.watches q)
      watch q true = same
      watch q false = S.watches q

      timer : (q : Pair) (b : Bool) → same_pair p q ≡ b → is_some (if b then Some w else watch_at k.watches q) ≡ is_some (held_end q s.node.ends)
      timer q true g = rw (← same_pair_is p q g) (sym is)
      timer q false g = S.kept q

  pub seen_as : (p : Pair) (w : Watch) → Some w ≡ watch_at k.watches p → seen w ≡ s.watches p
  seen_as p w e = subst (λ (o : Option Watch). WatchIs o (s.watches p)) (sym e) (S.watches p)

  -- the same, by what was done to the timer
  pub retimed : (p : Pair) (w x : Watch) (f : book.ConnectionWatch → book.ConnectionWatch) (d : Option ℕ) → is_some (held_end p s.node.ends) ≡ true → Some w ≡ watch_at k.watches p → seen x ≡ f (seen w)
      → d ≡ (seen x).deadline → after.ends ≡ k.ends → after.watches ≡ written p k.watches x → after.alarms.alarms ≡ with_alarm k.alarms.most p d k.alarms.alarms
      → after.alarms.most ≡ k.alarms.most → after.line ≡ k.line → Stands after (watched p (f (s.watches p)) s)
  retimed p w x f d is found new dl e t alarms most l =
      let same : seen x ≡ f (s.watches p) = new ∙ ap f (seen_as p w found) in
      timed p x (f (s.watches p)) is same e t (alarms ∙ ap (λ (o : Option ℕ). with_alarm k.alarms.most p o k.alarms.alarms) (dl ∙ ap (λ (v : book.ConnectionWatch). v.deadline) same)) most l

  -- an end began
  pub began : (p : Pair) (t : EndState) → held_end p s.node.ends ≡ None → IsOneFamily p.local.address p.remote.address → KeepsNew k.watches after.watches p
      → ends.Stands after.ends s.rows (with_new s.node (held p t)) → most_of after.ends ≡ most_of k.ends → after.alarms ≡ k.alarms → after.line ≡ k.line
      → Stands after (record s { node = with_new s.node (held p t) })
  began p t none one N E most a l = record {
    ends = E;
    most = most ∙ S.most;
    few = S.few;
    alarms = ap (λ (x : Alarmed). x.alarms) a ∙ S.alarms;
    alarms_most = ap (λ (x : Alarmed). x.most) a ∙ S.alarms_most;
    line = ap (λ (x : Lined). x.pairs) l ∙ S.line;
    line_most = ap (λ (x : Lined). x.most) l ∙ S.line_most;
    watches = λ q. subst (λ (o : Option Watch). WatchIs o (s.watches q)) (sym (N.finds q)) (watch q (same_pair p q) refl);
    kept = λ q. ap is_some (N.finds q) ∙ timer q (same_pair p q) refl;
    family = λ q e. family q (same_pair p q) refl e;
  }
    where
      -- no timer is kept of the pair, so that of the state is new
      bare : (o : Option Watch) (w : book.ConnectionWatch) → is_some o ≡ false → WatchIs o w → w ≡ book.new_connection_watch
      bare None w e is = is
      bare (Some x) w e is = absurd (cc)

      was_new : s.watches p ≡ book.new_connection_watch
      was_new = bare (watch_at k.watches p) (s.watches p) (S.kept p ∙ ap is_some none) (S.watches p)

      watch : (q : Pair) (b : Bool) → same_pair p q ≡ b → WatchIs (if b then Some N.watch else watch_at k.watches q) (s.watches q)
      watch q true g = rw (← same_pair_is p q g) (N.is_new ∙ sym was_new)
      watch q false g = S.watches q

      timer : (q : Pair) (b : Bool) → same_pair p q ≡ b → is_some (if b then Some N.watch else watch_at k.watches q) ≡ is_some (held_end q (s.node.ends ++ held p t ∷ []))
      timer q true g = rw (← same_pair_is p q g) (rw (end_pushed_same p t s.node.ends none) refl)
      timer q false g = rw (end_pushed_other q p t s.node.ends g) (S.kept q)

      family : (q : Pair) (b : Bool) → same_pair p q ≡ b → is_some (held_end q (s.node.ends ++ held p t ∷ [])) ≡ true → IsOneFamily q.local.address q.remote.address
      family q true g e = rw (← same_pair_is p q g) one
      family q false g e = S.family q (rw (end_pushed_other q p t s.node.ends g) at e)

  -- nothing is kept of a pair that was held
  pub dropped : (p : Pair) (t : EndState) → held_end p s.node.ends ≡ Some t → ends.Stands after.ends s.rows (record (s.node) { ends = without_end p s.node.ends }) → most_of after.ends ≡ most_of k.ends
      → Drops k.watches after.watches p → after.alarms.alarms ≡ without_alarm p k.alarms.alarms → after.alarms.most ≡ k.alarms.most
      → after.line.pairs ≡ without_pair p k.line.pairs → after.line.most ≡ k.line.most
      → Stands after (forgotten p (record s { node = record (s.node) { ends = without_end p s.node.ends } }))
  dropped p t is E most D alarms alarms_most line line_most = record {
    ends = E;
    most = most ∙ S.most;
    few = S.few;
    alarms = alarms ∙ ap (without_alarm p) S.alarms;
    alarms_most = alarms_most ∙ S.alarms_most;
    line = line ∙ ap (without_pair p) S.line;
    line_most = line_most ∙ S.line_most;
    watches = λ q. subst (λ (o : Option Watch). WatchIs o (if same_pair p q then book.new_connection_watch else s.watches q)) (sym (D.finds q)) (watch q (same_pair p q));
    kept = λ q. ap is_some (D.finds q) ∙ timer q (same_pair p q) refl;
    family = λ q e. family q (same_pair p q) refl e;
  }
    where
      watch : (q : Pair) (b : Bool) → WatchIs (if b then None else watch_at k.watches q) (if b then book.new_connection_watch else s.watches q)
      watch q true = refl
      watch q false = S.watches q

      timer : (q : Pair) (b : Bool) → same_pair p q ≡ b → is_some (if b then None else watch_at k.watches q) ≡ is_some (held_end q (without_end p s.node.ends))
      timer q true g = rw (← same_pair_is p q g) (sym (ap is_some (S.ends.once p)))
      timer q false g = rw (end_without_other q p s.node.ends g) (S.kept q)

      family : (q : Pair) (b : Bool) → same_pair p q ≡ b → is_some (held_end q (without_end p s.node.ends)) ≡ true → IsOneFamily q.local.address q.remote.address
      family q true g e = let here : is_some (held_end p (without_end p s.node.ends)) ≡ true = rw (← same_pair_is p q g) at e in let none = ap is_some (S.ends.once p) in absurd (cc)
      family q false g e = S.family q (rw (end_without_other q p s.node.ends g) at e)

  -- a timer was put for a pair that isn't held, and taken back
  pub taken_back : (p : Pair) (mid : Timing) → held_end p s.node.ends ≡ None → KeepsNew k.watches mid p → Drops mid after.watches p → ends.Stands after.ends s.rows s.node
      → most_of after.ends ≡ most_of k.ends → after.alarms ≡ k.alarms → after.line ≡ k.line → Stands after s
  taken_back p mid none N D E most a l = record {
    ends = E;
    most = most ∙ S.most;
    few = S.few;
    alarms = ap (λ (x : Alarmed). x.alarms) a ∙ S.alarms;
    alarms_most = ap (λ (x : Alarmed). x.most) a ∙ S.alarms_most;
    line = ap (λ (x : Lined). x.pairs) l ∙ S.line;
    line_most = ap (λ (x : Lined). x.most) l ∙ S.line_most;
    watches = λ q. subst (λ (o : Option Watch). WatchIs o (s.watches q)) (sym (finds q)) (watch q (same_pair p q) refl);
    kept = λ q. ap is_some (finds q) ∙ timer q (same_pair p q) refl;
    family = S.family;
  }
    where
      finds : (q : Pair) → watch_at after.watches q ≡ (if same_pair p q then None else (if same_pair p q then Some N.watch else watch_at k.watches q))
      finds q = D.finds q ∙ ap (λ (o : Option Watch). if same_pair p q then None else o) (N.finds q)

      empty : (o : Option Watch) (w : book.ConnectionWatch) → is_some o ≡ false → WatchIs o w → WatchIs None w
      empty None w e is = is
      empty (Some x) w e is = absurd (cc)

      watch : (q : Pair) (b : Bool) → same_pair p q ≡ b → WatchIs (if b then None else (if b then Some N.watch else watch_at k.watches q)) (s.watches q)
      watch q true g = rw (← same_pair_is p q g) (empty (watch_at k.watches p) (s.watches p) (S.kept p ∙ ap is_some none) (S.watches p))
      watch q false g = S.watches q

      timer : (q : Pair) (b : Bool) → same_pair p q ≡ b → is_some (if b then None else (if b then Some N.watch else watch_at k.watches q)) ≡ is_some (held_end q s.node.ends)
      timer q true g = rw (← same_pair_is p q g) (sym (ap is_some none))
      timer q false g = S.kept q

  -- the rows became others
  pub under : (rows : List Row) → ends.Stands after.ends rows s.node → most_of after.ends ≡ most_of k.ends → after.watches ≡ k.watches → after.alarms ≡ k.alarms → after.line ≡ k.line
      → Stands after (record s { rows = rows })
  under rows E most w a l = record {
    ends = E;
    most = most ∙ S.most;
    few = S.few;
    alarms = ap (λ (x : Alarmed). x.alarms) a ∙ S.alarms;
    alarms_most = ap (λ (x : Alarmed). x.most) a ∙ S.alarms_most;
    line = ap (λ (x : Lined). x.pairs) l ∙ S.line;
    line_most = ap (λ (x : Lined). x.most) l ∙ S.line_most;
    watches = λ q. subst (λ (t : Timing). WatchIs (watch_at t q) (s.watches q)) (sym w) (S.watches q);
    kept = λ q. ap (λ (t : Timing). is_some (watch_at t q)) w ∙ S.kept q;
    family = S.family;
  }
