-- After `output` rested, nothing that could be sent is left.
use Rattle.std.proofs.Common.{◌≡◌, ℕ, zero, suc, ◌≤◌, Bool, true, false, ◌||◌, nat_le, List, [], ◌∷◌, ◌++◌, length, Option, Some, None, refl, sym, ap, ◌∙◌, ◌⊎◌, inl, inr, subst, if◌then◌else◌, append_assoc, append-nil, arith}
use Rattle.std.specs.Prelude.{is_some}
use Rattle.book_base.specs.declared.address.Pair.{Pair}
use Rattle.book_keys.specs.Rows.{Row}
use Rattle.book_endpoint.specs.States.{EndState}
use Rattle.book_endpoint.specs.Emissions.{Emission, Emitted, Quiet, NoKey, Emits, emit, resend}
use Rattle.book_segments.proofs.Fields.{some_is}
use Rattle.book_cmd_node.specs.NodeRuns.{Held, NothingToSend, NothingToResend, held_end, made_called, most_ends, same_pair, with_end}
use Rattle.law_node.proofs.Held.{end_with_same, end_with_other}
use Rattle.law_node.proofs.Pairs.{same_pair_is, same_pair-refl}
use Rattle.book_stack.specs.declared.alarm.Alarm.{Alarm}
use Rattle.book_stack.specs.Alarms.{stands_in}
use Rattle.book_stack.specs.Calls.{Call, Output, Rests, call, handed_out}
use Rattle.book_stack.specs.Runs.{stack_after}
use Rattle.book_stack.specs.Stacks.{StackState, empty_stack}
use Rattle.book_stack.specs.Turns.{Turn, ask, asked_end, asked_first, asked_pair, clocked, output_at, passing, then_turn, turns, wake, woken_end, woken_first, woken_pair}
use Rattle.law_stack.specs.Resting.{AreAtRest}
use Rattle.law_stack.proofs.Lines.{Queue, stands_pushed, tail_line, touch_line}
use Rattle.law_stack.proofs.Settling.{nothing_is_quiet}
use Rattle.law_stack.proofs.Tidy.{Ends, Tidy, length_with, queue_with}
use Rattle.law_stack.proofs.TidyTurns.{ask_tidy, clocked_tidy, output_tidy}
use Rattle.law_stack.proofs.TidyCalls.{empty_tidy, run_tidy}

abbrev pub makes : Emitted → Bool
makes Quiet = false
makes NoKey = false
makes (Emits out) = true

-- the end of a pair makes nothing when it is asked
abbrev pub IsMute : StackState → Pair → Type 0
IsMute s p = (e : EndState) → held_end p s.node.ends ≡ Some e → makes (emit s.rows p s.node.clock e) ≡ false

pub record Mute (s : StackState) : Type 0 where
  pub all : (p : Pair) → IsMute s p

pub record MuteIn (line : List Pair) (s : StackState) : Type 0 where
  pub all : (p : Pair) → stands_in p line ≡ true → IsMute s p

-- who doesn't stand in line makes nothing
out_mute : (s : StackState) (p : Pair) → Tidy s → stands_in p s.line ≡ false → IsMute s p
out_mute s p h out e was = ap makes (nothing_is_quiet s.rows p s.node.clock e (h.settles.all p e refl was out).nothing)

pub mute_of : (s : StackState) → Tidy s → MuteIn s.line s → Mute s
mute_of s h m = record { all = λ p. at p (stands_in p s.line) refl }
  where
    at : (p : Pair) (v : Bool) → stands_in p s.line ≡ v → IsMute s p
    at p true is = m.all p is
    at p false is = out_mute s p h is

-- ---- turns that hand out nothing

no_hands : {X : Type 0} (o : Option X) → is_some o ≡ false → o ≡ None
no_hands None e = refl
no_hands (Some x) e = absurd (cc)

pub then_rests : (P : StackState → Type 0) (t : Turn) (next : StackState → Turn) → (then_turn t next).hands ≡ None → (t.hands ≡ None → (next t.stack).hands ≡ None → P (next t.stack).stack) → P (then_turn t next).stack
then_rests P t next none go = at (is_some t.hands) refl none
  where
    after : Turn
    after = let u = next t.stack in record { stack = u.stack; events = t.events ++ u.events; outcomes = t.outcomes ++ u.outcomes; hands = u.hands }

    at : (v : Bool) → is_some t.hands ≡ v → (let r : Turn = if v then t else after in r.hands) ≡ None → P (let r : Turn = if v then t else after in r.stack)
    at true e none = let no : is_some t.hands ≡ false = ap is_some none in absurd (cc)
    at false e none = go (no_hands t.hands e) none

-- the ends that are held stay as they are where an end becomes itself
pub same_held : (p q : Pair) (e : EndState) (hs : List Held) → held_end p hs ≡ Some e → held_end q (with_end p e hs) ≡ held_end q hs
same_held p q e hs was = at (same_pair p q) refl
  where
    at : (v : Bool) → same_pair p q ≡ v → held_end q (with_end p e hs) ≡ held_end q hs
    at true s = let is = same_pair_is p q s in rw (← is) (end_with_same p e e hs was ∙ sym was)
    at false s = end_with_other q p e hs s

-- ---- each end in line is asked

-- what asking the first of a line leaves: the rest of the line, and behind it ends that make nothing
record Asked (rest : List Pair) (u : StackState) : Type 0 where
  behind : List Pair
  line : u.line ≡ rest ++ behind
  mute : MuteIn behind u

or_elim : (a b : Bool) (X : Type 0) → (a || b) ≡ true → (a ≡ true → X) → (b ≡ true → X) → X
or_elim true b X e f g = f refl
or_elim false b X e f g = g e

asked_step : (now : ℕ) (p : Pair) (rest behind : List Pair) (e : EndState) (s : StackState) (m : Emitted) → emit s.rows p s.node.clock e ≡ m → held_end p s.node.ends ≡ Some e
    → Ends s.most s.node.ends → Queue (p ∷ (rest ++ behind)) s.node.ends → MuteIn behind s → s.line ≡ rest ++ behind
    → (asked_end now p e (made_called e NothingToSend m) s).hands ≡ None → Asked rest (asked_end now p e (made_called e NothingToSend m) s).stack
asked_step now p rest behind e s Quiet is was ends queue mute line none = record {
  behind = behind;
  line = line;
  mute = record { all = λ q stands x held. mute.all q stands x (sym (same_held p q e s.node.ends was) ∙ held) };
}
asked_step now p rest behind e s NoKey is was ends queue mute line none =
    let hs = with_end p e s.node.ends in
    let q1 : Queue s.line hs = subst (λ (l : List Pair). Queue l hs) (sym line) (queue_with p e e (rest ++ behind) s.node.ends was (tail_line p (rest ++ behind) s.node.ends queue)) in
    let out : stands_in p s.line ≡ false = ap (stands_in p) line ∙ queue.apart.0 in
    let few : length hs ≤ s.most = omega (arith, length_with p e s.node.ends, ends.few) in
    let l = touch_line s.most p s.line hs few q1 (ap is_some (end_with_same p e e s.node.ends was)) in
    record {
      behind = behind ++ p ∷ [];
      line = l.pushed out ∙ ap (λ (x : List Pair). x ++ p ∷ []) line ∙ append_assoc rest behind (p ∷ []);
      mute = record {
        all = λ q stands x held.
            let before : held_end q s.node.ends ≡ Some x = sym (same_held p q e s.node.ends was) ∙ held in
            or_elim (stands_in q behind) (same_pair p q) (makes (emit s.rows q s.node.clock x) ≡ false) (sym (stands_pushed q p behind) ∙ stands)
            (λ old. mute.all q old x before)
            (λ new.
            let same = same_pair_is p q new in
            let it : e ≡ x = some_is e x (sym was ∙ ap (λ (r : Pair). held_end r s.node.ends) same ∙ before) in
            rw (← same, ← it, is) refl);
      };
    }
asked_step now p rest behind e s (Emits out) is was ends queue mute line none = absurd (cc)

ask_step : (now : ℕ) (p : Pair) (rest behind : List Pair) (s : StackState) → s.line ≡ p ∷ (rest ++ behind) → Tidy s → MuteIn behind s → (ask now s).hands ≡ None → Asked rest (ask now s).stack
ask_step now p rest behind s is h mute none = subst First (sym is) (at (held_end p s.node.ends) refl) none
  where
    First : List Pair → Type 0
    First line = (asked_first now s line).hands ≡ None → Asked rest (asked_first now s line).stack

    queue : Queue (p ∷ (rest ++ behind)) s.node.ends
    queue = subst (λ (l : List Pair). Queue l s.node.ends) is h.queue

    at : (o : Option EndState) → held_end p s.node.ends ≡ o → (asked_pair now p (record s { line = rest ++ behind }) o).hands ≡ None → Asked rest (asked_pair now p (record s { line = rest ++ behind }) o).stack
    at None was none = let there : is_some (held_end p s.node.ends) ≡ true = queue.held p (rw (same_pair-refl p) refl) in absurd (cc)
    at (Some e) was none =
        let t = record s { line = rest ++ behind } in
        asked_step now p rest behind e t (emit s.rows p s.node.clock e) refl was h.ends queue (record { all = mute.all }) refl none

asks_mute : (now n : ℕ) (line behind : List Pair) (s : StackState) → length line ≡ n → s.line ≡ line ++ behind → Tidy s → MuteIn behind s → (turns n (ask now) s).hands ≡ None → Mute (turns n (ask now) s).stack
asks_mute now zero [] behind s len is h mute none = mute_of s h (subst (λ (l : List Pair). MuteIn l s) (sym is) mute)
asks_mute now zero (p ∷ line) behind s len is h mute none = absurd (omega (arith, len))
asks_mute now (suc n) [] behind s len is h mute none = absurd (omega (arith, len))
asks_mute now (suc n) (p ∷ line) behind s len is h mute none =
    then_rests Mute (ask now s) (turns n (ask now)) none (λ quiet rest.
    let a = ask_step now p line behind s is h mute quiet in
    asks_mute now n line a.behind (ask now s).stack (omega (arith, len)) a.line (ask_tidy now s h) a.mute rest)

-- ---- each alarm goes off

woken_mute : (now : ℕ) (p : Pair) (e : EndState) (s : StackState) (m : Emitted) → held_end p s.node.ends ≡ Some e → Mute s → (woken_end now p e (made_called e NothingToResend m) s).hands ≡ None → Mute (woken_end now p e (made_called e NothingToResend m) s).stack
woken_mute now p e s Quiet was mute none = record { all = λ q x held. mute.all q x (sym (same_held p q e s.node.ends was) ∙ held) }
woken_mute now p e s NoKey was mute none = record { all = λ q x held. mute.all q x (sym (same_held p q e s.node.ends was) ∙ held) }
woken_mute now p e s (Emits out) was mute none = absurd (cc)

wake_mute : (now : ℕ) (s : StackState) → Mute s → (wake now s).hands ≡ None → Mute (wake now s).stack
wake_mute now s mute none = at s.alarms none
  where
    pair : (a : Alarm) (rest : List Alarm) (o : Option EndState) → held_end a.pair s.node.ends ≡ o → (woken_pair now a.pair (record s { alarms = rest }) o).hands ≡ None → Mute (woken_pair now a.pair (record s { alarms = rest }) o).stack
    pair a rest None was none = record { all = mute.all }
    pair a rest (Some e) was none = let t = record s { alarms = rest } in woken_mute now a.pair e t (resend s.rows a.pair s.node.clock e) was (record { all = mute.all }) none

    over : (a : Alarm) (rest : List Alarm) (v : Bool) → (let t : Turn = if v then woken_pair now a.pair (record s { alarms = rest }) (held_end a.pair s.node.ends) else passing s in t.hands) ≡ None
        → Mute (let t : Turn = if v then woken_pair now a.pair (record s { alarms = rest }) (held_end a.pair s.node.ends) else passing s in t.stack)
    over a rest true none = pair a rest (held_end a.pair s.node.ends) refl none
    over a rest false none = mute

    at : (alarms : List Alarm) → (woken_first now s alarms).hands ≡ None → Mute (woken_first now s alarms).stack
    at [] none = mute
    at (a ∷ rest) none = over a rest (nat_le a.deadline now) none

wakes_mute : (now n : ℕ) (s : StackState) → Mute s → (turns n (wake now) s).hands ≡ None → Mute (turns n (wake now) s).stack
wakes_mute now zero s mute none = mute
wakes_mute now (suc n) s mute none = then_rests Mute (wake now s) (turns n (wake now)) none (λ quiet rest. wakes_mute now n (wake now s).stack (wake_mute now s mute quiet) rest)

pub output_mute : (now : ℕ) (s : StackState) → Tidy s → (output_at now s).hands ≡ None → Mute (output_at now s).stack
output_mute now s h none =
    then_rests Mute (clocked now s) (λ t. then_turn (turns (length t.line) (ask now) t) (λ u. turns (length u.alarms) (wake now) u)) none (λ quiet rest.
    let t = (clocked now s).stack in
    then_rests Mute (turns (length t.line) (ask now) t) (λ u. turns (length u.alarms) (wake now) u) rest (λ quiet rest.
    let u = (turns (length t.line) (ask now) t).stack in
    wakes_mute now (length u.alarms) u
    (asks_mute now (length t.line) t.line [] t refl (sym (append-nil t.line)) (clocked_tidy now s h) (record { all = λ p e. absurd (cc) }) quiet) rest))

-- ---- what holds then

rests_at : (s : StackState) → Tidy s → Mute s → AreAtRest s
rests_at s h mute p e was = record {
  quiet = at (emit s.rows p s.node.clock e) refl;
  settled = λ out. h.settles.all p e refl was out;
}
  where
    in_line : (v : Bool) → stands_in p s.line ≡ v → emit s.rows p s.node.clock e ≡ NoKey → stands_in p s.line ≡ true
    in_line true is lacks = is
    in_line false is lacks =
        let quiet = nothing_is_quiet s.rows p s.node.clock e (h.settles.all p e refl was is).nothing in
        let clash : NoKey ≡ Quiet = sym lacks ∙ quiet in absurd (cc)

    at : (m : Emitted) → emit s.rows p s.node.clock e ≡ m → (emit s.rows p s.node.clock e ≡ Quiet) ⊎ ((emit s.rows p s.node.clock e ≡ NoKey) × (stands_in p s.line ≡ true))
    at Quiet is = inl is
    at NoKey is = inr (is, in_line (stands_in p s.line) refl is)
    at (Emits out) is = let loud : makes (emit s.rows p s.node.clock e) ≡ false = mute.all p e was in let yes : makes (emit s.rows p s.node.clock e) ≡ true = ap makes is in absurd (cc)

pub rested_hands : (o : Option Emission) → handed_out o ≡ Rests → o ≡ None
rested_hands None e = refl
rested_hands (Some x) e = absurd (cc)

pub are_at_rest : (rows : List Row) (most : ℕ) (calls : List Call) (now : ℕ) → most ≤ most_ends → (call (Output now) (stack_after (empty_stack rows most) calls)).answer ≡ Rests
    → AreAtRest (call (Output now) (stack_after (empty_stack rows most) calls)).stack
unfolding call
are_at_rest rows most calls now fits rests =
    let s = stack_after (empty_stack rows most) calls in
    let h = run_tidy (empty_stack rows most) calls fits (empty_tidy rows most) in
    rests_at (output_at now s).stack (output_tidy now s h) (output_mute now s h (rested_hands (output_at now s).hands rests))
