-- A connection begins, or doesn't.
use Rattle.std.proofs.Common.{◌≡◌, ℕ, ◌<◌, ◌≤◌, true, false, List, [], Option, Some, None, Result, Ok, Err, OnOk, OnErr, refl, sym, ap, subst, ◌∙◌}
use Rattle.std.specs.Prelude.{is_some, length, option_map}
use Rattle.book_base.specs.declared.address.Pair.{Pair}
use Rattle.book_endpoint.specs.States.{EndState}
use Rattle.book_cmd_node.specs.declared.node.Act.{Act}
use Rattle.book_cmd_node.specs.NodeRuns as node
use Rattle.book_cmd_node.specs.NodeRuns.{after_call, called, held_end, most_ends, new_end, on_held, on_other, no_ends}
use Rattle.law_node.proofs.Held.{held}
use Rattle.book_keys.specs.Rows.{Row}
use Rattle.book_stack.specs.declared.front.Front.{Front}
use Rattle.book_stack.specs.Calls.{At, makes_an_end, kept}
use Rattle.book_stack.specs.Stacks.{StackState, empty_stack, touched}
use Rattle.book_stack.specs.Watches.{end_front, new_connection_watch}
use Rattle.book_base.specs.Addresses.{IsOneFamily}
use Rattle.stack_ends.specs.declared.answer.NodeRefusal.{NodeRefusal}
use Rattle.stack_ends.specs.declared.answer.NodeRefusal.TheVariants as refusals
use Rattle.stack_ends.specs.declared.ends.Ends.{Ends}
use Rattle.stack_ends.specs.Stands as ends
use Rattle.stack_ends.specs.Stands.{most_of, with_new}
use Rattle.stack_timers.specs.Places.{Alarmed, Lined}
use Rattle.stack_timers.specs.Timers.{Timing, KeepsNew, watch_at}
use Rattle.ao_stack.specs.declared.stack.Stack.{Stack}
use Rattle.ao_stack.specs.Answers.{BeginsAs, Follows, IsBegun}
use Rattle.ao_stack.specs.Stands.{Stands, TakesBack, WatchIs}
use Rattle.ao_stack.proofs.CallLaws.{follows, did_begin, did_full, did_in_use}
use Rattle.ao_stack.proofs.StandLaws.{began, taken_back}

-- ---- whether a pair is held

is_held : (o : Option EndState) → is_some o ≡ true → (e : EndState) × (o ≡ Some e)
is_held None e = absurd (cc)
is_held (Some x) e = (x, refl)

pub isnt_held : (o : Option EndState) → is_some o ≡ false → o ≡ None
isnt_held None e = refl
isnt_held (Some x) e = absurd (cc)

pub some_mapped : (o : Option EndState) (f : Option Front) → f ≡ option_map end_front o → is_some f ≡ is_some o
some_mapped None f e = ap is_some e
some_mapped (Some x) f e = ap is_some e

-- the pair is held already
pub in_use : (k : Stack) (s : StackState) (S : Stands k s) (p : Pair) (a : Act) → is_some (held_end p s.node.ends) ≡ true
    → ((e : EndState) → on_held s.rows s.node p e a ≡ after_call s.node p (called e node.InUse)) → kept p a node.InUse s ≡ s → Follows k (At p a) s (IsBegun {A = Unit {0}} (Err refusals.InUse))
in_use k s S p a some plain same =
    let e = is_held (held_end p s.node.ends) some in
    follows k (At p a) s (IsBegun {A = Unit {0}} (Err refusals.InUse)) _ (did_in_use p a s e.0 e.1 (plain e.0)) (subst (λ (t : StackState). Stands k t) (sym same) S) refl

module _ (k mid after : Stack) (s : StackState) (S : Stands k s) (p : Pair) (one : IsOneFamily p.local.address p.remote.address) (none : held_end p s.node.ends ≡ None)
    (N : KeepsNew k.watches mid.watches p) (most : most_of mid.ends ≡ most_of k.ends) (al : mid.alarms ≡ k.alarms) (li : mid.line ≡ k.line) where
  back : ends.Stands mid.ends s.rows s.node → TakesBack mid after p → Stands after s
  back E T = taken_back k after s S p mid.watches none N T.watches (subst (λ (x : Ends). ends.Stands x s.rows s.node) (sym T.ends) E) (ap most_of T.ends ∙ most) (T.alarms ∙ al) (T.line ∙ li)

  pub begins_as : (a : Act) (t : EndState) (r : Result (Unit {0}) NodeRefusal) → makes_an_end a ≡ true → on_other most_ends s.node p a ≡ new_end most_ends s.node p t
      → ends.Begun mid.ends s.rows s.node (held p t) r → OnOk r ((u : StackState) → Stands mid u → Stands after (touched p u)) → OnErr r (TakesBack mid after p) → BeginsAs after (At p a) s r
  begins_as a t (Ok x) makes plain B ok err =
      let less : length s.node.ends < s.most = subst (λ (n : ℕ). length s.node.ends < n) (most ∙ S.most) B.1 in
      follows after (At p a) s (IsBegun (Ok x)) _ (did_begin p a s t none makes plain less S.few) (ok _ (began k mid s S p t none one N B.2 most al li)) refl
  begins_as a t (Err refusals.InUse) makes plain B ok err = let free : is_some (held_end p s.node.ends) ≡ false = ap is_some none in absurd (cc)
  begins_as a t (Err refusals.Full) makes plain B ok err =
      let more : s.most ≤ length s.node.ends = subst (λ (n : ℕ). n ≤ length s.node.ends) (most ∙ S.most) B.1 in
      follows after (At p a) s (IsBegun {A = Unit {0}} (Err refusals.Full)) _ (did_full p a s none makes more) (back B.2 err) refl
  begins_as a t (Err refusals.Memory) makes plain B ok err = back B err

-- ---- a stack begins

pub fresh : (k : Stack) (rows : List Row) (most : ℕ) → most ≤ most_ends → ends.Stands k.ends rows no_ends → most_of k.ends ≡ most → k.watches ≡ record { entries = [] }
    → k.alarms ≡ record { alarms = []; most = most } → k.line ≡ record { pairs = []; most = most } → Stands k (empty_stack rows most)
fresh k rows most few E is w a l = record {
  ends = E;
  most = is;
  few = few;
  alarms = ap (λ (x : Alarmed). x.alarms) a;
  alarms_most = ap (λ (x : Alarmed). x.most) a;
  line = ap (λ (x : Lined). x.pairs) l;
  line_most = ap (λ (x : Lined). x.most) l;
  watches = λ q. subst (λ (t : Timing). WatchIs (watch_at t q) new_connection_watch) (sym w) refl;
  kept = λ q. ap (λ (t : Timing). is_some (watch_at t q)) w;
  family = λ q e. absurd (cc);
}
