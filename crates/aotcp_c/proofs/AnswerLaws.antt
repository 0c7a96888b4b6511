-- The code that a call answers is that of what the book answers.
use Rattle.std.proofs.lemmas.List.{length-take}
use Rattle.std.proofs.Math.Nat.{min-le_right}
use Rattle.std.proofs.Common.{◌≡◌, ◌∙◌, sym, ap, refl, subst, ℕ, ℤ, pos, Bool, true, false, Option, Some, None, List, length, take, ◌≤◌, Result, Ok, Err, option_map, to_z, of_z, w32, arith}
use Rattle.book_keys.specs.declared.new_row.NoRow.{NoRow}
use Rattle.book_endpoint.specs.States.{EndState}
use Rattle.book_cmd_node.specs.NodeRuns as node
use Rattle.book_stack.specs.declared.front.Front.{Front}
use Rattle.book_stack.specs.Counters.{StackCounts}
use Rattle.book_stack.specs.Calls as book
use Rattle.book_stack.specs.Calls.{Call, CallAnswer, call}
use Rattle.book_segments.specs.Segments.{spell}
use Rattle.book_stack.specs.Stacks.{StackState, handed}
use Rattle.book_stack.specs.Watches.{end_front}
use Rattle.tcp_endpoint.specs.declared.send.GiveAnswer.{GiveAnswer}
use Rattle.tcp_endpoint.specs.declared.send.GiveAnswer.TheVariants as given
use Rattle.stack_ends.specs.declared.answer.NodeRefusal.{NodeRefusal}
use Rattle.stack_ends.specs.declared.answer.NodeRefusal.TheVariants as refusals
use Rattle.stack_ends.specs.declared.calls.Taken.{Taken}
use Rattle.ao_stack.specs.Answers.{HasTaken, IsBegun, IsDone, IsGiven, IsHanded, IsTaken, IsWithdrawn}
use Rattle.ao_stack.specs.declared.counted_stack.CountedStack.{CountedStack}
use Rattle.ao_stack.specs.CountersAnswers.{BeginsAs, Follows}
use Rattle.aotcp_c.specs.declared.shapes.CState.{CState}
use Rattle.aotcp_c.specs.declared.shapes.CTaken.{CTaken}
use Rattle.aotcp_c.specs.declared.shapes.CCounters.{CCounters}
use Rattle.ao_stack.specs.CountersStands.{Stands}
use Rattle.aotcp_c.specs.Calls.{Answers, IsIn, IsRead, IsStateOf, OnStack, Tells, Tries}
use Rattle.aotcp_c.specs.Counters.{TellsNode}
use Rattle.aotcp_c.specs.Codes.{begun_code, code_of, done_code, given_code, withdrawn_code}
use Rattle.aotcp_c.specs.Shapes.{state_of}

-- a code as it comes out of a call
abbrev pub returned : ℤ → ℤ
returned code = to_z w32 (of_z w32 code)

pub given_is : (r : Option GiveAnswer) (a : CallAnswer) → IsGiven r a → returned (given_code r) ≡ code_of a
given_is None a is = sym (ap code_of is)
given_is (Some given.Ok) a is = sym (ap code_of is)
given_is (Some given.Full) a is = sym (ap code_of is)
given_is (Some given.Closed) a is = sym (ap code_of is)

pub given_answers : (k : CountedStack) (c : Call) (s : StackState) (n : StackCounts) (r : Option GiveAnswer) (code : ℤ) → code ≡ given_code r
    → Follows k c s n (IsGiven r) → Answers k c s n (returned code)
given_answers k c s n r code is f = record {
  stands = f.stands;
  answer = ap returned is ∙ given_is r (call c s).answer f.answer;
}

pub done_is : (r : Bool) (a : CallAnswer) → IsDone r a → returned (done_code r) ≡ code_of a
done_is true a is = sym (ap code_of is)
done_is false a is = sym (ap code_of is)

pub done_answers : (k : CountedStack) (c : Call) (s : StackState) (n : StackCounts) (r : Bool) (code : ℤ) → code ≡ done_code r
    → Follows k c s n (IsDone r) → Answers k c s n (returned code)
done_answers k c s n r code is f = record {
  stands = f.stands;
  answer = ap returned is ∙ done_is r (call c s).answer f.answer;
}

pub withdrawn_is : (r : Result (Unit {0}) NoRow) (a : CallAnswer) → IsWithdrawn r a → returned (withdrawn_code r) ≡ code_of a
withdrawn_is (Ok x) a is = sym (ap code_of is)
withdrawn_is (Err x) a is = sym (ap code_of is)

pub withdrawn_answers : (k : CountedStack) (c : Call) (s : StackState) (n : StackCounts) (r : Result (Unit {0}) NoRow) (code : ℤ) → code ≡ withdrawn_code r
    → Follows k c s n (IsWithdrawn r) → Answers k c s n (returned code)
withdrawn_answers k c s n r code is f = record {
  stands = f.stands;
  answer = ap returned is ∙ withdrawn_is r (call c s).answer f.answer;
}

pub begun_is : (r : Result (Unit {0}) NodeRefusal) (a : CallAnswer) → IsBegun r a → returned (begun_code r) ≡ code_of a
begun_is (Ok x) a is = sym (ap code_of is)
begun_is (Err refusals.InUse) a is = sym (ap code_of is)
begun_is (Err refusals.Full) a is = sym (ap code_of is)
begun_is (Err refusals.Memory) a is = absurd is

pub begun_tries : (k : CountedStack) (c : Call) (s : StackState) (n : StackCounts) (r : Result (Unit {0}) NodeRefusal) (code : ℤ) → code ≡ begun_code r
    → BeginsAs k c s n r → Tries k c s n (returned code)
begun_tries k c s n (Err refusals.Memory) code is b = record {
  stays = λ _. b;
  does = λ differ. absurd (differ (ap returned is));
}
begun_tries k c s n (Ok x) code is f = record {
  stays = λ same. let e : pos 0 ≡ pos 3 = sym (ap returned is) ∙ same in absurd (cc e);
  does = λ _. record { stands = f.stands; answer = ap returned is ∙ begun_is (Ok x) (call c s).answer f.answer };
}
begun_tries k c s n (Err refusals.InUse) code is f = record {
  stays = λ same. let e : pos 13 ≡ pos 3 = sym (ap returned is) ∙ same in absurd (cc e);
  does = λ _. record { stands = f.stands; answer = ap returned is ∙ begun_is (Err refusals.InUse) (call c s).answer f.answer };
}
begun_tries k c s n (Err refusals.Full) code is f = record {
  stays = λ same. let e : pos 14 ≡ pos 3 = sym (ap returned is) ∙ same in absurd (cc e);
  does = λ _. record { stands = f.stands; answer = ap returned is ∙ begun_is (Err refusals.Full) (call c s).answer f.answer };
}

-- what a code and a length tell of a datagram that is handed out
abbrev pub Handed : List ℕ → ℕ → ℤ → CallAnswer → Type 0
Handed room n code a = (code ≡ code_of a) × IsIn room n a

pub rests : (room : List ℕ) (n : ℕ) (a : CallAnswer) → IsHanded room None a → Handed room n (pos 19) a
rests room n book.Rests is = (refl, tt)
rests room n (book.Told o) is = absurd is
rests room n (book.Moves o) is = absurd is
rests room n (book.Knocks p) is = absurd is
rests room n (book.Refuses why) is = absurd is
rests room n (book.Hands x) is = absurd is
rests room n (book.Adds x) is = absurd is
rests room n book.Withdraws is = absurd is
rests room n book.NoSuchRow is = absurd is

-- as many bytes as are taken of a room are in it
fits : (n : ℕ) (room bytes : List ℕ) → take n room ≡ bytes → n ≡ length bytes → n ≤ length room
fits n room bytes front long =
    let taken = length-take n room in
    let same : length (take n room) ≡ length bytes = ap length front in
    let below = min-le_right n (length room) in omega (arith, taken, same, long, below)

pub hands : (room : List ℕ) (n : ℕ) (a : CallAnswer) → IsHanded room (Some n) a → Handed room n (pos 0) a
hands room n (book.Hands x) is = (refl, record { front = is.0; long = is.1; within = fits n room (spell (handed x.segment)) is.0 is.1 })
hands room n (book.Told o) is = absurd is
hands room n (book.Moves o) is = absurd is
hands room n (book.Knocks p) is = absurd is
hands room n (book.Refuses why) is = absurd is
hands room n book.Rests is = absurd is
hands room n (book.Adds x) is = absurd is
hands room n book.Withdraws is = absurd is
hands room n book.NoSuchRow is = absurd is

pub nothing_handed : (k : CountedStack) (c : Call) (s : StackState) (n : StackCounts) (room : List ℕ) (size : ℕ) (r : Option ℕ) → r ≡ None
    → Follows k c s n (IsHanded room r) → Follows k c s n (Handed room size (pos 19))
nothing_handed k c s n room size r is f = record {
  stands = f.stands;
  answer = rests room size (call c s).answer (subst (λ (o : Option ℕ). IsHanded room o (call c s).answer) is f.answer);
}

pub something_handed : (k : CountedStack) (c : Call) (s : StackState) (n : StackCounts) (room : List ℕ) (size : ℕ) (r : Option ℕ) → r ≡ Some size
    → Follows k c s n (IsHanded room r) → Follows k c s n (Handed room size (pos 0))
something_handed k c s n room size r is f = record {
  stands = f.stands;
  answer = hands room size (call c s).answer (subst (λ (o : Option ℕ). IsHanded room o (call c s).answer) is f.answer);
}

-- what a code and a shape tell of bytes that are taken
abbrev pub Taking : (before after : List ℕ) → CTaken → ℤ → CallAnswer → Type 0
Taking before after told code a = (code ≡ code_of a) × IsRead before after told a

pub nothing_taken : (k : CountedStack) (c : Call) (s : StackState) (n : StackCounts) (before after : List ℕ) (told : CTaken) (r : Option Taken) → r ≡ None
    → Follows k c s n (IsTaken before after r) → Follows k c s n (Taking before after told (pos 12))
nothing_taken k c s n before after told r is f = record {
  stands = f.stands;
  answer =
      let no : (call c s).answer ≡ book.Told node.NoConnection = subst (λ (o : Option Taken). IsTaken before after o (call c s).answer) is f.answer in
      subst (Taking before after told (pos 12)) (sym no) (refl, tt);
}

pub something_taken : (k : CountedStack) (c : Call) (s : StackState) (n : StackCounts) (before after : List ℕ) (taken : Taken) (r : Option Taken) → r ≡ Some taken
    → Follows k c s n (IsTaken before after r)
    → Follows k c s n (Taking before after (record { count = taken.count; at_end = taken.at_end }) (pos 0))
something_taken k c s n before after taken r is f = record {
  stands = f.stands;
  answer =
      let told : CTaken = record { count = taken.count; at_end = taken.at_end } in
      let h : HasTaken before after taken (call c s).answer = subst (λ (o : Option Taken). IsTaken before after o (call c s).answer) is f.answer in
      subst (Taking before after told (pos 0)) (sym h.answer) (refl, record { count = h.count; at_end = refl; filled = h.filled });
}

pub nothing_due : (o r : Option ℕ) (at : ℕ) → r ≡ None → r ≡ o → Tells o at (pos 19)
nothing_due None r at none is = refl
nothing_due (Some d) r at none is = absurd (cc (none, is))

pub something_due : (o r : Option ℕ) (d : ℕ) → r ≡ Some d → r ≡ o → Tells o d (pos 0)
something_due None r d some is = absurd (cc (some, is))
something_due (Some e) r d some is = let both : Some d ≡ Some e = sym some ∙ is in let same : d ≡ e = cc in (refl, same)

-- where an end stands; elsewhere, where there is none
abbrev pub front_or : Front → Option Front → Front
front_or elsewhere None = elsewhere
front_or elsewhere (Some f) = f

pub nothing_stated : (held : Option EndState) (r : Option Front) (told : CState) → r ≡ None
    → r ≡ option_map end_front held → IsStateOf held told (pos 12)
nothing_stated None r told none is = refl
nothing_stated (Some e) r told none is = absurd (cc (none, is))

pub something_stated : (held : Option EndState) (r : Option Front) (front : Front) → r ≡ Some front
    → r ≡ option_map end_front held → IsStateOf held (state_of front) (pos 0)
something_stated None r front some is = absurd (cc (some, is))
something_stated (Some e) r front some is =
    let same : Some front ≡ Some (end_front e) = sym some ∙ is in
    (refl, ap state_of (ap (front_or front) same))

-- what was counted of the node is told of the stack in a handle
pub node_told : (a b : Option CountedStack) (p q : CountedStack) (r : ℤ) (told : CCounters) → a ≡ Some p → b ≡ Some q → ((s : StackState) (n : StackCounts) → Stands p s n → TellsNode s n told r) →
    OnStack a b (to_z w32 (of_z w32 r)) (λ p q. (s : StackState) (n : StackCounts) → Stands p s n → TellsNode s n told (to_z w32 (of_z w32 r)))
node_told a b p q r told before after tells =
    rw (before, after) (λ s n stands. let h = tells s n stands in record { is = rw (h.is) refl; counted = h.counted })
