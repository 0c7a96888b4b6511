-- The ways in which a command ends that writes when all was read.
use Rattle.std.proofs.Common.{◌≡◌, ◌≢◌, ◌⊎◌, inl, inr, ℕ, zero, suc, ◌<◌, ◌≤◌, ◌+◌, List, [], length, take, true, false, Option, Some, None, Result, Ok, Err, refl, sym, ap, ◌∙◌, arith}
use Rattle.std.proofs.Math.Seq.{take-length}
use Rattle.ao_base.specs.Outside.{Side, WasWritten, WritesAll, IsAtEnd}
use Rattle.ao_base.proofs.Sides.{took_none}
use Rattle.book_answer.specs.declared.command.Command.{Command}
use Rattle.book_answer.specs.declared.command.Command.TheVariants as commands
use Rattle.book_answer.specs.Answers.{Answer, answer_of as answer, refusal}
use Rattle.ao_run.specs.declared.stop.Output.{Output}
use Rattle.ao_run.specs.declared.stop.Stop.{Stop}
use Rattle.ao_run.specs.declared.stop.Stop.TheVariants.{Usage, KeysTooLong, Keys, TooLong, Input, TooManyEvents, Read, Write, Memory}
use Rattle.ao_run.specs.Ended.{Ended}
use Rattle.ao_run.specs.Gathered.{Gathered}
use Rattle.ao_run.specs.Obeys.{Along, IsWritten, Offers, ReadsAll, Sides, WritesNothing, asks_keys, most_of, past_limit, text_of as text_with, writes_along}
use Rattle.ao_run.specs.Stops.{made, status_of, text_of}

-- a text that was written, or that in front
pub offered : {E : Type 0} (a b : Side) (text : List ℕ) (n : ℕ) (r : Result (Unit {0}) E) → WritesAll a b text n r → Offers text a b
offered a b text n (Ok x) w = (n, w.took, inl (omega (arith, w.whole)))
offered a b text n (Err x) w = (n, w.took, inr w.failed.1)

-- the text of a stop is that of the answer, or of a fault outside
pub same_text : (stop : Stop) (a : Answer) → (status_of stop < 5 → a ≡ refusal (status_of stop) (text_of stop)) → text_with (status_of stop) a ≡ text_of stop
same_text Usage a h = ap (λ (x : Answer). x.text) (h (omega arith))
same_text KeysTooLong a h = ap (λ (x : Answer). x.text) (h (omega arith))
same_text (Keys t) a h = ap (λ (x : Answer). x.text) (h (omega arith))
same_text TooLong a h = ap (λ (x : Answer). x.text) (h (omega arith))
same_text (Input t) a h = ap (λ (x : Answer). x.text) (h (omega arith))
same_text TooManyEvents a h = ap (λ (x : Answer). x.text) (h (omega arith))
same_text Read a h = refl
same_text Write a h = refl
same_text Memory a h = refl

no_text : (s : ℕ) (a : Answer) → s < 2 → text_with s a ≡ a.text
no_text zero a h = refl
no_text (suc zero) a h = refl
no_text (suc (suc s)) a h = absurd (omega arith)

-- nothing is offered of no text
pub silent : (text : List ℕ) (e : Side) → text ≡ [] → Offers text e e
silent text e none = rw none (0, took_none e, inl (omega arith))

nothing_at_six : (c : Option Command) → WritesNothing c 6 → ⊥
nothing_at_six c (inl h) = omega arith
nothing_at_six c (inr h) = at_six h.1
  where
    at_six : ((4 ≤ 6) × (6 < 6)) ⊎ (◌≡◌ {A = ℕ} 6 7) → ⊥
    at_six (inl g) = omega arith
    at_six (inr g) = omega arith

reads_all : (c : Option Command) (s : ℕ) → ReadsAll c s → IsWritten s
reads_all c s (inl h) = inl h
reads_all c s (inr h) = inr h.0

not_written : (s : ℕ) → 2 ≤ s → s ≢ 6 → IsWritten s → ⊥
not_written s a b (inl h) = omega (arith, a, h)
not_written s a b (inr h) = b h

no_output : (c : Option Command) (s : ℕ) → s < 2 → WritesNothing c s → ⊥
no_output c s b (inl h) = omega arith
no_output c s b (inr h) = late s b h.1
  where
    late : (s : ℕ) → s < 2 → ((4 ≤ s) × (s < 6)) ⊎ (s ≡ 7) → ⊥
    late s b (inl g) = omega arith
    late s b (inr g) = omega arith

plain_limit : (c : Option Command) → writes_along c ≡ false → past_limit c ≡ 1
plain_limit None last = refl
plain_limit (Some commands.Check) last = absurd (cc)
plain_limit (Some commands.CheckPcap) last = absurd (cc)
plain_limit (Some c) last = refl

nothing_along : (c : Option Command) (k t i : List ℕ) (b n : Sides) (s : ℕ) → writes_along c ≡ false → Along c k t i b n s
nothing_along None k t i b n s last = tt
nothing_along (Some commands.Check) k t i b n s last = absurd (cc)
nothing_along (Some commands.CheckPcap) k t i b n s last = absurd (cc)
nothing_along (Some c) k t i b n s last = tt

limit : (c : Option Command) (i : List ℕ) → writes_along c ≡ false → length i ≤ most_of c + 1 → length i ≤ most_of c + past_limit c
limit c i last few = rw (plain_limit c last) few

module _ (command : Option Command) (k i : List ℕ) (k0 k1 i0 i1 : Side) (last : writes_along command ≡ false) where
  abbrev Got : Result Output Stop → Type 0
  Got r = Gathered command k i (record { keys = k0; input = i0 }) (record { keys = k1; input = i1 }) r

  abbrev Ends : Side → Side → Result ℕ Stop → Type 0
  Ends o0 o1 r = Ended command k i (record { keys = k0; input = i0 }) (record { keys = k1; input = i1 }) o0 o1 r

  keys_ended : (stop : Stop) → Got (Err stop) → IsWritten (status_of stop) ⊎ (status_of stop ≡ 4) → asks_keys command ≡ true → IsAtEnd k1
  keys_ended stop x (inl h) = absurd (not_written (status_of stop) x.within.0 x.within.2 h)
  keys_ended stop x (inr four) = x.keys_over four

  -- no output was made
  pub refused_ends : (o : Side) (stop : Stop) → Got (Err stop) → Ends o o (Err stop)
  refused_ends o stop x = λ e0 e1 offers. record {
    gave_keys = x.gave_keys;
    gave_input = x.gave_input;
    few_keys = x.few_keys;
    few_input = limit command i last x.few_input;
    keys_alone = x.keys_alone;
    input_alone = x.input_alone;
    keys_first = x.keys_first;
    known = λ h. sym (ap (λ (a : Answer). a.status) (x.refused h));
    usage = λ h. (x.usage h).0;
    keys_end = keys_ended stop x;
    input_end = λ h. absurd (not_written (status_of stop) x.within.0 x.within.2 (reads_all command (status_of stop) h));
    keys_judged = x.keys_judged;
    judged = λ four whole_first. x.judged four;
    read = x.fault;
    write = λ h. absurd (x.within.2 h);
    no_other = x.within.1;
    whole = λ h. absurd (omega (arith, x.within.0));
    part = λ h whole_first. absurd (x.within.2 h);
    nothing = λ h. took_none o;
    told = λ whole_first. rw (same_text stop (answer command k i) x.refused) offers;
    along = nothing_along command k _ i _ _ (status_of stop) last;
  }

  -- the output was written
  pub done_ends : {E : Type 0} (o0 o1 : Side) (output : Output) (n : ℕ) (u : Unit {0}) → Got (Ok output) → WritesAll {E = E} o0 o1 output.bytes n (Ok u) → Ends o0 o1 (Ok output.status)
  done_ends o0 o1 output n u x v = λ e.
      let is : answer command k i ≡ made output = x.done.0 in
      let small : output.status < 2 = x.done.1 in
      let all : take n output.bytes ≡ output.bytes = rw v.whole (take-length output.bytes) in
      let wrote : WasWritten output.bytes o0 o1 = rw all at v.took in
      record {
        gave_keys = x.gave_keys;
        gave_input = x.gave_input;
        few_keys = x.few_keys;
        few_input = limit command i last x.few_input;
        keys_alone = x.keys_alone;
        input_alone = x.input_alone;
        keys_first = x.keys_first;
        known = λ h. sym (ap (λ (a : Answer). a.status) is);
        usage = λ h. absurd ((x.usage h).1);
        keys_end = λ h. x.keys_end;
        input_end = λ h. x.input_end;
        keys_judged = λ h. absurd (omega (arith, small, h));
        judged = λ h whole_first. absurd (omega (arith, small, h));
        read = λ h. absurd (omega (arith, small, h));
        write = λ h. absurd (omega (arith, small, h));
        no_other = omega (arith, small);
        whole = λ h. rw is wrote;
        part = λ h whole_first. absurd (omega (arith, small, h));
        nothing = λ h. absurd (no_output command output.status small h);
        told = λ whole_first. silent (text_with output.status (answer command k i)) e (no_text output.status (answer command k i) small ∙ ap (λ (a : Answer). a.text) is);
        along = nothing_along command k _ i _ _ output.status last;
      }

  -- writing it failed
  pub unwritten_ends : {E : Type 0} (o0 o1 : Side) (output : Output) (n : ℕ) (f : E) → Got (Ok output) → WritesAll o0 o1 output.bytes n (Err f) → Ends o0 o1 (Err Write)
  unwritten_ends o0 o1 output n f x v = λ e0 e1 offers.
      let is : answer command k i ≡ made output = x.done.0 in
      record {
        gave_keys = x.gave_keys;
        gave_input = x.gave_input;
        few_keys = x.few_keys;
        few_input = limit command i last x.few_input;
        keys_alone = x.keys_alone;
        input_alone = x.input_alone;
        keys_first = x.keys_first;
        known = λ h. absurd (omega arith);
        usage = λ h. absurd ((x.usage h).1);
        keys_end = λ h. x.keys_end;
        input_end = λ h. x.input_end;
        keys_judged = λ h. absurd (omega arith);
        judged = λ h whole_first. absurd (omega arith);
        read = λ h. absurd (omega arith);
        write = λ h. v.failed.1;
        no_other = omega arith;
        whole = λ h. absurd (omega arith);
        part = λ h whole_first. (rw is x.done.1, (n, rw is v.failed.0, rw is v.took));
        nothing = λ h. absurd (nothing_at_six command h);
        told = λ whole_first. offers;
        along = nothing_along command k _ i _ _ 6 last;
      }
