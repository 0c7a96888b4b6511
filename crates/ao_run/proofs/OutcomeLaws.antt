-- A call that obeys its command, status by status, ends in one of the outcomes.
use Rattle.std.proofs.Common.{◌≡◌, inl, inr, ℕ, zero, suc, ◌<◌, Bool, true, false, List, Option, Some, None, refl, sym, ◌∙◌, subst, arith}
use Rattle.book_answer.specs.declared.command.Command.{Command}
use Rattle.book_answer.specs.Answers.{answer_of as answer}
use Rattle.ao_run.specs.Obeys.{ObeysAs, Offers, Sides, text_of}
use Rattle.ao_run.specs.Outcomes
use Rattle.ao_run.specs.Outcomes.{Outcome, EndsAs, EndsIn, EndsByUsage, EndsByKeys, EndsByInput, EndsByReading, EndsByWriting, EndsByMemory, EndsWhole, WasRead, status_in}
use Rattle.ao_run.proofs.AnswerLaws.{not_two}

usage_ends : (c : Option Command) (k i : List ℕ) (b n : Sides) → ObeysAs c k i b n 2 → EndsByUsage c b n
usage_ends None k i b n x = record { none = refl; nothing = x.nothing (inl (omega arith, omega arith)); told = x.told refl }
usage_ends (Some c) k i b n x = absurd (not_two c k i (sym (x.known (omega arith))))

module _ (c : Option Command) (k i : List ℕ) (b n : Sides) where
  was_read : (s : ℕ) → ObeysAs c k i b n s → WasRead c k i (answer c k i) b n
  was_read s x = record {
    gave_keys = x.gave_keys;
    gave_input = x.gave_input;
    few_keys = x.few_keys;
    few_input = x.few_input;
    keys_alone = x.keys_alone;
    input_alone = x.input_alone;
    keys_first = x.keys_first;
  }

  keys_ends : ObeysAs c k i b n 3 → EndsByKeys c k i (answer c k i) b n
  keys_ends x = let is : (answer c k i).status ≡ 3 = sym (x.known (omega arith)) in record {
    is = is;
    judged = x.keys_judged refl;
    unread = x.input_alone (inr is);
    nothing = x.nothing (inl (omega arith, omega arith));
    told = x.told;
  }

  input_ends : ObeysAs c k i b n 4 → EndsByInput c i (answer c k i) b n
  input_ends x = record {
    is = sym (x.known (omega arith));
    keys_end = x.keys_end (inr refl);
    judged = x.judged refl;
    held_back = λ last. (x.nothing (inr (last, inl (omega arith, omega arith))), x.told last);
  }

  reading_ends : ObeysAs c k i b n 5 → EndsByReading c i (answer c k i) b n
  reading_ends x = record {
    failed = x.read refl;
    held_back = λ last. (x.nothing (inr (last, inl (omega arith, omega arith))), x.told last);
  }

  writing_ends : ObeysAs c k i b n 6 → EndsByWriting c (answer c k i) b n
  writing_ends x = record {
    rose = x.write refl;
    keys_end = x.keys_end (inl (inr refl));
    part = λ last. let p = x.part refl last in record {
      is = p.0;
      input_end = x.input_end (inr (refl, last));
      n = p.1.0;
      less = p.1.1;
      wrote = p.1.2;
      told = x.told last;
    };
  }

  memory_ends : ObeysAs c k i b n 7 → EndsByMemory c b n
  memory_ends x = record {
    named = λ none. absurd (let two : 7 ≡ 2 = x.usage none in omega (arith, two));
    held_back = λ last. (x.nothing (inr (last, inr refl)), x.told last);
  }

  written : (amiss : Bool) (s : ℕ) → s ≡ status_in (Outcomes.Written amiss) → s < 2 → text_of s (answer c k i) ≡ (answer c k i).text →
      ObeysAs c k i b n s → EndsWhole c amiss (answer c k i) b n
  written amiss s is small text x = record {
    is = sym (x.known (omega (arith, small))) ∙ is;
    keys_end = x.keys_end (inl (inl small));
    input_end = x.input_end (inl small);
    wrote = x.whole small;
    told = λ last. subst (λ (t : List ℕ). Offers t b.err n.err) text (x.told last);
  }

  in_outcome : (s : ℕ) (o : Outcome) → s ≡ status_in o → EndsIn o c k i (answer c k i) b n → ObeysAs c k i b n s → EndsAs c k i b n s
  in_outcome s o is ends x = record { read = was_read s x; outcome = o; status_is = is; ends = ends; along = x.along }

  pub ends_as : (s : ℕ) → ObeysAs c k i b n s → EndsAs c k i b n s
  ends_as zero x = in_outcome zero (Outcomes.Written false) refl (written false zero refl (omega arith) refl x) x
  ends_as (suc zero) x = in_outcome 1 (Outcomes.Written true) refl (written true 1 refl (omega arith) refl x) x
  ends_as (suc (suc zero)) x = in_outcome 2 Outcomes.Usage refl (usage_ends c k i b n x) x
  ends_as (suc (suc (suc zero))) x = in_outcome 3 Outcomes.KeysRefused refl (keys_ends x) x
  ends_as (suc (suc (suc (suc zero)))) x = in_outcome 4 Outcomes.InputRefused refl (input_ends x) x
  ends_as (suc (suc (suc (suc (suc zero))))) x = in_outcome 5 Outcomes.ReadFailed refl (reading_ends x) x
  ends_as (suc (suc (suc (suc (suc (suc zero)))))) x = in_outcome 6 Outcomes.WriteFailed refl (writing_ends x) x
  ends_as (suc (suc (suc (suc (suc (suc (suc zero))))))) x = in_outcome 7 Outcomes.NoMemory refl (memory_ends x) x
  ends_as (suc (suc (suc (suc (suc (suc (suc (suc s)))))))) x = absurd (let few = x.no_other in omega (arith, few))
