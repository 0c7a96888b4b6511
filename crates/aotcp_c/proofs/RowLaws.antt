-- Rows are added.
use Rattle.std.proofs.Common.{◌≡◌, ◌≢◌, ◌∙◌, sym, ap, refl, subst, ℕ, ℤ, pos, Result, Ok, Err}
use Rattle.book_keys.specs.declared.new_row.AddRefusal.{AddRefusal}
use Rattle.book_keys.specs.declared.new_row.AddRefusal.TheVariants as refused
use Rattle.book_keys.specs.declared.new_row.NewRow.{NewRow}
use Rattle.book_stack.specs.Counters.{StackCounts}
use Rattle.book_stack.specs.Calls as book
use Rattle.book_stack.specs.Calls.{CallAnswer, call}
use Rattle.book_stack.specs.Stacks.{StackState}
use Rattle.ao_stack.specs.Answers.{IsAdded}
use Rattle.ao_stack.specs.declared.counted_stack.CountedStack.{CountedStack}
use Rattle.ao_stack.specs.CountersAnswers.{AddsAs, Follows}
use Rattle.ao_stack.specs.CountersStands.{Stands}
use Rattle.aotcp_c.specs.Calls.{IsNumber}
use Rattle.aotcp_c.specs.Codes.{added_code, code_of, no_memory, ok, overlap}
use Rattle.aotcp_c.specs.RowShapes.{number_in}
use Rattle.aotcp_c.proofs.AnswerLaws.{returned}

-- what a code and a number tell of a row that is added
abbrev pub Adding : ℤ → ℕ → CallAnswer → Type 0
Adding code number a = (code ≡ code_of a) × IsNumber number a

pub added_is : (r : Result ℕ AddRefusal) (before : ℕ) (a : CallAnswer) → IsAdded r a → Adding (returned (added_code r)) (number_in r before) a
added_is (Ok n) before a is = subst (Adding (pos 0) n) (sym is.1) (refl, refl)
added_is (Err refused.TooMany) before a is = subst (Adding (pos 17) before) (sym is) (refl, tt)
added_is (Err (refused.Overlap n)) before a is = subst (Adding (pos 18) n) (sym is) (refl, refl)
added_is (Err refused.Memory) before a is = absurd is

pub added_follows : (k : CountedStack) (new : NewRow) (s : StackState) (n : StackCounts) (r : Result ℕ AddRefusal) (before number : ℕ) (code : ℤ)
    → code ≡ added_code r → number ≡ number_in r before → Follows k (book.Add new) s n (IsAdded r)
    → Follows k (book.Add new) s n (Adding (returned code) number)
added_follows k new s n r before number code is so f = record {
  stands = f.stands;
  answer =
      let a : CallAnswer = (call (book.Add new) s).answer in
      subst (λ (c : ℤ). Adding (returned c) number a) (sym is)
      (subst (λ (x : ℕ). Adding (returned (added_code r)) x a) (sym so) (added_is r before a f.answer));
}

pub added_stays : (k : CountedStack) (new : NewRow) (s : StackState) (n : StackCounts) (r : Result ℕ AddRefusal) (code : ℤ) → code ≡ added_code r
    → AddsAs k new s n r → returned code ≡ no_memory → Stands k s n
added_stays k new s n (Err refused.Memory) code is f same = f
added_stays k new s n (Ok m) code is f same = let e : pos 0 ≡ pos 3 = sym (ap returned is) ∙ same in absurd (cc e)
added_stays k new s n (Err refused.TooMany) code is f same = let e : pos 17 ≡ pos 3 = sym (ap returned is) ∙ same in absurd (cc e)
added_stays k new s n (Err (refused.Overlap m)) code is f same = let e : pos 18 ≡ pos 3 = sym (ap returned is) ∙ same in absurd (cc e)

pub added_does : (k : CountedStack) (new : NewRow) (s : StackState) (n : StackCounts) (r : Result ℕ AddRefusal) (before number : ℕ) (code : ℤ)
    → code ≡ added_code r → number ≡ number_in r before → AddsAs k new s n r → returned code ≢ no_memory
    → Follows k (book.Add new) s n (Adding (returned code) number)
added_does k new s n (Err refused.Memory) before number code is so f differ = absurd (differ (ap returned is))
added_does k new s n (Ok m) before number code is so f differ = added_follows k new s n (Ok m) before number code is so f
added_does k new s n (Err refused.TooMany) before number code is so f differ = added_follows k new s n (Err refused.TooMany) before number code is so f
added_does k new s n (Err (refused.Overlap m)) before number code is so f differ = added_follows k new s n (Err (refused.Overlap m)) before number code is so f

pub number_kept : (r : Result ℕ AddRefusal) (before number : ℕ) (code : ℤ) → code ≡ added_code r → number ≡ number_in r before
    → returned code ≢ ok → returned code ≢ overlap → number ≡ before
number_kept (Ok n) before number code is so done overlaps = absurd (done (ap returned is))
number_kept (Err refused.Memory) before number code is so done overlaps = so
number_kept (Err refused.TooMany) before number code is so done overlaps = so
number_kept (Err (refused.Overlap n)) before number code is so done overlaps = absurd (overlaps (ap returned is))
