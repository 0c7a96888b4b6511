-- The first finding is what the judgement says, and there is none exactly where it says that all holds.
use Rattle.std.proofs.Common.{◌≡◌, ◌↔◌, ℕ, zero, suc, ◌+◌, ◌-◌, ◌<◌, ◌≤◌, ◌==◌, max, min, Bool, true, false, ◌&&◌, List, [], ◌∷◌, ◌++◌, map, Option, Some, None, ◌⊎◌, inl, inr, refl, sym, ap, ◌∙◌, subst, arith, nat_le, if◌then◌else◌}
use Rattle.std.specs.Prelude.{option_map}
use Rattle.std.specs.Option.{option_or}
use Rattle.std.proofs.lemmas.Bool.Decides.{nat_tests}
use Rattle.std.proofs.lemmas.Bool.{eq-eqb, ne_eqb, eqb-false, cases_lt}
use Rattle.book_base.specs.declared.address.Pair.{Pair}
use Rattle.book_base.specs.declared.end.End.{End}
use Rattle.book_base.specs.declared.end.End.TheVariants.{A, B}
use Rattle.book_plans.specs.declared.finding.Finding.{Finding}
use Rattle.book_plans.specs.declared.finding.Finding.TheVariants as finding
use Rattle.book_plans.specs.Findings.{IsFirstSpan, AreLongest, finding_by, with_finding, unmet_findings, Span, lengthened, failing_spans, gap_finding, gap_findings, findings, first_answer, wanted_accepting, widened, accepting_in}
use Rattle.book_plans.specs.Margins.{IsOrdered}
use Rattle.book_segments.proofs.Fields.{eqb_is}
use Rattle.book_keys.specs.declared.plan.Plan.{Plan}
use Rattle.book_keys.specs.declared.lifetime.Lifetime.{Lifetime}
use Rattle.book_keys.specs.declared.lint.LintAnswer.{LintAnswer}
use Rattle.book_keys.specs.declared.lint.LintAnswer.TheVariants as answer
use Rattle.book_keys.proofs.GapLaws.{covered_is_sendable, here_or_later}
use Rattle.book_keys.specs.Lifetimes.{greatest_time, contains, is_covered}
use Rattle.book_keys.specs.Rows.{Row}
use Rattle.book_keys.specs.Plans.{mirrored, outlasts, Reason, NoPeerRow, ShortAccept, Misaligned, misaligned_by, misaligned_answer, unmet_reason, first_unmet, first_misaligned, has_sendable, send_lifetimes, first_failing, gap, lint_answer, lint_rows}

-- ---- the first finding

-- the answer of a list in front, or else of what follows
abbrev or_answer : List Finding → LintAnswer → LintAnswer
or_answer [] more = more
or_answer (finding.NoPeerRow end n ∷ fs) more = answer.NoPeerRow end n
or_answer (finding.ShortAccept end n ∷ fs) more = answer.ShortAccept end n
or_answer (finding.Gap end from to ∷ fs) more = answer.Gap end from

in_front : (fs gs : List Finding) → first_answer (fs ++ gs) ≡ or_answer fs (first_answer gs)
in_front [] gs = refl
in_front (finding.NoPeerRow end n ∷ fs) gs = refl
in_front (finding.ShortAccept end n ∷ fs) gs = refl
in_front (finding.Gap end from to ∷ fs) gs = refl

-- the answer for a row that isn't met, or else another
abbrev or_unmet : Option Misaligned → LintAnswer → LintAnswer
or_unmet None more = more
or_unmet (Some m) more = misaligned_answer m

-- the answer for a gap, or else another
abbrev or_gap : End → Option ℕ → LintAnswer → LintAnswer
or_gap end None more = more
or_gap end (Some time) more = answer.Gap end time

reason_first : (end : End) (n : ℕ) (o : Option Reason) (fs : List Finding) (later : Option Misaligned) (more : LintAnswer)
    → or_answer fs more ≡ or_unmet later more
    → or_answer (with_finding (option_map (finding_by end n) o) fs) more ≡ or_unmet (option_or (option_map (misaligned_by end n) o) later) more
reason_first end n None fs later more h = h
reason_first end n (Some NoPeerRow) fs later more h = refl
reason_first end n (Some ShortAccept) fs later more h = refl

unmet_first : (end : End) (n : ℕ) (rows others : List Row) (pair : Pair) (lead lag : ℕ) (more : LintAnswer)
    → or_answer (unmet_findings (unmet_reason others pair lead lag) end n rows) more ≡ or_unmet (first_unmet (unmet_reason others pair lead lag) end n rows) more
unmet_first end n [] others pair lead lag more = refl
unmet_first end n (r ∷ rs) others pair lead lag more =
    reason_first end n (unmet_reason others pair lead lag r) (unmet_findings (unmet_reason others pair lead lag) end (n + 1) rs) (first_unmet (unmet_reason others pair lead lag) end (n + 1) rs) more
    (unmet_first end (n + 1) rs others pair lead lag more)

lengthened_first : (end : End) (time : ℕ) (ss : List Span) (more : LintAnswer) → or_answer (map (gap_finding end) (lengthened time ss)) more ≡ answer.Gap end time
lengthened_first end time [] more = refl
lengthened_first end time (s ∷ ss) more = by_test (s.first == time + 1)
  where
    by_test : (b : Bool) → or_answer (map (gap_finding end) (if b then record { first = time; last = s.last } ∷ ss else record { first = time; last = time } ∷ s ∷ ss)) more ≡ answer.Gap end time
    by_test true = refl
    by_test false = refl

spans_first : (end : End) (good : ℕ → Bool) (time n : ℕ) (more : LintAnswer)
    → or_answer (map (gap_finding end) (failing_spans good time n)) more ≡ or_gap end (first_failing good time n) more
spans_first end good time zero more = refl
spans_first end good time (suc n) more = by_test (good time) (spans_first end good (time + 1) n more)
  where
    by_test : (b : Bool) → or_answer (map (gap_finding end) (failing_spans good (time + 1) n)) more ≡ or_gap end (first_failing good (time + 1) n) more
        → or_answer (map (gap_finding end) (if b then failing_spans good (time + 1) n else lengthened time (failing_spans good (time + 1) n))) more
        ≡ or_gap end (if b then first_failing good (time + 1) n else Some time) more
    by_test true h = h
    by_test false h = lengthened_first end time (failing_spans good (time + 1) n) more

gap_first : (end : End) (rows : List Row) (pair : Pair) (low high : ℕ) (more : LintAnswer)
    → or_answer (gap_findings end rows pair low high) more ≡ or_gap end (gap rows pair low high) more
unfolding gap
gap_first end rows pair low high more = spans_first end (has_sendable rows pair) low (high + 1 - low) more

by_four : (m k : Option Misaligned) (g h : Option ℕ)
    → or_unmet m (or_unmet k (or_gap A g (or_gap B h answer.Aligned))) ≡ lint_answer (option_or m k) g h
by_four (Some m) k g h = refl
by_four None (Some k) g h = refl
by_four None None (Some g) h = refl
by_four None None None (Some h) = refl
by_four None None None None = refl

last_answer : (fs : List Finding) → first_answer fs ≡ or_answer fs answer.Aligned
last_answer [] = refl
last_answer (finding.NoPeerRow end n ∷ fs) = refl
last_answer (finding.ShortAccept end n ∷ fs) = refl
last_answer (finding.Gap end from to ∷ fs) = refl

pub first_is_lint : (a b : List Row) (pair : Pair) (plan : Plan) → first_answer (findings a b pair plan) ≡ lint_rows a b pair plan
unfolding findings lint_rows first_misaligned
first_is_lint a b pair plan =
    let lead = plan.lead in
    let lag = plan.lag in
    let low = plan.from in
    let high = plan.to in
    let one = unmet_findings (unmet_reason b pair lead lag) A 1 a in
    let two = unmet_findings (unmet_reason a (mirrored pair) lead lag) B 1 b in
    let three = gap_findings A a pair low high in
    let four = gap_findings B b (mirrored pair) low high in
    let at_four : first_answer four ≡ or_gap B (gap b (mirrored pair) low high) answer.Aligned =
    last_answer four ∙ gap_first B b (mirrored pair) low high answer.Aligned in
    let at_three : first_answer (three ++ four) ≡ or_gap A (gap a pair low high) (or_gap B (gap b (mirrored pair) low high) answer.Aligned) =
    in_front three four ∙ ap (or_answer three) at_four ∙ gap_first A a pair low high _ in
    let at_two : first_answer (two ++ (three ++ four)) ≡ or_unmet (first_unmet (unmet_reason a (mirrored pair) lead lag) B 1 b) (or_gap A (gap a pair low high) (or_gap B (gap b (mirrored pair) low high) answer.Aligned)) =
    in_front two (three ++ four) ∙ ap (or_answer two) at_three ∙ unmet_first B 1 b a (mirrored pair) lead lag _ in
    in_front one (two ++ (three ++ four)) ∙ ap (or_answer one) at_two ∙ unmet_first A 1 a b pair lead lag _
    ∙ by_four (first_unmet (unmet_reason b pair lead lag) A 1 a) (first_unmet (unmet_reason a (mirrored pair) lead lag) B 1 b) (gap a pair low high) (gap b (mirrored pair) low high)

none_is_aligned : (fs : List Finding) → (fs ≡ []) ↔ (first_answer fs ≡ answer.Aligned)
none_is_aligned [] = (λ e. refl, λ e. refl)
none_is_aligned (finding.NoPeerRow end n ∷ fs) = (λ e. absurd (cc), λ e. absurd (cc))
none_is_aligned (finding.ShortAccept end n ∷ fs) = (λ e. absurd (cc), λ e. absurd (cc))
none_is_aligned (finding.Gap end from to ∷ fs) = (λ e. absurd (cc), λ e. absurd (cc))

pub none_exactly : (a b : List Row) (pair : Pair) (plan : Plan)
    → (findings a b pair plan ≡ []) ↔ (lint_rows a b pair plan ≡ answer.Aligned)
none_exactly a b pair plan =
    let fs = findings a b pair plan in
    let same = first_is_lint a b pair plan in
    (λ e. sym same ∙ (none_is_aligned fs).0 e, λ e. (none_is_aligned fs).1 (same ∙ e))

-- ---- what an accept lifetime is to be

both_true : (a b : Bool) → a ≡ true → b ≡ true → (a && b) ≡ true
both_true true b e f = f
both_true false b e f = absurd (cc)

le_true : (a b : ℕ) → a ≤ b → nat_le a b ≡ true
le_true a b low = grind (arith, nat_tests)

inside : (l : Lifetime) (t : ℕ) → l.first ≤ t → t ≤ l.last → contains l t ≡ true
inside l t a b = both_true (nat_le l.first t) (nat_le t l.last) (le_true l.first t a) (le_true t l.last b)

pub widened_outlasts : (lead lag : ℕ) (r other : Row) → IsOrdered r
    → outlasts lead lag r (accepting_in (widened other.accepting (wanted_accepting lead lag r)) other) ≡ true
widened_outlasts lead lag r other good =
    let ordered = good.ordered in
    let written = good.written in
    let l = widened other.accepting (wanted_accepting lead lag r) in
    both_true (contains l (r.sending.first - lead)) (contains l (min greatest_time (r.sending.last + lag)))
    (inside l (r.sending.first - lead) (omega arith) (omega arith))
    (inside l (min greatest_time (r.sending.last + lag)) (omega arith) (omega arith))

-- ---- the spans are the longest

-- what holds at a time and of the later ones
from_here : (good : ℕ → Bool) (b : Bool) (low : ℕ) (P : ℕ → Type 0) → good low ≡ b → ((t : ℕ) → low + 1 ≤ t → P t → good t ≡ b) → (t : ℕ) → low ≤ t → P t → good t ≡ b
from_here good b low P here more t a p = elim (here_or_later low t a) [
  | inl e ↦ subst (λ (u : ℕ). good u ≡ b) e here
  | inr e ↦ more t e p
]

passes_here : (good : ℕ → Bool) (low end : ℕ) (ss : List Span) → good low ≡ true → AreLongest good (low + 1) end ss → AreLongest good low end ss
passes_here good low end [] here more = from_here good true low (λ t. t < end) here more
passes_here good low end (s ∷ ss) here more =
    let f = more.0 in
    let begins = f.begins in (
      record {
        begins = omega arith;
        ordered = f.ordered;
        within = f.within;
        before = from_here good true low (λ t. t < s.first) here f.before;
        fails = f.fails;
        after = f.after;
      },
      more.1,
    )

-- a time that fails alone, where the next passes or is the end
stands_alone : (good : ℕ → Bool) (low end : ℕ) → low < end → good low ≡ false → (low + 1 < end → good (low + 1) ≡ true) → IsFirstSpan good low end (record { first = low; last = low })
stands_alone good low end within bad next = record {
  begins = omega arith;
  ordered = omega arith;
  within = within;
  before = λ t a b. absurd (omega arith);
  fails = λ t a b. let same : low ≡ t = omega arith in subst (λ (u : ℕ). good u ≡ false) same bad;
  after = next;
}

fails_here : (good : ℕ → Bool) (low end : ℕ) (ss : List Span) → low < end → good low ≡ false → AreLongest good (low + 1) end ss → AreLongest good low end (lengthened low ss)
fails_here good low end [] within bad more = (stands_alone good low end within bad (λ some. more (low + 1) (omega arith) some), more)
fails_here good low end (s ∷ ss) within bad more = by_test (s.first == low + 1) refl
  where
    by_test : (b : Bool) → (s.first == low + 1) ≡ b
        → AreLongest good low end (if b then record { first = low; last = s.last } ∷ ss else record { first = low; last = low } ∷ s ∷ ss)
    by_test true is =
        let f = more.0 in
        let start = eqb_is s.first (low + 1) is in
        let ordered = f.ordered in (
          record {
            begins = omega arith;
            ordered = omega arith;
            within = f.within;
            before = λ t a b. absurd (omega arith);
            fails = from_here good false low (λ t. t ≤ s.last) bad (λ t a b. f.fails t (omega arith) b);
            after = f.after;
          },
          more.1,
        )
    by_test false is =
        let f = more.0 in
        let apart = eqb-false s.first (low + 1) is in
        let begins = f.begins in
        (stands_alone good low end within bad (λ some. f.before (low + 1) (omega arith) (omega arith)), more)

pub are_longest : (good : ℕ → Bool) (low n end : ℕ) → end ≡ low + n → AreLongest good low end (failing_spans good low n)
are_longest good low zero end same = λ t a b. absurd (omega arith)
are_longest good low (suc n) end same = by_test (good low) refl (are_longest good (low + 1) n end (omega arith))
  where
    by_test : (b : Bool) → good low ≡ b → AreLongest good (low + 1) end (failing_spans good (low + 1) n)
        → AreLongest good low end (if b then failing_spans good (low + 1) n else lengthened low (failing_spans good (low + 1) n))
    by_test true is more = passes_here good low end (failing_spans good (low + 1) n) is more
    by_test false is more = fails_here good low end (failing_spans good (low + 1) n) (omega arith) is more

-- ---- runs of times, for code that goes from span to span

-- times that pass the test are passed over
pub good_run : (good : ℕ → Bool) (k time next n m : ℕ) → next ≡ time + k → m ≡ k + n → ((t : ℕ) → time ≤ t → t < next → good t ≡ true)
    → failing_spans good time m ≡ failing_spans good next n
good_run good zero time next n m same count run = let at : next ≡ time = omega arith in let all : m ≡ n = omega arith in rw (at, all) refl
good_run good (suc k) time next n zero same count run = absurd (omega arith)
good_run good (suc k) time next n (suc m) same count run =
    let here = run time (omega arith) (omega arith) in
    rw here (good_run good k (time + 1) next n m (omega arith) (omega arith) (λ t a b. run t (omega arith) b))

-- the first span doesn't begin before the times do
not_before : (good : ℕ → Bool) (time n : ℕ) (s : Span) (ss : List Span) → failing_spans good time n ≡ s ∷ ss → time ≤ s.first
not_before good time zero s ss e = absurd (cc)
not_before good time (suc n) s ss e = by_test (good time) (failing_spans good (time + 1) n) (λ f. not_before good (time + 1) n s ss f) e
  where
    begins : (b : Bool) (x : Span) (xs : List Span) → (if b then record { first = time; last = x.last } ∷ xs else record { first = time; last = time } ∷ x ∷ xs) ≡ s ∷ ss → time ≤ s.first
    begins true x xs e = let f : time ≡ s.first = cc in omega arith
    begins false x xs e = let f : time ≡ s.first = cc in omega arith

    by_test : (b : Bool) (more : List Span) → (more ≡ s ∷ ss → time + 1 ≤ s.first) → (if b then more else lengthened time more) ≡ s ∷ ss → time ≤ s.first
    by_test true more h e = let low = h e in omega arith
    by_test false [] h e = let f : time ≡ s.first = cc in omega arith
    by_test false (x ∷ xs) h e = begins (x.first == time + 1) x xs e

-- a time before which none is free stands alone in front of spans that begin later
alone : (time : ℕ) (ss : List Span) → ((s : Span) (rest : List Span) → ss ≡ s ∷ rest → time + 2 ≤ s.first)
    → lengthened time ss ≡ record { first = time; last = time } ∷ ss
alone time [] later = refl
alone time (s ∷ ss) later = let low = later s ss refl in rw (ne_eqb s.first (time + 1) (λ e. omega arith)) refl

-- a last time that fails, where the next passes or there is none
last_bad : (good : ℕ → Bool) (time n : ℕ) → good time ≡ false → (1 ≤ n → good (time + 1) ≡ true)
    → failing_spans good time (suc n) ≡ record { first = time; last = time } ∷ failing_spans good (time + 1) n
last_bad good time zero bad next = rw bad refl
last_bad good time (suc n) bad next =
    let here = next (omega arith) in
    rw (bad, here) (alone time (failing_spans good (time + 1 + 1) n) (λ s rest e. let low = not_before good (time + 1 + 1) n s rest e in omega arith))

-- times that fail are one span, where the next passes or there is none
pub bad_run : (good : ℕ → Bool) (k time last n m : ℕ) → last ≡ time + k → m ≡ k + 1 + n → ((t : ℕ) → time ≤ t → t ≤ last → good t ≡ false) → (1 ≤ n → good (last + 1) ≡ true)
    → failing_spans good time m ≡ record { first = time; last = last } ∷ failing_spans good (last + 1) n
bad_run good k time last n zero same count run next = absurd (omega arith)
bad_run good zero time last n (suc m) same count run next =
    let at : last ≡ time = omega arith in
    let all : m ≡ n = omega arith in
    rw (at, all) (last_bad good time n (run time (omega arith) (omega arith)) (λ some. rw (← at) (next some)))
bad_run good (suc k) time last n (suc m) same count run next =
    let here = run time (omega arith) (omega arith) in
    let more = bad_run good k (time + 1) last n m (omega arith) (omega arith) (λ t a b. run t (omega arith) b) next in
    rw (here, more, eq-eqb (time + 1) (time + 1) refl) refl

-- no time fails
pub no_span : (good : ℕ → Bool) (time to : ℕ) → ((t : ℕ) → time ≤ t → t ≤ to → good t ≡ true) → failing_spans good time (to + 1 - time) ≡ []
no_span good time to run =
    good_run good (to + 1 - time) time (time + (to + 1 - time)) 0 (to + 1 - time) refl (omega arith) (λ t a b. run t a (omega arith))

-- the first span is that from the first time that fails to the last before one that passes
pub one_span : (good : ℕ → Bool) (time first last to : ℕ) → time ≤ first → first ≤ last → last ≤ to
    → ((t : ℕ) → time ≤ t → t < first → good t ≡ true) → ((t : ℕ) → first ≤ t → t ≤ last → good t ≡ false) → (last < to → good (last + 1) ≡ true)
    → failing_spans good time (to + 1 - time) ≡ record { first = first; last = last } ∷ failing_spans good (last + 1) (to + 1 - (last + 1))
one_span good time first last to low order high before within after =
    good_run good (first - time) time first (to + 1 - first) (to + 1 - time) (omega arith) (omega arith) before
    ∙ bad_run good (last - first) first last (to + 1 - (last + 1)) (to + 1 - first) (omega arith) (omega arith) within (λ some. after (omega arith))

-- tests that agree fail in the same spans
same_spans : (one two : ℕ → Bool) (time n : ℕ) → ((t : ℕ) → one t ≡ two t) → failing_spans one time n ≡ failing_spans two time n
same_spans one two time zero same = refl
same_spans one two time (suc n) same = rw (same time, same_spans one two (time + 1) n same) refl

-- the times that no lifetime of the rows that send contains are the gaps
pub uncovered_is_gap : (end : End) (ls : List Lifetime) (rows : List Row) (pair : Pair) (low high : ℕ) → ls ≡ send_lifetimes rows pair
    → map (gap_finding end) (failing_spans (is_covered ls) low (high + 1 - low)) ≡ gap_findings end rows pair low high
uncovered_is_gap end ls rows pair low high same =
    ap (map (gap_finding end)) (same_spans (is_covered ls) (has_sendable rows pair) low (high + 1 - low) (λ t. rw same (covered_is_sendable rows pair t)))
