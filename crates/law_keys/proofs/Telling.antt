-- What the text of the only finding calls `set` mends the plan.
use Rattle.std.proofs.Common.{◌≡◌, ℕ, ◌≤◌, true, List, [], ◌∷◌, Option, Some, None, refl, sym, ◌∙◌}
use Rattle.std.specs.List.{AllByRecursion}
use Rattle.book_base.specs.declared.end.End.{End}
use Rattle.book_base.specs.declared.end.End.TheVariants.{A, B}
use Rattle.book_keys.specs.declared.lifetime.Lifetime.{Lifetime}
use Rattle.book_keys.specs.Overlaps.{IsValid}
use Rattle.book_keys.specs.Rows.{Row}
use Rattle.book_plans.specs.declared.finding.Finding.{Finding}
use Rattle.book_plans.specs.declared.finding.Finding.TheVariants as finding
use Rattle.book_plans.specs.declared.obstacle.Obstacle.{Obstacle}
use Rattle.book_plans.specs.Differences.{differences, is_alike}
use Rattle.book_plans.specs.Findings.{accepting_in, findings}
use Rattle.book_plans.specs.Margins.{IsOrdered}
use Rattle.book_plans.specs.Ways.{accepting_obstacle, fitting_accepting, fitting_sending, sending_in}
use Rattle.book_plans.proofs.DifferenceLaws.{alike_accepts}
use Rattle.book_scope_plan.specs.CalendarTexts.{row_numbered}
use Rattle.book_scope_plan.specs.FindingTexts.{Facing, facing_at}
use Rattle.book_scope_plan.specs.WayTexts.{is_clear, longer_over, may_lengthen, may_shorten, sending_way}
use Rattle.law_keys.specs.Own.{IsGapOrRow, IsMended, IsOfRow, changed_at, far_end}
use Rattle.law_keys.proofs.Mending.{accepts_at_a, accepts_at_b, sends_at_a, sends_at_b}

one_holds : (P : Finding → Type 0) (fs : List Finding) (x : Finding) → fs ≡ x ∷ [] → P x → AllByRecursion P fs
one_holds P fs x is holds = rw is (holds, tt)

none_of : (o : Option Obstacle) → is_clear o ≡ true → o ≡ None
none_of None h = refl
none_of (Some o) h = absurd (cc)

pub shorter_mends : (f : Facing) (e : End) (n : ℕ) (r o : Row)
    → 1 ≤ n → row_numbered (facing_at e f).node.rows n ≡ Some r → IsValid f.node.rows → IsValid f.other.rows
    → findings f.node.rows f.other.rows f.pair f.plan ≡ finding.ShortAccept e n ∷ []
    → may_shorten (facing_at e f) (record { number = n; row = r }) o ≡ true
    → IsMended (changed_at e (sending_in (fitting_sending f.plan.lead f.plan.lag r o)) n f)
shorter_mends f A n r o low got one two is may =
    let all = one_holds (IsGapOrRow A n) (findings f.node.rows f.other.rows f.pair f.plan) (finding.ShortAccept A n) is (refl, refl) in
    let l = fitting_sending f.plan.lead f.plan.lag r o in
    let done = sends_at_a f.node.rows f.other.rows f.pair f.plan n r l low got one all (none_of (sending_way (facing_at A f) n r l) may) in
    (done.0, (two, done.1))
shorter_mends f B n r o low got one two is may =
    let all = one_holds (IsGapOrRow B n) (findings f.node.rows f.other.rows f.pair f.plan) (finding.ShortAccept B n) is (refl, refl) in
    let l = fitting_sending f.plan.lead f.plan.lag r o in
    let done = sends_at_b f.node.rows f.other.rows f.pair f.plan n r l low got two all (none_of (sending_way (facing_at B f) n r l) may) in
    (one, (done.0, done.1))

pub longer_mends : (f : Facing) (e : End) (n k : ℕ) (r o : Row)
    → 1 ≤ n → row_numbered (facing_at e f).node.rows n ≡ Some r → IsOrdered r
    → 1 ≤ k → row_numbered (facing_at e f).other.rows k ≡ Some o → IsValid f.node.rows → IsValid f.other.rows
    → findings f.node.rows f.other.rows f.pair f.plan ≡ finding.ShortAccept e n ∷ []
    → is_alike (differences (facing_at e f).pair r o) ≡ true
    → may_lengthen (facing_at e f) (record { number = n; row = r }) k o ≡ true
    → IsMended (changed_at (far_end e) (accepting_in (fitting_accepting f.plan.lead f.plan.lag r o)) k f)
longer_mends f A n k r o low got ordered low_k got_k one two is alike may =
    let all = one_holds (IsOfRow A n) (findings f.node.rows f.other.rows f.pair f.plan) (finding.ShortAccept A n) is (refl, refl) in
    let clear = none_of (accepting_obstacle f.other.rows k o (fitting_accepting f.plan.lead f.plan.lag r o)) may in
    let done = accepts_at_b f.node.rows f.other.rows f.pair f.plan n k r o low got ordered low_k got_k two all (sym (alike_accepts (facing_at A f).pair r o) ∙ alike) clear in
    (one, (done.0, done.1))
longer_mends f B n k r o low got ordered low_k got_k one two is alike may =
    let all = one_holds (IsOfRow B n) (findings f.node.rows f.other.rows f.pair f.plan) (finding.ShortAccept B n) is (refl, refl) in
    let clear = none_of (accepting_obstacle f.node.rows k o (fitting_accepting f.plan.lead f.plan.lag r o)) may in
    let done = accepts_at_a f.node.rows f.other.rows f.pair f.plan n k r o low got ordered low_k got_k one all (sym (alike_accepts (facing_at B f).pair r o) ∙ alike) clear in
    (done.0, (two, done.1))

pub over_gap_mends : (f : Facing) (e : End) (n first last : ℕ) (r : Row) (l : Lifetime)
    → 1 ≤ n → row_numbered (facing_at e f).node.rows n ≡ Some r → IsValid f.node.rows → IsValid f.other.rows
    → findings f.node.rows f.other.rows f.pair f.plan ≡ finding.Gap e first last ∷ []
    → longer_over (facing_at e f) (record { first = first; last = last }) r ≡ Some l
    → sending_way (facing_at e f) n r l ≡ None
    → IsMended (changed_at e (sending_in l) n f)
over_gap_mends f A n first last r l low got one two is over clear =
    let all = one_holds (IsGapOrRow A n) (findings f.node.rows f.other.rows f.pair f.plan) (finding.Gap A first last) is refl in
    let done = sends_at_a f.node.rows f.other.rows f.pair f.plan n r l low got one all clear in
    (done.0, (two, done.1))
over_gap_mends f B n first last r l low got one two is over clear =
    let all = one_holds (IsGapOrRow B n) (findings f.node.rows f.other.rows f.pair f.plan) (finding.Gap B first last) is refl in
    let done = sends_at_b f.node.rows f.other.rows f.pair f.plan n r l low got two all clear in
    (one, (done.0, done.1))
