-- That lines stand for all segments.
use Rattle.std.proofs.Common.{◌≡◌, ◌≤◌, ℕ, suc, ◌+◌, ◌==◌, Bool, true, false, List, [], ◌∷◌, ◌++◌, length, map, min, Option, Some, None, refl, sym, ap, ◌∙◌, arith, cond, if◌then◌else◌}
use Rattle.std.specs.Prelude.{◌/◌, ◌&&◌, nat_lt, not}
use Rattle.std.specs.List.{filter}
use Rattle.std.proofs.lemmas.Bool.Decides.{nat_tests}
use Rattle.book_base.specs.declared.end.End.{End}
use Rattle.book_base.specs.declared.end.End.TheVariants.{A, B}
use Rattle.book_draw.specs.declared.fold.Folding.{Folding}
use Rattle.book_draw.specs.declared.fold.RungRun.{RungRun}
use Rattle.book_draw.specs.declared.fold.SessionLine.{SessionLine}
use Rattle.book_draw.specs.declared.fold.SessionLine.TheVariants.{Whole, More}
use Rattle.book_draw.specs.declared.session_rung.SessionEnds.{SessionEnds}
use Rattle.book_draw.specs.declared.session_rung.SessionRung.{SessionRung}
use Rattle.book_draw.specs.declared.span.DrawnTime.{DrawnTime}
use Rattle.book_draw.specs.declared.span.LeftOut.{LeftOut}
use Rattle.book_draw.specs.declared.span.LeftRun.{LeftRun}
use Rattle.book_draw.specs.declared.span.LeftSide.TheVariants.{Before, After}
use Rattle.book_draw.specs.Folds.{after_drawn, fold_lines, fold_start, fold_step, folds_with, kinds_to, line_count, lines_count, folded_lines, line_of_left, lines_within, run_lines, run_with, folded_session}
use Rattle.book_draw.specs.SessionLadders.{reached_end}
use Rattle.book_draw.specs.Times.{is_early, is_late, left_at, left_out, left_runs, rungs_within}

abbrev run_count : Option RungRun → ℕ
run_count None = 0
run_count (Some m) = m.count

count_more : (xs ys : List SessionLine) → lines_count (xs ++ ys) ≡ lines_count xs + lines_count ys
count_more [] ys = let none : 0 + lines_count ys ≡ lines_count ys = omega arith in sym none
count_more (x ∷ xs) ys =
    let more = count_more xs ys in
    let sum : line_count x + lines_count (xs ++ ys) ≡ (line_count x + lines_count xs) + lines_count ys = omega arith in
    sum

by_count : (m : RungRun) (p q : Bool) → (m.count == 1) ≡ p → (m.count == 2) ≡ q → lines_count (if p then Whole m.first ∷ [] else if q then Whole m.first ∷ Whole m.last ∷ [] else More m ∷ []) ≡ m.count
by_count m true q one two = let is : m.count ≡ 1 = grind (arith, nat_tests) in let sum : 1 + 0 ≡ m.count = omega arith in sum
by_count m false true one two = let is : m.count ≡ 2 = grind (arith, nat_tests) in let sum : 1 + (1 + 0) ≡ m.count = omega arith in sum
by_count m false false one two = let sum : m.count + 0 ≡ m.count = omega arith in sum

run_told : (o : Option RungRun) → lines_count (run_lines o) ≡ run_count o
run_told None = refl
run_told (Some m) = by_count m (m.count == 1) (m.count == 2) refl refl

run_more : (o : Option RungRun) (r : SessionRung) → run_count o + 1 ≤ 18446744073709551615 → run_count (Some (run_with o r)) ≡ run_count o + 1
run_more None r room = let sum : 1 ≡ 0 + 1 = omega arith in sum
run_more (Some m) r room = let sum : min (m.count + 1) 18446744073709551615 ≡ m.count + 1 = omega arith in sum

drawn_none : (at : End) (f : Folding) (r : SessionRung) → (after_drawn at f r).run ≡ None
drawn_none A f r = refl
drawn_none B f r = refl

by_fold : (b : Bool) (at : End) (f : Folding) (r : SessionRung) → run_count f.run + 1 ≤ 18446744073709551615
    → lines_count (if b then [] else run_lines f.run ++ Whole r ∷ [])
    + run_count (if b then record { to_left = f.to_left; to_right = f.to_right; run = Some (run_with f.run r) } else after_drawn at f r).run ≡ run_count f.run + 1
by_fold true at f r room = let more = run_more f.run r room in let sum : 0 + run_count (Some (run_with f.run r)) ≡ run_count f.run + 1 = omega arith in sum
by_fold false at f r room =
    let none : run_count (after_drawn at f r).run ≡ 0 = ap run_count (drawn_none at f r) in
    let told = run_told f.run in
    let one : lines_count (Whole r ∷ []) ≡ 1 = refl in
    let all = count_more (run_lines f.run) (Whole r ∷ []) in
    let sum : lines_count (run_lines f.run ++ Whole r ∷ []) + run_count (after_drawn at f r).run ≡ run_count f.run + 1 = omega arith in
    sum

one_more : (at : End) (f : Folding) (r : SessionRung) → run_count f.run + 1 ≤ 18446744073709551615 → lines_count (fold_lines at f r) + run_count (fold_step at f r).run ≡ run_count f.run + 1
one_more at f r room = by_fold (folds_with (kinds_to at f) r) at f r room

all_from : (e : SessionEnds) (f : Folding) (rs : List SessionRung) → run_count f.run + length rs ≤ 18446744073709551615 → lines_count (folded_lines e f rs) ≡ run_count f.run + length rs
all_from e f [] room = let told = run_told f.run in omega arith
all_from e f (r ∷ rs) room =
    let at = reached_end e r in
    let low : run_count f.run + 1 ≤ 18446744073709551615 = omega arith in
    let one = one_more at f r low in
    let room_now : run_count (fold_step at f r).run + length rs ≤ 18446744073709551615 = omega arith in
    let more = all_from e (fold_step at f r) rs room_now in
    let split = count_more (fold_lines at f r) (folded_lines e (fold_step at f r) rs) in
    omega arith

drawn_told : (e : SessionEnds) (rs : List SessionRung) → length rs ≤ 18446744073709551615 → lines_count (folded_session e rs) ≡ length rs
drawn_told e rs room =
    let from : 0 + length rs ≤ 18446744073709551615 = omega arith in
    let all : lines_count (folded_lines e fold_start rs) ≡ 0 + length rs = all_from e fold_start rs from in
    let sum : lines_count (folded_lines e fold_start rs) ≡ length rs = omega arith in
    sum

-- ---- those that are left out

left_more : (xs ys : List LeftRun) → lines_count (map line_of_left (xs ++ ys)) ≡ lines_count (map line_of_left xs) + lines_count (map line_of_left ys)
left_more [] ys = let none : lines_count (map line_of_left ys) ≡ 0 + lines_count (map line_of_left ys) = omega arith in none
left_more (x ∷ xs) ys =
    let more = left_more xs ys in
    let sum : x.count + lines_count (map line_of_left (xs ++ ys)) ≡ x.count + lines_count (map line_of_left xs) + lines_count (map line_of_left ys) = omega arith in
    sum

left_by : (b : Bool) (m : LeftRun) → (m.count == 0) ≡ b → lines_count (map line_of_left (if b then [] else m ∷ [])) ≡ m.count
left_by true m is = let none : m.count ≡ 0 = grind (arith, nat_tests) in let sum : 0 ≡ m.count = omega arith in sum
left_by false m is = let sum : m.count + 0 ≡ m.count = omega arith in sum

left_told : (t : DrawnTime) (n : LeftOut) → lines_count (map line_of_left (left_runs t n)) ≡ n.before + n.after
left_told t n =
    let before : lines_count (map line_of_left (left_at Before n.before t.from)) ≡ n.before = left_by (n.before == 0) (record { side = Before; count = n.before; time = t.from }) refl in
    let after : lines_count (map line_of_left (left_at After n.after t.to)) ≡ n.after = left_by (n.after == 0) (record { side = After; count = n.after; time = t.to }) refl in
    let both = left_more (left_at Before n.before t.from) (left_at After n.after t.to) in
    omega arith

-- each segment is drawn, or left out on one side
one_of : (early past : Bool) (r : SessionRung) (us es ls : List SessionRung)
    → length (cond (not early && not (not early && past)) (r ∷ us) us) + (length (cond early (r ∷ es) es) + length (cond (not early && past) (r ∷ ls) ls)) ≡ suc (length us + (length es + length ls))
one_of true past r us es ls = let sum : length us + (suc (length es) + length ls) ≡ suc (length us + (length es + length ls)) = omega arith in sum
one_of false true r us es ls = let sum : length us + (length es + suc (length ls)) ≡ suc (length us + (length es + length ls)) = omega arith in sum
one_of false false r us es ls = let sum : suc (length us) + (length es + length ls) ≡ suc (length us + (length es + length ls)) = omega arith in sum

thirds : (t : DrawnTime) (rs : List SessionRung) → length (rungs_within t rs) + (length (filter (is_early t) rs) + length (filter (is_late t) rs)) ≡ length rs
thirds t [] = refl
thirds t (r ∷ rs) =
    one_of (is_early t r) (nat_lt t.to (r.time / 1000000000)) r (rungs_within t rs) (filter (is_early t) rs) (filter (is_late t) rs)
    ∙ ap suc (thirds t rs)

pub all_told : (t : DrawnTime) (e : SessionEnds) (rs : List SessionRung) → length rs ≤ 18446744073709551615 → lines_count (lines_within t e rs) ≡ length rs
all_told t e rs room =
    let all = thirds t rs in
    let low : length (rungs_within t rs) ≤ 18446744073709551615 = omega arith in
    let drawn = drawn_told e (rungs_within t rs) low in
    let left = left_told t (left_out t rs) in
    let split = count_more (folded_session e (rungs_within t rs)) (map line_of_left (left_runs t (left_out t rs))) in
    omega arith
