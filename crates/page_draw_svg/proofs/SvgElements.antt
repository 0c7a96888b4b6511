-- That a picture has an element for each segment.
use Rattle.std.proofs.Common.{◌≡◌, ℕ, zero, suc, ◌+◌, List, [], ◌∷◌, ◌++◌, map, length, Some, refl, sym, ap, ◌∙◌, arith}
use Rattle.std.specs.Prelude.{codes, flat_map, option_map, slice_get}
use Rattle.book_draw.specs.declared.fold.SessionLine.{SessionLine}
use Rattle.book_draw.specs.declared.session_rung.SessionEnds.{SessionEnds}
use Rattle.book_draw.specs.declared.session_rung.SessionRung.{SessionRung}
use Rattle.book_draw.specs.declared.span.DrawnTime.{DrawnTime}
use Rattle.book_draw.specs.Folds.{lines_within}
use Rattle.book_draw.specs.SessionLadders.{ends_text, ladder_between, session_rung_text, session_ladder}
use Rattle.book_draw.specs.SessionRungs.{rungs_between, rungs_of_session, session_at, sessions_drawn}
use Rattle.book_draw.specs.Times.{rungs_within}
use Rattle.page_draw_svg.specs.SessionPictures.{keys_drawn, line_in_row, line_of_row, session_line_svg, session_lines_picture, picture_within, rows_from, session_front_svg, session_rows, session_svg}

lines_back : (row : ℕ) (ls : List SessionLine) → map line_of_row (rows_from row ls) ≡ ls
lines_back row [] = refl
lines_back row (l ∷ ls) = ap (λ (xs : List SessionLine). l ∷ xs) (lines_back (row + 1) ls)

pub each_line : (ls : List SessionLine) → map line_of_row (session_rows ls) ≡ ls
each_line ls = lines_back 0 ls

row_from : (row : ℕ) (ls : List SessionLine) (i : ℕ) → slice_get (rows_from row ls) i ≡ option_map (line_in_row (row + i)) (slice_get ls i)
row_from row [] zero = refl
row_from row [] (suc i) = refl
row_from row (l ∷ ls) zero = let same : row + 0 ≡ row = omega arith in rw same refl
row_from row (l ∷ ls) (suc i) = let same : row + suc i ≡ row + 1 + i = omega arith in rw same (row_from (row + 1) ls i)

pub each_row : (ls : List SessionLine) (i : ℕ) → slice_get (session_rows ls) i ≡ option_map (line_in_row i) (slice_get ls i)
each_row ls i = let same : 0 + i ≡ i = omega arith in rw same at (row_from 0 ls i)

pub whole_picture : (t : DrawnTime) (number : ℕ) (rs : List SessionRung) (e : SessionEnds) → session_at number (sessions_drawn rs) ≡ Some e
    → session_svg t number rs ≡ session_front_svg e (keys_drawn (rungs_within t (rungs_of_session number rs))) (length (lines_within t e (rungs_of_session number rs)))
    ++ (flat_map (session_line_svg e) (session_rows (lines_within t e (rungs_of_session number rs))) ++ codes "</svg>\n")
unfolding session_lines_picture
whole_picture t number rs e is = ap (λ o. picture_within t o (rungs_of_session number rs)) is

pub whole_text : (t : DrawnTime) (number : ℕ) (rs : List SessionRung) (e : SessionEnds) → session_at number (sessions_drawn rs) ≡ Some e
    → session_ladder t number rs ≡ ends_text e ++ flat_map (session_rung_text e) (rungs_within t (rungs_of_session number rs))
whole_text t number rs e is =
    ap (λ o. ladder_between t o rs) is ∙ ap (λ o. ends_text e ++ flat_map (session_rung_text e) (rungs_within t (rungs_between o rs))) (sym is)
