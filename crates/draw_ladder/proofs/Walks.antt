-- One step of a walk over rungs from the end on, and of a loop that puts bytes.
use Rattle.std.proofs.Common.{◌≡◌, ℕ, suc, ◌+◌, ◌-◌, ◌<◌, List, [], ◌∷◌, ◌++◌, length, drop, replicate, sym, ap, ◌∙◌, subst, arith, append_assoc}
use Rattle.book_draw.specs.declared.rung.Rung.{Rung}
use Rattle.draw_ladder.specs.declared.fates.Seen.{Seen}
use Rattle.draw_ladder.specs.Sights.{Saw}

-- one byte more of so many
pub one_time : (before after whole : List ℕ) (byte count i : ℕ) → i < count → after ≡ before ++ byte ∷ [] → before ++ replicate (count - i) byte ≡ whole
    → after ++ replicate (count - (i + 1)) byte ≡ whole
one_time before after whole byte count i within is so_far =
    let left : count - i ≡ suc (count - (i + 1)) = omega arith in
    rw is (append_assoc before (byte ∷ []) (replicate (count - (i + 1)) byte) ∙ (rw left at so_far))

-- one rung more from the end on
pub from_the_end : (xs : List Rung) (seen : Seen) (done : ℕ) (r : Rung) → done < length xs
    → drop (length xs - 1 - done) xs ≡ r ∷ drop (length xs - 1 - done + 1) xs → Saw seen (r ∷ drop (length xs - done) xs)
    → Saw seen (drop (length xs - (done + 1)) xs)
from_the_end xs seen done r within cons saw =
    let next : length xs - 1 - done + 1 ≡ length xs - done = omega arith in
    let here : length xs - (done + 1) ≡ length xs - 1 - done = omega arith in
    let all : drop (length xs - (done + 1)) xs ≡ r ∷ drop (length xs - done) xs =
    ap (λ (n : ℕ). drop n xs) here ∙ (cons ∙ ap (λ (n : ℕ). r ∷ drop n xs) next) in
    subst (λ (l : List Rung). Saw seen l) (sym all) saw
