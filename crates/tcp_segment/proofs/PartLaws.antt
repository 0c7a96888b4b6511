-- Parts of a buffer that is written in place.
use Rattle.std.proofs.Common.{◌≡◌, ℕ, zero-add, ◌+◌, ◌≤◌, List, [], ◌++◌, length, take, drop, refl, ap, ◌∙◌, arith, append_assoc}
use Rattle.std.proofs.lemmas.List.{length-append, length-take, take_at, take-append-le, drop-append-le, append-nil}
use Rattle.std.proofs.Math.Seq.{take-append-add, drop-append-add, drop-length}
use Rattle.std.proofs.lemmas.Slice.{drop-append-drop}
use Rattle.tcp_segment.specs.Parts.{spliced}

pub drop_spliced : (n at : ℕ) (part xs : List ℕ) → at ≤ length xs → at + length part ≤ n → drop n (spliced xs at part) ≡ drop n xs
drop_spliced n at part xs fit h =
    (drop-append-drop (at + length part) xs (take at xs ++ part) n h (omega (arith, length-append (take at xs) part, length-take at xs)))

pub take_spliced : (n at : ℕ) (part xs : List ℕ) → at ≤ length xs → n ≡ at + length part → take n (spliced xs at part) ≡ take at xs ++ part
take_spliced n at part xs fit h =
    (take_at (take at xs ++ part) (drop (at + length part) xs) n (omega (arith, length-append (take at xs) part, length-take at xs)))

-- a part of the middle of three is written
pub spliced_middle : (a b c part : List ℕ) (at place : ℕ) → place ≡ length a + at → at + length part ≤ length b → spliced (a ++ (b ++ c)) place part ≡ a ++ (spliced b at part ++ c)
spliced_middle a b c part at place e h =
    let front : take place (a ++ (b ++ c)) ≡ a ++ take at b = rw (e, take-append-add a (b ++ c) at, take-append-le at b c (omega arith)) refl in
    let back : drop (place + length part) (a ++ (b ++ c)) ≡ drop (at + length part) b ++ c =
    let n : place + length part ≡ length a + (at + length part) = omega arith in
    rw (n, drop-append-add a (b ++ c) (at + length part), drop-append-le (at + length part) b c h) refl in
    rw (front, back) (simp append_assoc)

pub spliced_all : (old new : List ℕ) → length new ≡ length old → spliced old 0 new ≡ new
spliced_all old new e = let d : drop (0 + length new) old ≡ [] = rw (zero-add, e) (drop-length old) in ap (λ (t : List ℕ). new ++ t) d ∙ append-nil new
