use Rattle.std.proofs.Common.{◌≡◌, ℕ, ◌+◌, ◌-◌, ◌/◌, ◌%◌, List, [], ◌∷◌, ◌++◌, length, take, drop, refl, sym, ap, ◌∙◌, arith, append_assoc}
use Rattle.std.proofs.lemmas.List.{length-drop, drop-drop, drop_all, take_all, append-nil}
use Rattle.book_segments.specs.Bytes.{put2}
use Rattle.tcp_segment.proofs.sums.put_two.Goals as goal

-- two bytes written to the front of what is behind a place
written_at : (xs w pair : List ℕ) (at k : ℕ) → k ≡ length xs - at → w ≡ pair ++ drop 2 (take k (drop at xs)) → take at xs ++ (w ++ drop k (drop at xs)) ≡ take at xs ++ pair ++ drop (at + 2) xs
written_at xs w pair at k h e =
    let long = length-drop at xs in
    let none : drop k (drop at xs) ≡ [] = drop_all k (drop at xs) (omega arith) in
    let all : drop 2 (take k (drop at xs)) ≡ drop (at + 2) xs = ap (drop 2) (take_all k (drop at xs) (omega arith)) ∙ drop-drop 2 at xs in
    let whole : w ++ drop k (drop at xs) ≡ pair ++ drop (at + 2) xs = ap (λ (l : List ℕ). w ++ l) none ∙ (append-nil w ∙ (e ∙ ap (λ (l : List ℕ). pair ++ l) all)) in
    ap (λ (l : List ℕ). take at xs ++ l) whole ∙ sym (append_assoc (take at xs) pair (drop (at + 2) xs))

pub returns : goal.returns
unfolding put2
returns c = written_at c.args.bytes.now c.write_u16.new.buf (c.args.number / 256 % 256 ∷ c.args.number % 256 ∷ []) c.args.at _ refl c.write_u16.ensures
