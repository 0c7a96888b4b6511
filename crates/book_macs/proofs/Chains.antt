-- AES-CMAC, block by block, is the chain over the blocks of the padded message.
use Rattle.std.proofs.Common.{◌≡◌, ℕ, zero, suc, ◌+◌, ◌-◌, ◌*◌, ◌/◌, ◌%◌, ◌<◌, ◌≤◌, ◌==◌, Bool, true, false, not, List, [], ◌∷◌, ◌++◌, length, take, drop, replicate, refl, sym, ap, ◌∙◌, ◌⊎◌, inl, inr, arith}
use Rattle.std.specs.List.{fold}
use Rattle.std.proofs.lemmas.Bool.{cases_eq, eq-eqb, ne_eqb, eqb-true, eqb-false, and_parts, and_cases, not-true, not-false}
use Rattle.std.proofs.lemmas.List.{length-append, length-drop, length-take, length-replicate, take-append-le, drop-append-le, take-take, drop-drop}
use Rattle.book_macs.specs.Ciphers.{xor, aes, doubled, last_block, cmac_from, cmac}
use Rattle.book_macs.specs.Padded.{blocks, block_count, is_complete, padded, subkey, with_subkey, chain}
use Rattle.book_macs.proofs.LengthLaws.{length-xor}
use Rattle.book_base.proofs.ListLaws.{take_drop}

-- the chain over whole blocks, with a subkey in the last one
abbrev through : List ℕ → List ℕ → List ℕ → List ℕ → ℕ → List ℕ
through key s state m zero = aes key (xor state (xor m s))
through key s state m (suc k) = through key s (aes key (xor state (take 16 m))) (drop 16 m) k

take_all : (n : ℕ) (xs : List ℕ) → length xs ≤ n → take n xs ≡ xs
take_all zero [] le = refl
take_all zero (x ∷ xs) le = absurd (omega arith)
take_all (suc n) [] le = refl
take_all (suc n) (x ∷ xs) le = ap (λ (ys : List ℕ). x ∷ ys) (take_all n xs (omega arith))

through_blocks : (k : ℕ) (key s state m : List ℕ) → length m ≡ 16 * k + 16
    → through key s state m k ≡ fold (chain key) state (blocks (suc k) (take (16 * k) m ++ xor (drop (16 * k) m) s))
through_blocks zero key s state m long =
    let cut = length-xor m s in
    ap (λ (b : List ℕ). aes key (xor state b)) (sym (take_all 16 (xor m s) (omega arith)))
through_blocks (suc k) key s state m long =
    let low : List ℕ = take (16 * suc k) m in
    let high : List ℕ = xor (drop (16 * suc k) m) s in
    let cut = length-take (16 * suc k) m in
    let rest = length-drop 16 m in
    let first : take 16 (low ++ high) ≡ take 16 m = take-append-le 16 low high (omega arith) ∙ take-take 16 (16 * suc k) m (omega arith) in
    let sum : 16 * suc k ≡ 16 * k + 16 = omega arith in
    let other : 16 * suc k ≡ 16 + 16 * k = omega arith in
    let front : drop 16 low ≡ take (16 * k) (drop 16 m) = take_drop (16 * suc k) (16 * k) 16 m sum in
    let back : drop (16 * suc k) m ≡ drop (16 * k) (drop 16 m) = ap (λ (n : ℕ). drop n m) other ∙ sym (drop-drop (16 * k) 16 m) in
    let others : drop 16 (low ++ high) ≡ take (16 * k) (drop 16 m) ++ xor (drop (16 * k) (drop 16 m)) s =
    drop-append-le 16 low high (omega arith)
    ∙ (ap (λ (xs : List ℕ). xs ++ high) front ∙ ap (λ (xs : List ℕ). take (16 * k) (drop 16 m) ++ xor xs s) back) in
    through_blocks k key s (aes key (xor state (take 16 m))) (drop 16 m) (omega arith)
    ∙ (ap (λ (bytes : List ℕ). fold (chain key) (aes key (xor state (take 16 m))) (blocks (suc k) bytes)) (sym others)
    ∙ ap (λ (b : List ℕ). fold (chain key) (aes key (xor state b)) (blocks (suc k) (drop 16 (low ++ high)))) (sym first))

-- where the last block is complete
whole : (k : ℕ) (key state m : List ℕ) → length m ≡ 16 * k + 16 → cmac_from key state m k ≡ through key (doubled (aes key (replicate 16 0))) state m k
unfolding cmac_from last_block
whole zero key state m long = rw (eq-eqb (length m) 16 (omega arith)) refl
whole (suc k) key state m long = let rest = length-drop 16 m in whole k key (aes key (xor state (take 16 m))) (drop 16 m) (omega arith)

-- where it isn't
part : (k r : ℕ) (key state m : List ℕ) → length m ≡ 16 * k + r → r < 16
    → cmac_from key state m k ≡ through key (doubled (doubled (aes key (replicate 16 0)))) state (m ++ 0x80 ∷ replicate (15 - r) 0) k
unfolding cmac_from last_block
part zero r key state m long less =
    let size : length m ≡ r = omega arith in
    rw (ne_eqb (length m) 16 (λ e. omega arith), size) refl
part (suc k) r key state m long less =
    let tail : List ℕ = 0x80 ∷ replicate (15 - r) 0 in
    let rest = length-drop 16 m in
    let first : take 16 (m ++ tail) ≡ take 16 m = take-append-le 16 m tail (omega arith) in
    let others : drop 16 (m ++ tail) ≡ drop 16 m ++ tail = drop-append-le 16 m tail (omega arith) in
    part k r key (aes key (xor state (take 16 m))) (drop 16 m) (omega arith) less
    ∙ (ap (λ (bytes : List ℕ). through key (doubled (doubled (aes key (replicate 16 0)))) (aes key (xor state (take 16 m))) bytes k) (sym others)
    ∙ ap (λ (b : List ℕ). through key (doubled (doubled (aes key (replicate 16 0)))) (aes key (xor state b)) (drop 16 (m ++ tail)) k) (sym first))

-- what a message has where its last block is complete, and where it isn't
record Counted (m : List ℕ) : Type 0 where
  more : ℕ
  blocks_are : block_count m ≡ suc more
  before : (length m - 1) / 16 ≡ more
  long : length (padded m) ≡ 16 * more + 16
  goes : (key state : List ℕ) → cmac_from key state m more ≡ through key (subkey key m) state (padded m) more

complete_counted : (m : List ℕ) → is_complete m ≡ true → Counted m
complete_counted m e =
    let both = and_parts (not (length m == 0)) (length m % 16 == 0) e in
    let some : length m ≡ 0 → ⊥ = eqb-false (length m) 0 (not-true (length m == 0) both.0) in
    let none : length m % 16 ≡ 0 = eqb-true (length m % 16) 0 both.1 in
    let positive : 0 < length m = elim (cases_eq (length m) 0) [ inl z ↦ absurd (some z) | inr n ↦ omega arith ] in
    let more : ℕ = length m / 16 - 1 in
    let size : length m ≡ 16 * (length m / 16 - 1) + 16 = omega arith in
    record {
      more = length m / 16 - 1;
      blocks_are = rw (ne_eqb (length m) 0 some) (omega arith);
      before = omega arith;
      long = rw e size;
      goes = λ key state. rw e (whole (length m / 16 - 1) key state m size);
    }

part_counted : (m : List ℕ) → is_complete m ≡ false → (length m ≡ 0) ⊎ (length m % 16 ≡ 0 → ⊥) → Counted m
part_counted m e why =
    let r : ℕ = length m % 16 in
    let size : length m ≡ 16 * (length m / 16) + length m % 16 = omega arith in
    let less : length m % 16 < 16 = omega arith in
    let filled = length-append m (0x80 ∷ replicate (15 - length m % 16) 0) in
    let zeros = length-replicate {A = ℕ} (15 - length m % 16) 0 in
    record {
      more = length m / 16;
      blocks_are = elim (cases_eq (length m) 0) [
        | inl none ↦ rw (eq-eqb (length m) 0 none) (omega arith)
        | inr some ↦ rw (ne_eqb (length m) 0 some) (elim why [ inl none ↦ absurd (some none) | inr left ↦ omega arith ])
      ];
      before = elim why [ inl none ↦ omega arith | inr left ↦ omega arith ];
      long = rw e (omega arith);
      goes = λ key state. rw e (part (length m / 16) (length m % 16) key state m size less);
    }

counted_by : (c : Bool) (m : List ℕ) → is_complete m ≡ c → Counted m
counted_by true m e = complete_counted m e
counted_by false m e = part_counted m e (elim (and_cases (not (length m == 0)) (length m % 16 == 0) e) [
  | inl none ↦ inl (eqb-true (length m) 0 (not-false (length m == 0) none))
  | inr left ↦ inr (eqb-false (length m % 16) 0 left)
])

counted : (m : List ℕ) → Counted m
counted m = counted_by (is_complete m) m refl

pub padded_whole : (m : List ℕ) → length (padded m) ≡ 16 * block_count m
padded_whole m = let c = counted m in let blocks_are = c.blocks_are in let long = c.long in omega arith

pub cmac_folds : (key m : List ℕ) → cmac key m ≡ fold (chain key) (replicate 16 0) (blocks (block_count m) (with_subkey key m))
unfolding cmac
cmac_folds key m =
    let c = counted m in
    let last : length (padded m) - 16 ≡ 16 * c.more = let long = c.long in omega arith in
    let bytes : with_subkey key m ≡ take (16 * c.more) (padded m) ++ xor (drop (16 * c.more) (padded m)) (subkey key m) =
    ap (λ (n : ℕ). take n (padded m) ++ xor (drop n (padded m)) (subkey key m)) last in
    ap (cmac_from key (replicate 16 0) m) c.before
    ∙ (c.goes key (replicate 16 0)
    ∙ (through_blocks c.more key (subkey key m) (replicate 16 0) (padded m) c.long
    ∙ (ap (λ (b : List ℕ). fold (chain key) (replicate 16 0) (blocks (suc c.more) b)) (sym bytes)
    ∙ ap (λ (n : ℕ). fold (chain key) (replicate 16 0) (blocks n (with_subkey key m))) (sym c.blocks_are))))
