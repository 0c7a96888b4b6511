use Rattle.std.proofs.Common.{◌≡◌, ◌-◌, ◌/◌, ◌<◌, ◌≤◌, ℕ, suc, true, false, ◌==◌, List, [], ◌∷◌, ◌++◌, refl, sym, ap, ◌∙◌, arith, length, take, drop, length-append, append_assoc}
use Rattle.std.proofs.lemmas.List.{take-append-le, drop-append-le, take_all, drop_all, append-nil, take-append-drop, length-take-le}
use Rattle.std.proofs.lemmas.Bool.{eq-eqb, ne_eqb}
use Rattle.std.specs.Prelude.{replicate}
use Rattle.book_segments.specs.Bytes.{put4}
use Rattle.book_macs.specs.Ciphers.{aes, cmac, cmac_from, xor, last_block, doubled}
use Rattle.ao_kdf.specs.Chain.{goes_on}

pub chain_start : (key m : List ℕ) → cmac key m ≡ goes_on key (replicate 16 0) m
unfolding cmac goes_on
chain_start key m = refl

pub zeros : put4 0 (put4 0 (put4 0 (put4 0 []))) ≡ replicate 16 0
unfolding put4
zeros = refl

chain_more : (key s m : List ℕ) (k : ℕ) → cmac_from key s m (suc k) ≡ cmac_from key (aes key (xor s (take 16 m))) (drop 16 m) k
unfolding cmac_from
chain_more key s m k = refl

-- a block that bytes follow is taken into the chain
pub chain_block : (key s block left : List ℕ) → length block ≡ 16 → 0 < length left
    → goes_on key s (block ++ left) ≡ goes_on key (aes key (xor s block)) left
unfolding goes_on
chain_block key s block left h some =
    let count : (length (block ++ left) - 1) / 16 ≡ suc ((length left - 1) / 16) = omega (arith, length-append block left) in
    let le : 16 ≤ length block = omega arith in
    let ge : length block ≤ 16 = omega arith in
    let front : take 16 (block ++ left) ≡ block = rw take-append-le (take_all 16 block ge) in
    let back : drop 16 (block ++ left) ≡ left = rw (drop-append-le, drop_all 16 block ge) refl in
    rw (count, chain_more, front, back) refl

-- the last block ends it
pub chain_end : (key s m : List ℕ) → length m ≤ 16 → goes_on key s m ≡ aes key (xor s (last_block (aes key (replicate 16 0)) m))
unfolding goes_on cmac_from
chain_end key s m h =
    let none : (length m - 1) / 16 ≡ 0 = omega arith in
    rw none refl

-- the last block with its subkey, whole or padded
pub closed_whole : (l m : List ℕ) → length m ≡ 16 → xor m (doubled l) ≡ last_block l m
unfolding last_block
closed_whole l m h = let t : (length m == 16) ≡ true = eq-eqb (length m) 16 h in rw t refl

pub closed_padded : (l m : List ℕ) → length m < 16 → xor (m ++ 128 ∷ replicate (15 - length m) 0) (doubled (doubled l)) ≡ last_block l m
unfolding last_block
closed_padded l m h = let t : (length m == 16) ≡ false = ne_eqb (length m) 16 (λ e. absurd (omega arith)) in rw t refl

pub ended : (key fed st m sub : List ℕ) → ((more : List ℕ) → cmac key (fed ++ more) ≡ goes_on key st (m ++ more)) → length m ≤ 16
    → sub ≡ aes key (replicate 16 0) → aes key (xor st (last_block sub m)) ≡ cmac key fed
ended key fed st m sub same h e =
    let all : cmac key fed ≡ goes_on key st m = rw (append-nil fed, append-nil m) at (same []) in
    rw e (sym (all ∙ chain_end key st m h))

-- a block at the front of what is left
pub absorb_step : (key s rest block after more : List ℕ) → block ≡ take 16 rest → after ≡ drop 16 rest → 16 < length rest
    → goes_on key s (rest ++ more) ≡ goes_on key (aes key (xor s block)) (after ++ more)
absorb_step key s rest block after more eb ea h =
    let whole : block ++ after ≡ rest = rw (eb, ea) (take-append-drop 16 rest) in
    let len : length block ≡ 16 = rw eb (length-take-le 16 rest (omega arith)) in
    let some : 0 < length (after ++ more) = omega (arith, length-append after more, length-append block after, ap length whole) in
    rw (← whole, append_assoc) (chain_block key s block (after ++ more) len some)

-- a piece that fills the block held back, and goes on
pub fed_over : (key fed piece front rest prior block st more : List ℕ) → cmac key (fed ++ (piece ++ more)) ≡ goes_on key st (prior ++ (piece ++ more))
    → front ++ rest ≡ piece → block ≡ prior ++ front → length block ≡ 16 → 0 < length rest
    → cmac key ((fed ++ piece) ++ more) ≡ goes_on key (aes key (xor st block)) (rest ++ more)
fed_over key fed piece front rest prior block st more same cut eb len some =
    let list : prior ++ (piece ++ more) ≡ block ++ (rest ++ more) = rw (eb, ← cut, append_assoc front rest more, append_assoc prior front (rest ++ more)) refl in
    let left : 0 < length (rest ++ more) = omega (arith, length-append rest more) in
    rw append_assoc (same ∙ ap (goes_on key st) list ∙ chain_block key st block (rest ++ more) len left)

-- a piece that fits beside what is held back
pub fed_within : (key fed piece prior held st more : List ℕ) → cmac key (fed ++ (piece ++ more)) ≡ goes_on key st (prior ++ (piece ++ more))
    → held ≡ prior ++ piece → cmac key ((fed ++ piece) ++ more) ≡ goes_on key st (held ++ more)
fed_within key fed piece prior held st more same e = rw (e, append_assoc fed piece more, append_assoc prior piece more) same
