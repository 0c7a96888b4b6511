-- The connections of a shim are brought back under other tables.
use Rattle.std.proofs.Common.{◌≡◌, ◌≤◌, ◌<◌, ◌+◌, ℕ, zero, suc, true, false, List, [], ◌∷◌, length, drop, Some, Result, Ok, Err, refl, subst, arith}
use Rattle.std.specs.Prelude.{slice_get, OnOk, OnErr}
use Rattle.book_base.specs.declared.address.Pair.{Pair}
use Rattle.book_keys.specs.Rows.{Table}
use Rattle.shim_pairs.specs.declared.entry.Entry.{Entry}
use Rattle.shim_pairs.specs.declared.saved.Saved.{Saved}
use Rattle.shim_pairs.specs.declared.saved.RestoreRefusal.{RestoreRefusal}
use Rattle.shim_pairs.specs.declared.saved.RestoreRefusal.TheVariants as refusals
use Rattle.shim_pairs.specs.Holdings.{Holding, IsRefused, all_brought, are_low, brought, restored, saved_at}

-- one more was brought back
brought_next : (now : ℕ) (ts : List Table) (es : List (Pair × Entry)) (h : Holding) (n : ℕ) → n < length es
    → all_brought now ts (drop (suc n) es) (brought now (saved_at ts (slice_get es n)) h) ≡ all_brought now ts (drop n es) h
brought_next now ts [] h n lt = absurd (omega (arith, lt))
brought_next now ts (x ∷ es) h zero lt = refl
brought_next now ts (x ∷ es) h (suc n) lt = brought_next now ts es h n (omega (arith, lt))

pub brought_step : (now : ℕ) (ts : List Table) (es : List (Pair × Entry)) (h : Holding) (n : ℕ) → n < length es
    → all_brought now ts (drop (n + 1) es) (brought now (saved_at ts (slice_get es n)) h) ≡ all_brought now ts (drop n es) h
brought_step now ts es h n lt =
    subst (λ (k : ℕ). all_brought now ts (drop k es) (brought now (saved_at ts (slice_get es n)) h) ≡ all_brought now ts (drop n es) h) {x = suc n} (omega arith)
    (brought_next now ts es h n lt)

-- all were
pub brought_end : (now : ℕ) (ts : List Table) (es : List (Pair × Entry)) (h : Holding) (n : ℕ) → length es ≤ n → all_brought now ts (drop n es) h ≡ h
brought_end now ts [] h zero le = refl
brought_end now ts [] h (suc n) le = refl
brought_end now ts (x ∷ es) h zero le = absurd (omega (arith, le))
brought_end now ts (x ∷ es) h (suc n) le = brought_end now ts es h n (omega (arith, le))

-- what restoring answers is what is brought back
pub brought_low : (now : ℕ) (h k : Holding) (s : Saved) (r : Result (Unit {0}) RestoreRefusal) → are_low s ≡ true
    → OnOk r (k ≡ restored h now s) → IsRefused h s.pair r → OnErr r (k ≡ h) → k ≡ brought now (Some s) h
brought_low now h k s (Ok x) low done why same = rw (low, why.0, why.1) done
brought_low now h k s (Err refusals.Held) low done why same = rw (low, why) same
brought_low now h k s (Err refusals.NoNode) low done why same = rw (low, why.0, why.1) same

pub brought_high : (now : ℕ) (h : Holding) (s : Saved) → are_low s ≡ false → h ≡ brought now (Some s) h
brought_high now h s high = rw high refl
