-- How many rows the largest table has, and guards with room for them.
use Rattle.std.proofs.Common.{◌≡◌, ◌≤◌, ◌<◌, ◌+◌, ℕ, zero, suc, Bool, true, false, List, [], ◌∷◌, ◌++◌, length, drop, get_or, Some, refl, sym, ap, subst, ◌∙◌, arith}
use Rattle.std.specs.Prelude.{cond}
use Rattle.std.specs.List.{find}
use Rattle.std.proofs.lemmas.Bool.Decides.{nat_tests}
use Rattle.book_base.specs.declared.address.Address.{Address}
use Rattle.book_keys.specs.Rows.{Table, has_address}
use Rattle.ao_shim.specs.Guards.{Held}
use Rattle.shim_pairs.specs.Holdings.{HaveRoom, larger, room_of}

larger_three : (a b c : ℕ) → larger (larger a b) c ≡ larger a (larger b c)
larger_three a b c = grind (arith, nat_tests)

pub larger_none : (n : ℕ) → larger 0 n ≡ n
larger_none n = grind (arith, nat_tests)

drop_next : (d : Table) (ts : List Table) (n : ℕ) → n < length ts → drop n ts ≡ get_or ts n d ∷ drop (suc n) ts
drop_next d [] n h = absurd (omega (arith, h))
drop_next d (t ∷ ts) zero h = refl
drop_next d (t ∷ ts) (suc n) h = drop_next d ts n (omega (arith, h))

drop_all : (ts : List Table) (n : ℕ) → length ts ≤ n → drop n ts ≡ []
drop_all [] zero h = refl
drop_all [] (suc n) h = refl
drop_all (t ∷ ts) zero h = absurd (omega (arith, h))
drop_all (t ∷ ts) (suc n) h = drop_all ts n (omega (arith, h))

-- one table more was looked at
pub room_step : (m : ℕ) (t : Table) (ts : List Table) (n : ℕ) → n < length ts → t ≡ get_or ts n t → larger (larger m (length t.rows)) (room_of (drop (n + 1) ts)) ≡ larger m (room_of (drop n ts))
room_step m t ts n h at =
    subst (λ (k : ℕ). larger (larger m (length t.rows)) (room_of (drop k ts)) ≡ larger m (room_of (drop n ts))) {x = suc n} (omega arith)
    (larger_three m (length t.rows) (room_of (drop (suc n) ts)) ∙ ap (λ (l : List Table). larger m (room_of l)) (sym (drop_next t ts n h ∙ ap (λ (x : Table). x ∷ drop (suc n) ts) (sym at))))

-- all were
pub room_end : (m : ℕ) (ts : List Table) (n : ℕ) → length ts ≤ n → larger m (room_of (drop n ts)) ≡ m
room_end m ts n h = ap (λ (l : List Table). larger m (room_of l)) (drop_all ts n h) ∙ grind (arith, nat_tests)

-- a table has no more rows than the largest
pub rows_within : (a : Address) (ts : List Table) (t : Table) → Some t ≡ find (has_address a) ts → length t.rows ≤ room_of ts
rows_within a [] t e = absurd (cc)
rows_within a (x ∷ ts) t e = by (has_address a x) e (rows_within a ts t)
  where
    by : (b : Bool) → Some t ≡ cond b (Some x) (find (has_address a) ts) → (Some t ≡ find (has_address a) ts → length t.rows ≤ room_of ts) → length t.rows ≤ larger (length x.rows) (room_of ts)
    by true f next = let same : t ≡ x = cc in rw same (grind (arith, nat_tests))
    by false f next = let h = next f in grind (arith, nat_tests)

-- one guard more has room
pub room_more : (rows : ℕ) (gs : List Held) (g : Held) → HaveRoom rows gs → g.keys.rows ≡ rows → HaveRoom rows (gs ++ g ∷ [])
room_more rows [] g all h = (h, tt)
room_more rows (x ∷ gs) g all h = (all.0, room_more rows gs g all.1 h)

-- the last of guards that have room has it, and so do the others
pub room_last : (rows : ℕ) (gs all : List Held) (g : Held) → all ≡ gs ++ g ∷ [] → HaveRoom rows all → g.keys.rows ≡ rows
room_last rows gs all g e h = last gs (subst (HaveRoom rows) e h)
  where
    last : (gs : List Held) → HaveRoom rows (gs ++ g ∷ []) → g.keys.rows ≡ rows
    last [] h = h.0
    last (x ∷ gs) h = last gs h.1
