-- What a datagram of the own kernel is to be sealed with.
use Rattle.std.proofs.Common.{◌≡◌, ℕ, ◌-◌, ◌<◌, ◌≤◌, true, false, nat_le, List, Option, Some, None, refl, sym, ap, ◌∙◌, arith, inl, inr}
use Rattle.std.specs.Prelude.{option_map, slice_get}
use Rattle.std.proofs.lemmas.Bool.Decides.{nat_tests}
use Rattle.book_base.specs.declared.address.Pair.{Pair}
use Rattle.book_base.specs.Algorithms.{mac_length_of}
use Rattle.book_macs.proofs.LengthLaws.{twelve_or_sixteen}
use Rattle.book_keys.specs.Rows.{Row}
use Rattle.book_keys.specs.Coordination.{Sending, choose}
use Rattle.ao_check.specs.declared.choice.Sending.{Sending as Answer}
use Rattle.ao_check.specs.Sendings.{told}
use Rattle.ao_check.proofs.ChoosingLaws.{choose_in}
use Rattle.ao_check.proofs.KeyLaws.{got}

pub none_of : (o : Option Answer) (c : Option Sending) → o ≡ option_map told c → o ≡ None → c ≡ None
none_of o None e n = refl
none_of o (Some s) e n = absurd (cc)

-- the row that was chosen is at its place
pub record IsChosen (rows : List Row) (current : Option ℕ) (pair : Pair) (now : ℕ) (x : Answer) : Type 0 where
  pub s : Sending
  pub is : choose current rows pair now ≡ Some s
  pub told_is : x ≡ told s
  pub row_is : slice_get rows (x.row - 1) ≡ Some s.row

some_of : (c : Option Sending) (x : Answer) → Some x ≡ option_map told c → (s : Sending) × (c ≡ Some s) × (x ≡ told s)
some_of None x e = absurd (cc)
some_of (Some s) x e = (s, refl, cc)

pub is_chosen : (rows : List Row) (current : Option ℕ) (pair : Pair) (now : ℕ) (o : Option Answer) (x : Answer) → o ≡ option_map told (choose current rows pair now) → o ≡ Some x → IsChosen rows current pair now x
is_chosen rows current pair now o x e h =
    let t = some_of (choose current rows pair now) x (sym h ∙ e) in
    let i = choose_in current rows pair now t.0 t.1 in
    let low = i.low in
    let high = i.high in
    let number : x.row ≡ t.0.number = ap (λ (y : Answer). y.row) t.2 in
    let here = got rows (t.0.number - 1) t.0.row (omega arith) (λ d. sym (i.here d)) in
    record { s = t.0; is = t.1; told_is = t.2; row_is = ap (λ (n : ℕ). slice_get rows (n - 1)) number ∙ here }

pub le_told : (n m : ℕ) → n ≤ m → nat_le n m ≡ true
le_told n m h = grind (arith, nat_tests)

pub gt_told : (n m : ℕ) → m < n → nat_le n m ≡ false
gt_told n m h = grind (arith, nat_tests)

pub told_le : (n m : ℕ) → nat_le n m ≡ true → n ≤ m
told_le n m h = grind (arith, nat_tests)

-- a TCP-AO option has at most 20 bytes
pub mac_twenty : (s : Sending) (n : ℕ) → n ≡ mac_length_of s.row.algorithm → n ≤ 16
mac_twenty s n e = elim (twelve_or_sixteen s.row.algorithm) [ inl x ↦ omega arith | inr x ↦ omega arith ]
