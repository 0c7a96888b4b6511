-- Calls of a source or a sink, one after another.
use Rattle.std.proofs.Common.{◌≡◌, ℕ, ◌+◌, ◌-◌, ◌<◌, List, [], ◌++◌, length, take, drop, Option, Some, None, refl, sym, ap, ◌∙◌, arith, append_assoc}
use Rattle.std.proofs.lemmas.List.{append-nil, length-append}
use Rattle.std.proofs.Math.Nat.{sub-zero}
use Rattle.std.proofs.Math.Seq.{take-add}
use Rattle.std.specs.Io.KnownBytes.{Appends, Consumes, Keeps}
use Rattle.std.specs.Io.KnownBytes.{IsAtEnd as is_at_end}
use Rattle.ao_base.specs.Outside.{Side, Gave, WasWritten, Counts, Rose, IsAtEnd, told}

none_told : (bytes : Option (List ℕ)) → is_at_end bytes → told bytes ≡ []
none_told None end = refl
none_told (Some xs) end = end

pub counts_none : (a : Side) → Counts 0 a a
counts_none a = record { later = omega arith; small = λ h. h; quiet = λ most is less. (refl, is ∙ ap Some (sym (sub-zero most))) }

pub counts_more : (m n : ℕ) (a b c : Side) → Counts m a b → Counts n b c → Counts (m + n) a c
counts_more m n a b c x y = record {
  later = omega arith;
  small = λ h. y.small (x.small h);
  quiet = λ most is less.
      let first = x.quiet most is (omega arith) in
      let second = y.quiet (most - m) first.1 (omega arith) in
      let rest : most - m - n ≡ most - (m + n) = omega arith in
      (second.0 ∙ first.0, second.1 ∙ ap Some rest);
}

pub rose_after : (n : ℕ) (a b c : Side) → Counts n a b → Rose b c → Rose a c
rose_after n a b c x y = omega arith

pub rose_before : (n : ℕ) (a b c : Side) → Rose a b → Counts n b c → Rose a c
rose_before n a b c x y = omega arith

pub consumes_none : (o : Option (List ℕ)) → Consumes o o []
consumes_none None = tt
consumes_none (Some xs) = refl

pub consumes_more : (a b c : Option (List ℕ)) (xs ys : List ℕ) → Consumes a b xs → Consumes b c ys → Consumes a c (xs ++ ys)
consumes_more None b c xs ys x y = tt
consumes_more (Some r) None c xs ys x y = absurd x
consumes_more (Some r) (Some s) None xs ys x y = absurd y
consumes_more (Some r) (Some s) (Some t) xs ys x y = x ∙ (ap (λ l. xs ++ l) y ∙ sym (append_assoc xs ys t))

pub keeps_consumes : (a b : Option (List ℕ)) → Keeps a b → Consumes a b []
keeps_consumes None b k = tt
keeps_consumes (Some r) None k = absurd k
keeps_consumes (Some r) (Some s) k = sym k

pub appends_none : (o : Option (List ℕ)) → Appends o o []
appends_none None = tt
appends_none (Some xs) = sym (append-nil xs)

pub appends_more : (a b c : Option (List ℕ)) (xs ys : List ℕ) → Appends a b xs → Appends b c ys → Appends a c (xs ++ ys)
appends_more None b c xs ys x y = tt
appends_more (Some r) None c xs ys x y = absurd x
appends_more (Some r) (Some s) None xs ys x y = absurd y
appends_more (Some r) (Some s) (Some t) xs ys x y = y ∙ (ap (λ l. l ++ ys) x ∙ append_assoc r xs ys)

pub keeps_appends : (a b : Option (List ℕ)) → Keeps a b → Appends a b []
keeps_appends None b k = tt
keeps_appends (Some r) None k = absurd k
keeps_appends (Some r) (Some s) k = k ∙ sym (append-nil r)

pub gave_none : (a : Side) → Gave [] a a
gave_none a = record { bytes = consumes_none a.bytes; counts = counts_none a }

pub took_none : (a : Side) → WasWritten [] a a
took_none a = record { bytes = appends_none a.bytes; counts = counts_none a }

pub gave_more : (xs ys : List ℕ) (a b c : Side) → Gave xs a b → Gave ys b c → Gave (xs ++ ys) a c
gave_more xs ys a b c x y =
    let size : length xs + length ys ≡ length (xs ++ ys) = sym (length-append xs ys) in
    record {
      bytes = consumes_more a.bytes b.bytes c.bytes xs ys x.bytes y.bytes;
      counts = rw size at (counts_more (length xs) (length ys) a b c x.counts y.counts);
    }

pub took_more : (xs ys : List ℕ) (a b c : Side) → WasWritten xs a b → WasWritten ys b c → WasWritten (xs ++ ys) a c
took_more xs ys a b c x y =
    let size : length xs + length ys ≡ length (xs ++ ys) = sym (length-append xs ys) in
    record {
      bytes = appends_more a.bytes b.bytes c.bytes xs ys x.bytes y.bytes;
      counts = rw size at (counts_more (length xs) (length ys) a b c x.counts y.counts);
    }

pub gave_and_none : (xs : List ℕ) (a b c : Side) → Gave xs a b → Gave [] b c → Gave xs a c
gave_and_none xs a b c x y = let e : xs ++ [] ≡ xs = append-nil xs in rw e at (gave_more xs [] a b c x y)

pub took_and_none : (xs : List ℕ) (a b c : Side) → WasWritten xs a b → WasWritten [] b c → WasWritten xs a c
took_and_none xs a b c x y = let e : xs ++ [] ≡ xs = append-nil xs in rw e at (took_more xs [] a b c x y)

pub took_piece : (bytes : List ℕ) (at n : ℕ) (a b c : Side) → WasWritten (take at bytes) a b → WasWritten (take n (drop at bytes)) b c → WasWritten (take (at + n) bytes) a c
took_piece bytes at n a b c x y =
    let e : take (at + n) bytes ≡ take at bytes ++ take n (drop at bytes) = take-add at n bytes in
    rw e (took_more (take at bytes) (take n (drop at bytes)) a b c x y)

-- at its end a source has nothing left that it tells
pub nothing_told : (side : Side) → IsAtEnd side → told side.bytes ≡ []
nothing_told side end = none_told side.bytes end

-- what was left is what was given and what is left now
pub told_given : (before now : Option (List ℕ)) (given left : List ℕ) → before ≡ Some left → Consumes before now given → left ≡ given ++ told now
told_given None now given left is consumes = absurd (cc)
told_given (Some xs) None given left is consumes = absurd consumes
told_given (Some xs) (Some ys) given left is consumes = let same : xs ≡ left = cc in sym same ∙ consumes

-- while fewer bytes go by than was told, the count can't rise
pub no_rise : (passed most : ℕ) (before now : Side) → Counts passed before now → before.quiet ≡ Some most → passed < most → before.faults < 18446744073709551615 →
    Rose before now → ⊥
no_rise passed most before now counts is less few rose = let same = (counts.quiet most is less).0 in omega arith
