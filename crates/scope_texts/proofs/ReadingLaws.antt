-- What isn't UTF-8 is no time.
use Rattle.std.proofs.Common.{◌≡◌, inl, inr, ℕ, zero, suc, ◌+◌, ◌<◌, ◌≤◌, ◌==◌, ◌&&◌, Bool, true, false, List, length, Option, Some, None, refl, arith, if◌then◌else◌}
use Rattle.std.specs.Prelude.{slice_index}
use Rattle.std.specs.Str.{IsUtf8, IsAscii}
use Rattle.std.proofs.lemmas.Bool.{cases_lt}
use Rattle.std.proofs.lemmas.Bool.Decides.{nat_tests}
use Rattle.std.proofs.lemmas.Str.{IsUtf8-from_ascii}
use Rattle.std.proofs.lemmas.List.{get_or_past}
use Rattle.book_keys.specs.Times.{◌>>=◌, two_digits_at, time_of_digits, time_of}

and_some : {A B : Type 0} (o : Option A) (f : A → Option B) (y : B) → (o >>= f) ≡ Some y → (x : A) × (o ≡ Some x) × (f x ≡ Some y)
and_some (Some x) f y h = (x, refl, h)
and_some None f y h = absurd (cc)

-- two digits are ASCII
pub record TwoLow (text : List ℕ) (i : ℕ) : Type 0 where
  pub one : slice_index text i < 128
  pub two : slice_index text (i + 1) < 128

two_low : (text : List ℕ) (i n : ℕ) → two_digits_at text i ≡ Some n → TwoLow text i
unfolding two_digits_at
two_low text i n h = record { one = grind (arith, nat_tests); two = grind (arith, nat_tests) }

pub record DigitsLow (text : List ℕ) : Type 0 where
  pub a : TwoLow text 0
  pub b : TwoLow text 2
  pub c : TwoLow text 4
  pub d : TwoLow text 6
  pub e : TwoLow text 8
  pub f : TwoLow text 10
  pub g : TwoLow text 12

digits_low : (text : List ℕ) (t : ℕ) → time_of_digits text ≡ Some t → DigitsLow text
unfolding time_of_digits
digits_low text t h =
    let a = and_some (two_digits_at text 0) _ t h in
    let b = and_some (two_digits_at text 2) _ t a.2 in
    let c = and_some (two_digits_at text 4) _ t b.2 in
    let d = and_some (two_digits_at text 6) _ t c.2 in
    let e = and_some (two_digits_at text 8) _ t d.2 in
    let f = and_some (two_digits_at text 10) _ t e.2 in
    let g = and_some (two_digits_at text 12) _ t f.2 in
    record {
      a = two_low text 0 a.0 a.1;
      b = two_low text 2 b.0 b.1;
      c = two_low text 4 c.0 c.1;
      d = two_low text 6 d.0 d.1;
      e = two_low text 8 e.0 e.1;
      f = two_low text 10 f.0 f.1;
      g = two_low text 12 g.0 g.1;
    }

rest_low : (text : List ℕ) (i : ℕ) → 14 ≤ i → length text ≡ 15 → slice_index text 14 ≡ 90 → slice_index text i < 128
rest_low text i least long zulu =
    elim (cases_lt 14 i) [
      | inl past ↦ omega (arith, get_or_past text i 0 (omega arith))
      | inr here ↦ let same : i ≡ 14 = omega arith in rw same (omega (arith, zulu))
    ]

all_low : (text : List ℕ) → length text ≡ 15 → slice_index text 14 ≡ 90 → DigitsLow text → IsAscii text
all_low text long zulu h zero = h.a.one
all_low text long zulu h (suc zero) = h.a.two
all_low text long zulu h (suc (suc zero)) = h.b.one
all_low text long zulu h (suc (suc (suc zero))) = h.b.two
all_low text long zulu h (suc (suc (suc (suc zero)))) = h.c.one
all_low text long zulu h (suc (suc (suc (suc (suc zero))))) = h.c.two
all_low text long zulu h (suc (suc (suc (suc (suc (suc zero)))))) = h.d.one
all_low text long zulu h (suc (suc (suc (suc (suc (suc (suc zero))))))) = h.d.two
all_low text long zulu h (suc (suc (suc (suc (suc (suc (suc (suc zero)))))))) = h.e.one
all_low text long zulu h (suc (suc (suc (suc (suc (suc (suc (suc (suc zero))))))))) = h.e.two
all_low text long zulu h (suc (suc (suc (suc (suc (suc (suc (suc (suc (suc zero)))))))))) = h.f.one
all_low text long zulu h (suc (suc (suc (suc (suc (suc (suc (suc (suc (suc (suc zero))))))))))) = h.f.two
all_low text long zulu h (suc (suc (suc (suc (suc (suc (suc (suc (suc (suc (suc (suc zero)))))))))))) = h.g.one
all_low text long zulu h (suc (suc (suc (suc (suc (suc (suc (suc (suc (suc (suc (suc (suc zero))))))))))))) = h.g.two
all_low text long zulu h (suc (suc (suc (suc (suc (suc (suc (suc (suc (suc (suc (suc (suc (suc k)))))))))))))) =
    rest_low text (suc (suc (suc (suc (suc (suc (suc (suc (suc (suc (suc (suc (suc (suc k)))))))))))))) (omega arith) long zulu

cond_some : (b : Bool) (o : Option ℕ) (t : ℕ) → (if b then o else None) ≡ Some t → (b ≡ true) × (o ≡ Some t)
cond_some true o t h = (refl, h)
cond_some false o t h = absurd (cc)

time_utf8 : (text : List ℕ) (t : ℕ) → time_of text ≡ Some t → IsUtf8 text
unfolding time_of
time_utf8 text t h =
    let taken = cond_some ((length text == 15) && (slice_index text 14 == 90)) (time_of_digits text) t h in
    IsUtf8-from_ascii text (all_low text (grind (arith, nat_tests, taken.0)) (grind (arith, nat_tests, taken.0)) (digits_low text t taken.1))

no_time_case : (text : List ℕ) (o : Option ℕ) → ((t : ℕ) → o ≡ Some t → IsUtf8 text) → (IsUtf8 text → ⊥) → ◌≡◌ {A = Option ℕ} None o
no_time_case text (Some t) is never = absurd (never (is t refl))
no_time_case text None is never = refl

pub no_time : (text : List ℕ) → (IsUtf8 text → ⊥) → None ≡ time_of text
no_time text never = no_time_case text (time_of text) (λ t h. time_utf8 text t h) never
