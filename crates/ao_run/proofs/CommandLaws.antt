-- What words name, as the code reads them.
use Rattle.std.proofs.Common.{◌≡◌, ℕ, zero, suc, ◌+◌, ◌*◌, ◌-◌, ◌<◌, ◌==◌, ◌&&◌, nat_le, Bool, true, false, List, [], ◌∷◌, codes, length, Option, Some, None, slice_index, if◌then◌else◌, refl, arith}
use Rattle.std.proofs.lemmas.Bool.Decides.{nat_tests}
use Rattle.std.proofs.lemmas.List.{get_or_past}
use Rattle.std.proofs.lemmas.Str.{IsUtf8-from_ascii}
use Rattle.std.specs.Str.{IsAscii, IsUtf8, bytes_eq}
use Rattle.book_base.specs.Decimals.{decimal_of}
use Rattle.book_keys.specs.Times.{◌>>=◌, two_digits_at, time_of, time_of_digits}
use Rattle.book_answer.specs.declared.command.Command.{Command}
use Rattle.book_answer.specs.declared.command.Command.TheVariants as command
use Rattle.book_keys.specs.Lifetimes.{greatest_time}
use Rattle.book_keys.specs.declared.plan.Plan.{Plan}
use Rattle.book_answer.specs.Commands.{command_of, keys_of, lint_command, storm_of, decimal_up_to}
use Rattle.ao_run.specs.Gathered.{is_ready}

-- a value in front of a reading that goes on
from_bind : {A B : Type 0} (m : Option A) (f : A → Option B) (y : B) → (m >>= f) ≡ Some y → (x : A) × (m ≡ Some x) × (f x ≡ Some y)
from_bind None f y h = absurd (cc)
from_bind (Some x) f y h = (x, refl, h)

two_tests : (a b : Bool) (n m : ℕ) → (if a && b then Some n else None) ≡ Some m → (a ≡ true) × (b ≡ true)
two_tests true true n m h = (refl, refl)
two_tests true false n m h = absurd (cc)
two_tests false b n m h = absurd (cc)

low : (x : ℕ) → (nat_le 48 x && nat_le x 57) ≡ true → x < 128
low x h = grind (arith, nat_tests)

-- two digits are of ASCII
two_low : (w : List ℕ) (i n : ℕ) → two_digits_at w i ≡ Some n → (slice_index w i < 128) × (slice_index w (i + 1) < 128)
unfolding two_digits_at
two_low w i n h =
    let a = slice_index w i in
    let b = slice_index w (i + 1) in
    let t = two_tests (nat_le 48 a && nat_le a 57) (nat_le 48 b && nat_le b 57) (10 * (a - 48) + (b - 48)) n h in
    (low a t.0, low b t.1)

-- the bytes of a time: seven times two digits, and Z
record Written (w : List ℕ) : Type 0 where
  c : (slice_index w 0 < 128) × (slice_index w 1 < 128)
  y : (slice_index w 2 < 128) × (slice_index w 3 < 128)
  mo : (slice_index w 4 < 128) × (slice_index w 5 < 128)
  d : (slice_index w 6 < 128) × (slice_index w 7 < 128)
  h : (slice_index w 8 < 128) × (slice_index w 9 < 128)
  mi : (slice_index w 10 < 128) × (slice_index w 11 < 128)
  s : (slice_index w 12 < 128) × (slice_index w 13 < 128)
  z : slice_index w 14 ≡ 90
  long : length w ≡ 15

module _ (w : List ℕ) where
  at : Written w → IsAscii w
  at f zero = (f.c).0
  at f (suc zero) = (f.c).1
  at f (suc (suc zero)) = (f.y).0
  at f (suc (suc (suc zero))) = (f.y).1
  at f (suc (suc (suc (suc zero)))) = (f.mo).0
  at f (suc (suc (suc (suc (suc zero))))) = (f.mo).1
  at f (suc (suc (suc (suc (suc (suc zero)))))) = (f.d).0
  at f (suc (suc (suc (suc (suc (suc (suc zero))))))) = (f.d).1
  at f (suc (suc (suc (suc (suc (suc (suc (suc zero)))))))) = (f.h).0
  at f (suc (suc (suc (suc (suc (suc (suc (suc (suc zero))))))))) = (f.h).1
  at f (suc (suc (suc (suc (suc (suc (suc (suc (suc (suc zero)))))))))) = (f.mi).0
  at f (suc (suc (suc (suc (suc (suc (suc (suc (suc (suc (suc zero))))))))))) = (f.mi).1
  at f (suc (suc (suc (suc (suc (suc (suc (suc (suc (suc (suc (suc zero)))))))))))) = (f.s).0
  at f (suc (suc (suc (suc (suc (suc (suc (suc (suc (suc (suc (suc (suc zero))))))))))))) = (f.s).1
  at f (suc (suc (suc (suc (suc (suc (suc (suc (suc (suc (suc (suc (suc (suc zero)))))))))))))) = omega (arith, f.z)
  at f (suc (suc (suc (suc (suc (suc (suc (suc (suc (suc (suc (suc (suc (suc (suc i))))))))))))))) = let past : slice_index w (suc (suc (suc (suc (suc (suc (suc (suc (suc (suc (suc (suc (suc (suc (suc i))))))))))))))) ≡ 0 = get_or_past w (suc (suc (suc (suc (suc (suc (suc (suc (suc (suc (suc (suc (suc (suc (suc i))))))))))))))) 0 (omega (arith, f.long)) in omega (arith, past)

digits_written : (w : List ℕ) (t : ℕ) → length w ≡ 15 → slice_index w 14 ≡ 90 → time_of_digits w ≡ Some t → Written w
unfolding time_of_digits
digits_written w t long z is =
    let c = from_bind (two_digits_at w 0) _ t is in
    let y = from_bind (two_digits_at w 2) _ t c.2 in
    let mo = from_bind (two_digits_at w 4) _ t y.2 in
    let d = from_bind (two_digits_at w 6) _ t mo.2 in
    let h = from_bind (two_digits_at w 8) _ t d.2 in
    let mi = from_bind (two_digits_at w 10) _ t h.2 in
    let s = from_bind (two_digits_at w 12) _ t mi.2 in
    record {
      c = two_low w 0 c.0 c.1;
      y = two_low w 2 y.0 y.1;
      mo = two_low w 4 mo.0 mo.1;
      d = two_low w 6 d.0 d.1;
      h = two_low w 8 h.0 h.1;
      mi = two_low w 10 mi.0 mi.1;
      s = two_low w 12 s.0 s.1;
      z = z;
      long = long;
    }

tested : (a b : Bool) (m : Option ℕ) (t : ℕ) → (if a && b then m else None) ≡ Some t → (a ≡ true) × (b ≡ true) × (m ≡ Some t)
tested true true m t h = (refl, refl, h)
tested true false m t h = absurd (cc)
tested false b m t h = absurd (cc)

time_written : (w : List ℕ) (t : ℕ) → time_of w ≡ Some t → Written w
unfolding time_of
time_written w t is =
    let x = tested (length w == 15) (slice_index w 14 == 90) (time_of_digits w) t is in
    let a = x.0 in
    let b = x.1 in
    digits_written w t (grind (arith, nat_tests)) (grind (arith, nat_tests)) x.2

none_by : (w : List ℕ) (r : Option ℕ) → time_of w ≡ r → (IsUtf8 w → ⊥) → r ≡ None
none_by w None is lacks = refl
none_by w (Some t) is lacks = absurd (lacks (IsUtf8-from_ascii w (at w (time_written w t is))))

-- bytes that are no text are no time
pub no_time : (w : List ℕ) → (IsUtf8 w → ⊥) → time_of w ≡ None
no_time w lacks = none_by w (time_of w) refl lacks

-- a storm draws at most 10,000 events
abbrev Few : Option Command → Type 0
Few o = is_ready o ≡ true

alone : (a b c : Bool) → Few (if a then Some command.Link else (if b then Some command.Show else (if c then Some command.Vectors else None)))
alone true b c = refl
alone false true c = refl
alone false false true = refl
alone false false false = refl

with_keys : (a b c d e : Bool) → Few (if a then Some command.LinkKeys else (if b then Some command.Check else (if c then Some command.Bgp
    else (if d then Some command.Timed else (if e then Some command.Node else None)))))
with_keys true b c d e = refl
with_keys false true c d e = refl
with_keys false false true d e = refl
with_keys false false false true e = refl
with_keys false false false false true = refl
with_keys false false false false false = refl

keys : (time : Option ℕ) → Few (time >>= λ t. Some (command.Keys t))
keys None = refl
keys (Some t) = refl

counted : (seed count : Option ℕ) → ((n : ℕ) → count ≡ Some n → nat_le n 10000 ≡ true) → Few (seed >>= λ s. count >>= λ n. Some (command.Storm s n))
counted None count low = refl
counted (Some s) None low = refl
counted (Some s) (Some n) low = rw (low n refl) refl

at_most : (most : ℕ) (b : Bool) (m n : ℕ) → nat_le m most ≡ b → (if b then Some m else None) ≡ Some n → nat_le n most ≡ true
at_most most true m n is h = let same : m ≡ n = cc in rw same at is
at_most most false m n is h = absurd (cc)

most_of : (most : ℕ) (o : Option ℕ) (n : ℕ) → (o >>= λ m. if nat_le m most then Some m else None) ≡ Some n → nat_le n most ≡ true
most_of most None n h = absurd (cc)
most_of most (Some m) n h = at_most most (nat_le m most) m n refl h

three : (a b c d : Bool) (of_keys of_storm : Option Command) → Few of_keys → Few of_storm →
    Few (if a then of_keys else (if b then of_storm else (if c then (if d then Some command.CheckPcap else None) else None)))
three true b c d of_keys of_storm k s = k
three false true c d of_keys of_storm k s = s
three false false true true of_keys of_storm k s = refl
three false false true false of_keys of_storm k s = refl
three false false false d of_keys of_storm k s = refl

planned : (b : Bool) (plan : Plan) → Few (if b then Some (command.Lint plan) else None)
planned true plan = refl
planned false plan = refl

plan : (a b low high : Option ℕ) → Few (a >>= λ lead. b >>= λ lag. low >>= λ from. high >>= λ to.
    if nat_le from to then Some (command.Lint (record { lead = lead; lag = lag; from = from; to = to })) else None)
plan None b low high = refl
plan (Some a) None low high = refl
plan (Some a) (Some b) None high = refl
plan (Some a) (Some b) (Some low) None = refl
plan (Some a) (Some b) (Some low) (Some high) = planned (nat_le low high) (record { lead = a; lag = b; from = low; to = high })

lint : (b : Bool) (o : Option Command) → Few o → Few (if b then o else None)
lint true o few = few
lint false o few = refl

-- whatever words name draws few events
pub named_ready : (words : List (List ℕ)) → is_ready (command_of words) ≡ true
unfolding command_of
named_ready [] = refl
named_ready (name ∷ []) = alone (bytes_eq name (codes "link")) (bytes_eq name (codes "show")) (bytes_eq name (codes "vectors"))
named_ready (name ∷ key_file ∷ []) =
    with_keys (bytes_eq name (codes "link")) (bytes_eq name (codes "check")) (bytes_eq name (codes "bgp")) (bytes_eq name (codes "timed")) (bytes_eq name (codes "node"))
named_ready (name ∷ second ∷ third ∷ []) =
    three (bytes_eq name (codes "keys")) (bytes_eq name (codes "storm")) (bytes_eq name (codes "check")) (bytes_eq second (codes "--pcap")) (keys_of third) (storm_of second third)
    (keys (time_of third)) (counted (decimal_of second) (decimal_up_to 10000 third) (most_of 10000 (decimal_of third)))
named_ready (name ∷ key_file ∷ lead ∷ lag ∷ []) = refl
named_ready (name ∷ key_file ∷ lead ∷ lag ∷ from ∷ []) = refl
named_ready (name ∷ key_file ∷ lead ∷ lag ∷ from ∷ to ∷ []) =
    lint (bytes_eq name (codes "lint")) (lint_command lead lag from to) (plan (decimal_up_to greatest_time lead) (decimal_up_to greatest_time lag) (time_of from) (time_of to))
named_ready (name ∷ key_file ∷ lead ∷ lag ∷ from ∷ to ∷ more ∷ words) = refl
