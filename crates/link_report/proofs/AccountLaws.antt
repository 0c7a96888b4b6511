-- When an entry accounts for what passed.
use Rattle.std.proofs.Common.{◌≡◌, ◌≢◌, ◌↔◌, ℕ, ◌+◌, ◌*◌, ◌/◌, ◌%◌, ◌^◌, ◌<◌, ◌==◌, IsTrue, Bool, true, false, ◌&&◌, List, [], ◌∷◌, refl, sym, ap, ◌∙◌, subst, arith}
use Rattle.std.proofs.lemmas.Bool.Decides.{nat_tests}
use Rattle.book_base.specs.declared.algorithm.Algorithm.{Algorithm}
use Rattle.book_base.specs.declared.algorithm.Algorithm.TheVariants.{HmacSha1, AesCmac, HmacSha256}
use Rattle.book_base.specs.declared.end.End.{End}
use Rattle.book_base.specs.declared.end.End.TheVariants.{A, B}
use Rattle.book_segments.specs.Bytes.{same_bytes}
use Rattle.book_segments.specs.Segments.{Segment, Read, reading}
use Rattle.book_segments.specs.Spelling.{Fits}
use Rattle.book_segments.proofs.Fields.{header_law, same_bytes_tells}
use Rattle.book_macs.specs.declared.context.Context.{Context}
use Rattle.book_macs.specs.Contexts.{bytes_of}
use Rattle.book_base.specs.Algorithms.{same_algorithm}
use Rattle.book_keys.specs.Rows.{Row}
use Rattle.book_endpoint.specs.Verdicts.{Key, Finding, key_of, same_master_key}
use Rattle.book_link.specs.Worlds.{Made, accounts_for, other, same_end}
use Rattle.ao_mac.specs.Macs.{IsSameInput}
use Rattle.ao_mac.proofs.InputLaws.{never, to_parts}
use Rattle.link_report.specs.declared.entry.Entry.{Entry}
use Rattle.link_report.specs.Entries.{IsEntry, PassesUnder, entry_key}
use Rattle.book_keys.proofs.PlanLaws.{same_algorithm_tells}

-- ---- tests

same_bytes_itself : (xs : List ℕ) → same_bytes xs xs ≡ true
same_bytes_itself [] = refl
same_bytes_itself (x ∷ xs) = let t : (x == x) ≡ true = grind (arith, nat_tests) in rw t (same_bytes_itself xs)

not_true : (b : Bool) → (b ≡ true → ⊥) → b ≡ false
not_true true f = absurd (f refl)
not_true false f = refl

same_bytes_not : (xs ys : List ℕ) → (xs ≡ ys → ⊥) → same_bytes xs ys ≡ false
same_bytes_not xs ys f = not_true (same_bytes xs ys) (λ e. f (same_bytes_tells xs ys e))

same_bytes_is : (xs ys : List ℕ) → xs ≡ ys → same_bytes xs ys ≡ true
same_bytes_is xs ys e = subst (λ zs. same_bytes xs zs ≡ true) e (same_bytes_itself xs)

same_bytes_by : (xs ys : List ℕ) (b : Bool) → (IsTrue b ↔ (ys ≡ xs)) → same_bytes xs ys ≡ b
same_bytes_by xs ys true f = same_bytes_is xs ys (sym (f.0 refl))
same_bytes_by xs ys false f = same_bytes_not xs ys (λ e. never (f.1 (sym e)))

same_algorithm_itself : (a : Algorithm) → same_algorithm a a ≡ true
same_algorithm_itself HmacSha1 = refl
same_algorithm_itself AesCmac = refl
same_algorithm_itself HmacSha256 = refl

both_true : (a b : Bool) → (a && b) ≡ true → (a ≡ true) × (b ≡ true)
both_true true b h = (refl, h)
both_true false b h = absurd (cc)

same_key_itself : (k : Key) → same_master_key k k ≡ true
same_key_itself k = let a = same_algorithm_itself k.algorithm in rw a (same_bytes_itself k.master)

same_key_is : (j k : Key) → j ≡ k → same_master_key j k ≡ true
same_key_is j k e = subst (λ x. same_master_key j x ≡ true) e (same_key_itself j)

key_is : (a b : Algorithm) (m n : List ℕ) → a ≡ b → m ≡ n → ◌≡◌ {A = Key} (record { algorithm = a; master = m }) (record { algorithm = b; master = n })
key_is a b m n e f = rw (e, f) refl

same_key_tells : (j k : Key) → same_master_key j k ≡ true → j ≡ k
same_key_tells j k h =
    let both = both_true (same_algorithm j.algorithm k.algorithm) (same_bytes j.master k.master) h in
    key_is j.algorithm k.algorithm j.master k.master (same_algorithm_tells j.algorithm k.algorithm both.0) (same_bytes_tells j.master k.master both.1)

all_four : (a b c e r : Bool) → a ≡ true → b ≡ true → c ≡ true → e ≡ r → r ≡ (a && b && c && e)
all_four a b c e r ha hb hc he = rw (ha, hb, hc) (sym he)

second_not : (a b c e : Bool) → b ≡ false → false ≡ (a && b && c && e)
second_not true b c e h = rw h refl
second_not false b c e h = refl

third_not : (a b c e : Bool) → c ≡ false → false ≡ (a && b && c && e)
third_not true true c e h = rw h refl
third_not true false c e h = refl
third_not false b c e h = refl

fourth_not : (a b c e : Bool) → e ≡ false → false ≡ (a && b && c && e)
fourth_not true true true e h = sym h
fourth_not true true false e h = refl
fourth_not true false c e h = refl
fourth_not false b c e h = refl

other_end : (a b : End) → a ≢ b → same_end a (other b) ≡ true
other_end A A ne = absurd (ne refl)
other_end A B ne = refl
other_end B A ne = refl
other_end B B ne = absurd (ne refl)

-- ---- an entry and what passed

module _ (at : End) (k : Entry) (m : Made) (row : Row) (d : Segment) (number : ℕ) (c : Context) (f : Finding) (is : IsEntry k m) (passes : PassesUnder row d number c f) where
  by_tests : (r : Bool) → same_end m.maker (other at) ≡ true → same_master_key (key_of m.emission.sending.row) f.key ≡ true → same_bytes m.emission.context f.context ≡ true
      → same_bytes m.emission.input f.input ≡ r → r ≡ accounts_for at f m
  by_tests r one two three four =
      all_four (same_end m.maker (other at)) (same_master_key (key_of m.emission.sending.row) f.key) (same_bytes m.emission.context f.context) (same_bytes m.emission.input f.input) r
      one two three four

  -- another key
  pub by_key : (IsTrue false ↔ (entry_key k ≡ key_of row)) → false ≡ accounts_for at f m
  by_key differs =
      second_not (same_end m.maker (other at)) (same_master_key (key_of m.emission.sending.row) f.key) (same_bytes m.emission.context f.context) (same_bytes m.emission.input f.input)
      (not_true (same_master_key (key_of m.emission.sending.row) f.key)
      (λ e. never (differs.1 (sym is.key ∙ same_key_tells (key_of m.emission.sending.row) f.key e ∙ passes.key))))

  -- another context
  pub by_context : (IsTrue false ↔ (bytes_of k.context ≡ bytes_of c)) → false ≡ accounts_for at f m
  by_context differs =
      third_not (same_end m.maker (other at)) (same_master_key (key_of m.emission.sending.row) f.key) (same_bytes m.emission.context f.context) (same_bytes m.emission.input f.input)
      (same_bytes_not m.emission.context f.context (λ e. never (differs.1 (sym is.context ∙ e ∙ passes.context_is))))

  -- equal MAC inputs tell the number of the entry
  number_told : Fits d → number < 2 ^ 64 → m.emission.input ≡ f.input → k.number ≡ number / 4294967296 * 4294967296 + d.sequence
  number_told fits small e =
      let x : Segment = m.emission.segment in
      let n = m.emission.number in
      let big = is.small in
      let same = sym is.whole.input ∙ e ∙ passes.input in
      let parts =
      to_parts n number (n / 4294967296) (number / 4294967296) x d is.whole.ao passes.ao m.emission.sending.row.with_options row.with_options is.fits fits is.whole.found passes.found
      (omega (arith, big)) (omega (arith, small)) refl refl same in
      let extension = parts.extension in
      let sequence = (header_law x d 0 [] [] parts.header_is).sequence in
      let own : x.sequence ≡ n % 4294967296 = is.whole.sequence in
      let its = fits.sequence in
      let told : n ≡ k.number = is.number in
      omega (arith, extension, sequence, own, its, told)

  -- another number
  pub by_number : Fits d → number < 2 ^ 64 → k.number ≢ number / 4294967296 * 4294967296 + d.sequence → false ≡ accounts_for at f m
  by_number fits small ne =
      fourth_not (same_end m.maker (other at)) (same_master_key (key_of m.emission.sending.row) f.key) (same_bytes m.emission.context f.context) (same_bytes m.emission.input f.input)
      (same_bytes_not m.emission.input f.input (λ e. ne (number_told fits small e)))

  read_is : (x y : Segment) → Read x ≡ Read y → x ≡ y
  read_is x y h = cc

  -- the same key, context and number: the MAC inputs decide
  pub by_input : (own : Segment) (r : Bool) → k.maker ≢ at → entry_key k ≡ key_of row → bytes_of k.context ≡ bytes_of c
      → k.number ≡ number / 4294967296 * 4294967296 + d.sequence → Fits d → reading k.bytes ≡ Read own
      → IsSameInput r (number / 4294967296) d row.with_options (number / 4294967296) own k.with_options → r ≡ accounts_for at f m
  by_input own r maker key context_same numbers fits read same =
      let x : Segment = m.emission.segment in
      let n = m.emission.number in
      let own_is : own ≡ x = read_is own x (sym read ∙ ap reading (sym is.bytes) ∙ is.whole.reads) in
      let its = fits.sequence in
      let told : n ≡ k.number = is.number in
      let two : n / 4294967296 ≡ number / 4294967296 = omega (arith, told, numbers, its) in
      let same_x : IsSameInput r (number / 4294967296) d row.with_options (number / 4294967296) x m.emission.sending.row.with_options =
      subst (λ b. IsSameInput r (number / 4294967296) d row.with_options (number / 4294967296) x b) (sym is.with_options)
      (subst (λ s. IsSameInput r (number / 4294967296) d row.with_options (number / 4294967296) s k.with_options) own_is same) in
      let decided = same_x number n passes.ao is.whole.ao refl two passes.found is.whole.found in
      by_tests r
      (ap (λ e. same_end e (other at)) is.maker ∙ other_end k.maker at maker)
      (same_key_is (key_of m.emission.sending.row) f.key (is.key ∙ key ∙ sym passes.key))
      (same_bytes_is m.emission.context f.context (is.context ∙ context_same ∙ sym passes.context_is))
      (same_bytes_by m.emission.input f.input r (λ t. passes.input ∙ decided.0 t ∙ sym is.whole.input, λ e. decided.1 (sym passes.input ∙ e ∙ is.whole.input)))
