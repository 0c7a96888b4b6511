-- A segment passes exactly where each condition holds.
use Rattle.std.proofs.Common.{◌≡◌, ℕ, ◌+◌, ◌-◌, ◌≤◌, Bool, true, false, not, ◌&&◌, nat_lt, List, [], ◌∷◌, length, get_or, Option, Some, None, is_some, Ok, Err, refl, sym, ap, ◌∙◌, subst, inl, inr, arith, if◌then◌else◌}
use Rattle.std.specs.Prelude.{◌==◌}
use Rattle.std.proofs.lemmas.Bool.{eqb-true, eq-eqb, ltb-false, le-ltb, and_parts, cases_order}
use Rattle.book_base.specs.declared.address.Pair.{Pair}
use Rattle.book_base.specs.Algorithms.{mac_length_of}
use Rattle.book_segments.specs.Bytes.{same_bytes}
use Rattle.book_segments.specs.Meant.{meant}
use Rattle.book_segments.specs.Options.{Opt, Ao, AoFound, Absent, One, Two, WithMd5 as FoundMd5, ao_of, found, find_ao}
use Rattle.book_segments.specs.Segments.{Segment, has, SYN, segment_length}
use Rattle.book_macs.specs.Contexts.{context_of}
use Rattle.book_keys.specs.Rows.{Row}
use Rattle.book_keys.specs.Choices.{Numbered, lowest, accept_row, acceptable_as, has_id, IsLowest}
use Rattle.book_keys.proofs.ChoiceLaws.{lowest-IsLowest, lowest-none}
use Rattle.book_endpoint.specs.declared.refusal.Refusal.TheVariants.{NoTuple, Expired, MacLength, NoContext, Range, BadMac}
use Rattle.book_endpoint.specs.Verdicts.{Finding, Judgement, Known, mac_of, found_with, segment_number, judge}
use Rattle.book_endpoint.proofs.JudgeSteps.{judge_mac, judge_number, judge_context, judge_row, judge_ao, judge_by_steps}
use Rattle.book_endpoint.specs.Passing.{options_in, HasNumber, Passes}

-- ---- equal bytes

same_is : (xs ys : List ℕ) → same_bytes xs ys ≡ true → xs ≡ ys
same_is [] [] e = refl
same_is [] (y ∷ ys) e = absurd (cc)
same_is (x ∷ xs) [] e = absurd (cc)
same_is (x ∷ xs) (y ∷ ys) e =
    let both = and_parts (x == y) (same_bytes xs ys) e in
    let first : x ≡ y = eqb-true x y both.0 in
    let rest : xs ≡ ys = same_is xs ys both.1 in cc

same_self : (xs : List ℕ) → same_bytes xs xs ≡ true
same_self [] = refl
same_self (x ∷ xs) = let first = eq-eqb x x refl in rw first (same_self xs)

-- ---- the row

same_row : (x y : Numbered) → x.number ≡ y.number → x.row ≡ y.row → x ≡ y
same_row x y numbers rows =
    ap (λ (n : ℕ). record { number = n; row = x.row }) numbers ∙ ap (λ (r : Row). record { number = y.number; row = r }) rows

one_lowest : (good : Row → Bool) (rows : List Row) (x y : Numbered) → IsLowest good rows x → IsLowest good rows y → x ≡ y
one_lowest good rows x y one two =
    let low1 = one.low in let low2 = two.low in
    elim (cases_order x.number y.number) [
      | inl same ↦
          let here1 = one.here x.row in
          let here2 = two.here x.row in
          let rows_are : x.row ≡ y.row = sym here1 ∙ (ap (λ (n : ℕ). get_or rows (n - 1) x.row) same ∙ here2) in
          same_row x y same rows_are
      | inr other ↦ elim other [
        | inl less ↦
            let no = two.before (x.number - 1) x.row (omega arith) in
            let here = one.here x.row in
            let yes = one.qualifies in
            let fails : good x.row ≡ false = subst (λ (r : Row). good r ≡ false) here no in absurd (cc)
        | inr more ↦
            let no = one.before (y.number - 1) y.row (omega arith) in
            let here = two.here y.row in
            let yes = two.qualifies in
            let fails : good y.row ≡ false = subst (λ (r : Row). good r ≡ false) here no in absurd (cc)
      ]
    ]

lowest_by : (good : Row → Bool) (rows : List Row) (x : Numbered) (m : Option Numbered) → lowest good 1 rows ≡ m → IsLowest good rows x → m ≡ Some x
lowest_by good rows x None e is =
    let none = lowest-none good 1 rows e in
    let low = is.low in let high = is.high in
    let no : good (get_or rows (x.number - 1) x.row) ≡ false = none (x.number - 1) x.row (omega arith) in
    let yes = is.qualifies in
    let fails : good x.row ≡ false = subst (λ (r : Row). good r ≡ false) (is.here x.row) no in absurd (cc)
lowest_by good rows x (Some y) e is = ap Some (one_lowest good rows y x (lowest-IsLowest good rows y e) is)

-- ---- the number

of_syn : (d : Segment) (x : Option ℕ) → has SYN d ≡ true → segment_number d x ≡ Some d.sequence
of_syn d None syn = refl
of_syn d (Some e) syn = rw syn refl

of_later : (d : Segment) (e : ℕ) → has SYN d ≡ false → segment_number d (Some e) ≡ meant d.sequence e
of_later d e later = rw later refl

numbered : (syn : Bool) (d : Segment) (x : Option ℕ) (n : ℕ) → has SYN d ≡ syn → (not syn && not (is_some x)) ≡ false → segment_number d x ≡ Some n → HasNumber d x n
numbered true d x n is known e =
    let first = of_syn d x is in
    record { with_syn = λ yes. cc; without = λ no. absurd (cc) }
numbered false d None n is known e = absurd (cc)
numbered false d (Some m) n is known e =
    let near = of_later d m is in
    record { with_syn = λ yes. absurd (cc); without = λ no. (m, refl, sym near ∙ e) }

number_is : (syn : Bool) (d : Segment) (x : Option ℕ) (n : ℕ) → has SYN d ≡ syn → HasNumber d x n → segment_number d x ≡ Some n
number_is true d x n is h = of_syn d x is ∙ ap Some (sym (h.with_syn is))
number_is false d x n is h =
    let near = h.without is in
    ap (segment_number d) near.1 ∙ (of_later d near.0 is ∙ near.2)

number_known : (syn : Bool) (d : Segment) (x : Option ℕ) (n : ℕ) → has SYN d ≡ syn → HasNumber d x n → (not syn && not (is_some x)) ≡ false
number_known true d x n is h = refl
number_known false d x n is h = let near = h.without is in rw near.1 refl

-- ---- a pass meets each condition

mac_met : (same : Bool) (ao : Ao) (q p : Finding) → same_bytes ao.mac (mac_of q) ≡ same → (if same then Ok q else Err BadMac) ≡ Ok p → (p ≡ q) × (ao.mac ≡ mac_of p)
mac_met true ao q p is e =
    let one : p ≡ q = cc in
    (one, same_is ao.mac (mac_of q) is ∙ ap mac_of (sym one))
mac_met false ao q p is e = absurd (cc)

range_met : (over : Bool) (r : Numbered) (d : Segment) (ao : Ao) (context : List ℕ) (n : ℕ) (p : Finding) → nat_lt 9223372036854775808 (n + segment_length d) ≡ over
    → (if over then Err Range else judge_mac ao (found_with r d ao context n)) ≡ Ok p
    → (n + segment_length d ≤ 9223372036854775808) × (p ≡ found_with r d ao context n) × (ao.mac ≡ mac_of p)
range_met true r d ao context n p is e = absurd (cc)
range_met false r d ao context n p is e =
    let m = mac_met (same_bytes ao.mac (mac_of (found_with r d ao context n))) ao (found_with r d ao context n) p refl e in
    (ltb-false 9223372036854775808 (n + segment_length d) is, m.0, m.1)

-- what holds of a segment with one TCP-AO option, under a row, from its context on
record Later (row : Numbered) (d : Segment) (ao : Ao) (expected : Option ℕ) (known : Option (List ℕ)) (p : Finding) : Type 0 where
  context_is : known ≡ Some p.context
  number : HasNumber d expected p.number
  in_range : p.number + segment_length d ≤ 9223372036854775808
  finding : p ≡ found_with row d ao p.context p.number
  right_mac : ao.mac ≡ mac_of p

number_met : (r : Numbered) (d : Segment) (ao : Ao) (expected : Option ℕ) (context : List ℕ) (m : Option ℕ) (p : Finding) → segment_number d expected ≡ m
    → (not (has SYN d) && not (is_some expected)) ≡ false → judge_number r d ao context m ≡ Ok p → Later r d ao expected (Some context) p
number_met r d ao expected context None p is known e = absurd (cc)
number_met r d ao expected context (Some n) p is known e =
    let m = range_met (nat_lt 9223372036854775808 (n + segment_length d)) r d ao context n p refl e in
    let finding = m.1 in
    let number : p.number ≡ n = ap (λ (q : Finding). q.number) finding in
    let context_is : p.context ≡ context = ap (λ (q : Finding). q.context) finding in
    let has_number : HasNumber d expected n = numbered (has SYN d) d expected n refl known is in
    let range = m.0 in
    record {
      context_is = ap Some (sym context_is);
      number = subst (λ (k : ℕ). HasNumber d expected k) (sym number) has_number;
      in_range = omega arith;
      finding = finding
          ∙ (ap (λ (k : ℕ). found_with r d ao context k) (sym number) ∙ ap (λ (c : List ℕ). found_with r d ao c p.number) (sym context_is));
      right_mac = m.2;
    }

expected_met : (unknown : Bool) (r : Numbered) (d : Segment) (ao : Ao) (expected : Option ℕ) (context : List ℕ) (p : Finding) → (not (has SYN d) && not (is_some expected)) ≡ unknown
    → (if unknown then Err NoContext else judge_number r d ao context (segment_number d expected)) ≡ Ok p → Later r d ao expected (Some context) p
expected_met true r d ao expected context p is e = absurd (cc)
expected_met false r d ao expected context p is e = number_met r d ao expected context (segment_number d expected) p refl is e

context_met : (r : Numbered) (d : Segment) (ao : Ao) (expected : Option ℕ) (known : Option (List ℕ)) (p : Finding) → judge_context r d ao expected known ≡ Ok p → Later r d ao expected known p
context_met r d ao expected None p e = absurd (cc)
context_met r d ao expected (Some context) p e = expected_met (not (has SYN d) && not (is_some expected)) r d ao expected context p refl e

length_met : (fits : Bool) (r : Numbered) (d : Segment) (ao : Ao) (expected : Option ℕ) (known : Option (List ℕ)) (p : Finding) → (length ao.mac == mac_length_of r.row.algorithm) ≡ fits
    → (if not fits then Err MacLength else judge_context r d ao expected known) ≡ Ok p → (length ao.mac ≡ mac_length_of r.row.algorithm) × Later r d ao expected known p
length_met false r d ao expected known p is e = absurd (cc)
length_met true r d ao expected known p is e = (eqb-true (length ao.mac) (mac_length_of r.row.algorithm) is, context_met r d ao expected known p e)

no_row : (late : Bool) (p : Finding) → (if late then Err Expired else Err NoTuple) ≡ Ok p → ⊥
no_row true p e = cc
no_row false p e = cc

record Under (rows : List Row) (pair : Pair) (now : ℕ) (d : Segment) (ao : Ao) (expected : Option ℕ) (known : Option (List ℕ)) (found_row : Option Numbered) (p : Finding) : Type 0 where
  row : Numbered
  row_is : found_row ≡ Some row
  length_is : length ao.mac ≡ mac_length_of row.row.algorithm
  later : Later row d ao expected known p

row_met : (rows : List Row) (pair : Pair) (now : ℕ) (d : Segment) (ao : Ao) (expected : Option ℕ) (known : Option (List ℕ)) (m : Option Numbered) (p : Finding)
    → judge_row rows pair d ao expected known m ≡ Ok p → Under rows pair now d ao expected known m p
row_met rows pair now d ao expected known None p e = absurd (no_row (has_id rows pair ao.key_id) p e)
row_met rows pair now d ao expected known (Some r) p e =
    let l = length_met (length ao.mac == mac_length_of r.row.algorithm) r d ao expected known p refl e in
    record { row = r; row_is = refl; length_is = l.0; later = l.1 }

-- the options of kinds 29 and 19 where one TCP-AO option stands alone
record Alone (own md5 : List Opt) (ao : Ao) : Type 0 where
  option : Opt
  one : own ≡ option ∷ []
  none : md5 ≡ []
  fields : ao ≡ ao_of option

alone : (own md5 : List Opt) (ao : Ao) → found own md5 ≡ One ao → Alone own md5 ao
alone [] md5 ao e = absurd (cc)
alone (o ∷ q ∷ os) md5 ao e = absurd (cc)
alone (o ∷ []) [] ao e = record { option = o; one = refl; none = refl; fields = cc }
alone (o ∷ []) (m ∷ ms) ao e = absurd (cc)

alone_in : (d : Segment) (ao : Ao) → find_ao d.area ≡ One ao → Alone (options_in 29 d) (options_in 19 d) ao
unfolding find_ao
alone_in d ao e = alone (options_in 29 d) (options_in 19 d) ao e

ao_met : (rows : List Row) (pair : Pair) (known : Known) (now : ℕ) (d : Segment) (p : Finding) (f : AoFound) → find_ao d.area ≡ f
    → judge_ao rows pair now known.expected d (context_of d known.peer_isn (Some known.own_isn)) f ≡ Ok p → Passes rows pair known now d p
ao_met rows pair known now d p Absent is e = absurd (cc)
ao_met rows pair known now d p Two is e = absurd (cc)
ao_met rows pair known now d p FoundMd5 is e = absurd (cc)
ao_met rows pair known now d p (One ao) is e =
    let u = row_met rows pair now d ao known.expected (context_of d known.peer_isn (Some known.own_isn)) (accept_row rows pair ao.key_id now) p e in
    let l = u.later in
    let a = alone_in d ao is in
    record {
      option = a.option;
      ao = ao;
      row = u.row;
      one_option = a.one;
      no_md5 = a.none;
      its_fields = a.fields;
      acceptable_row = lowest-IsLowest (acceptable_as pair ao.key_id now) rows u.row u.row_is;
      mac_length = u.length_is;
      known_context = l.context_is;
      number = l.number;
      in_range = l.in_range;
      finding = l.finding;
      right_mac = l.right_mac;
    }

pub meets : (rows : List Row) (pair : Pair) (known : Known) (now : ℕ) (d : Segment) (p : Finding) → judge rows pair known now d ≡ Ok p → Passes rows pair known now d p
meets rows pair known now d p e = ao_met rows pair known now d p (find_ao d.area) refl (sym (judge_by_steps rows pair known now d) ∙ e)

-- ---- where each condition holds it passes

found_alone : (d : Segment) (o : Opt) → options_in 29 d ≡ o ∷ [] → options_in 19 d ≡ [] → find_ao d.area ≡ One (ao_of o)
unfolding find_ao
found_alone d o one none = rw (one, none) refl

admits_mac : (ao : Ao) (p : Finding) → ao.mac ≡ mac_of p → judge_mac ao p ≡ Ok p
admits_mac ao p e =
    let same : same_bytes ao.mac (mac_of p) ≡ true = rw (← e) (same_self ao.mac) in
    rw same refl

admits_number : (r : Numbered) (d : Segment) (ao : Ao) (p : Finding) → p.number + segment_length d ≤ 9223372036854775808 → p ≡ found_with r d ao p.context p.number → ao.mac ≡ mac_of p
    → judge_number r d ao p.context (Some p.number) ≡ Ok p
admits_number r d ao p range finding right =
    rw (le-ltb 9223372036854775808 (p.number + segment_length d) range) (ap (judge_mac ao) (sym finding) ∙ admits_mac ao p right)

admits_context : (r : Numbered) (d : Segment) (ao : Ao) (expected : Option ℕ) (p : Finding) → HasNumber d expected p.number
    → p.number + segment_length d ≤ 9223372036854775808 → p ≡ found_with r d ao p.context p.number → ao.mac ≡ mac_of p → judge_context r d ao expected (Some p.context) ≡ Ok p
admits_context r d ao expected p number range finding right =
    rw (number_known (has SYN d) d expected p.number refl number)
    (ap (judge_number r d ao p.context) (number_is (has SYN d) d expected p.number refl number) ∙ admits_number r d ao p range finding right)

admits_row : (rows : List Row) (pair : Pair) (r : Numbered) (d : Segment) (ao : Ao) (expected : Option ℕ) (known : Option (List ℕ)) (p : Finding)
    → length ao.mac ≡ mac_length_of r.row.algorithm → judge_context r d ao expected known ≡ Ok p → judge_row rows pair d ao expected known (Some r) ≡ Ok p
admits_row rows pair r d ao expected known p fits e = rw (eq-eqb (length ao.mac) (mac_length_of r.row.algorithm) fits) e

pub passes : (rows : List Row) (pair : Pair) (known : Known) (now : ℕ) (d : Segment) (p : Finding) → Passes rows pair known now d p → judge rows pair known now d ≡ Ok p
passes rows pair known now d p s =
    let ao = s.ao in
    let expected : Option ℕ = known.expected in
    let context : Option (List ℕ) = context_of d known.peer_isn (Some known.own_isn) in
    let option_is : find_ao d.area ≡ One ao = found_alone d s.option s.one_option s.no_md5 ∙ ap One (sym s.its_fields) in
    let row_is : accept_row rows pair ao.key_id now ≡ Some s.row = lowest_by (acceptable_as pair ao.key_id now) rows s.row (accept_row rows pair ao.key_id now) refl s.acceptable_row in
    let range = s.in_range in
    let in_range : p.number + segment_length d ≤ 9223372036854775808 = range in
    judge_by_steps rows pair known now d
    ∙ (ap (judge_ao rows pair now expected d context) option_is
    ∙ (ap (judge_row rows pair d ao expected context) row_is
    ∙ admits_row rows pair s.row d ao expected context p s.mac_length
    (ap (judge_context s.row d ao expected) s.known_context ∙ admits_context s.row d ao expected p s.number in_range s.finding s.right_mac)))
