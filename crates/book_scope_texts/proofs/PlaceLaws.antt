-- A place that is told is that of its finding.
use Rattle.std.proofs.Common.{◌≡◌, ℕ, ◌+◌, ◌==◌, ◌&&◌, ◌||◌, cond, Bool, true, false, List, [], ◌∷◌, ◌++◌, length, Option, Some, None, refl, ap, sym, ◌∙◌, arith, if◌then◌else◌}
use Rattle.std.proofs.lemmas.Bool.Decides.{nat_tests}
use Rattle.std.specs.Str.{bytes_eq}
use Rattle.std.specs.List.{list_all, prefix_len}
use Rattle.std.specs.Option.{option_or}
use Rattle.book_base.specs.Lines.{is_blank, lines_of}
use Rattle.book_scope_texts.specs.declared.finding.KeyFinding.{KeyFinding}
use Rattle.book_scope_texts.specs.declared.finding.KeySpot.{KeySpot}
use Rattle.book_scope_texts.specs.declared.finding.TextPlace.{TextPlace}
use Rattle.book_scope_texts.specs.Places.{IsPlaceOf, finding_place, finding_spot, is_bare, is_field_or_header, is_header, is_plain_text, is_spot, line_key, place_among, plain_place, spot_past, spot_place, spots_past}

-- a line that was looked for, among others behind a number of lines and a spot
record Among (w : KeySpot) (field : Option (List ℕ)) (n : ℕ) (s : KeySpot) (lines : List (List ℕ)) (p : TextPlace) : Type 0 where
  front : List (List ℕ)
  line : List ℕ
  more : List (List ℕ)
  parts : lines ≡ front ++ line ∷ more
  number : p.line ≡ n + length front + 1
  column : p.column ≡ prefix_len is_blank line + 1
  here : is_spot w field (spots_past s (front ++ line ∷ [])) (line_key line) ≡ true

record One (w : KeySpot) (field : Option (List ℕ)) (n : ℕ) (s : KeySpot) (l : List ℕ) (ls : List (List ℕ)) (p : TextPlace) : Type 0 where
  among : Among w field n s (l ∷ ls) p

by_test : (w : KeySpot) (field : Option (List ℕ)) (n : ℕ) (s : KeySpot) (l : List ℕ) (ls : List (List ℕ)) (p : TextPlace) (b : Bool) →
    is_spot w field (spot_past s (line_key l)) (line_key l) ≡ b →
    (if b then Some (record { line = n + 1; column = prefix_len is_blank l + 1 }) else place_among w field (n + 1) (spot_past s (line_key l)) ls) ≡ Some p →
    ((q : TextPlace) → place_among w field (n + 1) (spot_past s (line_key l)) ls ≡ Some q → Among w field (n + 1) (spot_past s (line_key l)) ls q) →
    Among w field n s (l ∷ ls) p
by_test w field n s l ls p true is h later =
    let made : TextPlace = record { line = n + 1; column = prefix_len is_blank l + 1 } in
    let same : made ≡ p = cc in
    let number : n + 1 ≡ p.line = ap (λ (q : TextPlace). q.line) same in
    record { front = []; line = l; more = ls; parts = refl; number = omega (arith, number); column = sym (ap (λ (q : TextPlace). q.column) same); here = is }
by_test w field n s l ls p false is h later =
    let m = later p h in
    let number : p.line ≡ n + 1 + length m.front + 1 = m.number in
    record { front = l ∷ m.front; line = m.line; more = m.more; parts = ap (λ (xs : List (List ℕ)). l ∷ xs) m.parts; number = omega (arith, number); column = m.column; here = m.here }

among : (w : KeySpot) (field : Option (List ℕ)) (n : ℕ) (s : KeySpot) (lines : List (List ℕ)) (p : TextPlace) → place_among w field n s lines ≡ Some p → Among w field n s lines p
unfolding place_among
among w field n s [] p h = absurd (cc)
among w field n s (l ∷ ls) p h =
    by_test w field n s l ls p (is_spot w field (spot_past s (line_key l)) (line_key l)) refl h (λ q e. among w field (n + 1) (spot_past s (line_key l)) ls q e)

and_parts : (a b : Bool) → (a && b) ≡ true → (a ≡ true) × (b ≡ true)
and_parts true b h = (refl, h)
and_parts false b h = absurd (cc)

or_left : (a b : Bool) → a ≡ true → (a || b) ≡ true
or_left true b h = refl
or_left false b h = absurd (cc)

or_right : (a b : Bool) → b ≡ true → (a || b) ≡ true
or_right true b h = refl
or_right false b h = h

same_spot : (w s : KeySpot) → ((s.node == w.node) && (s.row == w.row)) ≡ true → s ≡ w
same_spot w s h =
    let both = and_parts (s.node == w.node) (s.row == w.row) h in
    let node = both.0 in let row = both.1 in grind (arith, nat_tests, node, row)

spot_of : (w : KeySpot) (field : Option (List ℕ)) (s : KeySpot) (key : List ℕ) → is_spot w field s key ≡ true → s ≡ w
spot_of w None s key h = same_spot w s (and_parts ((s.node == w.node) && (s.row == w.row)) (is_header key) h).0
spot_of w (Some f) s key h = same_spot w s (and_parts ((s.node == w.node) && (s.row == w.row)) (bytes_eq key f) h).0

theirs : (field : List ℕ) (w : KeySpot) (s : KeySpot) (key : List ℕ) → is_spot w (Some field) s key ≡ true → is_field_or_header field key ≡ true
theirs field w s key h = or_left (bytes_eq key field) (is_header key) (and_parts ((s.node == w.node) && (s.row == w.row)) (bytes_eq key field) h).1

header : (field : List ℕ) (w : KeySpot) (s : KeySpot) (key : List ℕ) → is_spot w None s key ≡ true → is_field_or_header field key ≡ true
header field w s key h = or_right (bytes_eq key field) (is_header key) (and_parts ((s.node == w.node) && (s.row == w.row)) (is_header key) h).1

start : KeySpot
start = record { node = 0; row = 0 }

told : (text : List ℕ) (f : KeyFinding) (p : TextPlace) (field : Option (List ℕ)) → is_plain_text text ≡ true →
    ((s : KeySpot) (key : List ℕ) → is_spot (finding_spot f) field s key ≡ true → is_field_or_header f.field key ≡ true) →
    spot_place (finding_spot f) field text ≡ Some p → IsPlaceOf text f p
unfolding spot_place
told text f p field plain is h =
    let m = among (finding_spot f) field 0 (record { node = 0; row = 0 }) (lines_of text) p h in
    let number : p.line ≡ 0 + length m.front + 1 = m.number in
    record {
      front = m.front;
      line = m.line;
      more = m.more;
      plain = plain;
      lines = m.parts;
      number = omega (arith, number);
      column = m.column;
      spot = spot_of (finding_spot f) field _ (line_key m.line) m.here;
      is = is _ (line_key m.line) m.here;
    }

either : (text : List ℕ) (f : KeyFinding) (p : TextPlace) (one other : Option TextPlace) → ((q : TextPlace) → one ≡ Some q → IsPlaceOf text f q) → ((q : TextPlace) → other ≡ Some q → IsPlaceOf text f q) →
    option_or one other ≡ Some p → IsPlaceOf text f p
either text f p (Some q) other first second h = first p h
either text f p None other first second h = second p h

by_plain : (text : List ℕ) (f : KeyFinding) (p : TextPlace) (plain bare : Bool) → is_plain_text text ≡ plain → (if plain && bare then plain_place text f else None) ≡ Some p → IsPlaceOf text f p
by_plain text f p true true is h =
    either text f p (spot_place (finding_spot f) (Some f.field) text) (spot_place (finding_spot f) None text)
    (λ q e. told text f q (Some f.field) is (λ s key x. theirs f.field (finding_spot f) s key x) e) (λ q e. told text f q None is (λ s key x. header f.field (finding_spot f) s key x) e) h
by_plain text f p true false is h = absurd (cc)
by_plain text f p false bare is h = absurd (cc)

pub place_told : (text : List ℕ) (f : KeyFinding) (p : TextPlace) → finding_place text f ≡ Some p → IsPlaceOf text f p
unfolding finding_place
place_told text f p h = by_plain text f p (is_plain_text text) (list_all is_bare f.field) refl h
