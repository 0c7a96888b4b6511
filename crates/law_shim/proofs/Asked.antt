-- A row that is asked for is sealed with.
use Rattle.std.proofs.Common.{◌≡◌, ℕ, ◌&&◌, ◌||◌, not, Bool, true, false, List, Option, Some, None, Ok, refl, sym, ap, ◌∙◌, if◌then◌else◌}
use Rattle.std.specs.Prelude.{option_map}
use Rattle.std.specs.Option.{option_or}
use Rattle.book_base.specs.declared.address.Pair.{Pair}
use Rattle.book_segments.specs.Segments.{Segment, has, SYN, ACK, RST}
use Rattle.book_segments.proofs.Fields.{some_is}
use Rattle.book_keys.specs.Choices.{Numbered, named_send, next_row, send_row}
use Rattle.book_keys.specs.Coordination.{Sending, choose, follow, numbered, sending_by}
use Rattle.book_keys.specs.Lookups.{number_of}
use Rattle.book_keys.specs.Rows.{Row, sendable}
use Rattle.book_endpoint.specs.Verdicts.{Finding}
use Rattle.book_shim.specs.declared.kept.Kept.{Kept}
use Rattle.book_shim.specs.Keeping.{Setting, are_isns, is_opening_syn, answered_isn, connection_begun}
use Rattle.book_shim.specs.Leaving.{Sealed, accepting, opening, entered, send_sealed}
use Rattle.book_shim.specs.Arriving.{Opened, asked_id, may_be_replayed, row_asked, take_in}
use Rattle.law_shim.proofs.Sealing.{sends, takes}
use Rattle.law_shim.specs.Asking.{AsksFor, IsUnder, MaySendWith}

-- ---- what is asked for becomes the current row

asked : (g : Kept) (d : Segment) (p : Finding) → has RST d ≡ false → may_be_replayed g d p.number ≡ false → asked_id g d p ≡ Some p.rnext_key_id
asked g d p one two = by_tests (has RST d) (may_be_replayed g d p.number) one two
  where
    by_tests : (x y : Bool) → x ≡ false → y ≡ false → (if x || y then None else Some p.rnext_key_id) ≡ Some p.rnext_key_id
    by_tests false false e f = refl
    by_tests false true e f = absurd (cc)
    by_tests true y e f = absurd (cc)

follow_named : (current : Option ℕ) (rows : List Row) (pair : Pair) (id now : ℕ) (q : Numbered) → named_send rows pair id now ≡ Some q → follow current rows pair id now ≡ Some q.number
unfolding follow
follow_named current rows pair id now q is = ap (λ o. option_or (number_of o) current) is

followed : (here : Setting) (pair : Pair) (g : Kept) (d : Segment) (t : Opened) (q : Numbered) → take_in here pair g d ≡ Ok t → AsksFor here pair g d t q → t.kept.current ≡ Some q.number
followed here pair g d t q h a =
    ap (λ (x : Opened). x.kept.current) (takes here pair g d t h).taken_is
    ∙ (ap (row_asked here pair g.current) (asked g d t.passed a.lasting a.fresh) ∙ follow_named g.current here.rows pair t.passed.rnext_key_id here.now q a.named)

pub stays : (here : Setting) (pair : Pair) (g : Kept) (d : Segment) (t : Opened) → take_in here pair g d ≡ Ok t → asked_id g d t.passed ≡ None → t.kept.current ≡ g.current
stays here pair g d t h none = ap (λ (x : Opened). x.kept.current) (takes here pair g d t h).taken_is ∙ ap (row_asked here pair g.current) none

-- ---- the current row is sealed with

not_opened : (g : Kept) (e : Segment) → is_opening_syn e ≡ false → (entered g e).current ≡ g.current
not_opened g e none = by_tests (has SYN e) (has ACK e) none
  where
    by_accept : (b : Bool) → (if b then g else connection_begun g e.sequence (answered_isn e)).current ≡ g.current
    by_accept true = refl
    by_accept false = refl

    by_tests : (x y : Bool) → (x && not y) ≡ false → (if x then (if y then accepting g e.sequence (answered_isn e) else opening g e.sequence) else g).current ≡ g.current
    by_tests true true n = by_accept (are_isns g.isns e.sequence (answered_isn e))
    by_tests true false n = absurd (cc)
    by_tests false y n = refl

chosen_current : (rows : List Row) (pair : Pair) (now : ℕ) (q : Numbered) → numbered (sendable pair now) 1 q.number rows ≡ Some q → choose (Some q.number) rows pair now ≡ Some (sending_by (next_row rows pair now) q)
unfolding choose
chosen_current rows pair now q may = ap (λ o. option_map (sending_by (next_row rows pair now)) (option_or o (send_row rows pair now))) may

pub after : (here : Setting) (pair : Pair) (g : Kept) (e : Segment) (m : Sealed) (q : Numbered) → g.current ≡ Some q.number → MaySendWith here pair q → is_opening_syn e ≡ false
    → send_sealed here pair g e ≡ Ok m → IsUnder q m
after here pair g e m q current may none h =
    let z = sends here pair g e m h in
    let is : choose (entered g e).current here.rows pair here.now ≡ Some (sending_by (next_row here.rows pair here.now) q) =
    ap (λ (c : Option ℕ). choose c here.rows pair here.now) (not_opened g e none ∙ current) ∙ chosen_current here.rows pair here.now q may in
    let same : m.sending ≡ sending_by (next_row here.rows pair here.now) q = some_is _ _ (sym z.chosen ∙ is) in
    record {
      number = ap (λ (s : Sending). s.number) same;
      row = ap (λ (s : Sending). s.row) same;
      key_id = ap (λ (s : Sending). s.key_id) same;
      current = ap (λ (x : Sealed). x.kept.current) z.sent_is ∙ ap (λ (s : Sending). Some s.number) same;
    }

pub next : (here later : Setting) (pair : Pair) (g : Kept) (d e : Segment) (t : Opened) (m : Sealed) (q : Numbered) → take_in here pair g d ≡ Ok t → AsksFor here pair g d t q
    → MaySendWith later pair q → is_opening_syn e ≡ false → send_sealed later pair t.kept e ≡ Ok m → IsUnder q m
next here later pair g d e t m q h asks may none sent = after later pair t.kept e m q (followed here pair g d t q h asks) may none sent
