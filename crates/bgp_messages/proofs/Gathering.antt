-- What is gathered of a piece.
use Rattle.std.proofs.Common.{◌≡◌, ℕ, ◌+◌, ◌-◌, ◌<◌, ◌≤◌, min, List, ◌++◌, length, take, drop, Some, None, refl, sym, ap, ◌∙◌, inl, inr, append_assoc, arith}
use Rattle.std.proofs.Math.Seq.{take-add}
use Rattle.std.proofs.lemmas.Bool.{cases_lt}
use Rattle.std.proofs.lemmas.List.{length-append, length-drop, length-take-le, take-append-drop, take-append-le, drop-append-le, drop-drop, take_all, take_at, drop_at, get_or-take}
use Rattle.std.specs.Prelude.{slice_range, slice_index}
use Rattle.book_bgp.specs.declared.bgp_fault.BgpFault.{BgpFault}
use Rattle.book_base.specs.Fronts.{Ends}
use Rattle.book_bgp.specs.Messages.{message_front, header_fault, length_in, kind_in}
use Rattle.book_bgp.proofs.Headers.{sound}
use Rattle.book_bgp.proofs.Fronts.{front_short, front_part, front_faulty, front_whole, unfinished}
use Rattle.bgp_messages.specs.declared.reader.Found.TheVariants as found
use Rattle.bgp_messages.specs.Readers.{Gathers}

-- bytes of a piece were taken after others, until there were as many as were wanted
pub record Filled (before piece : List ℕ) (wanted : ℕ) (now : List ℕ) (used : ℕ) : Type 0 where
  pub used_is : used ≡ min (length piece) (wanted - length before)
  pub now_is : now ≡ before ++ take used piece

-- what was taken, and what is left of the piece
filled_length : (before piece : List ℕ) (wanted : ℕ) (now : List ℕ) (used : ℕ) → Filled before piece wanted now used → length now ≡ length before + used
filled_length before piece wanted now used f =
    let within = f.used_is in
    let size : length (take used piece) ≡ used = length-take-le used piece (omega arith) in
    ap length f.now_is ∙ (length-append before (take used piece) ∙ ap (λ n. length before + n) size)

filled_rest : (before piece : List ℕ) (wanted : ℕ) (now : List ℕ) (used : ℕ) → Filled before piece wanted now used → before ++ piece ≡ now ++ drop used piece
filled_rest before piece wanted now used f =
    rw f.now_is (ap (λ xs. before ++ xs) (sym (take-append-drop used piece)) ∙ sym (append_assoc before (take used piece) (drop used piece)))

-- the whole piece was taken
filled_whole : (before piece : List ℕ) (wanted : ℕ) (now : List ℕ) (used : ℕ) → Filled before piece wanted now used → length now < wanted → (used ≡ length piece) × (now ≡ before ++ piece)
filled_whole before piece wanted now used f lt =
    let size = filled_length before piece wanted now used f in
    let within = f.used_is in
    let all : used ≡ length piece = omega arith in
    (all, f.now_is ∙ ap (λ xs. before ++ xs) (take_all used piece (omega arith)))

-- too few bytes for a header
pub gathers_short : (before piece now : List ℕ) (used : ℕ) → Filled before piece 19 now used → length now < 19 → Gathers before piece now (record { used = used; found = found.More })
gathers_short before piece now used f lt =
    let whole = filled_whole before piece 19 now used f lt in
    let size = ap length whole.1 in
    let used_is = f.used_is in
    record { taken = f.now_is; within = omega arith; by = (front_short (before ++ piece) (omega arith), whole.0, whole.1) }

-- the header of the bytes with the piece is that of the bytes that were gathered
header_same : (before piece now : List ℕ) (wanted used : ℕ) → Filled before piece wanted now used → 19 ≤ length now → take 19 (before ++ piece) ≡ take 19 now
header_same before piece now wanted used f le = ap (take 19) (filled_rest before piece wanted now used f) ∙ take-append-le 19 now (drop used piece) le

-- at a faulty header no more than its bytes were gathered
faulty_length : (before piece now : List ℕ) (used : ℕ) (fault : BgpFault) → Filled before piece 19 now used → message_front before ≡ Ends → 19 ≤ length now → header_fault (take 19 now) ≡ Some fault → length now ≡ 19
faulty_length before piece now used fault f had le bad =
    let size = filled_length before piece 19 now used f in
    let within = f.used_is in
    elim (cases_lt (length before) 19) [
      | inl lt ↦ omega arith
      | inr long ↦
          let none : header_fault (take 19 before) ≡ None = (unfinished before had).sound long in
          let same : take 19 now ≡ take 19 before = ap (take 19) f.now_is ∙ take-append-le 19 before (take used piece) long in
          let both = sym none ∙ (ap header_fault (sym same) ∙ bad) in
          absurd (cc)
    ]

pub gathers_fault : (before piece now : List ℕ) (used : ℕ) (fault : BgpFault) → Filled before piece 19 now used → message_front before ≡ Ends → 19 ≤ length now → header_fault (take 19 now) ≡ Some fault →
    Gathers before piece now (record { used = used; found = found.Fault fault })
gathers_fault before piece now used fault f had le bad =
    let size = filled_length before piece 19 now used f in
    let all = filled_rest before piece 19 now used f in
    let more = length-append now (drop used piece) in
    let count = ap length all in
    let exact = faulty_length before piece now used fault f had le bad in
    let same = header_same before piece now 19 used f le in
    let within = f.used_is in
    record {
      taken = f.now_is;
      within = omega arith;
      by = (front_faulty (before ++ piece) fault (omega arith) (rw same bad), omega arith, sym (same ∙ take_all 19 now (omega arith)));
    }

-- a sound header, and then bytes up to the end of its message
pub record Sound (before piece middle now : List ℕ) (len used more : ℕ) : Type 0 where
  pub header : Filled before piece 19 middle used
  pub body : Filled middle (drop used piece) len now more
  pub had : message_front before ≡ Ends
  pub enough : 19 ≤ length middle
  pub none : header_fault (take 19 middle) ≡ None
  pub len_is : len ≡ length_in (take 19 middle)

-- the two parts as one
both_filled : (before piece middle now : List ℕ) (len used more : ℕ) → Sound before piece middle now len used more → now ≡ before ++ take (used + more) piece
both_filled before piece middle now len used more s =
    s.body.now_is ∙ (ap (λ xs. xs ++ take more (drop used piece)) s.header.now_is
    ∙ (append_assoc before (take used piece) (take more (drop used piece)) ∙ ap (λ xs. before ++ xs) (sym (take-add used more piece))))

both_rest : (before piece middle now : List ℕ) (len used more : ℕ) → Sound before piece middle now len used more → before ++ piece ≡ now ++ drop (used + more) piece
both_rest before piece middle now len used more s =
    filled_rest before piece 19 middle used s.header
    ∙ (filled_rest middle (drop used piece) len now more s.body ∙ ap (λ xs. now ++ xs) (drop-drop more used piece))

-- the message isn't whole yet
pub gathers_part : (before piece middle now : List ℕ) (len used more : ℕ) → Sound before piece middle now len used more → length now < len →
    Gathers before piece now (record { used = used + more; found = found.More })
gathers_part before piece middle now len used more s lt =
    let rest = filled_whole middle (drop used piece) len now more s.body lt in
    let size = length-drop used piece in
    let within = s.header.used_is in
    let all : now ≡ before ++ piece = rest.1 ∙ sym (filled_rest before piece 19 middle used s.header) in
    let same = header_same before piece middle 19 used s.header s.enough in
    let count = ap length all in
    let longer = filled_length middle (drop used piece) len now more s.body in
    let enough = s.enough in
    let len_is = s.len_is in
    record {
      taken = both_filled before piece middle now len used more s;
      within = omega arith;
      by = (front_part (before ++ piece) (omega arith) (rw same s.none) (rw same (omega arith)), omega arith, all);
    }

-- as many bytes as the header asks for
whole_length : (before piece middle now : List ℕ) (len used more : ℕ) → Sound before piece middle now len used more → len ≤ length now → length now ≡ len
whole_length before piece middle now len used more s le =
    let first = filled_length before piece 19 middle used s.header in
    let second = filled_length middle (drop used piece) len now more s.body in
    let used_is = s.header.used_is in let more_is = s.body.used_is in let len_is = s.len_is in
    elim (cases_lt (length before) 19) [
      | inl lt ↦ let least = (sound (take 19 middle) s.none).least in omega arith
      | inr long ↦
          let part = (unfinished before s.had).part long in
          let same : take 19 middle ≡ take 19 before = ap (take 19) s.header.now_is ∙ take-append-le 19 before (take used piece) long in
          let part_len : length before < length_in (take 19 middle) = rw same part in
          omega arith
    ]

-- some byte was used for it
whole_some : (before piece middle now : List ℕ) (len used more : ℕ) → Sound before piece middle now len used more → len ≤ length now → 0 < used + more
whole_some before piece middle now len used more s le =
    let first = filled_length before piece 19 middle used s.header in
    let second = filled_length middle (drop used piece) len now more s.body in
    let enough = s.enough in let len_is = s.len_is in
    elim (cases_lt (length before) 19) [
      | inl lt ↦ omega arith
      | inr long ↦
          let part = (unfinished before s.had).part long in
          let same : take 19 middle ≡ take 19 before = ap (take 19) s.header.now_is ∙ take-append-le 19 before (take used piece) long in
          let part_len : length before < length_in (take 19 middle) = rw same part in
          omega arith
    ]

-- the message is whole
pub gathers_whole : (before piece middle now : List ℕ) (len used more : ℕ) → Sound before piece middle now len used more → len ≤ length now →
    Gathers before piece now (record { used = used + more; found = found.Message })
gathers_whole before piece middle now len used more s le =
    let tail = drop (used + more) piece in
    let all = both_rest before piece middle now len used more s in
    let exact = whole_length before piece middle now len used more s le in
    let longer = filled_length middle (drop used piece) len now more s.body in
    let enough = s.enough in
    let count = ap length all in
    let more_than = length-append now tail in
    let same = header_same before piece middle 19 used s.header s.enough in
    let again : take 19 (now ++ tail) ≡ take 19 now = take-append-le 19 now tail (omega arith) in
    let header : take 19 (before ++ piece) ≡ take 19 now = ap (take 19) all ∙ again in
    let len_is : len ≡ length_in (take 19 (before ++ piece)) = rw same s.len_is in
    let kind : kind_in (take 19 (before ++ piece)) ≡ slice_index now 18 = rw header (get_or-take 19 now 18 0 (omega arith)) in
    let shorter = length-drop 19 now in
    let body : slice_range (before ++ piece) 19 len ≡ drop 19 now =
    rw (all, drop-append-le 19 now tail (omega arith)) (take_at (drop 19 now) tail (len - 19) (omega arith)) in
    let after : drop len (before ++ piece) ≡ tail = rw all (drop_at now tail len exact) in
    let left = length-drop (used + more) piece in
    let used_is = s.header.used_is in let more_is = s.body.used_is in
    let rest = length-drop used piece in
    record {
      taken = both_filled before piece middle now len used more s;
      within = omega arith;
      by = (tail, front_whole (before ++ piece) (omega arith) (rw same s.none) (omega arith) ∙ rw (← len_is, kind, body, after) refl, omega arith, omega arith, whole_some before piece middle now len used more s le);
    }
