-- One more line behind those that were read.
use Rattle.std.proofs.Common.{◌≡◌, ℕ, ◌+◌, ◌<◌, List, [], ◌∷◌, ◌++◌, length, take, Some, None, Ok, refl, sym, ap, subst, ◌∙◌}
use Rattle.std.proofs.lemmas.List.{append-nil}
use Rattle.ao_base.specs.Outside.{Side, WasWritten}
use Rattle.ao_base.proofs.Sides.{took_none}
use Rattle.book_cmd_check.specs.Captures.{Stored, capture_run}
use Rattle.book_cmd_check.specs.StoredLines.{stored_from, stored_line}
use Rattle.cmd_check.specs.CheckedLines.{BreaksLine, JudgedLine, segments_of}
use Rattle.cmd_check.specs.Gatherings.{BreaksLines, Written}
use Rattle.cmd_check.specs.Judges.{Gathers, HasHeard, Judging, line_after}
use Rattle.cmd_check.proofs.RunLaws.{line_added, run_more}

-- a line without a segment
pub empty_line : (judge : Judging) (n : ℕ) (lines : List (List ℕ)) (line : List ℕ) (out : Side) → n ≡ length lines + 1 → stored_line n line ≡ Ok None →
    (stored_from 1 lines).fault ≡ None → HasHeard judge (segments_of lines) → JudgedLine judge.checking.tables judge lines line out out
empty_line judge n lines line out at is none heard =
    let added = line_added n lines line None at is none in
    let same : segments_of (lines ++ line ∷ []) ≡ segments_of lines = added.segments ∙ append-nil (segments_of lines) in
    record {
      text = [];
      tables_same = refl;
      faultless = added.faultless;
      heard = subst (λ (xs : List Stored). HasHeard judge xs) (sym same) heard;
      whole = ap (λ (xs : List Stored). capture_run judge.checking.tables xs) same ∙ sym (append-nil _);
      wrote = took_none out;
    }

-- a line whose segment is judged, and what is said of it written
pub segment_line : {E : Type 0} (before now : Judging) (n : ℕ) (lines : List (List ℕ)) (line : List ℕ) (s : Stored) (text later : List ℕ) (a b : Side) (u : Unit {0}) → n ≡ length lines + 1 → stored_line n line ≡ Ok (Some s) →
    (stored_from 1 lines).fault ≡ None → Gathers {E = E} before now (segments_of lines) s [] text (Ok u) → Written text later a b → JudgedLine before.checking.tables now lines line a b
segment_line before now n lines line s text later a b u at is none gathers written =
    let added = line_added n lines line (Some s) at is none in
    record {
      text = line_after before.checking.tables (segments_of lines) s;
      tables_same = gathers.tables;
      faultless = added.faultless;
      heard = subst (λ (xs : List Stored). HasHeard now xs) (sym added.segments) gathers.heard;
      whole = ap (λ (xs : List Stored). capture_run before.checking.tables xs) added.segments ∙ run_more before.checking.tables (segments_of lines) s;
      wrote = subst (λ (xs : List ℕ). WasWritten xs a b) gathers.lines written.wrote;
    }

-- a line whose segment's line isn't written whole
pub broken_line : {E : Type 0} (before now : Judging) (n : ℕ) (lines : List (List ℕ)) (line : List ℕ) (s : Stored) (text : List ℕ) (a b : Side) (u : Unit {0}) → n ≡ length lines + 1 → stored_line n line ≡ Ok (Some s) →
    (stored_from 1 lines).fault ≡ None → Gathers {E = E} before now (segments_of lines) s [] text (Ok u) → BreaksLines text a b → BreaksLine before.checking.tables lines line a b
broken_line before now n lines line s text a b u at is none gathers breaks =
    let added = line_added n lines line (Some s) at is none in
    record {
      segment = s;
      text = line_after before.checking.tables (segments_of lines) s;
      n = breaks.n;
      faultless = added.faultless;
      of_line = added.segments;
      whole = ap (λ (xs : List Stored). capture_run before.checking.tables xs) added.segments ∙ run_more before.checking.tables (segments_of lines) s;
      less = subst (λ (xs : List ℕ). breaks.n < length xs) gathers.lines breaks.less;
      wrote = subst (λ (xs : List ℕ). WasWritten (take breaks.n xs) a b) gathers.lines breaks.wrote;
      rose = breaks.rose;
    }
