-- Runs of segments that say the same, as keepalives and their acknowledgements do: one line stands
-- for such a run. Our own choice of them. Its tops are `folded_session` and `lines_within`.
use Rattle.std.specs.Prelude.{ℕ, ◌+◌, ◌==◌, min, not, ◌&&◌, ◌||◌, Bool, true, false}
use Rattle.std.specs.Prelude.{List, [], ◌∷◌, ◌++◌, codes, decimal, map}
use Rattle.std.specs.Prelude.{Option, Some, None, option_map, if◌then◌else◌}
use Rattle.std.specs.Str.{bytes_eq}
use Rattle.book_base.specs.declared.end.End.{End}
use Rattle.book_base.specs.declared.end.End.TheVariants.{A, B}
use Rattle.book_segments.specs.Segments.{FIN, SYN, RST}
use Rattle.book_lines.specs.Texts.{spaced}
use Rattle.book_sessions.specs.SessionTexts.{id_text}
use Rattle.book_draw.specs.declared.fold.Folding.{Folding}
use Rattle.book_draw.specs.declared.fold.RungKinds.{RungKinds}
use Rattle.book_draw.specs.declared.fold.RungRun.{RungRun}
use Rattle.book_draw.specs.declared.fold.SessionLine.{SessionLine}
use Rattle.book_draw.specs.declared.fold.SessionLine.TheVariants.{Whole, More, Left}
use Rattle.book_draw.specs.declared.session_rung.SessionEnds.{SessionEnds}
use Rattle.book_draw.specs.declared.session_rung.SessionRung.{SessionRung}
use Rattle.book_draw.specs.declared.span.DrawnTime.{DrawnTime}
use Rattle.book_draw.specs.declared.span.LeftRun.{LeftRun}
use Rattle.book_draw.specs.SessionLadders.{reached_end, rung_label, said_texts}
use Rattle.book_draw.specs.SessionRungs.{has_flag}
use Rattle.book_draw.specs.Times.{left_out, left_runs, rungs_within}

-- what a segment says: what is written on its arrow, and what is said of it (own)
abbrev pub rung_words : SessionRung → List ℕ
rung_words r = rung_label r ++ spaced (said_texts r.outcome)

-- the keys that a segment names, and what is said of it (own)
abbrev pub key_words : SessionRung → List ℕ
key_words r =
    spaced (codes "key" ∷ id_text (option_map (λ ids. ids.key_id) r.ids)
    ∷ codes "asks" ∷ id_text (option_map (λ ids. ids.rnext_key_id) r.ids) ∷ [])
    ++ spaced (said_texts r.outcome)

-- the key that a segment is under, and what is said of it, as a run has it (own)
abbrev pub run_words : SessionRung → List ℕ
run_words r =
    codes ", key " ++ (id_text (option_map (λ ids. ids.key_id) r.ids)
    ++ (44 ∷ spaced (said_texts r.outcome)))

-- a segment neither begins nor ends a connection (RFC 9293, section 3.1)
abbrev pub stands_within : SessionRung → Bool
stands_within r =
    not (has_flag SYN r.flags) && (not (has_flag FIN r.flags) && not (has_flag RST r.flags))

-- a segment says what that one, if there is one, says (own)
abbrev pub says_again : Option SessionRung → SessionRung → Bool
says_again None r = false
says_again (Some k) r = bytes_eq (rung_words k) (rung_words r)

-- a segment may be told with others, after these of its direction (own)
abbrev pub folds_with : RungKinds → SessionRung → Bool
folds_with kinds r = stands_within r && (says_again kinds.last r || says_again kinds.before r)

-- a segment stays known behind this one if both name the same keys and the same is said of both
-- (own)
abbrev pub kept_kind : Option SessionRung → SessionRung → Option SessionRung
kept_kind None r = None
kept_kind (Some k) r = if bytes_eq (key_words k) (key_words r) then Some k else None

-- the last two segments of a direction that were drawn, after this one was (own)
abbrev pub and_kind : RungKinds → SessionRung → RungKinds
and_kind kinds r = record { last = Some r; before = kept_kind kinds.last r }

-- the segments of the direction to this end that were drawn last (own)
abbrev pub kinds_to : End → Folding → RungKinds
kinds_to A f = f.to_left
kinds_to B f = f.to_right

-- one more, up to the greatest number of 64 bits (own)
abbrev pub counted_on : ℕ → ℕ
counted_on n = min (n + 1) 18446744073709551615

-- a run with one segment more (own)
abbrev pub run_with : Option RungRun → SessionRung → RungRun
run_with None r = record { count = 1; first = r; last = r; even = true }
run_with (Some m) r = record {
  count = counted_on m.count;
  first = m.first;
  last = r;
  even = m.even && bytes_eq (run_words m.first) (run_words r);
}

-- what is known once a segment to this end was drawn (own)
abbrev pub after_drawn : End → Folding → SessionRung → Folding
after_drawn A f r =
    record { to_left = and_kind f.to_left r; to_right = f.to_right; run = None }
after_drawn B f r =
    record { to_left = f.to_left; to_right = and_kind f.to_right r; run = None }

-- what is known after a segment to this end (own)
abbrev pub fold_step : End → Folding → SessionRung → Folding
fold_step at f r =
    if folds_with (kinds_to at f) r
    then record { to_left = f.to_left; to_right = f.to_right; run = Some (run_with f.run r) }
    else after_drawn at f r

-- the lines of a run that ends: of one or two segments those, of more one line (own)
abbrev pub run_lines : Option RungRun → List SessionLine
run_lines None = []
run_lines (Some m) =
    if m.count == 1 then Whole m.first ∷ []
    else if m.count == 2 then Whole m.first ∷ Whole m.last ∷ []
    else More m ∷ []

-- the lines that a segment to this end brings: none while it is told with others (own)
abbrev pub fold_lines : End → Folding → SessionRung → List SessionLine
fold_lines at f r =
    if folds_with (kinds_to at f) r then [] else run_lines f.run ++ Whole r ∷ []

-- before the first segment (own)
abbrev pub fold_start : Folding
fold_start = record {
  to_left = record { last = None; before = None };
  to_right = record { last = None; before = None };
  run = None;
}

-- the lines of segments between these ends, behind others (own)
abbrev pub folded_lines : SessionEnds → Folding → List SessionRung → List SessionLine
folded_lines e f [] = run_lines f.run
folded_lines e f (r ∷ rs) =
    fold_lines (reached_end e r) f r ++ folded_lines e (fold_step (reached_end e r) f r) rs

-- the lines of segments between these ends (own)
abbrev pub folded_session : SessionEnds → List SessionRung → List SessionLine
folded_session e rs = folded_lines e fold_start rs

-- the line of segments that are left out (own)
abbrev pub line_of_left : LeftRun → SessionLine
line_of_left m = Left m

-- the lines of segments that are drawn between these ends, and behind them those of others that are
-- left out (own)
abbrev pub lines_and_left : SessionEnds → List SessionRung → List LeftRun → List SessionLine
lines_and_left e rs left = folded_session e rs ++ map line_of_left left

-- the lines of segments between these ends of which those within a time are drawn (own)
abbrev pub lines_within : DrawnTime → SessionEnds → List SessionRung → List SessionLine
lines_within t e rs = lines_and_left e (rungs_within t rs) (left_runs t (left_out t rs))

-- how many segments a line stands for (own)
abbrev pub line_count : SessionLine → ℕ
line_count (Whole r) = 1
line_count (More m) = m.count
line_count (Left m) = m.count

-- how many segments lines stand for (own)
abbrev pub lines_count : List SessionLine → ℕ
lines_count [] = 0
lines_count (l ∷ ls) = line_count l + lines_count ls

-- the words of a run: how many segments it has, and the key that all are under with what is said of
-- all; if that isn't the same of all, as where its two directions differ, they are as above (own)
abbrev pub run_label : RungRun → List ℕ
run_label m =
    32 ∷ decimal m.count ++ (codes " more"
    ++ (if m.even then run_words m.first else codes ", as above"))
