-- Which segments of a session are drawn where a time is asked for: those seen within it; and how
-- many are left out. Our own choice of them. Its tops are `rungs_within` and `left_out`.
use Rattle.std.specs.Prelude.{ℕ, ◌/◌, ◌==◌, ◌&&◌, min, nat_lt, not, Bool, codes, decimal, length}
use Rattle.std.specs.Prelude.{List, [], ◌∷◌, ◌++◌, if◌then◌else◌}
use Rattle.std.specs.List.{filter}
use Rattle.book_scope_texts.specs.Instants.{instant_text}
use Rattle.book_draw.specs.declared.session_rung.SessionRung.{SessionRung}
use Rattle.book_draw.specs.declared.span.DrawnTime.{DrawnTime}
use Rattle.book_draw.specs.declared.span.LeftOut.{LeftOut}
use Rattle.book_draw.specs.declared.span.LeftRun.{LeftRun}
use Rattle.book_draw.specs.declared.span.LeftSide.{LeftSide}
use Rattle.book_draw.specs.declared.span.LeftSide.TheVariants.{Before, After}

-- a segment was seen before the first second of a time (own)
abbrev pub is_early : DrawnTime → SessionRung → Bool
is_early t r = nat_lt (r.time / 1000000000) t.from

-- a segment was seen after the last second of a time (own)
abbrev pub is_late : DrawnTime → SessionRung → Bool
is_late t r = not (is_early t r) && nat_lt t.to (r.time / 1000000000)

-- a segment was seen within a time (own)
abbrev pub is_timely : DrawnTime → SessionRung → Bool
is_timely t r = not (is_early t r) && not (is_late t r)

-- the segments that were seen within a time (own)
abbrev pub rungs_within : DrawnTime → List SessionRung → List SessionRung
rungs_within t rs = filter (is_timely t) rs

-- how many segments pass a test, up to the greatest number of 64 bits (own)
abbrev pub rungs_counted : (SessionRung → Bool) → List SessionRung → ℕ
rungs_counted test rs = min (length (filter test rs)) 18446744073709551615

-- how many segments a time leaves out (own)
abbrev pub left_out : DrawnTime → List SessionRung → LeftOut
left_out t rs = record {
  before = rungs_counted (is_early t) rs;
  after = rungs_counted (is_late t) rs;
}

-- the word for a side of a time (own)
abbrev pub side_word : LeftSide → List ℕ
side_word Before = codes " before "
side_word After = codes " after "

-- the noun for so many segments (own)
abbrev pub segments_word : (count : ℕ) → List ℕ
segments_word count = if count == 1 then codes " segment" else codes " segments"

-- the words of segments that are left out: how many, and before or after which time (own)
abbrev pub left_words : LeftRun → List ℕ
left_words m =
    decimal m.count ++ (segments_word m.count ++ (side_word m.side ++ instant_text m.time))

-- the segments that are left out on a side of this second, where there is one (own)
abbrev pub left_at : LeftSide → (count time : ℕ) → List LeftRun
left_at side count time =
    if count == 0 then [] else record { side = side; count = count; time = time } ∷ []

-- the segments that a time leaves out, side by side (own)
abbrev pub left_runs : DrawnTime → LeftOut → List LeftRun
left_runs t n = left_at Before n.before t.from ++ left_at After n.after t.to
