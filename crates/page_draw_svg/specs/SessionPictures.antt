-- The picture of a session in SVG, 800 wide: its two ends as upright strokes, a row of 24 for each
-- line, that of a segment with an arrow from the end that sends to the one that receives. Our own
-- format. Its tops are `session_svg` and `session_as`.
use Rattle.std.specs.Prelude.{ℕ, ◌+◌, ◌*◌, ◌/◌, ◌%◌, List, [], ◌∷◌, ◌++◌, length, codes, decimal}
use Rattle.std.specs.Prelude.{true, false, nat_lt, flat_map, Option, Some, None, option_map}
use Rattle.std.specs.Prelude.{if◌then◌else◌}
use Rattle.std.specs.List.{list_any}
use Rattle.book_base.specs.declared.end.End.{End}
use Rattle.book_base.specs.declared.end.End.TheVariants.{A, B}
use Rattle.book_lines.specs.Texts.{spaced}
use Rattle.book_link.specs.Worlds.{same_end, other}
use Rattle.book_scope_texts.specs.Instants.{instant_text}
use Rattle.book_sessions.specs.declared.outcome.SegmentOutcome.{SegmentOutcome}
use Rattle.book_sessions.specs.declared.outcome.SegmentOutcome.TheVariants as outcome
use Rattle.book_sessions.specs.Sessions.{same_id}
use Rattle.book_draw.specs.declared.fold.RungRun.{RungRun}
use Rattle.book_draw.specs.declared.fold.SessionLine.{SessionLine}
use Rattle.book_draw.specs.declared.fold.SessionLine.TheVariants.{Whole, More, Left}
use Rattle.book_draw.specs.declared.session_rung.SessionEnds.{SessionEnds}
use Rattle.book_draw.specs.declared.session_rung.SessionRung.{SessionRung}
use Rattle.book_draw.specs.declared.span.DrawnTime.{DrawnTime}
use Rattle.book_draw.specs.declared.span.LeftRun.{LeftRun}
use Rattle.book_draw.specs.Folds.{lines_and_left, run_label}
use Rattle.book_draw.specs.SessionLadders.{end_name, said_texts, reached_end, rung_label}
use Rattle.book_draw.specs.SessionLadders.{left_text, session_ladder, time_margin}
use Rattle.book_draw.specs.SessionRungs.{rungs_of_session, session_at, sessions_drawn}
use Rattle.book_draw.specs.Times.{left_out, left_runs, left_words, rungs_within}
use Rattle.page_draw_svg.specs.declared.form.LadderForm.{LadderForm}
use Rattle.page_draw_svg.specs.declared.form.LadderForm.TheVariants.{Text, Picture}
use Rattle.page_svg.specs.Tags.{colour_text, head_svg, line_tag, titled_tag, words_tag}

-- the height of a row, from above (own)
abbrev pub rung_height : (row : ℕ) → ℕ
rung_height row = 24 * row + 116

-- the height of the words on the arrow of a row (own)
abbrev pub rung_label_height : (row : ℕ) → ℕ
rung_label_height row = 24 * row + 111

-- the height of the words beside a row (own)
abbrev pub rung_margin_height : (row : ℕ) → ℕ
rung_margin_height row = 24 * row + 120

-- the column of an end's stroke (own)
abbrev pub upright_column : End → ℕ
upright_column A = 230
upright_column B = 570

-- the column of the words beside an end (own)
abbrev pub rung_margin_column : End → ℕ
rung_margin_column A = 222
rung_margin_column B = 578

-- the column of the words on an arrow, at the side of this end (own)
abbrev pub rung_label_column : End → ℕ
rung_label_column A = 240
rung_label_column B = 560

-- the dashes of an arrow: none of a segment that is verified, short ones of one that is right under
-- numbers that were only seen, long ones of another one (SVG 2, section 13.5.6, own)
abbrev pub outcome_dashes : SegmentOutcome → List ℕ
outcome_dashes outcome.Verified = []
outcome_dashes (outcome.Refused why) = codes " stroke-dasharray=\"12 5\""
outcome_dashes outcome.NoNode = codes " stroke-dasharray=\"12 5\""
outcome_dashes outcome.TooMany = codes " stroke-dasharray=\"12 5\""
outcome_dashes outcome.Unconfirmed = codes " stroke-dasharray=\"2 4\""
outcome_dashes (outcome.UnconfirmedRefused why) = codes " stroke-dasharray=\"12 5\""
outcome_dashes outcome.CutOff = codes " stroke-dasharray=\"12 5\""

-- a segment in its row, from 0 (own)
pub record RungInRow : Type 0 where
  pub row : ℕ
  pub rung : SessionRung

-- a segment in this row (own)
abbrev pub rung_in_row : (row : ℕ) → SessionRung → RungInRow
rung_in_row row r = record { row = row; rung = r }

-- a line in its row, from 0 (own)
pub record LineInRow : Type 0 where
  pub row : ℕ
  pub line : SessionLine

-- a line in this row (own)
abbrev pub line_in_row : (row : ℕ) → SessionLine → LineInRow
line_in_row row l = record { row = row; line = l }

-- lines in their rows, the first one in this row (own)
abbrev pub rows_from : (row : ℕ) → List SessionLine → List LineInRow
rows_from row [] = []
rows_from row (l ∷ ls) = line_in_row row l ∷ rows_from (row + 1) ls

-- lines in their rows (own)
abbrev pub session_rows : List SessionLine → List LineInRow
session_rows ls = rows_from 0 ls

-- the line of a row (own)
abbrev pub line_of_row : LineInRow → SessionLine
line_of_row p = p.line

-- the arrow of a row to this end (own)
abbrev pub rung_arrow_svg : End → (row : ℕ) → SegmentOutcome → List ℕ
rung_arrow_svg at row said =
    line_tag (record { x = upright_column (other at); y = rung_height row })
    (record { x = upright_column at; y = rung_height row })
    (codes " marker-end=\"url(#tip)\"" ++ outcome_dashes said)

-- the words on the arrow of a row, at the side of the end that sends (own)
abbrev pub rung_label_svg : (sender : End) → (row : ℕ) → (words : List ℕ) → List ℕ
rung_label_svg sender row words =
    words_tag (record { x = rung_label_column sender; y = rung_label_height row })
    (same_end sender B) words

-- the words beside an end in a row (own)
abbrev pub rung_margin_svg : End → (row : ℕ) → (words : List ℕ) → List ℕ
rung_margin_svg e row words =
    words_tag (record { x = rung_margin_column e; y = rung_margin_height row }) (same_end e A) words

-- the number of a packet at the left of its row (own)
abbrev pub rung_packet_svg : (row packet : ℕ) → List ℕ
rung_packet_svg row packet =
    words_tag (record { x = 8; y = rung_margin_height row }) false (decimal packet)

-- what is drawn of a segment that comes to this end: its arrow with its words, what is said of it,
-- when it was seen, beside the end that sends, and the number of its packet (own)
unfoldable pub rung_drawing_svg : End → RungInRow → List ℕ
rung_drawing_svg at p =
    rung_arrow_svg at p.row p.rung.outcome
    ++ (rung_label_svg (other at) p.row (rung_label p.rung)
    ++ (rung_margin_svg at p.row (spaced (said_texts p.rung.outcome))
    ++ (rung_margin_svg (other at) p.row (time_margin p.rung.time)
    ++ rung_packet_svg p.row p.rung.packet)))

-- the numbers of a segment: that of its packet, how many nanoseconds of its second had passed, its
-- sequence number, and what its acknowledgement field says (RFC 9293, section 3.1, own)
unfoldable pub rung_numbers : SessionRung → List ℕ
rung_numbers r =
    spaced (codes "packet" ∷ decimal r.packet ∷ codes "ns" ∷ decimal (r.time % 1000000000)
    ∷ codes "seq" ∷ decimal r.sequence ∷ codes "ack" ∷ decimal r.acknowledgement ∷ [])

-- the title of a segment: when it was seen, its numbers, what is on its arrow, and what is said of
-- it (own)
unfoldable pub rung_title : SessionRung → List ℕ
rung_title r =
    instant_text (r.time / 1000000000)
    ++ (rung_numbers r ++ (rung_label r ++ spaced (said_texts r.outcome)))

-- the KeyID of a segment, if it has one (RFC 5925, section 2.2)
abbrev pub key_said : SessionRung → Option ℕ
key_said r = option_map (λ ids. ids.key_id) r.ids

-- the element of a segment between these ends, in the colour of its KeyID (own)
unfoldable pub rung_svg : SessionEnds → RungInRow → List ℕ
rung_svg e p =
    titled_tag (codes "segment") (colour_text (key_said p.rung))
    (rung_title p.rung) (rung_drawing_svg (reached_end e p.rung) p)

-- the title of a run: its first packet and its last one, when they were seen, and its words (own)
unfoldable pub run_title : RungRun → List ℕ
run_title m =
    (codes "packets " ++ decimal m.first.packet) ++ ((codes " to " ++ decimal m.last.packet)
    ++ (time_margin m.first.time ++ (codes " to" ++ (time_margin m.last.time ++ run_label m))))

-- what is drawn of a run in its row: its words between the ends, when its first segment was seen,
-- when its last one was, with the number of its packet, and the number of the first packet (own)
unfoldable pub run_drawing_svg : (row : ℕ) → RungRun → List ℕ
run_drawing_svg row m =
    words_tag (record { x = rung_label_column A; y = rung_margin_height row }) false (run_label m)
    ++ (rung_margin_svg A row (time_margin m.first.time)
    ++ (rung_margin_svg B row (time_margin m.last.time ++ (32 ∷ decimal m.last.packet))
    ++ rung_packet_svg row m.first.packet))

-- the element of a run in its row (own)
abbrev pub run_svg : (row : ℕ) → RungRun → List ℕ
run_svg row m =
    titled_tag (codes "more") (colour_text None) (run_title m) (run_drawing_svg row m)

-- the element of segments that are left out, in its row: its words between the ends (own)
abbrev pub left_svg : (row : ℕ) → LeftRun → List ℕ
left_svg row m =
    titled_tag (codes "left-out") (colour_text None) (left_words m)
    (words_tag (record { x = rung_label_column A; y = rung_margin_height row }) false
    (left_words m))

-- the element of a line between these ends in its row (own)
abbrev pub line_element : SessionEnds → (row : ℕ) → SessionLine → List ℕ
line_element e row (Whole r) = rung_svg e (rung_in_row row r)
line_element e row (More m) = run_svg row m
line_element e row (Left m) = left_svg row m

-- the same, of a line in its row (own)
abbrev pub session_line_svg : SessionEnds → LineInRow → List ℕ
session_line_svg e p = line_element e p.row p.line

-- the tip of an arrow (SVG 2, section 13.7, own)
unfoldable pub arrow_tip_svg : List ℕ
arrow_tip_svg =
    codes "<defs><marker id=\"tip\" viewBox=\"0 0 10 10\" refX=\"9\" refY=\"5\" "
    ++ (codes "markerUnits=\"userSpaceOnUse\" markerWidth=\"10\" markerHeight=\"10\" "
    ++ codes "orient=\"auto\"><path d=\"M0 0L10 5L0 10z\" stroke=\"none\"/></marker></defs>\n")

-- the sample of a stroke, in this column, with its name (own)
unfoldable pub outcome_sample_svg : (column : ℕ) → SegmentOutcome → (name : List ℕ) → List ℕ
outcome_sample_svg column said name =
    line_tag (record { x = column; y = 20 }) (record { x = column + 50; y = 20 })
    (codes " stroke=\"#000\"" ++ outcome_dashes said)
    ++ words_tag (record { x = column + 60; y = 24 }) false name

-- the strokes and their names (own)
unfoldable pub outcome_samples_svg : List ℕ
outcome_samples_svg =
    outcome_sample_svg 20 outcome.Verified (codes "verified")
    ++ (outcome_sample_svg 170 outcome.Unconfirmed (codes "unconfirmed")
    ++ outcome_sample_svg 340 outcome.NoNode (codes "refused, or not judged"))

-- the keys that are known, after a segment (own)
abbrev pub and_key : List (Option ℕ) → SessionRung → List (Option ℕ)
and_key known r =
    if list_any (same_id (key_said r)) known then known else known ++ key_said r ∷ []

-- the keys that are known, after segments (own)
abbrev pub keys_after : List (Option ℕ) → List SessionRung → List (Option ℕ)
keys_after known [] = known
keys_after known (r ∷ rs) = keys_after (and_key known r) rs

-- the keys of segments, in the order of their first ones; none is that of a segment without one
-- (own)
abbrev pub keys_drawn : List SessionRung → List (Option ℕ)
keys_drawn rs = keys_after [] rs

-- the name of a key (own)
abbrev pub key_name : Option ℕ → List ℕ
key_name None = codes "no key"
key_name (Some id) = codes "key " ++ decimal id

-- the sample of a key's colour, in this place, with its name (own)
unfoldable pub key_sample_svg : (place : ℕ) → Option ℕ → List ℕ
key_sample_svg place key =
    line_tag (record { x = 96 * place + 20; y = 44 }) (record { x = 96 * place + 50; y = 44 })
    (codes " stroke=\"" ++ (colour_text key ++ codes "\""))
    ++ words_tag (record { x = 96 * place + 56; y = 48 }) false (key_name key)

-- the samples of keys, the first one in this place; eight stand side by side, and more are left out
-- (own)
abbrev pub key_samples_from : (place : ℕ) → List (Option ℕ) → List ℕ
key_samples_from place [] = []
key_samples_from place (key ∷ keys) =
    if nat_lt place 8 then key_sample_svg place key ++ key_samples_from (place + 1) keys else []

-- the upright stroke of an end, of this height (own)
abbrev pub session_upright_svg : (height : ℕ) → End → List ℕ
session_upright_svg height e =
    line_tag (record { x = upright_column e; y = 94 }) (record { x = upright_column e; y = height })
    (codes " stroke=\"#000\"")

-- the two ends, of this height, with their names above them (own)
unfoldable pub session_uprights_svg : SessionEnds → (height : ℕ) → List ℕ
session_uprights_svg e height =
    session_upright_svg height A
    ++ (session_upright_svg height B
    ++ (words_tag (record { x = 200; y = 72 }) false (end_name e.left)
    ++ words_tag (record { x = 600; y = 88 }) true (end_name e.right)))

-- what stands in front of the elements of so many lines, of segments with these keys (own)
unfoldable pub session_front_svg : SessionEnds → List (Option ℕ) → (count : ℕ) → List ℕ
session_front_svg e keys count =
    head_svg (rung_height count) ++ (arrow_tip_svg ++ (outcome_samples_svg
    ++ (key_samples_from 0 keys ++ session_uprights_svg e (rung_height count))))

-- the picture of lines of a session between these ends, whose segments have these keys (own)
unfoldable pub session_lines_picture : SessionEnds → List (Option ℕ) → List SessionLine → List ℕ
session_lines_picture e keys ls =
    session_front_svg e keys (length ls)
    ++ (flat_map (session_line_svg e) (session_rows ls) ++ codes "</svg>\n")

-- the picture of the segments of a session that are drawn between these ends, and of those that are
-- left out (own)
abbrev pub session_picture : SessionEnds → List SessionRung → List LeftRun → List ℕ
session_picture e rs left = session_lines_picture e (keys_drawn rs) (lines_and_left e rs left)

-- the same, where there is a session (own)
abbrev pub picture_between : Option SessionEnds → List SessionRung → List LeftRun → List ℕ
picture_between None rs left = []
picture_between (Some e) rs left = session_picture e rs left

-- the picture of segments of a session between these ends, of those within a time (own)
abbrev pub picture_within : DrawnTime → Option SessionEnds → List SessionRung → List ℕ
picture_within t e rs = picture_between e (rungs_within t rs) (left_runs t (left_out t rs))

-- the picture of the session of this number within a time (own)
abbrev pub session_svg : DrawnTime → (number : ℕ) → List SessionRung → List ℕ
session_svg t number rs =
    picture_within t (session_at number (sessions_drawn rs)) (rungs_of_session number rs)

-- the session of this number within a time, drawn in a form (own)
abbrev pub session_as : LadderForm → DrawnTime → (number : ℕ) → List SessionRung → List ℕ
session_as Text t number rs =
    session_ladder t number rs ++ left_text t (left_out t (rungs_of_session number rs))
session_as Picture t number rs = session_svg t number rs
