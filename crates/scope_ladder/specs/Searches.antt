-- What the search for a session knows (own).
use Rattle.std.specs.Prelude.{◌≡◌, ℕ, true, List, [], ◌∷◌, ◌++◌, length, Option, Some, None, Result, Ok, Err}
use Rattle.std.specs.Prelude.{is_some, if◌then◌else◌}
use Rattle.book_draw.specs.declared.session_rung.SessionEnds.{SessionEnds}
use Rattle.book_draw.specs.declared.session_rung.SessionRung.{SessionRung}
use Rattle.book_draw.specs.declared.span.DrawnTime.{DrawnTime}
use Rattle.book_draw.specs.declared.span.LeftOut.{LeftOut}
use Rattle.book_draw.specs.Folds.{counted_on}
use Rattle.book_draw.specs.SessionLadders.{ends_text, left_text, session_ladder, session_rung_text}
use Rattle.book_draw.specs.SessionRungs.{rungs_of_session, session_at, sessions_drawn}
use Rattle.book_draw.specs.Times.{is_early, is_late, is_timely, left_runs, rungs_within}
use Rattle.page_draw_svg.specs.declared.form.LadderForm.{LadderForm}
use Rattle.page_draw_svg.specs.declared.form.LadderForm.TheVariants.{Text, Picture}
use Rattle.page_draw_svg.specs.SessionPictures.{picture_between}
use Rattle.scope_ladder.specs.declared.draw.LadderHalt.{LadderHalt}
use Rattle.scope_ladder.specs.declared.draw.LadderHalt.TheVariants.{NoSession}
use Rattle.scope_ladder.specs.declared.search.Search.{Search}
use Rattle.scope_ladder.specs.declared.search.Shown.{Shown}
use Rattle.scope_ladder.specs.declared.search.Shown.TheVariants.{Nothing, First, Later}

-- the sockets of the session, if they are found, behind these segments; else no session has its number,
-- and these are all that are known (own)
abbrev pub SeeksBy : Option SessionEnds → ℕ → List SessionEnds → List SessionRung → Type 0
SeeksBy (Some e) number known rs = session_at number (sessions_drawn rs) ≡ Some e
SeeksBy None number known rs =
    (session_at number (sessions_drawn rs) ≡ None) × (known ≡ sessions_drawn rs)

-- the search is behind these segments (own)
abbrev pub Seeks : Search → List SessionRung → Type 0
Seeks s rs = SeeksBy s.found s.number s.known rs

-- the text of a segment between these ends, where it was seen within a time (own)
abbrev pub timely_text : DrawnTime → SessionEnds → SessionRung → List ℕ
timely_text t e r = if is_timely t r then session_rung_text e r else []

-- what is drawn of a segment (own)
abbrev pub shown_text : DrawnTime → Shown → SessionRung → List ℕ
shown_text t Nothing r = []
shown_text t (First e) r = ends_text e ++ timely_text t e r
shown_text t (Later e) r = timely_text t e r

-- the segments of the session that is drawn, of this one (own)
abbrev pub shown_rungs : Shown → SessionRung → List SessionRung
shown_rungs Nothing r = []
shown_rungs (First e) r = r ∷ []
shown_rungs (Later e) r = r ∷ []

-- the text that is drawn of a segment in a form: of a picture none, until all is read (own)
abbrev pub shown_as : LadderForm → DrawnTime → Shown → SessionRung → List ℕ
shown_as Text t shown r = shown_text t shown r
shown_as Picture t shown r = []

-- the text that is drawn of these segments in a form, until all is read (own)
abbrev pub flow_as : LadderForm → DrawnTime → (number : ℕ) → List SessionRung → List ℕ
flow_as Text t number rs = session_ladder t number rs
flow_as Picture t number rs = []

-- the segments that are kept of this one in a form: those of a picture (own)
abbrev pub kept_as : LadderForm → DrawnTime → Shown → SessionRung → List SessionRung
kept_as Text t shown r = []
kept_as Picture t shown r = rungs_within t (shown_rungs shown r)

-- the segments that are kept of these ones in a form (own)
abbrev pub kept_in : LadderForm → DrawnTime → (number : ℕ) → List SessionRung → List SessionRung
kept_in Text t number rs = []
kept_in Picture t number rs = rungs_within t (rungs_of_session number rs)

-- how many segments a time leaves out, with this one of the session (own)
abbrev pub left_and : DrawnTime → LeftOut → SessionRung → LeftOut
left_and t n r = record {
  before = if is_early t r then counted_on n.before else n.before;
  after = if is_late t r then counted_on n.after else n.after;
}

-- the same, where the segment is of the session that is drawn (own)
abbrev pub left_with : DrawnTime → Shown → LeftOut → SessionRung → LeftOut
left_with t Nothing n r = n
left_with t (First e) n r = left_and t n r
left_with t (Later e) n r = left_and t n r

-- what is drawn in a form when all is read: how many segments are left out, or the picture of those
-- that are kept (own)
abbrev pub last_as : LadderForm → DrawnTime → LeftOut → Option SessionEnds → List SessionRung → List ℕ
last_as Text t n e kept = left_text t n
last_as Picture t n e kept = picture_between e kept (left_runs t n)

-- whether the session of this number is among those of these segments, or else how many there are (own)
abbrev pub Tells : ℕ → List SessionRung → Result (Unit {0}) LadderHalt → Type 0
Tells number rs (Ok done) = is_some (session_at number (sessions_drawn rs)) ≡ true
Tells number rs (Err (NoSession many)) =
    (session_at number (sessions_drawn rs) ≡ None) × (many ≡ length (sessions_drawn rs))
Tells number rs (Err other) = ⊥
