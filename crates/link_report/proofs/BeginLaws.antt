-- A session that begins at an end that stands for its sessions.
use Rattle.std.proofs.Common.{◌≡◌, ℕ, Bool, true, false, List, [], ◌∷◌, ◌++◌, map, reverse, Option, Some, None, refl, sym, ap, ◌∙◌, subst}
use Rattle.std.specs.Prelude.{is_some}
use Rattle.std.proofs.lemmas.List.{map-append, reverse-append}
use Rattle.book_base.specs.declared.end.End.{End}
use Rattle.book_endpoint.specs.States.{EndState}
use Rattle.book_link.specs.Outcomes.{Done, IsnUsed}
use Rattle.book_link.specs.Steps.{Stepped, begin, begin_new, put, with_sessions}
use Rattle.book_link.specs.Worlds.{Session, World, LinkSide as EndSide, find, side as side_of}
use Rattle.link_report.specs.declared.sessions.Ended.{Ended}
use Rattle.link_report.specs.declared.sessions.Live.{Live}
use Rattle.link_report.specs.declared.side.Side.{Side}
use Rattle.link_report.specs.Sides.{facts_of, kept_facts, Sessions, StandsSide}
use Rattle.link_report.specs.Steps.{Moved}
use Rattle.link_report.proofs.ActLaws.{live_is, moved_put}
use Rattle.tcp_endpoint.specs.Ends.{Stands}

-- the end with one more session
abbrev pub with_begun : EndSide → EndState → EndSide
with_begun m s = with_sessions m (record { state = s; end_shown = false } ∷ m.sessions)

begun_if : (w : World) (at : End) (s : EndState) (o : Option Session) → false ≡ is_some o
    → begin w at s o ≡ record { world = put w at (with_begun (side_of w at) s) None; outcome = Done }
begun_if w at s None e = refl
begun_if w at s (Some t) e = absurd (cc)

-- a new session begins where its initial sequence number wasn't used
pub moved_begun : (w : World) (at : End) (s : EndState) (isn : ℕ) (d' : Side) → s.isn ≡ isn → false ≡ is_some (find (side_of w at).sessions isn)
    → StandsSide d' (with_begun (side_of w at) s) → Moved w (begin_new w at s) at d' Done
moved_begun w at s isn d' is unused stands =
    let e : false ≡ is_some (find (side_of w at).sessions s.isn) = rw is unused in
    rw (begun_if w at s (find (side_of w at).sessions s.isn) e) (moved_put w at (with_begun (side_of w at) s) Done d' stands)

-- the facts of what is dropped, the newest in front
onto : (e : Ended) (ds : List Ended) → reverse (map kept_facts (ds ++ e ∷ [])) ≡ kept_facts e ∷ reverse (map kept_facts ds)
onto e ds = ap reverse (map-append kept_facts ds (e ∷ [])) ∙ reverse-append (map kept_facts ds) (kept_facts e ∷ [])

-- a later session: the one before it is dropped
pub next_begun : (d d' : Side) (m : EndSide) (old l : Live) (e : Ended) (s : EndState) → StandsSide d m → d.live ≡ Some old
    → d'.live ≡ Some l → d'.clock ≡ d.clock → d'.table.rows ≡ d.table.rows → d'.dropped.items ≡ d.dropped.items ++ e ∷ []
    → ((t : Session) → Stands old.endpoint t.state → old.end_shown ≡ t.end_shown → kept_facts e ≡ facts_of t)
    → Stands l.endpoint s → l.end_shown ≡ false → StandsSide d' (with_begun m s)
next_begun d d' m old l e s h was now clock rows dropped facts stands shown =
    let k = live_is d m old was h in
    let f : kept_facts e ≡ facts_of k.session = facts k.session k.stands k.shown in
    record {
      clock = h.clock ∙ sym clock;
      rows = h.rows ∙ sym rows;
      sessions = rw (now, k.are, dropped) (stands, shown, rw (k.facts, sym f) (sym (onto e d.dropped.items)));
    }
