-- The lines of what is kept of sessions are those of the sessions.
use Rattle.std.proofs.Common.{◌≡◌, ℕ, suc, ◌+◌, List, [], ◌∷◌, ◌++◌, length, map, Some, None, refl, sym, ap, ◌∙◌, subst, arith}
use Rattle.std.specs.Prelude.{reverse}
use Rattle.std.proofs.lemmas.List.{length-map, length-reverse}
use Rattle.book_base.specs.declared.end.End.{End}
use Rattle.book_endpoint.specs.declared.phase.Phase.{Phase}
use Rattle.book_endpoint.specs.States.{EndState}
use Rattle.book_link.specs.Reports.{dropped_lines, phase_text, session_lines}
use Rattle.book_link.specs.Worlds.{Session, LinkSide as EndSide}
use Rattle.link_report.specs.declared.sessions.Ended.{Ended}
use Rattle.link_report.specs.declared.sessions.Live.{Live}
use Rattle.link_report.specs.declared.side.Side.{Side}
use Rattle.link_report.specs.Sides.{Facts, facts_of, kept_facts, Sessions, StandsSide}
use Rattle.tcp_endpoint.specs.Ends.{Stands}
use Rattle.link_report.specs.Lines.{facts_line, kept_lines}

kept_lines-facts : (e : End) (older : List Session) → kept_lines e (map facts_of older) ≡ dropped_lines e older
kept_lines-facts e [] = refl
kept_lines-facts e (s ∷ older) =
    let count : length (map facts_of older) ≡ length older = length-map older facts_of in
    rw (count, kept_lines-facts e older) refl

line_is : (e : End) (i j : ℕ) (p q : List ℕ) (f g : Facts) → i ≡ j → p ≡ q → f ≡ g → facts_line e i p f ≡ facts_line e j q g
line_is e i j p q f g a b c =
    ap (λ x. facts_line e x p f) a ∙ ap (λ x. facts_line e j x f) b ∙ ap (λ x. facts_line e j q x) c

-- what is told of a live session: its facts, and its phase
pub record TellsLive (l : Live) (facts : Ended) (phase : Phase) : Type 0 where
  pub facts_are : (s : Session) → Stands l.endpoint s.state → l.end_shown ≡ s.end_shown → kept_facts facts ≡ facts_of s
  pub phase_is : (s : EndState) → Stands l.endpoint s → phase ≡ s.phase

some_lines : (e : End) (l : Live) (d : Ended) (phase : Phase) (ds : List Ended) (sessions : List Session) → TellsLive l d phase → Sessions (Some l) ds sessions
    → kept_lines e (reverse (map kept_facts ds)) ++ facts_line e (length ds + 1) (phase_text phase) (kept_facts d) ≡ session_lines e sessions
some_lines e l d phase ds [] t h = absurd h
some_lines e l d phase ds (s ∷ older) t h =
    let facts : kept_facts d ≡ facts_of s = t.facts_are s h.0 h.1 in
    let same : map facts_of older ≡ reverse (map kept_facts ds) = h.2 in
    let dropped : kept_lines e (reverse (map kept_facts ds)) ≡ dropped_lines e older = ap (kept_lines e) (sym same) ∙ kept_lines-facts e older in
    let old : length (map facts_of older) ≡ length older = length-map older facts_of in
    let kept : length (map kept_facts ds) ≡ length ds = length-map ds kept_facts in
    let turned : length (reverse (map kept_facts ds)) ≡ length (map kept_facts ds) = length-reverse (map kept_facts ds) in
    let index : length ds + 1 ≡ suc (length older) = let k = ap length same in omega arith in
    let words : phase_text phase ≡ phase_text s.state.phase = ap phase_text (t.phase_is s.state h.0) in
    ap (λ k. k ++ facts_line e (length ds + 1) (phase_text phase) (kept_facts d)) dropped
    ∙ ap (λ k. dropped_lines e older ++ k) (line_is e (length ds + 1) (suc (length older)) (phase_text phase) (phase_text s.state.phase) (kept_facts d) (facts_of s) index words facts)

-- the lines of an end that has a live session
pub lines_of_some : (e : End) (side : Side) (m : EndSide) (l : Live) (d : Ended) (phase : Phase) → side.live ≡ Some l → TellsLive l d phase → StandsSide side m
    → kept_lines e (reverse (map kept_facts side.dropped.items)) ++ facts_line e (length side.dropped.items + 1) (phase_text phase) (kept_facts d) ≡ session_lines e m.sessions
lines_of_some e side m l d phase some t h =
    some_lines e l d phase side.dropped.items m.sessions t (subst (λ o. Sessions o side.dropped.items m.sessions) some h.sessions)

no_lines : (e : End) (ds : List Ended) (sessions : List Session) → Sessions None ds sessions → session_lines e sessions ≡ []
no_lines e ds [] h = refl
no_lines e ds (s ∷ older) h = absurd h

-- an end that has no live session has no lines
pub lines_of_none : (e : End) (side : Side) (m : EndSide) → side.live ≡ None → StandsSide side m → session_lines e m.sessions ≡ []
lines_of_none e side m none h =
    no_lines e side.dropped.items m.sessions (subst (λ o. Sessions o side.dropped.items m.sessions) none h.sessions)
