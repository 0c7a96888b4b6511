use Rattle.std.proofs.Common.{true, false, [], ◌∷◌, ◌++◌, sym, ◌∙◌}
use Rattle.scope_ladder.proofs.Searching.{as_some, from_some, later_seeks, later_rungs, later_text}
use Rattle.scope_ladder.proofs.search.Search.place.Goals as goal

pub returns-then-is_between-clause-seeks : goal.returns-then-is_between-clause-seeks
returns-then-is_between-clause-seeks c rs seeks =
    let s = c.args.self.now in
    from_some s.found c.in-Some.ends s.number s.known (rs ++ c.args.rung.now ∷ []) c.in-Some.is
    (later_seeks s.number s.known rs c.args.rung.now c.in-Some.ends (as_some s.found c.in-Some.ends s.number s.known rs c.in-Some.is seeks))

pub returns-then-is_between-clause-shown : goal.returns-then-is_between-clause-shown
returns-then-is_between-clause-shown c t rs seeks =
    let s = c.args.self.now in
    later_text s.number s.known rs c.args.rung.now c.in-Some.ends (as_some s.found c.in-Some.ends s.number s.known rs c.in-Some.is seeks) true (sym c.is_between.ensures ∙ c.if-is_between.true) t

pub returns-then-is_between-clause-rungs : goal.returns-then-is_between-clause-rungs
returns-then-is_between-clause-rungs c rs seeks =
    let s = c.args.self.now in
    later_rungs s.number s.known rs c.args.rung.now c.in-Some.ends (as_some s.found c.in-Some.ends s.number s.known rs c.in-Some.is seeks) true (sym c.is_between.ensures ∙ c.if-is_between.true)

pub returns-else-is_between-clause-seeks : goal.returns-else-is_between-clause-seeks
returns-else-is_between-clause-seeks c rs seeks =
    let s = c.args.self.now in
    from_some s.found c.in-Some.ends s.number s.known (rs ++ c.args.rung.now ∷ []) c.in-Some.is
    (later_seeks s.number s.known rs c.args.rung.now c.in-Some.ends (as_some s.found c.in-Some.ends s.number s.known rs c.in-Some.is seeks))

pub returns-else-is_between-clause-shown : goal.returns-else-is_between-clause-shown
returns-else-is_between-clause-shown c t rs seeks =
    let s = c.args.self.now in
    later_text s.number s.known rs c.args.rung.now c.in-Some.ends (as_some s.found c.in-Some.ends s.number s.known rs c.in-Some.is seeks) false (sym c.is_between.ensures ∙ c.if-is_between.false) t

pub returns-else-is_between-clause-rungs : goal.returns-else-is_between-clause-rungs
returns-else-is_between-clause-rungs c rs seeks =
    let s = c.args.self.now in
    later_rungs s.number s.known rs c.args.rung.now c.in-Some.ends (as_some s.found c.in-Some.ends s.number s.known rs c.in-Some.is seeks) false (sym c.is_between.ensures ∙ c.if-is_between.false)
