use Rattle.std.proofs.Common.{[], ◌∷◌, ◌++◌, length, sym, ◌∙◌}
use Rattle.std.proofs.lemmas.Bool.{eq-eqb, ne_eqb}
use Rattle.scope_ladder.proofs.Searching.{as_none, first_seeks, first_rungs, first_text, from_none, known_seeks, known_rungs, known_text, other_seeks, other_rungs, other_text}
use Rattle.scope_ladder.proofs.search.Search.seek.Goals as goal

pub returns-then-has-clause-seeks : goal.returns-then-has-clause-seeks
returns-then-has-clause-seeks c rs seeks none =
    let any = sym c.has.ensures ∙ c.if-has.true in
    let s = c.args.self.now in
    from_none s.found s.number s.known (rs ++ c.args.rung.now ∷ []) none (known_seeks s.number s.known rs c.args.rung.now (as_none s.found s.number s.known rs none seeks) any)

pub returns-then-has-clause-shown : goal.returns-then-has-clause-shown
returns-then-has-clause-shown c t rs seeks none =
    let any = sym c.has.ensures ∙ c.if-has.true in
    let s = c.args.self.now in
    known_text s.number s.known rs c.args.rung.now (as_none s.found s.number s.known rs none seeks) any t

pub returns-then-has-clause-rungs : goal.returns-then-has-clause-rungs
returns-then-has-clause-rungs c rs seeks none =
    let any = sym c.has.ensures ∙ c.if-has.true in
    let s = c.args.self.now in
    known_rungs s.number s.known rs c.args.rung.now (as_none s.found s.number s.known rs none seeks) any

pub returns-then-len-self-clause-seeks : goal.returns-then-len-self-clause-seeks
returns-then-len-self-clause-seeks c rs seeks none =
    let any = sym c.has.ensures ∙ c.if-has.false in
    let s = c.args.self.now in
    let pushed = rw c.ends_of-ends.ensures at c.in_ok-push.ensures in
    rw c.ends_of-ends.ensures (first_seeks s.number s.known rs c.args.rung.now (as_none s.found s.number s.known rs none seeks) c.push.new.self any pushed (eq-eqb (length c.push.new.self) c.args.self.now.number (sym c.len.ensures ∙ c.if-len-self.true)))

pub returns-then-len-self-clause-shown : goal.returns-then-len-self-clause-shown
returns-then-len-self-clause-shown c t rs seeks none =
    let any = sym c.has.ensures ∙ c.if-has.false in
    let s = c.args.self.now in
    let pushed = rw c.ends_of-ends.ensures at c.in_ok-push.ensures in
    rw c.ends_of-ends.ensures (first_text s.number s.known rs c.args.rung.now (as_none s.found s.number s.known rs none seeks) c.push.new.self any pushed (eq-eqb (length c.push.new.self) c.args.self.now.number (sym c.len.ensures ∙ c.if-len-self.true)) t)

pub returns-then-len-self-clause-rungs : goal.returns-then-len-self-clause-rungs
returns-then-len-self-clause-rungs c rs seeks none =
    let any = sym c.has.ensures ∙ c.if-has.false in
    let s = c.args.self.now in
    let pushed = rw c.ends_of-ends.ensures at c.in_ok-push.ensures in
    first_rungs s.number s.known rs c.args.rung.now (as_none s.found s.number s.known rs none seeks) c.push.new.self any pushed (eq-eqb (length c.push.new.self) c.args.self.now.number (sym c.len.ensures ∙ c.if-len-self.true))

pub returns-clause-seeks : goal.returns-clause-seeks
returns-clause-seeks c rs seeks none =
    let any = sym c.has.ensures ∙ c.if-has.false in
    let s = c.args.self.now in
    let pushed = rw c.ends_of-ends.ensures at c.in_ok-push.ensures in
    from_none s.found s.number c.push.new.self (rs ++ c.args.rung.now ∷ []) none
    (other_seeks s.number s.known rs c.args.rung.now (as_none s.found s.number s.known rs none seeks) c.push.new.self any pushed (ne_eqb (length c.push.new.self) c.args.self.now.number (λ same. c.if-len-self.false (c.len.ensures ∙ same))))

pub returns-clause-shown : goal.returns-clause-shown
returns-clause-shown c t rs seeks none =
    let any = sym c.has.ensures ∙ c.if-has.false in
    let s = c.args.self.now in
    let pushed = rw c.ends_of-ends.ensures at c.in_ok-push.ensures in
    other_text s.number s.known rs c.args.rung.now (as_none s.found s.number s.known rs none seeks) c.push.new.self any pushed (ne_eqb (length c.push.new.self) c.args.self.now.number (λ same. c.if-len-self.false (c.len.ensures ∙ same))) t

pub returns-clause-rungs : goal.returns-clause-rungs
returns-clause-rungs c rs seeks none =
    let any = sym c.has.ensures ∙ c.if-has.false in
    let s = c.args.self.now in
    let pushed = rw c.ends_of-ends.ensures at c.in_ok-push.ensures in
    other_rungs s.number s.known rs c.args.rung.now (as_none s.found s.number s.known rs none seeks) c.push.new.self any pushed (ne_eqb (length c.push.new.self) c.args.self.now.number (λ same. c.if-len-self.false (c.len.ensures ∙ same)))
