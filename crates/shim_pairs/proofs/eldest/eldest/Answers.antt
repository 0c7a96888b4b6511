use Rattle.std.proofs.Common.{sym, ap, ◌∙◌, arith}
use Rattle.std.specs.Prelude.{option_map}
use Rattle.shim_pairs.specs.declared.eldest.Aged.{Aged}
use Rattle.shim_pairs.proofs.EldestLaws.{lowest_step, lowest_end, lowest_is_eldest, none_within}
use Rattle.shim_pairs.proofs.eldest.eldest.Goals as goal
use Rattle.shim_pairs.proofs.eldest.eldest.Goals.{in-Some, in-None}

pub loop-at-preserved : goal.loop-at-preserved
loop-at-preserved c =
    let es = c.args.entries.now.entries in let i = c.loop-at.at in
    elim c.match-at.branch [
      | in-None w ↦ absurd (let h = none_within es i w.in-None.ensures in let n = c.len-at-end.ensures.value in let t = c.loop-at-test.true in omega (arith, h, n, t))
      | in-Some w ↦ rw (w.oldest-is, w.elder.ensures) (lowest_step c.loop-at.oldest (w.in-Some.pair.now, w.in-Some.entry.now) es i w.in-Some.ensures ∙ c.loop-at.invariant)
    ]

pub returns-in-None-oldest : goal.returns-in-None-oldest
returns-in-None-oldest c =
    let es = c.args.entries.now.entries in
    let n = c.len-at-end.ensures.value in let t = c.loop-at-test.false in
    ap (option_map (λ (a : Aged). a.pair)) (sym c.in-None-oldest.is ∙ sym (lowest_end c.loop-at.oldest es c.loop-at.at (omega (arith, n, t))) ∙ c.loop-at.invariant) ∙ lowest_is_eldest es

pub returns-in-Some-oldest : goal.returns-in-Some-oldest
returns-in-Some-oldest c =
    let es = c.args.entries.now.entries in
    let n = c.len-at-end.ensures.value in let t = c.loop-at-test.false in
    ap (option_map (λ (a : Aged). a.pair)) (sym c.in-Some-oldest.is ∙ sym (lowest_end c.loop-at.oldest es c.loop-at.at (omega (arith, n, t))) ∙ c.loop-at.invariant) ∙ lowest_is_eldest es
