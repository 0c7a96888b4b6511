use Rattle.std.proofs.Common.{◌<◌, ◌∙◌, sym, arith}
use Rattle.scope_texts.proofs.WordLaws.{ends_one, ends_other, not_false, not_true, parted_more, parts_one, parts_other}
use Rattle.scope_texts.proofs.suggestions.common_length.Goals as goal

pub returns-then-differ_at-clause-one : goal.returns-then-differ_at-clause-one
returns-then-differ_at-clause-one c =
    let at = c.loop-at.at in
    let most = c.min-most.ensures in
    let before : at < c.min-most.result = c.loop-at-test.true in
    parts_one c.args.one.now c.args.other.now at _ (omega (arith, most, before)) (omega (arith, most, before)) (not_true _ (sym c.differ_at.ensures ∙ c.if-differ_at.true)) c.loop-at.invariant.so_far

pub returns-then-differ_at-clause-other : goal.returns-then-differ_at-clause-other
returns-then-differ_at-clause-other c =
    let at = c.loop-at.at in
    let most = c.min-most.ensures in
    let before : at < c.min-most.result = c.loop-at-test.true in
    parts_other c.args.one.now c.args.other.now at _ (omega (arith, most, before)) (omega (arith, most, before)) (not_true _ (sym c.differ_at.ensures ∙ c.if-differ_at.true)) c.loop-at.invariant.so_far

pub loop-at-preserved : goal.loop-at-preserved
loop-at-preserved c =
    let at = c.loop-at.at in
    let most = c.min-most.ensures in
    let before : at < c.min-most.result = c.loop-at-test.true in
    record {
      so_far = parted_more c.args.one.now c.args.other.now at (omega (arith, most, before)) (omega (arith, most, before)) (not_false _ (sym c.differ_at.ensures ∙ c.if-differ_at.false)) ∙ c.loop-at.invariant.so_far;
      within = omega (arith, before);
    }

pub returns-clause-one : goal.returns-clause-one
returns-clause-one c = ends_one c.args.one.now c.args.other.now c.loop-at.at c.min-most.result _ c.min-most.ensures c.loop-at-test.false c.loop-at.invariant.within c.loop-at.invariant.so_far

pub returns-clause-other : goal.returns-clause-other
returns-clause-other c = ends_other c.args.one.now c.args.other.now c.loop-at.at c.min-most.result _ c.min-most.ensures c.loop-at-test.false c.loop-at.invariant.within c.loop-at.invariant.so_far
