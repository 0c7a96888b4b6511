use Rattle.std.proofs.Common.{◌<◌, ◌+◌, Option, length, drop, ap, ◌∙◌, arith}
use Rattle.shim_pairs.specs.declared.saved.Saved.{Saved}
use Rattle.shim_pairs.specs.Holdings.{all_brought, brought}
use Rattle.shim_pairs.proofs.RekeyLaws.{brought_step}
use Rattle.shim_pairs.proofs.pairs.Pairs.carried.Goals as goal

pub loop-at-preserved : goal.loop-at-preserved
loop-at-preserved c =
    let h = c.args.self.now in
    let lt : c.loop-at.at < length h.entries = let e = c.len-at-end.ensures in let t = c.loop-at-test.true in omega (arith, e, t) in
    ap (all_brought c.args.now h.tables (drop (c.loop-at.at + 1) h.entries)) (c.bring.ensures ∙ ap (λ (s : Option Saved). brought c.args.now s c.loop-at.next) c.saved.ensures)
    ∙ brought_step c.args.now h.tables h.entries c.loop-at.next c.loop-at.at lt ∙ c.loop-at.invariant
