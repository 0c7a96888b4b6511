use Rattle.std.proofs.Common.{◌≡◌, length, ◌∙◌, sym, arith}
use Rattle.link_report.proofs.LogLaws.{segments_kept}
use Rattle.link_report.proofs.log.Log.made.Goals as goal

pub returns-clause-segments : goal.returns-clause-segments
returns-clause-segments c history h =
    let kept = c.args.self.now.kept.items in
    let long : c.len.result ≡ length kept = omega (arith, c.len.ensures) in
    long ∙ sym (segments_kept kept history h.keeps)
