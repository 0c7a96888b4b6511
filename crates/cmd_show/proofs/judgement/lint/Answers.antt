use Rattle.std.proofs.Common.{◌≡◌, ◌↔◌, subst, sym}
use Rattle.book_keys.specs.declared.lint.LintAnswer.{LintAnswer}
use Rattle.book_keys.specs.declared.lint.LintAnswer.TheVariants as answer
use Rattle.book_keys.specs.Plans.{rows_at}
use Rattle.cmd_show.specs.CarriesThrough.{CarriesThrough}
use Rattle.cmd_show.proofs.JudgementLaws.{aligned_exactly}
use Rattle.cmd_show.proofs.judgement.lint.Goals as goal

pub returns-clause-carries_through : goal.returns-clause-carries_through
returns-clause-carries_through c =
    let a = rows_at c.args.tables.now c.args.pair.now.local.address in
    let b = rows_at c.args.tables.now c.args.pair.now.remote.address in
    subst (λ (x : LintAnswer). (x ≡ answer.Aligned) ↔ CarriesThrough a b c.args.pair.now c.args.lead c.args.lag c.args.from c.args.to)
    (sym c.judge.ensures)
    (aligned_exactly a b c.args.pair.now c.args.lead c.args.lag c.args.from c.args.to)
