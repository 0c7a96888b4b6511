use Rattle.std.proofs.Common.{◌≡◌, ◌<◌, ◌-◌, ℕ, length, get_or, refl, ◌∙◌, ap, subst, arith}
use Rattle.std.proofs.lemmas.Option.{slice_get_read}
use Rattle.book_link.specs.Worlds.{segment_named}
use Rattle.link_report.specs.declared.kept.Kept.{Kept}
use Rattle.link_report.specs.Logs.{MadeBy}
use Rattle.link_report.proofs.LogLaws.{made_by_at}
use Rattle.link_report.proofs.log.Log.maker.Goals as goal

pub returns : goal.returns
returns c history h =
    let kept = c.args.self.now.kept.items in
    let k = c.index-as_slice-name.result in
    let i : ℕ = c.args.name - 1 in
    let low = c.requires.low in
    let most = c.requires.high in
    let within : i < length kept = omega (arith, low, most) in
    let is : k ≡ get_or kept i k = c.index-as_slice-name.is ∙ ap (λ xs. get_or xs i k) c.as_slice.ensures.value in
    subst (λ (x : Kept). MadeBy x.entry.maker (segment_named c.args.name history)) c.index-as_slice-name.is
    (made_by_at kept history c.args.name k c.requires.low (slice_get_read kept (length kept) i k refl within is) h.keeps)
