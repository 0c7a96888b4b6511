use Rattle.std.proofs.Common.{refl, ◌∙◌, arith}
use Rattle.book_segments.proofs.Walks.{goes, leads}
use Rattle.tcp_segment.proofs.KindLaws.{kind_first, kind_passed}
use Rattle.tcp_segment.proofs.ao.first_of.Goals as goal

pub returns-then-option-kind : goal.returns-then-option-kind
returns-then-option-kind c =
    let i = c.loop-option.invariant in
    kind_first c.args.kind c.args.from c.loop-option.place c.args.area.now c.loop-option.rest.now _ c.in-Leading.size i.2 i.1 i.0 c.in-Leading.ensures c.if-option-kind.true refl refl

pub loop-option-preserved : goal.loop-option-preserved
loop-option-preserved c =
    let i = c.loop-option.invariant in
    let l = leads c.loop-option.rest.now _ _ _ _ c.in-Leading.ensures in (
      omega (arith, l.sizes, i.0),
      (goes c.loop-option.place c.loop-option.rest.now _ _ _ _ c.in-Leading.ensures i.1).behind,
      kind_passed c.args.kind c.loop-option.place c.loop-option.rest.now _ _ _ _ c.in-Leading.ensures i.1 c.if-option-kind.false ∙ i.2,
    )
