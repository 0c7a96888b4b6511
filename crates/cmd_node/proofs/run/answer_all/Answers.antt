use Rattle.std.proofs.Common.{◌≡◌, List, length, All, ap, subst, sym, ◌∙◌, arith}
use Rattle.std.proofs.lemmas.List.Elements.{All-get_or}
use Rattle.book_cmd_node.specs.declared.node.NodeEvent.{NodeEvent}
use Rattle.book_cmd_node.specs.NodeRuns.{most_ends, no_ends, node_from, node_text}
use Rattle.cmd_node.specs.Scripts.{IsEvent}
use Rattle.stack_ends.specs.EndsStands.{HoldsAs}
use Rattle.cmd_node.proofs.RunLaws.{running_first, running_more, all_run}
use Rattle.cmd_node.proofs.StepLaws.{fits_all}
use Rattle.cmd_node.proofs.run.answer_all.Goals as goal

pub loop-i-init : goal.loop-i-init
loop-i-init g c = rw c.new-out.ensures.items (running_first c.args.table.now.rows _ c.args.node.now c.requires.empty)

pub step-requires-clause-fits : goal.step-requires-clause-fits
step-requires-clause-fits g c = fits_all c.args.table.now.rows c.loop-i.node c.loop-i.clock c.loop-i.invariant.state c.loop-i.invariant.stands

pub step-requires-clause-time : goal.step-requires-clause-time
step-requires-clause-time g c = c.loop-i.invariant.stands.time

pub step-requires-clause-event : goal.step-requires-clause-event
step-requires-clause-event g c =
    let own = c.args.script.now.address in
    let each = subst (λ (es : List NodeEvent). All (IsEvent own) es) (sym c.as_slice-events.ensures) c.requires.script.events in
    let at = All-get_or (IsEvent own) c.as_slice-events.result.now c.loop-i.i c.index-events-i.result c.loop-i-test.true each in
    (own, subst (λ (e : NodeEvent). IsEvent own e) (sym c.index-events-i.is) at)

pub loop-i-preserved : goal.loop-i-preserved
loop-i-preserved g c =
    running_more c.args.table.now.rows c.as_slice-events.result.now c.loop-i.i c.index-events-i.result c.loop-i.node c.step.new.node c.loop-i.clock c.step.new.clock
    c.step.new.room c.in_ok-told.told c.loop-i.out.items c.push_told.new.out.items c.loop-i.invariant c.loop-i-test.true c.index-events-i.is
    c.in_ok-told.ensures.reached c.in_ok-push_told.ensures

pub returns-clause-text : goal.returns-clause-text
returns-clause-text g c =
    let rows = c.args.table.now.rows in
    let events = c.as_slice-events.result.now in
    let end : c.loop-i.i ≡ length events = omega (arith, c.loop-i-test.false, c.loop-i.auto.i-end) in
    (all_run rows events c.loop-i.i c.loop-i.node c.loop-i.clock c.loop-i.out.items c.loop-i.invariant end).0
    ∙ ap (λ (es : List NodeEvent). node_text rows es) c.as_slice-events.ensures

pub returns-clause-node : goal.returns-clause-node
returns-clause-node g c =
    let rows = c.args.table.now.rows in
    let events = c.as_slice-events.result.now in
    let end : c.loop-i.i ≡ length events = omega (arith, c.loop-i-test.false, c.loop-i.auto.i-end) in
    subst (λ (es : List NodeEvent). HoldsAs rows c.loop-i.node (node_from most_ends rows no_ends es).ends) c.as_slice-events.ensures
    (all_run rows events c.loop-i.i c.loop-i.node c.loop-i.clock c.loop-i.out.items c.loop-i.invariant end).1
