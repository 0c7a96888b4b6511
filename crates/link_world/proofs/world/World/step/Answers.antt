use Rattle.std.proofs.Common.{◌≡◌, ◌+◌, ◌<◌, ℕ, List, [], ◌∷◌, ◌++◌, length, vec_len, vec_capacity, ap, ◌∙◌, arith, length-append}
use Rattle.std.specs.Coded.{le_prop}
use mathlib.Core.Logic.{∥∥₁_elim, ∥∥₁_map}
use Rattle.link_report.proofs.LogLaws.{only_ok}
use Rattle.law_headline.proofs.LawfulRuns.{lawful}
use Rattle.law_headline.proofs.Through.{few_through}
use Rattle.link_report.specs.declared.outcome.Outcome.{Outcome}
use Rattle.law_link.specs.Laws.{EventFits}
use Rattle.link_world.proofs.RoomLaws.{told_fits}
use Rattle.link_world.proofs.WorldLaws.{moved_of, on_err, one_more, rested, rested_of, stepped}
use Rattle.link_world.proofs.world.World.step.Goals as goal

pub invariant_of-self-in-Break-branch-3 : goal.invariant_of-self-in-Break-branch-3
invariant_of-self-in-Break-branch-3 c =
    let w = c.args.self.now in
    let same = ap length c.reserve.ensures.items in
    let made = c.in_err-outcome.ensures.made in
    let forged = c.in_err-outcome.ensures.forged in
    let few = w.few in
    let old_made = w.made in
    let old_forged = w.forged in
    record {
      link = ∥∥₁_map w.link (rested_of w.sides c.happen.new.sides w.log c.happen.new.log c.in_err-outcome.ensures);
      few = omega (arith, few, same);
      made = omega (arith, made, old_made, same);
      forged = omega (arith, forged, old_forged, same);
    }

pub invariant_of-self-in-Break-branch-2 : goal.invariant_of-self-in-Break-branch-2
invariant_of-self-in-Break-branch-2 c =
    let w = c.args.self.now in
    let same = ap length c.reserve.ensures.items in
    let few = w.few in
    let made = w.made in
    let forged = w.forged in
    record { link = w.link; few = omega (arith, few, same); made = omega (arith, made, same); forged = omega (arith, forged, same) }

pub returns-in_err-outcome-clause-same : goal.returns-in_err-outcome-clause-same
returns-in_err-outcome-clause-same c =
    on_err c.from_residual-in_err-outcome.result _
    (λ setup events h. rested c.args.self.now _ setup events h c.in_err-outcome.ensures c.reserve.ensures.items)

pub invariant_of-self-2 : goal.invariant_of-self-2
invariant_of-self-2 c =
    let w = c.args.self.now in
    let o = c.in_ok-outcome.outcome in
    let room : vec_len c.reserve.new.self < vec_capacity c.reserve.new.self = omega (arith, c.in_ok-reserve.ensures.ok) in
    let items : c.push-pushed.new.self.items ≡ w.outcomes.items ++ o ∷ [] =
    only_ok c.push-pushed.result _ _ _ (c.push-pushed.ensures.succeeds room) c.push-pushed.ensures.items
    ∙ ap (λ (xs : List Outcome). xs ++ o ∷ []) c.reserve.ensures.items in
    let long = ap length items ∙ length-append w.outcomes.items (o ∷ []) in
    let made = c.in_ok-outcome.ensures.made in
    let forged = c.in_ok-outcome.ensures.forged in
    let few = c.requires.steps in
    let old_made = w.made in
    let old_forged = w.forged in
    record {
      link = ∥∥₁_map w.link (moved_of w.sides c.happen.new.sides w.log c.happen.new.log c.args.event.now o c.in_ok-outcome.ensures);
      few = omega (arith, few, long);
      made = omega (arith, made, old_made, long);
      forged = omega (arith, forged, old_forged, long);
    }

pub returns-clause-stands : goal.returns-clause-stands
returns-clause-stands c = λ setup events h.
    let w = c.args.self.now in
    let o = c.in_ok-outcome.outcome in
    let room : vec_len c.reserve.new.self < vec_capacity c.reserve.new.self = omega (arith, c.in_ok-reserve.ensures.ok) in
    let items : c.push-pushed.new.self.items ≡ w.outcomes.items ++ o ∷ [] =
    only_ok c.push-pushed.result _ _ _ (c.push-pushed.ensures.succeeds room) c.push-pushed.ensures.items
    ∙ ap (λ (xs : List Outcome). xs ++ o ∷ []) c.reserve.ensures.items in
    stepped w _ setup events c.args.event.now o h c.in_ok-outcome.ensures items c.see_event.ensures

pub copied-told-requires : goal.copied-told-requires
copied-told-requires c =
    record {
      room = ∥∥₁_elim c.args.self.now.link le_prop (λ l.
          told_fits l.setup l.world c.args.event.now c.in_ok-outcome.outcome _ (c.in_ok-outcome.ensures.shows l.setup l.world l.stands)
          (c.in_ok-room.ensures l.world.history l.stands.log_is));
    }

pub returns-clause-lawful : goal.returns-clause-lawful
returns-clause-lawful c = λ setup events h.
    lawful setup h.setup_fits (events ++ c.args.event.now ∷ []) (one_more EventFits events c.args.event.now h.events_fit c.see_event.ensures)

pub returns-clause-gets_through : goal.returns-clause-gets_through
returns-clause-gets_through c = λ setup events h tables few.
    few_through setup (events ++ c.args.event.now ∷ []) h.setup_fits tables
    (one_more EventFits events c.args.event.now h.events_fit c.see_event.ensures) few
