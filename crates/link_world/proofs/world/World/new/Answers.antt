use Rattle.std.proofs.Common.{◌≡◌, List, [], length, sym, ap, ◌∙◌, subst, arith}
use Rattle.book_keys.specs.Plans.{rows_at}
use Rattle.book_keys.specs.Rows.{Row}
use Rattle.book_link.specs.Runs.{empty}
use Rattle.link_report.specs.declared.outcome.Outcome.{Outcome}
use Rattle.link_report.specs.Outcomes.{AreShown}
use Rattle.both_ends.specs.declared.values.BothEnds.{BothEnds}
use Rattle.link_report.specs.declared.side.Side.{Side}
use Rattle.link_report.specs.Sides.{StandsSide}
use Rattle.link_world.specs.Stands.{setup_of}
use Rattle.link_world.proofs.SetupLaws.{apart}
use Rattle.std.specs.List.{AllByRecursion}
use Rattle.law_link.specs.Laws.{RowFits}
use Rattle.link_world.proofs.WorldLaws.{begun, setup_fits}
use Rattle.link_world.proofs.world.World.new.Goals as goal

pub invariant_of-result : goal.invariant_of-result
invariant_of-result c =
    let s = c.args.setup in
    let setup = setup_of s in
    let b_rows : c.take_table-b_table.result.rows ≡ rows_at s.tables s.b.address =
    c.take_table-b_table.ensures.taken ∙ c.take_table-a_table.ensures.others s.b.address (apart s.a.address s.b.address c.requires.family) in
    let a_is = subst (λ (rows : List Row). StandsSide c.new.result (record { clock = 0; rows = rows; sessions = [] })) c.take_table-a_table.ensures.taken c.new.ensures.stands in
    let b_is = subst (λ (rows : List Row). StandsSide c.new-2.result (record { clock = 0; rows = rows; sessions = [] })) b_rows c.new-2.ensures.stands in
    let none = ap length c.new-4.ensures.items in
    let made = c.new-3.ensures.made in
    let forged = c.new-3.ensures.forgeries in
    let sides : BothEnds Side = record { a = c.new.result; b = c.new-2.result } in
    record {
      link = ∣ record {
        setup = setup;
        world = empty setup;
        stands = begun setup sides c.new-3.result c.new.ensures.pair c.new-2.ensures.pair a_is b_is c.new-3.ensures.stands;
      } ∣₁;
      few = omega (arith, none);
      made = omega (arith, made);
      forged = omega (arith, forged);
    }

pub returns-clause-stands : goal.returns-clause-stands
returns-clause-stands c =
    let s = c.args.setup in
    let setup = setup_of s in
    let b_rows : c.take_table-b_table.result.rows ≡ rows_at s.tables s.b.address =
    c.take_table-b_table.ensures.taken ∙ c.take_table-a_table.ensures.others s.b.address (apart s.a.address s.b.address c.requires.family) in
    let a_is = subst (λ (rows : List Row). StandsSide c.new.result (record { clock = 0; rows = rows; sessions = [] })) c.take_table-a_table.ensures.taken c.new.ensures.stands in
    let b_is = subst (λ (rows : List Row). StandsSide c.new-2.result (record { clock = 0; rows = rows; sessions = [] })) b_rows c.new-2.ensures.stands in
    let sides : BothEnds Side = record { a = c.new.result; b = c.new-2.result } in
    record {
      link = begun setup sides c.new-3.result c.new.ensures.pair c.new-2.ensures.pair a_is b_is c.new-3.ensures.stands;
      shown = subst (λ (os : List Outcome). AreShown os []) (sym c.new-4.ensures.items) tt;
      setup_fits = setup_fits setup c.see_sockets.ensures
          (subst (AllByRecursion RowFits) c.take_table-a_table.ensures.taken c.see_rows.ensures)
          (subst (AllByRecursion RowFits) b_rows c.see_rows-2.ensures);
      events_fit = tt;
    }
