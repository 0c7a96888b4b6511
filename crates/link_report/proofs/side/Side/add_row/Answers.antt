use Rattle.link_report.proofs.FitLaws.{fits_added_to}
use Rattle.link_report.proofs.side.Side.add_row.Goals as goal

pub invariant_of-self : goal.invariant_of-self
invariant_of-self c =
    let d = c.args.self.now in
    record {
      family = d.family;
      time = d.time;
      bound = d.bound;
      fits = λ x e. fits_added_to d.table c.add.new.self c.add.result _ x.endpoint c.add.ensures (d.fits x e);
    }
