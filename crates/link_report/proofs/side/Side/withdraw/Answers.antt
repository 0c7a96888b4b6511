use Rattle.link_report.proofs.FitLaws.{fits_withdrawn_from}
use Rattle.link_report.proofs.side.Side.withdraw.Goals as goal

pub invariant_of-self : goal.invariant_of-self
invariant_of-self c =
    let d = c.args.self.now in
    record {
      family = d.family;
      time = d.time;
      bound = d.bound;
      fits = λ x e. fits_withdrawn_from d.table c.withdraw.new.self c.withdraw.result c.args.number x.endpoint c.withdraw.ensures (d.fits x e);
    }
