use Rattle.tcp_endpoint.proofs.FitLaws.{end_fits_added}
use Rattle.tcp_endpoint.proofs.laws.end_fits_once_added.Goals as goal

pub returns : goal.returns
returns c = end_fits_added
