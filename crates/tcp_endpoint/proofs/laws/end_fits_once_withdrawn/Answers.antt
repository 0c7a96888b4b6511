use Rattle.tcp_endpoint.proofs.FitLaws.{end_fits_withdrawn}
use Rattle.tcp_endpoint.proofs.laws.end_fits_once_withdrawn.Goals as goal

pub returns : goal.returns
returns c = end_fits_withdrawn
