use Rattle.book_macs.proofs.LengthLaws.{length-traffic_key}
use Rattle.book_macs.proofs.lengths.traffic_keys_have_their_length.Goals as goal

pub returns : goal.returns
returns c = length-traffic_key
