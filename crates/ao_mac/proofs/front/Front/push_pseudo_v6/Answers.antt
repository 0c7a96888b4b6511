use Rattle.ao_mac.proofs.FrontLaws.{put_three}
use Rattle.ao_mac.proofs.Parts.{pseudo_tail6}
use Rattle.ao_mac.proofs.front.Front.push_pseudo_v6.Goals as goal

pub returns-clause-bytes : goal.returns-clause-bytes
returns-clause-bytes c = put_three _ _ _ _ _ _ _ _ (pseudo_tail6 c.args.source.now c.args.destination.now c.args.total c.ranges.total.fits) c.push.ensures c.push-2.ensures (rw c.to_be_bytes.ensures at c.push-3.ensures)
