use Rattle.std.proofs.Common.{refl}
use Rattle.ao_mac.proofs.FrontLaws.{put_two, put_three}
use Rattle.scope_why.proofs.macs_front.push_own_option.Goals as goal

pub returns : goal.returns
returns c = put_two _ _ _ _ _ _ refl c.in_ok-push_piece.ensures c.in_ok-push_piece-2.ensures
