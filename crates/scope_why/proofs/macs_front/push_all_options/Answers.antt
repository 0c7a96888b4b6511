use Rattle.std.proofs.Common.{refl}
use Rattle.ao_mac.proofs.FrontLaws.{put_two, put_three}
use Rattle.tcp_segment.specs.Views.{view_ao}
use Rattle.scope_why.proofs.FrontParts.{covered_kept}
use Rattle.scope_why.proofs.macs_front.push_all_options.Goals as goal

pub returns : goal.returns
returns c =
    put_three _ _ _ _ _ _ _ _ (covered_kept c.args.area.now (view_ao c.args.ao) c.args.mac.now _ refl) c.in_ok-push_piece.ensures c.in_ok-push_piece-2.ensures c.in_ok-push_piece-3.ensures
