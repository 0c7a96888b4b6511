use Rattle.std.proofs.Common.{refl}
use Rattle.tcp_segment.specs.Views.{view_ao}
use Rattle.ao_mac.proofs.FrontLaws.{put_two, put_three}
use Rattle.ao_mac.proofs.Parts.{covered-all}
use Rattle.ao_mac.proofs.front.Front.push_options.Goals as goal

pub returns-then-with_options : goal.returns-then-with_options
returns-then-with_options c =
    rw c.if-with_options.true
    (put_three _ _ _ _ _ _ _ _ (covered-all c.args.area.now (view_ao c.args.ao) _ refl) c.push.ensures c.push_zeros.ensures c.push-then-with_options.ensures)

pub returns-else-with_options : goal.returns-else-with_options
returns-else-with_options c =
    rw c.if-with_options.false (put_two _ _ _ _ _ _ refl c.push-else-with_options.ensures c.push_zeros-else-with_options.ensures)
