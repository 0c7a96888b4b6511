use Rattle.tcp_segment.specs.Views.{view_ao}
use Rattle.book_segments.proofs.Found.{found_within}
use Rattle.ao_mac.proofs.front.Front.push_covered.Goals as goal

pub push_options-requires-clause-within : goal.push_options-requires-clause-within
push_options-requires-clause-within c =
    rw (c.area.ensures, c.options-options.ensures.value) (found_within c.args.datagram.now.area (view_ao c.args.ao) c.requires.one)
