use Rattle.tcp_segment.specs.Views.{view_ao}
use Rattle.book_segments.proofs.Found.{found_within}
use Rattle.scope_why.proofs.macs_front.front_of.Goals as goal

pub push_covered-requires-clause-within : goal.push_covered-requires-clause-within
push_covered-requires-clause-within c =
    rw (c.area.ensures, c.options-options.ensures.value) (found_within c.args.datagram.now.area (view_ao c.args.ao) c.requires)
