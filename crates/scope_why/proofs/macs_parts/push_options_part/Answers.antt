use Rattle.tcp_segment.specs.Views.{view_ao}
use Rattle.book_segments.proofs.Found.{found_within}
use Rattle.scope_why.proofs.macs_parts.push_options_part.Goals as goal

pub push_covered-requires-clause-within : goal.push_covered-requires-clause-within
push_covered-requires-clause-within c =
    rw (c.area.ensures, c.options-options.ensures.value) (found_within c.args.suspect.now.datagram.now.area (view_ao c.args.suspect.now.ao) c.requires)
