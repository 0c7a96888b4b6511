use Rattle.std.proofs.Common.{sym, ◌∙◌}
use Rattle.book_cmd_node.specs.NodeRuns.{held_end}
use Rattle.book_segments.specs.Segments.{pair_reached}
use Rattle.book_stack.specs.Calls.{Incoming}
use Rattle.ao_stack.proofs.ArriveLaws.{refused_alone, refused_held}
use Rattle.ao_stack.proofs.stack.Stack.refuse.Goals as goal

pub returns-in-None-clause-told : goal.returns-in-None-clause-told
returns-in-None-clause-told g c s bytes S read q is =
    let coming : Incoming = record { now = c.args.now; bytes = bytes } in
    refused_alone _ coming c.args.datagram.now s c.args.why (held_end (pair_reached c.args.datagram.now) s.node.ends) S (sym c.in-None.is ∙ is)

pub returns-in-Some-clause-told : goal.returns-in-Some-clause-told
returns-in-Some-clause-told g c s bytes S read q is =
    let coming : Incoming = record { now = c.args.now; bytes = bytes } in
    refused_held _ coming c.args.datagram.now s c.args.why c.hear.result _ (held_end (pair_reached c.args.datagram.now) s.node.ends) (sym c.in-Some.is ∙ is) (c.hear.ensures.told s bytes S read q)
