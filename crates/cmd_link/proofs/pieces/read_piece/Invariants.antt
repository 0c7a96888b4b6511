use Rattle.std.proofs.Common.{◌+◌, ◌≤◌, length}
use Rattle.cmd_link.proofs.ReadLaws.{Within}
use Rattle.cmd_link.proofs.pieces.read_piece.Given as goal

abbrev pub invariant-loop : goal.invariant-loop
invariant-loop l =
    Within l.place l.piece l.rest l.initial.out.items l.out.items l.initial.reader l.reader × (length l.rest + l.counter ≤ length l.piece)
