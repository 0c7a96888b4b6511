use Rattle.std.proofs.Common.{ℕ, ◌-◌, List, length}
use Rattle.book_pcap.specs.Packets.{Packet}
use Rattle.cmd_check.proofs.Walk.{Between}
use Rattle.cmd_check.proofs.packets.check_all.Given as goal

abbrev pub invariant-packets : goal.invariant-packets
invariant-packets g l =
    (given : List ℕ) × (shown : List Packet) × Between l.fn.judge.checking.tables l.packets l.judge given shown l.lines.items (g.I.Source.side l.fn.input) (g.I.Source.side l.input) (g.O.Sink.side l.fn.out) (g.O.Sink.side l.out)

abbrev pub decreases-packets : goal.decreases-packets
decreases-packets g l = 268435456 - (l.packets.taken - length l.packets.kept)
