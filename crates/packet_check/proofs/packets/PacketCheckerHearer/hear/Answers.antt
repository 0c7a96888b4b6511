use Rattle.book_sessions.specs.CheckedPackets.{checked_from, classes_of}
use Rattle.packet_check.specs.Reading.{held_from}
use Rattle.packet_check.proofs.PacketWalk.{packet_heard}
use Rattle.packet_check.proofs.packets.PacketCheckerHearer.hear.Goals as goal

pub returns-in-Ok : goal.returns-in-Ok
returns-in-Ok g c = λ q before p is stood.
    packet_heard q before p _ _ _ _ _ _ _ _ c.check.new.self.line.items _ _ c.tell.result stood
    (c.in-Ok.ensures.hears p (held_from q.tables q.held before) (classes_of q.tables (checked_from q.tables q.held before)) is stood.stands stood.tallies) c.in-Ok.ensures.tables c.in-Ok.ensures.all (rw c.as_slice.ensures.value at c.tell.ensures)
