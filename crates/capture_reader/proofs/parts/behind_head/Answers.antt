use Rattle.std.proofs.Common.{arith}
use Rattle.capture_reader.specs.FoundParts.{IsWithin}
use Rattle.capture_reader.proofs.parts.behind_head.Goals as goal

pub overflow_add-result : goal.overflow_add-result
overflow_add-result c = let w = rw c.in-Packet.is at c.requires.within.1 in let one = w.0 in let two = w.1 in omega (arith, c.requires.room)

pub overflow_add-result-in-Packet : goal.overflow_add-result-in-Packet
overflow_add-result-in-Packet c = let w = rw c.in-Packet.is at c.requires.within.1 in let one = w.0 in let two = w.1 in omega (arith, c.requires.room)
