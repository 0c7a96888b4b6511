use Rattle.std.proofs.Common.{ℕ, ◌-◌, List}
use Rattle.book_captures.specs.Captures.{CapturePacket}
use Rattle.scope_why.specs.Replies.{asked_of, key_file_of}
use Rattle.scope_why.proofs.Walk.{Between}
use Rattle.scope_why.proofs.capture.answer_behind.Given as goal

abbrev pub invariant-parts : goal.invariant-parts
invariant-parts g l =
    (given : List ℕ) × (shown : List CapturePacket) × Between (key_file_of l.question l.fn.checker.tables) (asked_of l.question l.fn.told.items l.number) l.reader l.checker l.told.items l.count given shown (g.I.Source.side l.fn.input) (g.I.Source.side l.input)

abbrev pub decreases-parts : goal.decreases-parts
decreases-parts g l = 9223372036854775808 - l.reader.counts.bytes
