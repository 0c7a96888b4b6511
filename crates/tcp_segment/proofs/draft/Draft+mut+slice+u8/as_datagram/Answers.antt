use Rattle.std.proofs.Common.{◌≡◌, subst, sym, ◌∙◌}
use Rattle.book_segments.specs.Options.{Ao, One, find_ao}
use Rattle.book_segments.specs.Segments.{Segment}
use Rattle.tcp_segment.proofs.DraftLaws.{draft_value}
use Rattle.tcp_segment.proofs.HoldLaws.{holds_by, holds_read, holds_ao}
use Rattle.tcp_segment.proofs.draft.Draft+mut+slice+u8.as_datagram.Goals as goal

pub datagram_at-requires : goal.datagram_at-requires
datagram_at-requires c = λ bytes. let d = c.args.self.now in holds_read (holds_by d.order d.ends d.room d.headed) bytes

pub returns-clause-drafted : goal.returns-clause-drafted
returns-clause-drafted c = λ h mac payload rest D. c.datagram_at.ensures.fields ∙ draft_value D c.datagram_at.ensures.bytes

pub returns-clause-one_ao : goal.returns-clause-one_ao
returns-clause-one_ao c =
    let d = c.args.self.now in
    subst (λ (x : Segment). (ao : Ao) × (find_ao x.area ≡ One ao)) (sym c.datagram_at.ensures.fields) (holds_ao (holds_by d.order d.ends d.room d.headed) c.datagram_at.ensures.bytes)
