use Rattle.std.proofs.Common.{refl}
use Rattle.tcp_segment.proofs.SameDraft.{same_draft}
use Rattle.tcp_segment.specs.Loans.{with_payload}
use Rattle.tcp_segment.proofs.draft.Draft.payload_mut.Goals as goal

pub invariant_of-self-lent : goal.invariant_of-self-lent
invariant_of-self-lent g c = λ w. let d = with_payload c.args.self.now w in (d.order, (d.ends, (d.room, (d.headed, tt))))

pub returns : goal.returns
returns g c = ((refl, λ w. same_draft g.B.Room _ _ _ _ _ _ _ _ _ _ _ _ _), record { writes = tt; part = c.part_mut.ensures.part })
