use Rattle.ao_base.proofs.BufferLaws.{passed}
use Rattle.ao_base.proofs.buffer.Buffer.pass.Goals as goal

pub returns : goal.returns
returns c =
    let after_in = rw (← c.self.view_is) at c.requires.within in
    let past_in = rw (← c.self.view_is) at c.requires.past in
    rw (← c.self.view_is) (passed c.self.inside.bytes.items c.self.inside.from c.self.inside.to c.args.first c.args.after c.args.past c.self.inside.size c.self.invariant.2 c.requires.ordered after_in past_in)
