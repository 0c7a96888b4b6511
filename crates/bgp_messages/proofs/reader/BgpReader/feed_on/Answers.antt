use Rattle.bgp_messages.proofs.Standing.{within_of, reads_more, reads_fault, reads_message}
use Rattle.bgp_messages.proofs.reader.BgpReader.feed_on.Goals as goal

pub returns-in-More-clause-reads : goal.returns-in-More-clause-reads
returns-in-More-clause-reads c = λ bytes stands.
    reads_more c.args.self.now bytes _ _ _ _ _ stands (within_of c.args.self.now c.self.inside.state _ _ c.self.view_is c.self.invariant c.requires.message c.requires.fault) c.gather-fed.ensures c.in-More.is

pub returns-in-Message-clause-reads : goal.returns-in-Message-clause-reads
returns-in-Message-clause-reads c = λ bytes stands.
    reads_message c.args.self.now bytes _ _ _ _ _ _ stands (within_of c.args.self.now c.self.inside.state _ _ c.self.view_is c.self.invariant c.requires.message c.requires.fault) c.gather-fed.ensures c.in-Message.is
    (rw c.as_slice-len.ensures.value at c.saturating_add-self-inside.ensures)

pub returns-in-Fault-clause-reads : goal.returns-in-Fault-clause-reads
returns-in-Fault-clause-reads c = λ bytes stands.
    reads_fault c.args.self.now bytes _ _ _ _ _ _ stands (within_of c.args.self.now c.self.inside.state _ _ c.self.view_is c.self.invariant c.requires.message c.requires.fault) c.gather-fed.ensures c.in-Fault.is
