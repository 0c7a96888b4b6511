use Rattle.std.proofs.Common.{[], None}
use Rattle.pcap_file.proofs.Going.{goes_on}
use Rattle.pcap_file.proofs.packets.Packets.next_kept.Goals as goal

pub returns-clause-goes : goal.returns-clause-goes
returns-clause-goes c = λ yes.
    goes_on c.args.self.now c.advance_kept.new.self (record { bytes = None; faults = 0; quiet = None }) (record { bytes = None; faults = 0; quiet = None }) [] _ (c.advance_kept.ensures.steps yes (record { bytes = None; faults = 0; quiet = None }))
