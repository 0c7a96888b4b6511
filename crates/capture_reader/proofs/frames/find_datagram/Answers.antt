use Rattle.capture_reader.specs.Found.{layer}
use Rattle.capture_reader.proofs.Ends.{innermost_ends, not_longer, ends_there}
use Rattle.capture_reader.proofs.Finding.{no_layer, no_version, datagram_found}
use Rattle.capture_reader.proofs.frames.find_datagram.Goals as goal

pub returns-in-Err-clause-exact : goal.returns-in-Err-clause-exact
returns-in-Err-clause-exact c =
    rw (c.as_cut.ensures, c.missing_bytes-missing.ensures)
    (no_layer c.args.link c.args.frame.now c.args.original c.in-Err.why c.in-Err.ensures)

pub measure-requires-clause-long : goal.measure-requires-clause-long
measure-requires-clause-long c =
    not_longer c.args.frame.now (layer c.in-Ok.layer).body (innermost_ends c.args.link c.args.frame.now (layer c.in-Ok.layer) c.in-Ok.ensures)

pub measure-requires-clause-ends : goal.measure-requires-clause-ends
measure-requires-clause-ends c =
    ends_there c.args.frame.now (layer c.in-Ok.layer).body (innermost_ends c.args.link c.args.frame.now (layer c.in-Ok.layer) c.in-Ok.ensures)

pub returns-in-Ok-version_in-clause-exact : goal.returns-in-Ok-version_in-clause-exact
returns-in-Ok-version_in-clause-exact c =
    rw (c.measure.ensures.value, c.missing_bytes-missing.ensures)
    (datagram_found c.args.link c.args.frame.now c.args.original (layer c.in-Ok.layer) c.in-Ok-version_in.version c.in-Ok.ensures c.in-Ok-version_in.ensures)

pub returns-in-Err-version_in-clause-exact : goal.returns-in-Err-version_in-clause-exact
returns-in-Err-version_in-clause-exact c =
    rw (c.as_cut-in-Err-version_in.ensures, c.missing_bytes-missing.ensures)
    (no_version c.args.link c.args.frame.now c.args.original (layer c.in-Ok.layer) c.in-Err-version_in.why c.in-Ok.ensures c.in-Err-version_in.ensures)
