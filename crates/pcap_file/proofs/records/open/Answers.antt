use Rattle.std.proofs.Common.{ap, sym, ◌∙◌}
use Rattle.pcap_file.proofs.Parts.{open_ok, open_bad}
use Rattle.pcap_file.proofs.records.open.Goals as goal

pub returns-in-Ok : goal.returns-in-Ok
returns-in-Ok g c =
    let head = rw c.kept.ensures.value at (sym c.in-Ok.is ∙ c.read_head.ensures) in (
      c.in-Enough.ensures.0,
      open_ok c.args.had _ c.fill.new.buffer c.pass.new.self _ _ c.in-Enough.ensures.0 c.in-Ok.head c.in_default.is c.in-Enough.ensures.1 head (ap (λ b. b.kept) c.pass.ensures) (ap (λ b. b.size) c.pass.ensures),
    )

pub returns-in-Err : goal.returns-in-Err
returns-in-Err g c =
    let head = rw c.kept.ensures.value at (sym c.in-Err.is ∙ c.read_head.ensures) in (
      c.in-Enough.ensures.0,
      open_bad c.args.had _ c.fill.new.buffer _ _ c.in-Enough.ensures.0 c.in-Err.fault c.in_default.is c.in-Enough.ensures.1 head,
    )
