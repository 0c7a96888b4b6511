use Rattle.scope_why.proofs.FrontParts.{checksum_read}
use Rattle.scope_why.proofs.changes.checksum_of.Goals as goal

pub returns : goal.returns
returns c =
    checksum_read c.header-header.result.now c.args.suspect.now.datagram.now c.header-header.ensures.bytes c.header-header.ensures.fits.checksum
