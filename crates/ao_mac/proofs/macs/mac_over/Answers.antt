use Rattle.tcp_segment.specs.Views.{view_ao}
use Rattle.ao_mac.proofs.Parts.{mac_of_fed, one_is}
use Rattle.ao_mac.proofs.macs.mac_over.Goals as goal

pub returns-clause-mac : goal.returns-clause-mac
returns-clause-mac c = λ number ao is found.
    let algorithm = c.args.alg in
    let key = c.args.key.now in
    let same = one_is c.args.datagram.now (view_ao c.args.ao) ao c.requires.found found in
    let front = rw (c.as_slice.ensures, c.of.ensures, same) at (c.feed.ensures algorithm key _ c.hasher-hasher.ensures) in
    mac_of_fed algorithm key c.finish.result number c.args.sne c.args.datagram.now ao c.args.with_options c.payload.result.now
    (c.finish.ensures.mac algorithm key _ (c.feed-2.ensures algorithm key _ front)) is c.payload.ensures.value

pub returns-clause-length : goal.returns-clause-length
returns-clause-length c =
    let algorithm = c.args.alg in
    let key = c.args.key.now in
    c.finish.ensures.length algorithm key _ (c.feed-2.ensures algorithm key _ (c.feed.ensures algorithm key _ c.hasher-hasher.ensures))
