use Rattle.std.proofs.Common.{sym, ◌∙◌, ap}
use Rattle.ao_mac.proofs.Parts.{pseudo_sized4, pseudo_sized6, pseudo_tail4, pseudo_tail6}
use Rattle.scope_why.proofs.macs_front.push_pseudo.Goals as goal

pub returns-in-V4-V4 : goal.returns-in-V4-V4
returns-in-V4-V4 c =
    let d = c.args.datagram.now in
    let is = pseudo_sized4 d c.in-V4-V4.source c.in-V4-V4.destination _ c.tcp_length_of-length.ensures.fits.ip
    (sym (ap (λ t. t.address) c.source.ensures.value) ∙ c.in-V4-V4.is-0) (sym (ap (λ t. t.address) c.destination.ensures.value) ∙ c.in-V4-V4.is-1) c.tcp_length_of-length.ensures.length in
    let tail = pseudo_tail4 c.in-V4-V4.source c.in-V4-V4.destination c.tcp_length_of-length.result in
    rw (tail ∙ is) at (rw c.to_be_bytes.ensures at c.push_addressed.ensures)

pub returns-in-V6-V6 : goal.returns-in-V6-V6
returns-in-V6-V6 c =
    let d = c.args.datagram.now in
    let is = pseudo_sized6 d c.in-V6-V6.source c.in-V6-V6.destination _ c.tcp_length_of-length.ensures.fits.ip
    (sym (ap (λ t. t.address) c.source.ensures.value) ∙ c.in-V6-V6.is-0) (sym (ap (λ t. t.address) c.destination.ensures.value) ∙ c.in-V6-V6.is-1) c.tcp_length_of-length.ensures.length in
    let tail = pseudo_tail6 c.in-V6-V6.source c.in-V6-V6.destination c.tcp_length_of-length.result c.tcp_length_of-length.ensures.short in
    rw (tail ∙ is) at (rw c.to_be_bytes.ensures at c.push_addressed-in-V6-V6.ensures)
