use Rattle.std.proofs.Common.{◌≡◌, length, refl, sym, ◌∙◌}
use Rattle.book_base.specs.Algorithms.{mac_length_of}
use Rattle.book_segments.specs.Options.{One, find_ao}
use Rattle.tcp_segment.specs.Views.{view_ao}
use Rattle.cmd_show.proofs.SignedLaws.{signed_so}
use Rattle.cmd_show.proofs.signed.signed.Goals as goal

pub returns-then-ao-from : goal.returns-then-ao-from
returns-then-ao-from c =
    let found : find_ao c.in-Ok.datagram.area ≡ One (view_ao c.in-One.ao) = sym (rw c.options.ensures.value at c.in-One.ensures) in
    let long : length (view_ao c.in-One.ao).mac ≡ mac_length_of c.args.algorithm = c.if-ao-from.true ∙ (c.from.ensures ∙ c.mac_length.ensures) in
    record {
      ao = view_ao c.in-One.ao;
      found = found;
      mac = refl;
      signed = signed_so c.args.algorithm c.args.bytes.now c.in-Ok.datagram (view_ao c.in-One.ao) c.in-Ok.ensures.read found long;
    }
