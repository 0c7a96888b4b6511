use Rattle.std.proofs.Common.{◌++◌, ap, arith}
use Rattle.book_macs.specs.Contexts.{context}
use Rattle.book_segments.specs.Sockets.{octets}
use Rattle.cmd_show.proofs.SignedLaws.{numbers_back}
use Rattle.cmd_show.proofs.keys.context_with.Goals as goal

pub returns : goal.returns
unfolding context
returns c =
    rw (c.two.ensures, c.two-2.ensures, c.four.ensures, c.four-2.ensures)
    (ap (λ numbers. octets c.args.source ++ (octets c.args.destination ++ numbers)) (numbers_back c.args.numbers.now c.requires (λ i. omega (arith, c.type_inv.numbers i))))
