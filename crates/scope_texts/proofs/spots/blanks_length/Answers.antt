use Rattle.std.proofs.Common.{not}
use Rattle.book_base.specs.Lines.{is_blank}
use Rattle.book_base.proofs.LineLaws.{place_or_length, in_front}
use Rattle.scope_texts.proofs.spots.blanks_length.Goals as goal

pub returns-clause-length : goal.returns-clause-length
returns-clause-length c =
    let e = place_or_length (λ byte. not (is_blank byte)) c.args.line.now in
    let f = in_front is_blank c.args.line.now in cc
