use Rattle.std.proofs.Common.{◌≡◌, ◌+◌, ◌-◌, length, take, drop, sym, ◌∙◌, arith}
use Rattle.std.proofs.lemmas.List.{take_rest}
use Rattle.std.proofs.lemmas.Bool.{eqb-true, eqb-false}
use Rattle.ao_base.proofs.CutLaws.{next_word_is, no_word}
use Rattle.ao_base.proofs.lines.next_word.Goals as goal

pub returns-then-is_empty : goal.returns-then-is_empty
returns-then-is_empty c =
    no_word c.args.line.now _ _ c.args.from c.blanks_length.result (take_rest c.args.line.now c.args.from) c.blanks_length.ensures.length
    (take_rest c.args.line.now (c.args.from + c.blanks_length.result)) (eqb-true _ _ (sym c.is_empty.ensures ∙ c.if-is_empty.true))

pub returns : goal.returns
returns c =
    let line = c.args.line.now in
    let first = c.args.from + c.blanks_length.result in
    let rest = take (length line - first) (drop first line) in
    let some : length rest ≡ 0 → ⊥ = eqb-false _ _ (sym c.is_empty.ensures ∙ c.if-is_empty.false) in
    next_word_is line _ rest c.args.from c.blanks_length.result c.word_length.result (take_rest line c.args.from) c.requires
    c.blanks_length.ensures.length (take_rest line first) (omega arith) c.word_length.ensures.length c.word_length.ensures.within
