use Rattle.std.proofs.Common.{◌≡◌, ◌-◌, length, take, drop, sym, ◌∙◌, arith}
use Rattle.std.proofs.lemmas.List.{take_rest}
use Rattle.std.proofs.lemmas.Bool.{eqb-true, eqb-false}
use Rattle.ao_base.proofs.CutLaws.{next_line_is, no_line}
use Rattle.ao_base.proofs.lines.next_line.Goals as goal

pub returns-then-is_empty : goal.returns-then-is_empty
returns-then-is_empty c =
    no_line c.args.text.now _ c.args.from (take_rest c.args.text.now c.args.from) (eqb-true _ _ (sym c.is_empty.ensures ∙ c.if-is_empty.true))

pub returns : goal.returns
returns c =
    let text = c.args.text.now in
    let rest = take (length text - c.args.from) (drop c.args.from text) in
    let some : length rest ≡ 0 → ⊥ = eqb-false _ _ (sym c.is_empty.ensures ∙ c.if-is_empty.false) in
    next_line_is text rest c.args.from c.line_length.result (take_rest text c.args.from) c.requires (omega arith)
    c.line_length.ensures.length c.line_length.ensures.within
