use Rattle.std.proofs.Common.{◌∙◌, sym, string_bytes}
use Rattle.scope_run.specs.Meanings.{state_of}
use Rattle.scope_run.proofs.WordLaws.{all_read, ends, from_place, goes_on, past_place}
use Rattle.scope_run.proofs.words_reading.Reading.read.Goals as goal

-- a word ends the reading
pub returns-in-Err : goal.returns-in-Err
returns-in-Err c =
    let said = rw (c.given.ensures, c.as_bytes.ensures.value, c.in-Err.is) at c.step_by-said.ensures in
    let cut = from_place string_bytes c.args.words.now c.loop-text.text-index c.text-item.result c.loop-text-test.true c.text-item.is in
    sym (ends c.args.word (state_of c.loop-text.self) _ _ _ _ cut (sym said)) ∙ c.loop-text.invariant

-- a word changes where the reading stands
pub loop-text-preserved : goal.loop-text-preserved
loop-text-preserved c =
    let said = rw (c.given.ensures, c.as_bytes.ensures.value, c.in-Ok.is) at c.step_by-said.ensures in
    let cut = from_place string_bytes c.args.words.now c.loop-text.text-index c.text-item.result c.loop-text-test.true c.text-item.is in
    let next = sym (goes_on c.args.word (state_of c.loop-text.self) _ _ _ _ cut (sym said)) ∙ c.loop-text.invariant in
    rw c.in_ok-change-in-Ok.ensures next

-- all words are read
pub returns : goal.returns
returns c =
    let none = past_place string_bytes c.args.words.now c.loop-text.text-index c.loop-text-test.false in
    c.ending.ensures ∙ sym (all_read c.args.word (state_of c.loop-text.self) _ none) ∙ c.loop-text.invariant
