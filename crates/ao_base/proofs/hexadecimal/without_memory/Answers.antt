use Rattle.std.proofs.Common.{sym, ◌∙◌, refl}
use Rattle.std.proofs.lemmas.Option.{none-some}
use Rattle.book_base.proofs.HexadecimalLaws.{other_none, digits_some}
use Rattle.ao_base.proofs.hexadecimal.without_memory.Goals as goal

pub returns-then-is_hex : goal.returns-then-is_hex
returns-then-is_hex c =
    let some = digits_some c.args.word.now c.requires cc in (
      λ h. absurd (cc h),
      λ none. absurd (none-some _ (sym none ∙ some.1)),
    )

pub returns-else-is_hex : goal.returns-else-is_hex
returns-else-is_hex c = (λ _. other_none c.args.word.now cc, λ _. refl)
