use Rattle.book_why.proofs.RecipeLaws.{mac_same, check_passes, check_refuses}
use Rattle.book_why.proofs.laws.right_recipe_is_the_checks.Goals as goal

pub returns-clause-mac : goal.returns-clause-mac
returns-clause-mac c = mac_same

pub returns-clause-passes : goal.returns-clause-passes
returns-clause-passes c = check_passes

pub returns-clause-refused : goal.returns-clause-refused
returns-clause-refused c = check_refuses
