use Rattle.book_scope_plan.proofs.SliceLaws.{are_parts, few_slices, no_slices}
use Rattle.book_scope_plan.proofs.picture_laws.slices_are_of_the_time.Goals as goal

pub returns-clause-parts : goal.returns-clause-parts
returns-clause-parts c = are_parts

pub returns-clause-few : goal.returns-clause-few
returns-clause-few c = few_slices

pub returns-clause-none : goal.returns-clause-none
returns-clause-none c = no_slices
