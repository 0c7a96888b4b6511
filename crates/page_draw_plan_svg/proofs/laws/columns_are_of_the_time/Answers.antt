use Rattle.page_draw_plan_svg.proofs.SpanLaws.{column_order, first_column, last_column}
use Rattle.page_draw_plan_svg.proofs.laws.columns_are_of_the_time.Goals as goal

pub returns-clause-first : goal.returns-clause-first
returns-clause-first c = first_column

pub returns-clause-last : goal.returns-clause-last
returns-clause-last c = last_column

pub returns-clause-order : goal.returns-clause-order
returns-clause-order c = column_order
