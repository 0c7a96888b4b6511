-- The margin of a lead where the lag is given, and of a lag where the lead is.
use Rattle.std.specs.Prelude.{List, Option, Some, None, if◌then◌else◌}
use Rattle.book_base.specs.declared.address.Pair.{Pair}
use Rattle.book_plans.specs.declared.margin.Margin.{Margin}
use Rattle.book_plans.specs.declared.margin.Margin.TheVariants.{Any}
use Rattle.book_plans.specs.Margins.{lead_by, lag_by, narrower, widest, narrowest}
use Rattle.book_keys.specs.Plans.{mirrored}
use Rattle.book_keys.specs.Rows.{Row, sends_for}
use Rattle.key_plan.specs.declared.way.Given.{Given}
use Rattle.key_plan.specs.declared.way.Given.TheVariants.{Lead, Lag}

-- what the other end's row leaves this row
abbrev pub margin_by : Given → Pair → Row → Row → Option Margin
margin_by (Lag lag) pair r other = lead_by pair lag r other
margin_by (Lead lead) pair r other = lag_by pair lead r other

-- what the rows of the other end leave it
abbrev pub margin_of_row : Given → List Row → Pair → Row → Option Margin
margin_of_row given others pair r = if sends_for pair r then widest (margin_by given pair r) None others else Some Any

-- what both tables leave
abbrev pub margin_of_plan : Given → List Row → List Row → Pair → Option Margin
margin_of_plan given a b pair =
    narrower (narrowest (margin_of_row given b pair) (Some Any) a) (narrowest (margin_of_row given a (mirrored pair)) (Some Any) b)
