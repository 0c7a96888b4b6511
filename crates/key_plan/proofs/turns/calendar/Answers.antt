use Rattle.std.proofs.Common.{ℕ, ◌-◌, List, subst, arith}
use Rattle.std.specs.List.{All}
use Rattle.book_plans.proofs.CalendarLaws.{nothing_turns, all_told, more_told}
use Rattle.book_plans.specs.Calendar.{Keeps, turns_in}
use Rattle.book_keys.specs.Plans.{rows_at}
use Rattle.book_keys.specs.Rows.{Row}
use Rattle.key_plan.proofs.turns.calendar.Goals as goal

pub returns-then-quiet-to : goal.returns-then-quiet-to
returns-then-quiet-to c =
    let a = rows_at c.args.tables.now c.args.pair.now.local.address in
    let b = rows_at c.args.tables.now c.args.pair.now.remote.address in
    let pair = c.args.pair.now in
    let time = c.loop-time.time in
    let total = turns_in a b pair c.args.from (c.args.to - c.args.from) in
    let below = c.steady_rows-quiet.ensures.below in
    all_told c.loop-time.turns.items total a b pair time c.args.to c.loop-time.invariant
    (λ t x y. nothing_turns a b pair t
    (subst (λ (rows : List Row). All (Keeps t) rows) c.rows_at-here.ensures.value (c.steady_rows-until.ensures.steady t x (omega arith)))
    (subst (λ (rows : List Row). All (Keeps t) rows) c.rows_at-there.ensures.value (c.steady_rows-quiet.ensures.steady t x (omega arith))))

pub loop-time-preserved : goal.loop-time-preserved
loop-time-preserved c =
    let a = rows_at c.args.tables.now c.args.pair.now.local.address in
    let b = rows_at c.args.tables.now c.args.pair.now.remote.address in
    let pair = c.args.pair.now in
    let time = c.loop-time.time in
    let total = turns_in a b pair c.args.from (c.args.to - c.args.from) in
    let above = c.steady_rows-quiet.ensures.above in
    let below = c.steady_rows-quiet.ensures.below in
    more_told c.loop-time.turns.items total c.add_second.new.turns.items a b pair time c.steady_rows-quiet.result c.args.to c.loop-time.invariant
    (omega arith) (omega arith)
    (λ t x y. nothing_turns a b pair t
    (subst (λ (rows : List Row). All (Keeps t) rows) c.rows_at-here.ensures.value (c.steady_rows-until.ensures.steady t x (omega arith)))
    (subst (λ (rows : List Row). All (Keeps t) rows) c.rows_at-there.ensures.value (c.steady_rows-quiet.ensures.steady t x (omega arith))))
    c.in_ok-add_second.ensures

pub returns : goal.returns
returns c =
    let a = rows_at c.args.tables.now c.args.pair.now.local.address in
    let b = rows_at c.args.tables.now c.args.pair.now.remote.address in
    let pair = c.args.pair.now in
    let time = c.loop-time.time in
    let total = turns_in a b pair c.args.from (c.args.to - c.args.from) in
    all_told c.loop-time.turns.items total a b pair time c.args.to c.loop-time.invariant (λ t x y. absurd (omega arith))
