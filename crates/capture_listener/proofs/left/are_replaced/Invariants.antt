use Rattle.std.proofs.Common.{◌≡◌, ◌&&◌, ◌||◌, drop, not}
use Rattle.std.specs.List.{list_all}
use Rattle.book_keys.specs.Rows.{sends_for}
use Rattle.book_sessions.specs.Retiring.{contain_rest}
use Rattle.capture_listener.specs.Gone.{goes_with}
use Rattle.capture_listener.proofs.left.are_replaced.Given as goal

abbrev pub invariant-loop-other : goal.invariant-loop-other
invariant-loop-other l = list_all (λ r. not (sends_for l.pair r && goes_with l.going l.one r) || contain_rest l.lifetimes l.from r.sending) (drop l.other-index l.rows)
    ≡ list_all (λ r. not (sends_for l.pair r && goes_with l.going l.one r) || contain_rest l.lifetimes l.from r.sending) l.rows
