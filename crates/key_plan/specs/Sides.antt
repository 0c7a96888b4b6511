-- An end of a planned connection, and a row with other lifetimes, as the book has them.
use Rattle.book_keys.specs.declared.lifetime.Lifetime.{Lifetime}
use Rattle.book_keys.specs.Rows.{Row}
use Rattle.book_plans.specs.Ways as book
use Rattle.key_plan.specs.declared.ways.Side.{Side}

-- the book's form of what the code holds
abbrev pub side_of : Side → book.Side
side_of s = record { rows = s.rows.now; others = s.others.now; pair = s.pair; plan = s.plan }

-- a row that sends and accepts in these lifetimes
abbrev pub lasting : (sending accepting : Lifetime) → Row → Row
lasting s a r = record r { sending = s; accepting = a }
