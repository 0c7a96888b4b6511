-- What is drawn, as the book has it.
use Rattle.book_scope_plan.specs.BarOrders as orders
use Rattle.book_scope_plan.specs.Bars as book
use Rattle.draw_plan.specs.declared.order.OneWay.{OneWay}
use Rattle.draw_plan.specs.declared.shown.ShownBar.{ShownBar}

-- the book's form of one way over a connection
abbrev pub way_of : OneWay → orders.OneWay
way_of w = record {
  sender = w.sender;
  pair = w.pair;
  facing = w.facing;
  time = w.time;
  others = w.others.now;
}

-- the book's form of a bar with what is drawn of it
abbrev pub shown_of : ShownBar → book.ShownBar
shown_of s = record {
  name = s.name.now;
  pair = s.pair;
  time = s.time;
  number = s.number;
  row = s.row.now;
  duty = s.duty;
}
