-- A connection as one of its ends sees it, as the book has it.
use Rattle.toml.specs.View.{table_view}
use Rattle.book_scope_plan.specs.FindingTexts as book
use Rattle.book_scope_plan.specs.WayTexts as ways
use Rattle.scope_plan.specs.declared.facing.Facing.{Facing}
use Rattle.scope_plan.specs.declared.short.SentRow.{SentRow}

-- the book's form of what the code holds
abbrev pub facing_of : Facing → book.Facing
facing_of f = record {
  document = table_view f.document.now;
  node = f.node.now;
  other = f.other.now;
  pair = f.pair;
  plan = f.plan;
}

-- the book's form of a row that sends
abbrev pub sent_of : SentRow → ways.SentRow
sent_of s = record { number = s.number; row = s.row.now }
