-- The pen of the definitions.
use Rattle.book_draw.specs.Ladders as book
use Rattle.draw_ladder.specs.declared.lines.Pen.{Pen}

-- what an arrow is drawn with (own)
abbrev pub pen_of : Pen → book.Pen
pen_of p = record { lead = p.lead; stroke = p.stroke; tip = p.tip }
