-- Where the lines of a take are from.
use Rattle.book_cmd_link.specs.BgpRuns as book
use Rattle.cmd_link.specs.declared.lines.Place.{Place}

-- the place in the words of the definitions
abbrev pub place_of : Place → book.Place
place_of p = record { number = p.number; end = p.end; session = p.session }
