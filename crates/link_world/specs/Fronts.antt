-- How far an end has sent.
use Rattle.std.specs.Prelude.{Option}
use Rattle.book_link.specs.SendFronts.{SendFront}
use Rattle.link_world.specs.declared.front.Front.{Front}

-- the front of the definitions
abbrev pub front_of : Front → SendFront
front_of f = record { una = f.una; next = f.next }
