-- What two ends and a log stand for.
use Rattle.std.specs.Prelude.{◌≡◌}
use Rattle.book_base.specs.declared.end.End.{End}
use Rattle.book_link.specs.Worlds.{Setup, World, pair_of, side as side_of}
use Rattle.both_ends.specs.declared.values.BothEnds.{BothEnds}
use Rattle.both_ends.specs.Values.{at}
use Rattle.link_report.specs.declared.log.Log.{Log}
use Rattle.link_report.specs.Logs.{StandsLog}
use Rattle.link_report.specs.declared.side.Side.{Side}
use Rattle.link_report.specs.Sides.{StandsSide, sockets_of}

-- two ends and a log stand for a world of a link: its two ends, and its history
pub record StandsLink (sides : BothEnds Side) (log : Log) (setup : Setup) (w : World) : Type 0 where
  pub pair_is : (e : End) → pair_of setup e ≡ sockets_of (at e sides)
  pub side_is : (e : End) → StandsSide (at e sides) (side_of w e)
  pub log_is : StandsLog log w.history

-- two ends and a log are those of a link: they stand for some world of it
pub record AreOfLink (sides : BothEnds Side) (log : Log) : Type 0 where
  pub setup : Setup
  pub world : World
  pub stands : StandsLink sides log setup world

-- a side and a log stand for one end of a world of a link, and for its history
pub record StandsAt (e : End) (d : Side) (log : Log) (setup : Setup) (w : World) : Type 0 where
  pub pair_is : pair_of setup e ≡ sockets_of d
  pub side_is : StandsSide d (side_of w e)
  pub log_is : StandsLog log w.history

-- a side and a log are those of an end of a link: they stand for it in some world
pub record AreOfEnd (e : End) (d : Side) (log : Log) : Type 0 where
  pub setup : Setup
  pub world : World
  pub stands : StandsAt e d log setup world
