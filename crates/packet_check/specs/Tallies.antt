-- How many packets count as what, as the machine holds it (own).
use Rattle.std.specs.Prelude.{◌≡◌, List}
use Rattle.std.specs.List.{list_any}
use Rattle.book_sessions.specs.declared.class.PacketClass.{PacketClass}
use Rattle.book_sessions.specs.CheckedLines.{class_count, is_amiss_class, is_foreign_class}
use Rattle.book_sessions.specs.CheckedLines.{is_other_class, is_passing_class, is_refused_class}
use Rattle.packet_check.specs.declared.tally.Tally.{Tally}

-- the tally is that of packets that count as these
pub record Tallies (t : Tally) (classes : List PacketClass) : Type 0 where
  pub passing : t.passing ≡ class_count is_passing_class classes
  pub refused : t.refused ≡ class_count is_refused_class classes
  pub foreign : t.foreign ≡ class_count is_foreign_class classes
  pub others : t.others ≡ class_count is_other_class classes
  pub amiss : t.amiss ≡ list_any is_amiss_class classes
