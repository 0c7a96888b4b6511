-- The initial sequence numbers that are given, while they are read (own).
use Rattle.std.specs.Prelude.{List, ◌++◌, Result, Ok, Err}
use Rattle.book_lines.specs.declared.text_fault.TextFault.{TextFault}
use Rattle.book_lines.specs.Said.{Said}
use Rattle.book_cmd_check.specs.declared.given.GivenIsns.{GivenIsns}
use Rattle.book_sessions.specs.GivenLines.{given_by}

-- what was given so far, and then what is said; or the first faulty line
abbrev pub given_from : List GivenIsns → Result (List (Said GivenIsns)) TextFault → Result (List GivenIsns) TextFault
given_from out (Ok said) = Ok (out ++ given_by said)
given_from out (Err e) = Err e
