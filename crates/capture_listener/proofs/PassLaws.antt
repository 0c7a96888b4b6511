-- What was found of a segment that passes.
use Rattle.std.proofs.Common.{◌≡◌, ℕ, List, Option, Some, None, option_map, refl, sym, ap, ◌∙◌}
use Rattle.std.specs.Option.{unwrap_or}
use Rattle.book_endpoint.specs.Verdicts.{Finding}
use Rattle.book_endpoint.specs.declared.passed.Passed.{Passed}
use Rattle.book_cmd_check.specs.Captures.{Connection}
use Rattle.book_segments.specs.Segments.{Segment}
use Rattle.book_sessions.specs.declared.uses.FlowIsns.{FlowIsns}
use Rattle.book_sessions.specs.declared.uses.SeenPass.{SeenPass}
use Rattle.book_sessions.specs.Sessions.{isns_of_connection, seen_pass}
use Rattle.capture_check.specs.Expecting.{numbers_of}
use Rattle.capture_listener.specs.Passes.{isns_known}
use Rattle.capture_listener.proofs.LineLaws.{TellsPass}

pub known_isns : (others : FlowIsns) (c : Option Connection) → isns_known others (option_map numbers_of c) ≡ unwrap_or (option_map isns_of_connection c) others
known_isns others None = refl
known_isns others (Some c) = refl

pub none_seen : (d : Segment) (held : List Connection) (found : Option Finding) → TellsPass None found → ◌≡◌ {A = Option SeenPass} None (option_map (seen_pass d held) found)
none_seen d held found e = rw e refl
