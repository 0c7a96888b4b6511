-- An input that is read, and one that isn't.
use Rattle.std.proofs.Common.{◌≡◌, ◌↔◌, Result, refl, ap}
use Rattle.book_lines.specs.declared.text_fault.TextFault.{TextFault}
use Rattle.book_lines.specs.declared.text_fault.TextFault.TheVariants as fault
use Rattle.text_lines.specs.Readings.{Fails}
use Rattle.book_answer.specs.Answers.{Answer, if_read}
use Rattle.command_report.specs.declared.stop.Stop.TheVariants.{Input}
use Rattle.command_report.specs.Reports.{Stopped, stop_of}

-- a command whose input isn't read makes no report
pub fails_stops : {A : Type 0} (made : A → Answer) (said : Result A TextFault) (e : TextFault)
    → Fails e said → Stopped (stop_of e) (if_read made said)
fails_stops made said fault.Memory f = tt
fails_stops made said fault.TooManyLines f = ap (if_read made) f
fails_stops made said (fault.Line n kind) f = ap (if_read made) f

stopped_by_many : (e : TextFault) → stop_of e ≡ Input fault.TooManyLines → e ≡ fault.TooManyLines
stopped_by_many fault.Memory is = absurd (cc is)
stopped_by_many fault.TooManyLines is = refl
stopped_by_many (fault.Line n kind) is = absurd (cc is)

-- the report stops at too many lines exactly where the reading does
pub many_stop : {P : Type 0} (e : TextFault) → (e ≡ fault.TooManyLines ↔ P) → (stop_of e ≡ Input fault.TooManyLines ↔ P)
many_stop e both = ((λ is. both.0 (stopped_by_many e is)), (λ p. ap stop_of (both.1 p)))
