-- What a checker answers, as what the definitions say of a stored segment.
use Rattle.std.specs.Prelude.{◌≡◌, ℕ, Bool, true, false, List, [], ◌∷◌, ◌++◌, codes, decimal, Ok, Err}
use Rattle.book_segments.specs.Faults.{fault_text}
use Rattle.book_link.specs.Reports.{verdict_text}
use Rattle.book_macs.specs.Contexts.{bytes_of}
use Rattle.book_endpoint.specs.Verdicts.{Finding, Judgement}
use Rattle.book_endpoint.specs.declared.passed.Passed.{Passed}
use Rattle.book_cmd_check.specs.Captures as book
use Rattle.book_cmd_check.specs.declared.checksum.Checksum.{Checksum}
use Rattle.book_cmd_check.specs.DatagramTexts.{checksum_text}
use Rattle.ao_check.specs.Verdicts.{Verdict, is_judged}
use Rattle.capture_check.specs.declared.answer.CheckLine.{CheckLine}
use Rattle.capture_check.specs.declared.answer.CheckLine.TheVariants as line

-- what is told of a segment that passed is what was found of it
pub record IsFound (p : Passed) (entry : Finding) : Type 0 where
  pub row : entry.row ≡ p.row
  pub number : entry.number ≡ p.number
  pub context : entry.context ≡ bytes_of p.context

-- the verdict is that judgement
abbrev pub IsJudged : Verdict → Judgement → Type 0
IsJudged (Ok p) j = (entry : Finding) × (j ≡ Ok entry) × IsFound p entry
IsJudged (Err why) j = j ≡ Err why

-- the answer is what is said of the segment
abbrev pub Says : CheckLine → book.Saying → Type 0
Says (line.Bad fault) s = s ≡ book.Unreadable fault
Says line.UnknownNode s = s ≡ book.UnknownNode
Says (line.Verdict v checksum) s = (j : Judgement) × (s ≡ book.Judged j checksum) × IsJudged v j
Says (line.Full checksum) s = s ≡ book.TooManyConnections checksum

-- the segment came as far as its MAC
abbrev pub is_computed : CheckLine → Bool
is_computed (line.Verdict v checksum) = is_judged v
is_computed (line.Full checksum) = true
is_computed _ = false

-- a pass
abbrev pub is_pass : Verdict → Bool
is_pass (Ok p) = true
is_pass (Err why) = false

-- the words for a verdict
abbrev pub verdict_texts : Verdict → List (List ℕ)
verdict_texts (Ok p) = codes "pass" ∷ codes "row" ∷ decimal p.row ∷ codes "number" ∷ decimal p.number ∷ []
verdict_texts (Err why) = codes "refused" ∷ verdict_text why ∷ []

-- the words for a checksum
abbrev pub checksum_texts : Checksum → List (List ℕ)
checksum_texts checksum = codes "checksum" ∷ checksum_text checksum ∷ []

-- the words for an answer
abbrev pub answer_texts : CheckLine → List (List ℕ)
answer_texts (line.Bad fault) = codes "bad" ∷ fault_text fault ∷ []
answer_texts line.UnknownNode = codes "unknown-node" ∷ []
answer_texts (line.Verdict v checksum) = verdict_texts v ++ checksum_texts checksum
answer_texts (line.Full checksum) = codes "full" ∷ checksum_texts checksum
