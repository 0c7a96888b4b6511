-- Initial sequence numbers read one line after another, as a loop reads them.
use Rattle.std.proofs.Common.{◌≡◌, ◌<◌, ◌≤◌, ℕ, nat_lt, true, false, List, [], ◌∷◌, ◌++◌, length, Result, Ok, Err, refl, sym, ap, ◌∙◌, subst, append_assoc, arith}
use Rattle.std.proofs.lemmas.List.{append-nil}
use Rattle.std.proofs.lemmas.Bool.Decides.{nat_tests}
use Rattle.book_base.specs.Lines.{lines_of}
use Rattle.book_base.specs.Results.{◌>>=◌}
use Rattle.book_lines.specs.declared.text_fault.TextFault.{TextFault}
use Rattle.book_lines.specs.declared.text_fault.TextFault.TheVariants as fault
use Rattle.book_lines.specs.Lines.{Line, most_lines, saying_lines}
use Rattle.book_lines.specs.Said.{Said, at_number, if_few_lines, said_by, said_in}
use Rattle.text_lines.specs.Readings.{Fails}
use Rattle.book_cmd_check.specs.declared.given.GivenIsns.{GivenIsns}
use Rattle.book_sessions.specs.GivenLines.{given_by, given_isns_in, given_isns_of}
use Rattle.scope_sessions.specs.Given.{given_from}

-- so far, and then those of the lines
abbrev from_lines : List GivenIsns → List Line → Result (List GivenIsns) TextFault
from_lines out ls = given_from out (said_by given_isns_in ls)

one_given : (before out : List GivenIsns) (s : Said GivenIsns) (others : Result (List (Said GivenIsns)) TextFault) → out ≡ before ++ s.value ∷ []
    → given_from out others ≡ given_from before (others >>= λ o. Ok (s ∷ o))
one_given before out s (Ok said) more = ap Ok (rw more (append_assoc before (s.value ∷ []) (given_by said)))
one_given before out s (Err e) more = refl

module _ (before : List GivenIsns) (l : Line) (ls lines : List Line) (whole : Result (List GivenIsns) TextFault)
    (next : lines ≡ l ∷ ls) (so_far : from_lines before lines ≡ whole) where
  step : from_lines before (l ∷ ls) ≡ whole
  step = sym (ap (λ x. from_lines before x) next) ∙ so_far

  pub line_given : (isns : GivenIsns) (out : List GivenIsns) → Ok isns ≡ at_number l.number (given_isns_in l.words) → out ≡ before ++ isns ∷ [] → from_lines out ls ≡ whole
  unfolding said_by
  line_given isns out h more =
      one_given before out (record { number = l.number; value = isns }) (said_by given_isns_in ls) more ∙ (rw (sym h) at step)

  pub line_refused : (f : TextFault) → Err f ≡ at_number l.number (given_isns_in l.words) → Fails f whole
  unfolding said_by
  line_refused fault.Memory h = tt
  line_refused fault.TooManyLines h = sym (rw (sym h) at step)
  line_refused (fault.Line n kind) h = sym (rw (sym h) at step)

pub lines_given : (out : List GivenIsns) (lines : List Line) (whole : Result (List GivenIsns) TextFault) → lines ≡ [] → from_lines out lines ≡ whole → whole ≡ Ok out
unfolding said_by
lines_given out lines whole none so_far = sym (rw none at so_far) ∙ ap Ok (append-nil out)

-- what lines give is what is said of them
given_said : (said : Result (List (Said GivenIsns)) TextFault) → (said >>= λ s. Ok (given_by s)) ≡ given_from [] said
given_said (Ok said) = refl
given_said (Err e) = refl

-- a text that hasn't too many lines gives what its lines give
pub few_given : (text : List ℕ) → nat_lt most_lines (length (lines_of text)) ≡ false → given_isns_of text ≡ given_from [] (said_by given_isns_in (saying_lines text))
unfolding given_isns_of said_in
few_given text few = rw few (given_said (said_by given_isns_in (saying_lines text)))

-- one that has too many is refused for it
pub many_given : (text : List ℕ) → nat_lt most_lines (length (lines_of text)) ≡ true → given_isns_of text ≡ Err fault.TooManyLines
unfolding given_isns_of said_in
many_given text many = rw many refl

pub count_refused : (text : List ℕ) (e : TextFault) → e ≡ fault.TooManyLines → most_lines < length (lines_of text) → Fails e (given_isns_of text)
count_refused text e is many =
    let so : nat_lt most_lines (length (lines_of text)) ≡ true = grind (arith, nat_tests) in
    rw is (many_given text so)

pub few_by : (text : List ℕ) (n : ℕ) → n ≡ length (lines_of text) → n ≤ most_lines → given_isns_of text ≡ given_from [] (said_by given_isns_in (saying_lines text))
few_by text n counted few =
    let so : nat_lt most_lines (length (lines_of text)) ≡ false = grind (arith, nat_tests) in
    few_given text so
