-- What the calls answer that make no segment.
use Rattle.std.specs.Prelude.{ℕ, List, ⊤}
use Rattle.book_endpoint.specs.States as book
use Rattle.tcp_endpoint.specs.declared.send.GiveAnswer.{GiveAnswer}
use Rattle.tcp_endpoint.specs.declared.send.GiveAnswer.TheVariants as answers

-- what is said of a piece
abbrev pub offer_answers : book.Offers GiveAnswer
offer_answers = record { closed = answers.Closed; full = answers.Full; done = answers.Ok }

-- whether a piece is taken
abbrev pub give_answer : book.EndState → List ℕ → GiveAnswer
give_answer s piece = book.offered (λ t answer. answer) offer_answers piece s

-- the state once it was offered
abbrev pub offered : List ℕ → book.EndState → book.EndState
offered piece s = book.offered (λ t answer. t) offer_answers piece s

-- the piece wasn't taken
abbrev pub IsRefused : GiveAnswer → Type 0
IsRefused answers.Ok = ⊥
IsRefused _ = ⊤
