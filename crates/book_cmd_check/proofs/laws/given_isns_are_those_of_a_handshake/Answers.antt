use Rattle.book_cmd_check.proofs.HandshakeLaws.{of_handshake}
use Rattle.book_cmd_check.proofs.laws.given_isns_are_those_of_a_handshake.Goals as goal

pub returns : goal.returns
returns c = of_handshake
