use Rattle.std.proofs.Common.{arith, refl, sym, ◌∙◌}
use Rattle.book_base.specs.Orders.{sorted_pair}
use Rattle.capture_check.specs.Checkers.{found}
use Rattle.capture_check.proofs.FixLaws.{keys_fixed, sound_fixed, stands_given}
use Rattle.capture_check.proofs.datagrams.hold.Goals as goal

pub returns-in-Ok-clause-stands : goal.returns-in-Ok-clause-stands
returns-in-Ok-clause-stands c = λ held S.
    stands_given c.args.tables.now c.args.connections.now.entries c.fix_given.new.connections.entries held c.args.given c.in-Ok.room S
    (sym c.is_same_socket.ensures.told ∙ c.if-is_same_socket.false) c.in-Ok.ensures.fixed

pub returns-in-Ok-clause-sound : goal.returns-in-Ok-clause-sound
returns-in-Ok-clause-sound c =
    sound_fixed c.args.tables.now c.args.connections.now.entries c.fix_given.new.connections.entries c.args.given
    (found c.args.connections.now.entries (sorted_pair c.args.given.one c.args.given.other)) c.in-Ok.room c.requires.sound
    (sym c.is_same_socket.ensures.told ∙ c.if-is_same_socket.false) (omega (arith, c.well_formed)) (omega (arith, c.well_formed)) c.in-Ok.ensures.fixed

pub returns-in-Ok-clause-keys : goal.returns-in-Ok-clause-keys
returns-in-Ok-clause-keys c =
    keys_fixed c.args.tables.now c.args.connections.now.entries c.fix_given.new.connections.entries c.args.given
    (found c.args.connections.now.entries (sorted_pair c.args.given.one c.args.given.other)) c.in-Ok.room
    (sym c.is_same_socket.ensures.told ∙ c.if-is_same_socket.false) refl c.in-Ok.ensures.fixed
