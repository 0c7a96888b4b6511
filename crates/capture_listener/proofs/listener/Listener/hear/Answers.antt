use Rattle.std.proofs.Common.{inl, inr, refl, sym, ◌∙◌}
use Rattle.book_sessions.specs.Glimpses.{is_opened_anew}
use Rattle.book_sessions.specs.Laps.{hear_over}
use Rattle.book_sessions.specs.Listening.{said_of}
use Rattle.capture_check.specs.Answers.{Says}
use Rattle.capture_check.specs.Checkers.{StandsFor}
use Rattle.capture_listener.specs.Listeners.{seen_to_begin, seen_to_open}
use Rattle.capture_listener.specs.Openings.{KeepsOpenings}
use Rattle.capture_listener.proofs.LapLaws.{on_err}
use Rattle.capture_listener.proofs.LineLaws.{anew_refused, anew_told, unknown_refused}
use Rattle.capture_listener.proofs.ListenLaws.{listens_once, listens_twice, opening_stands, refused_stands, still}
use Rattle.capture_listener.proofs.listener.Listener.hear.Goals as goal

pub returns-in_err-line-clause-still : goal.returns-in_err-line-clause-still
returns-in_err-line-clause-still g c = λ k K0.
    let K = rw (← c.self.view_is) at K0 in
    on_err c.from_residual.result _ (rw (← c.self.view_is) (still _ (record { tables = c.self.inside.tables; laps = c.self.inside.laps }) k c.args.time c.args.datagram.now k.guessed k.openings
    (c.in_err-line.ensures.stands k.held K.held) (inl refl) K.guessed (inl refl) K.openings))

pub returns-in_err-glimpse-clause-still : goal.returns-in_err-glimpse-clause-still
returns-in_err-glimpse-clause-still g c = λ k K0.
    let K = rw (← c.self.view_is) at K0 in
    let H = c.in_ok-line.ensures.heard k.held K.held in
    let S : Says c.told_anew-told.result (said_of (record { tables = c.self.inside.tables; laps = c.self.inside.laps }) k c.args.time c.args.datagram.now) =
    anew_told c.is_opened_anew-anew.result (is_opened_anew c.args.datagram.now k.held k.openings) c.in_ok-line.line c.told_anew-told.result (hear_over (record { tables = c.self.inside.tables; laps = c.self.inside.laps }) k.held c.args.time c.args.datagram.now).saying (c.is_opened_anew-anew.ensures k.held k.openings K.held K.openings) c.told_anew-told.ensures H.says in
    let G : StandsFor c.glimpse.new.guesses k.guessed = rw c.in_err-glimpse.ensures.unchanged K.guessed in
    on_err c.from_residual-in_err-glimpse.result _ (rw (← c.self.view_is) (still _ (record { tables = c.self.inside.tables; laps = c.self.inside.laps }) k c.args.time c.args.datagram.now k.guessed k.openings
    (refused_stands c.hear_over.new.connections (record { tables = c.self.inside.tables; laps = c.self.inside.laps }) k c.args.time c.args.datagram.now c.in_ok-line.line H (anew_refused c.is_opened_anew-anew.result c.in_ok-line.line c.told_anew-told.result c.told_anew-told.ensures c.in_err-glimpse.ensures.cause))
    (inl refl) G (inl refl) K.openings))

pub returns-in_err-note_opening-clause-still : goal.returns-in_err-note_opening-clause-still
returns-in_err-note_opening-clause-still g c = λ k K0.
    let K = rw (← c.self.view_is) at K0 in
    let H = c.in_ok-line.ensures.heard k.held K.held in
    let S : Says c.told_anew-told.result (said_of (record { tables = c.self.inside.tables; laps = c.self.inside.laps }) k c.args.time c.args.datagram.now) =
    anew_told c.is_opened_anew-anew.result (is_opened_anew c.args.datagram.now k.held k.openings) c.in_ok-line.line c.told_anew-told.result (hear_over (record { tables = c.self.inside.tables; laps = c.self.inside.laps }) k.held c.args.time c.args.datagram.now).saying (c.is_opened_anew-anew.ensures k.held k.openings K.held K.openings) c.told_anew-told.ensures H.says in
    let G : StandsFor c.glimpse.new.guesses (seen_to_begin (record { tables = c.self.inside.tables; laps = c.self.inside.laps }) k c.args.time c.args.datagram.now) =
    c.in_ok-glimpse.ensures.stands (said_of (record { tables = c.self.inside.tables; laps = c.self.inside.laps }) k c.args.time c.args.datagram.now) k.openings k.guessed S K.openings K.guessed in
    let O : KeepsOpenings c.note_opening.new.openings.isns.entries k.openings = rw c.in_err-note_opening.ensures.unchanged K.openings in
    on_err c.from_residual-in_err-note_opening.result _ (rw (← c.self.view_is) (still _ (record { tables = c.self.inside.tables; laps = c.self.inside.laps }) k c.args.time c.args.datagram.now (seen_to_begin (record { tables = c.self.inside.tables; laps = c.self.inside.laps }) k c.args.time c.args.datagram.now) k.openings
    (opening_stands c.hear_over.new.connections (record { tables = c.self.inside.tables; laps = c.self.inside.laps }) k c.args.time c.args.datagram.now c.in_ok-line.line H c.in_err-note_opening.ensures.cause.0 c.in_err-note_opening.ensures.cause.1)
    (inr refl) G (inl refl) O))

pub returns-then-not-is_unknown-clause-heard : goal.returns-then-not-is_unknown-clause-heard
returns-then-not-is_unknown-clause-heard g c = λ k K0.
    let K = rw (← c.self.view_is) at K0 in
    let H = c.in_ok-line.ensures.heard k.held K.held in
    let S : Says c.told_anew-told.result (said_of (record { tables = c.self.inside.tables; laps = c.self.inside.laps }) k c.args.time c.args.datagram.now) =
    anew_told c.is_opened_anew-anew.result (is_opened_anew c.args.datagram.now k.held k.openings) c.in_ok-line.line c.told_anew-told.result (hear_over (record { tables = c.self.inside.tables; laps = c.self.inside.laps }) k.held c.args.time c.args.datagram.now).saying (c.is_opened_anew-anew.ensures k.held k.openings K.held K.openings) c.told_anew-told.ensures H.says in
    let G : StandsFor c.glimpse.new.guesses (seen_to_begin (record { tables = c.self.inside.tables; laps = c.self.inside.laps }) k c.args.time c.args.datagram.now) =
    c.in_ok-glimpse.ensures.stands (said_of (record { tables = c.self.inside.tables; laps = c.self.inside.laps }) k c.args.time c.args.datagram.now) k.openings k.guessed S K.openings K.guessed in
    let O : KeepsOpenings c.note_opening.new.openings.isns.entries (seen_to_open (record { tables = c.self.inside.tables; laps = c.self.inside.laps }) k c.args.time c.args.datagram.now) =
    c.in_ok-note_opening.ensures.keeps (hear_over (record { tables = c.self.inside.tables; laps = c.self.inside.laps }) k.held c.args.time c.args.datagram.now).saying k.openings H.says K.openings in
    let known = sym c.is_unknown.ensures ∙ c.if-not-is_unknown.true in
    let h = hear_over (record { tables = c.self.inside.tables; laps = c.self.inside.laps }) k.held c.args.time c.args.datagram.now in
    rw (c.by_line.ensures, ← c.self.view_is) (listens_once _ (record { tables = c.self.inside.tables; laps = c.self.inside.laps }) k c.args.time c.args.datagram.now c.in_ok-line.line c.told_anew-told.result c.seen_pass.result H S known G O
    (c.seen_pass.ensures h.saying h.connections H.says H.stands))

pub returns-clause-heard : goal.returns-clause-heard
returns-clause-heard g c = λ k K0.
    let K = rw (← c.self.view_is) at K0 in
    let H = c.in_ok-line.ensures.heard k.held K.held in
    let S : Says c.told_anew-told.result (said_of (record { tables = c.self.inside.tables; laps = c.self.inside.laps }) k c.args.time c.args.datagram.now) =
    anew_told c.is_opened_anew-anew.result (is_opened_anew c.args.datagram.now k.held k.openings) c.in_ok-line.line c.told_anew-told.result (hear_over (record { tables = c.self.inside.tables; laps = c.self.inside.laps }) k.held c.args.time c.args.datagram.now).saying (c.is_opened_anew-anew.ensures k.held k.openings K.held K.openings) c.told_anew-told.ensures H.says in
    let G : StandsFor c.glimpse.new.guesses (seen_to_begin (record { tables = c.self.inside.tables; laps = c.self.inside.laps }) k c.args.time c.args.datagram.now) =
    c.in_ok-glimpse.ensures.stands (said_of (record { tables = c.self.inside.tables; laps = c.self.inside.laps }) k c.args.time c.args.datagram.now) k.openings k.guessed S K.openings K.guessed in
    let O : KeepsOpenings c.note_opening.new.openings.isns.entries (seen_to_open (record { tables = c.self.inside.tables; laps = c.self.inside.laps }) k c.args.time c.args.datagram.now) =
    c.in_ok-note_opening.ensures.keeps (hear_over (record { tables = c.self.inside.tables; laps = c.self.inside.laps }) k.held c.args.time c.args.datagram.now).saying k.openings H.says K.openings in
    let unknown = sym c.is_unknown.ensures ∙ c.if-not-is_unknown.false in
    let M = c.in_ok-further.ensures.heard (seen_to_begin (record { tables = c.self.inside.tables; laps = c.self.inside.laps }) k c.args.time c.args.datagram.now) G in
    rw (c.by_seen_line.ensures, ← c.self.view_is) (listens_twice _ (record { tables = c.self.inside.tables; laps = c.self.inside.laps }) k c.args.time c.args.datagram.now c.in_ok-line.line c.told_anew-told.result c.in_ok-further.further H S unknown M O)

pub returns-in_err-further-clause-still : goal.returns-in_err-further-clause-still
returns-in_err-further-clause-still g c = λ k K0.
    let K = rw (← c.self.view_is) at K0 in
    let H = c.in_ok-line.ensures.heard k.held K.held in
    let S : Says c.told_anew-told.result (said_of (record { tables = c.self.inside.tables; laps = c.self.inside.laps }) k c.args.time c.args.datagram.now) =
    anew_told c.is_opened_anew-anew.result (is_opened_anew c.args.datagram.now k.held k.openings) c.in_ok-line.line c.told_anew-told.result (hear_over (record { tables = c.self.inside.tables; laps = c.self.inside.laps }) k.held c.args.time c.args.datagram.now).saying (c.is_opened_anew-anew.ensures k.held k.openings K.held K.openings) c.told_anew-told.ensures H.says in
    let G : StandsFor c.glimpse.new.guesses (seen_to_begin (record { tables = c.self.inside.tables; laps = c.self.inside.laps }) k c.args.time c.args.datagram.now) =
    c.in_ok-glimpse.ensures.stands (said_of (record { tables = c.self.inside.tables; laps = c.self.inside.laps }) k c.args.time c.args.datagram.now) k.openings k.guessed S K.openings K.guessed in
    let O : KeepsOpenings c.note_opening.new.openings.isns.entries (seen_to_open (record { tables = c.self.inside.tables; laps = c.self.inside.laps }) k c.args.time c.args.datagram.now) =
    c.in_ok-note_opening.ensures.keeps (hear_over (record { tables = c.self.inside.tables; laps = c.self.inside.laps }) k.held c.args.time c.args.datagram.now).saying k.openings H.says K.openings in
    let unknown = sym c.is_unknown.ensures ∙ c.if-not-is_unknown.false in
    let E : StandsFor c.hear_over-2.new.connections (seen_to_begin (record { tables = c.self.inside.tables; laps = c.self.inside.laps }) k c.args.time c.args.datagram.now) = c.in_err-further.ensures.stands (seen_to_begin (record { tables = c.self.inside.tables; laps = c.self.inside.laps }) k c.args.time c.args.datagram.now) G in
    on_err c.from_residual-in_err-further.result _ (rw (← c.self.view_is) (still _ (record { tables = c.self.inside.tables; laps = c.self.inside.laps }) k c.args.time c.args.datagram.now (seen_to_begin (record { tables = c.self.inside.tables; laps = c.self.inside.laps }) k c.args.time c.args.datagram.now) (seen_to_open (record { tables = c.self.inside.tables; laps = c.self.inside.laps }) k c.args.time c.args.datagram.now)
    (refused_stands c.hear_over.new.connections (record { tables = c.self.inside.tables; laps = c.self.inside.laps }) k c.args.time c.args.datagram.now c.in_ok-line.line H (anew_refused c.is_opened_anew-anew.result c.in_ok-line.line c.told_anew-told.result c.told_anew-told.ensures (unknown_refused c.told_anew-told.result unknown)))
    (inr refl) E (inr refl) O))
