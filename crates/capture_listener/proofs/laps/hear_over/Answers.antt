use Rattle.std.proofs.Common.{false, refl, sym, ◌∙◌}
use Rattle.capture_listener.proofs.OverLaws.{heard_syn, between_told, heard_found, heard_none, heard_plain, heard_unknown, searched_stands}
use Rattle.capture_listener.proofs.laps.hear_over.Goals as goal

pub returns-then-has-clause-heard : goal.returns-then-has-clause-heard
returns-then-has-clause-heard g c = λ held S.
    let syn = sym c.has.ensures ∙ c.if-has.true in
    heard_syn (record { tables = c.args.tables.now; laps = c.args.laps }) held c.args.time c.args.datagram.now c.hear.new.self c.in_ok-line.line (c.in_ok-line.ensures.heard held S) syn

pub returns-then-not-is_searched-clause-heard : goal.returns-then-not-is_searched-clause-heard
returns-then-not-is_searched-clause-heard g c = λ held S.
    let syn = sym c.has.ensures ∙ c.if-has.false in
    let searched = sym c.is_searched.ensures ∙ c.if-not-is_searched.true in
    heard_plain (record { tables = c.args.tables.now; laps = c.args.laps }) held c.args.time c.args.datagram.now c.hear.new.self c.in_ok-line.line false false (c.in_ok-line.ensures.heard held S) searched syn refl

pub returns-in-None-clause-heard : goal.returns-in-None-clause-heard
returns-in-None-clause-heard g c = λ held S.
    let searched = sym c.is_searched.ensures ∙ c.if-not-is_searched.false in
    let H = c.in_ok-line.ensures.heard held S in
    let stands = searched_stands (record { tables = c.args.tables.now; laps = c.args.laps }) held c.args.time c.args.datagram.now c.hear.new.self c.in_ok-line.line H searched in
    heard_unknown (record { tables = c.args.tables.now; laps = c.args.laps }) held c.args.time c.args.datagram.now c.hear.new.self c.in_ok-line.line H
    (rw (← c.source.ensures.value, ← c.destination.ensures.value) (c.in-None.ensures.known held stands))

pub returns-in-Err-clause-stands : goal.returns-in-Err-clause-stands
returns-in-Err-clause-stands g c = λ held S.
    let searched = sym c.is_searched.ensures ∙ c.if-not-is_searched.false in
    let H = c.in_ok-line.ensures.heard held S in
    let stands = searched_stands (record { tables = c.args.tables.now; laps = c.args.laps }) held c.args.time c.args.datagram.now c.hear.new.self c.in_ok-line.line H searched in
    let B = between_told c.args.datagram.now held c.in-Some.known
    (rw (← c.source.ensures.value, ← c.destination.ensures.value) (c.in-Some.ensures.known held stands))
    (rw (← c.source.ensures.value, ← c.destination.ensures.value) c.in-Some.ensures.one) in
    c.in-Err.ensures.stands held B.connection stands B.is

pub returns-in-Ok-None-clause-heard : goal.returns-in-Ok-None-clause-heard
returns-in-Ok-None-clause-heard g c = λ held S.
    let searched = sym c.is_searched.ensures ∙ c.if-not-is_searched.false in
    let H = c.in_ok-line.ensures.heard held S in
    let stands = searched_stands (record { tables = c.args.tables.now; laps = c.args.laps }) held c.args.time c.args.datagram.now c.hear.new.self c.in_ok-line.line H searched in
    let B = between_told c.args.datagram.now held c.in-Some.known
    (rw (← c.source.ensures.value, ← c.destination.ensures.value) (c.in-Some.ensures.known held stands))
    (rw (← c.source.ensures.value, ← c.destination.ensures.value) c.in-Some.ensures.one) in
    heard_none (record { tables = c.args.tables.now; laps = c.args.laps }) held c.args.time c.args.datagram.now c.hear.new.self c.search.new.connections c.in_ok-line.line c.in-Some.known.expected H searched B
    (rw c.in-Ok-None.field-0-is at (c.in-Ok-None.ensures.finds held B.connection stands B.is B.expected_is))

pub returns-in-Ok-Some-clause-heard : goal.returns-in-Ok-Some-clause-heard
returns-in-Ok-Some-clause-heard g c = λ held S.
    let syn = sym c.has.ensures ∙ c.if-has.false in
    let searched = sym c.is_searched.ensures ∙ c.if-not-is_searched.false in
    let H = c.in_ok-line.ensures.heard held S in
    let stands = searched_stands (record { tables = c.args.tables.now; laps = c.args.laps }) held c.args.time c.args.datagram.now c.hear.new.self c.in_ok-line.line H searched in
    let B = between_told c.args.datagram.now held c.in-Some.known
    (rw (← c.source.ensures.value, ← c.destination.ensures.value) (c.in-Some.ensures.known held stands))
    (rw (← c.source.ensures.value, ← c.destination.ensures.value) c.in-Some.ensures.one) in
    heard_found (record { tables = c.args.tables.now; laps = c.args.laps }) held c.args.time c.args.datagram.now c.hear.new.self c.search.new.connections c.in_ok-line.line c.in-Ok-Some.further c.in-Some.known.expected H searched syn B
    (rw c.in-Ok-Some.field-0-is at (c.in-Ok-Some.ensures.finds held B.connection stands B.is B.expected_is))
