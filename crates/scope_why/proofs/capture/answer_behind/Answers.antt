use Rattle.std.proofs.Common.{[], ◌++◌, List, refl, subst, sym}
use Rattle.book_cmd_check.specs.declared.given.GivenIsns.{GivenIsns}
use Rattle.book_sessions.specs.Sessions.{all_stored}
use Rattle.book_why.specs.Answers.{behind_stored}
use Rattle.capture_walk.proofs.Taken.{smaller}
use Rattle.scope_why.specs.Fronts.{StandsBehind}
use Rattle.scope_why.specs.Replies.{asked_of, key_file_of}
use Rattle.scope_why.proofs.Walk.{between_block, between_new, ends_broken, ends_done, ends_found, ends_lacking, ends_long, ends_memory, ends_read, heard_found}
use Rattle.scope_why.proofs.capture.answer_behind.Goals as goal
use Rattle.capture_walk.specs.HasRead.{listed}

pub parts-init : goal.parts-init
parts-init g c = ([], [], between_new (key_file_of c.args.question.now c.args.checker.now.tables) (asked_of c.args.question.now c.args.told.now.items c.args.number) c.args.reader.now c.args.checker.now c.args.told.now.items _ c.requires.reader refl c.requires.stands refl)

pub next-requires : goal.next-requires
next-requires g c = c.parts.invariant.2.taken.going

pub parts-smaller-in-Ok-Block : goal.parts-smaller-in-Ok-Block
parts-smaller-in-Ok-Block g c =
    let more = rw c.in-Ok-Block.field-0-is at c.in-Ok-Block.ensures.steps in
    let step = more.1 in
    smaller {said = step.answers.0} step.answers.1

pub parts-preserved-in-Ok-Block : goal.parts-preserved-in-Ok-Block
parts-preserved-in-Ok-Block g c =
    let more = rw c.in-Ok-Block.field-0-is at c.in-Ok-Block.ensures.steps in
    let step = more.1 in (
      c.parts.invariant.0 ++ more.0,
      c.parts.invariant.1 ++ listed c.next.new.self.packet,
      between_block _ _ _ _ _ _ c.parts.invariant.0 more.0 c.parts.invariant.1 _ _ _ c.parts.invariant.2 c.next.new.self step.answers.0 step.answers.1 step.gave step.bytes step.bound step.answers.2,
    )

pub returns-in-Ok : goal.returns-in-Ok
returns-in-Ok g c =
    let more = rw c.in-Ok-End.field-0-is at c.in-Ok-End.ensures.steps in
    (c.parts.invariant.0 ++ more.0, ends_done _ _ _ _ _ _ c.parts.invariant.0 more.0 c.parts.invariant.1 _ _ _ c.parts.invariant.2 c.next.new.self c.in-Ok.answered c.in-Ok.ensures.text c.in-Ok.ensures.passes more.1)

pub returns-in-Err : goal.returns-in-Err
returns-in-Err g c =
    let more = rw c.in-Ok-End.field-0-is at c.in-Ok-End.ensures.steps in
    (c.parts.invariant.0 ++ more.0, ends_memory _ _ _ _ _ _ c.parts.invariant.0 more.0 c.parts.invariant.1 _ _ _ c.parts.invariant.2 c.next.new.self more.1)

pub returns-in-Err-Read : goal.returns-in-Err-Read
returns-in-Err-Read g c =
    let more = rw c.in-Err-Read.field-0-is at c.in-Err-Read.ensures.steps in
    (c.parts.invariant.0 ++ more.0, ends_read _ _ _ _ _ _ c.parts.invariant.0 more.0 c.parts.invariant.1 _ _ _ c.parts.invariant.2 c.next.new.self more.1)

pub returns-in-Err-TooLong : goal.returns-in-Err-TooLong
returns-in-Err-TooLong g c =
    let more = rw c.in-Err-TooLong.field-0-is at c.in-Err-TooLong.ensures.steps in
    (c.parts.invariant.0 ++ more.0, ends_long _ _ _ _ _ _ c.parts.invariant.0 more.0 c.parts.invariant.1 _ _ _ c.parts.invariant.2 c.next.new.self more.1)

pub returns-in-Err-Broken : goal.returns-in-Err-Broken
returns-in-Err-Broken g c =
    let more = rw c.in-Err-Broken.field-0-is at c.in-Err-Broken.ensures.steps in
    (c.parts.invariant.0 ++ more.0, rw c.in-Err-Broken.field-0-is (ends_broken _ _ _ _ _ _ c.parts.invariant.0 more.0 c.parts.invariant.1 _ _ _ c.parts.invariant.2 c.next.new.self c.in-Err-Broken.fault more.1))

pub returns-in-Err-answer_packet : goal.returns-in-Err-answer_packet
returns-in-Err-answer_packet g c =
    let more = rw c.in-Ok-Packet.field-0-is at c.in-Ok-Packet.ensures.steps in
    let step = more.1 in
    (c.parts.invariant.0 ++ more.0, ends_lacking _ _ _ _ _ _ c.parts.invariant.0 more.0 c.parts.invariant.1 _ _ _ c.parts.invariant.2 c.next.new.self step.answers.0 step.answers.1 step.gave step.bytes step.bound)

pub returns-in-Err-hear_packet : goal.returns-in-Err-hear_packet
returns-in-Err-hear_packet g c =
    let more = rw c.in-Ok-Packet.field-0-is at c.in-Ok-Packet.ensures.steps in
    let step = more.1 in
    (c.parts.invariant.0 ++ more.0, ends_lacking _ _ _ _ _ _ c.parts.invariant.0 more.0 c.parts.invariant.1 _ _ _ c.parts.invariant.2 c.next.new.self step.answers.0 step.answers.1 step.gave step.bytes step.bound)

pub returns-in-Ok-answer_packet : goal.returns-in-Ok-answer_packet
returns-in-Ok-answer_packet g c =
    let more = rw c.in-Ok-Packet.field-0-is at c.in-Ok-Packet.ensures.steps in
    let step = more.1 in
    let between = c.parts.invariant.2 in
    let behind = behind_stored c.args.checker.now.tables c.args.told.now.items (all_stored c.parts.invariant.1) in
    let stands = subst (λ (t : List GivenIsns). StandsBehind c.parts.checker.entries t behind) (sym c.as_slice.ensures.value) between.heard.stands in (
      c.parts.invariant.0 ++ more.0,
      ends_found _ _ _ _ _ _ c.parts.invariant.0 more.0 c.parts.invariant.1 _ _ _ between c.next.new.self step.answers.0 step.answers.1 step.gave step.bytes step.bound
          c.in-Ok-answer_packet.answered c.number.result c.stored_shown-stored.result _ refl (c.in-Ok-Packet.ensures.shown (rw c.in-Ok-Packet.field-0-is refl)) c.number.ensures c.if-number.true c.stored_shown-stored.ensures
          (c.in-Ok-answer_packet.ensures behind stands),
    )

pub parts-preserved : goal.parts-preserved
parts-preserved g c =
    let more = rw c.in-Ok-Packet.field-0-is at c.in-Ok-Packet.ensures.steps in
    let step = more.1 in
    let between = c.parts.invariant.2 in
    let behind = behind_stored c.args.checker.now.tables c.args.told.now.items (all_stored c.parts.invariant.1) in (
      c.parts.invariant.0 ++ more.0,
      c.parts.invariant.1 ++ listed c.next.new.self.packet,
      heard_found _ _ _ _ _ _ c.parts.invariant.0 more.0 c.parts.invariant.1 _ _ _ between c.next.new.self step.answers.0 step.answers.1 step.gave step.bytes step.bound
          c.hear_packet.new.checker c.hear_packet.new.told.items c.number.result c.stored_shown-stored.result _ refl (c.in-Ok-Packet.ensures.shown (rw c.in-Ok-Packet.field-0-is refl)) c.number.ensures c.if-number.false
          c.in-Ok-hear_packet.ensures.tables c.stored_shown-stored.ensures (λ n. c.in-Ok-hear_packet.ensures.stands behind n between.heard.stands),
    )
