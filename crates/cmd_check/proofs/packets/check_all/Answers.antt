use Rattle.std.proofs.Common.{[], ◌++◌, refl}
use Rattle.pcap_file.specs.Reads.{and_packet}
use Rattle.cmd_check.proofs.Walk.{between_more, between_new, between_smaller, ends_done, ends_head, ends_long, ends_read, ends_record, ends_stuck, ends_without}
use Rattle.cmd_check.proofs.packets.check_all.Goals as goal

pub packets-init : goal.packets-init
packets-init g c = ([], [], between_new c.args.judge.now.checking.tables c.args.packets.now c.args.judge.now c.args.lines.now.items _ _ c.requires.lines c.requires.packets refl c.requires.heard)

pub returns-in-Ok-End : goal.returns-in-Ok-End
returns-in-Ok-End g c =
    let more = rw c.in-Ok-End.field-0-is at c.in-Ok-End.ensures in
    (c.packets.invariant.0 ++ more.0, rw c.is_amiss.ensures (ends_done c.args.judge.now.checking.tables c.packets.packets c.next_packet.new.packets c.packets.judge c.packets.invariant.0 more.0 c.packets.invariant.1 c.packets.lines.items _ _ _ _ _ c.packets.invariant.2 _ _ more.1.in_time more.1.steps more.1.goes))

pub returns-in-Ok-Fault : goal.returns-in-Ok-Fault
returns-in-Ok-Fault g c =
    let more = rw c.in-Ok-Fault.field-0-is at c.in-Ok-Fault.ensures in
    (c.packets.invariant.0 ++ more.0, ends_read c.args.judge.now.checking.tables c.packets.packets c.next_packet.new.packets c.packets.judge c.packets.invariant.0 more.0 c.packets.invariant.1 c.packets.lines.items _ _ _ _ _ c.packets.invariant.2 _ _ more.1.in_time more.1.steps)

pub returns-in-Ok-TooLong : goal.returns-in-Ok-TooLong
returns-in-Ok-TooLong g c =
    let more = rw c.in-Ok-TooLong.field-0-is at c.in-Ok-TooLong.ensures in
    (c.packets.invariant.0 ++ more.0, ends_long c.args.judge.now.checking.tables c.packets.packets c.next_packet.new.packets c.packets.judge c.packets.invariant.0 more.0 c.packets.invariant.1 c.packets.lines.items _ _ _ _ _ c.packets.invariant.2 _ _ more.1.in_time more.1.steps)

pub returns-in-Ok-BadHead : goal.returns-in-Ok-BadHead
returns-in-Ok-BadHead g c =
    let more = rw c.in-Ok-BadHead.field-0-is at c.in-Ok-BadHead.ensures in
    (c.packets.invariant.0 ++ more.0, ends_head c.args.judge.now.checking.tables c.packets.packets c.next_packet.new.packets c.packets.judge c.packets.invariant.0 more.0 c.packets.invariant.1 c.packets.lines.items _ _ _ _ _ c.packets.invariant.2 _ _ more.1.in_time c.in-Ok-BadHead.fault more.1.steps more.1.goes)

pub returns-in-Ok-BadRecord : goal.returns-in-Ok-BadRecord
returns-in-Ok-BadRecord g c =
    let more = rw c.in-Ok-BadRecord.field-0-is at c.in-Ok-BadRecord.ensures in
    (c.packets.invariant.0 ++ more.0, ends_record c.args.judge.now.checking.tables c.packets.packets c.next_packet.new.packets c.packets.judge c.packets.invariant.0 more.0 c.packets.invariant.1 c.packets.lines.items _ _ _ _ _ c.packets.invariant.2 _ _ more.1.in_time c.in-Ok-BadRecord.number more.1.steps more.1.goes)

pub packets-smaller : goal.packets-smaller
packets-smaller g c =
    let more = rw c.in-Ok-Packet.field-0-is at c.in-Ok-Packet.ensures in
    between_smaller c.args.judge.now.checking.tables c.packets.packets c.next_packet.new.packets c.packets.judge c.packets.invariant.0 more.0 c.packets.invariant.1 c.packets.lines.items _ _ _ _ _ c.packets.invariant.2 more.1.steps more.1.goes

pub packets-preserved : goal.packets-preserved
packets-preserved g c =
    let more = rw c.in-Ok-Packet.field-0-is at c.in-Ok-Packet.ensures in
    let between = c.packets.invariant.2 in
    let goes = more.1.goes in
    let judged = c.in-Ok.ensures goes.1 c.packets.invariant.1 goes.3 between.heard in (
      c.packets.invariant.0 ++ more.0,
      and_packet c.packets.invariant.1 goes.1,
      between_more c.args.judge.now.checking.tables c.packets.packets c.next_packet.new.packets c.packets.judge c.packets.invariant.0 more.0 c.packets.invariant.1 c.packets.lines.items _ _ _ _ _ between goes.1 more.1.steps goes goes.3 _ _ more.1.in_time c.judge_packet.new.judge _ judged,
    )

pub returns-in-Err : goal.returns-in-Err
returns-in-Err g c =
    let more = c.in-Err.ensures in
    (c.packets.invariant.0 ++ more.0, ends_stuck c.args.judge.now.checking.tables c.packets.packets c.packets.judge c.packets.invariant.0 more.0 c.packets.invariant.1 c.packets.lines.items _ _ _ _ _ _ c.packets.invariant.2 more.1)

pub returns-in-Err-judge_packet : goal.returns-in-Err-judge_packet
returns-in-Err-judge_packet g c =
    let more = rw c.in-Ok-Packet.field-0-is at c.in-Ok-Packet.ensures in
    let between = c.packets.invariant.2 in
    let goes = more.1.goes in
    let same = c.in-Err-judge_packet.ensures goes.1 c.packets.invariant.1 goes.3 between.heard in (
      c.packets.invariant.0 ++ more.0,
      ends_without c.args.judge.now.checking.tables c.packets.packets c.next_packet.new.packets c.packets.judge c.packets.invariant.0 more.0 c.packets.invariant.1 c.packets.lines.items _ _ _ _ _ between goes.1 more.1.steps goes goes.3 _ _ more.1.in_time _ _ (rw same at c.run_out.ensures),
    )
