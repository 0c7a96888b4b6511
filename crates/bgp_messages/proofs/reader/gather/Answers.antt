use Rattle.std.proofs.lemmas.List.{take_rest}
use Rattle.book_bgp.proofs.Headers.{sound}
use Rattle.bgp_messages.proofs.Gathering.{Sound, gathers_short, gathers_fault, gathers_part, gathers_whole}
use Rattle.bgp_messages.proofs.reader.gather.Goals as goal
use Rattle.bgp_messages.proofs.reader.gather.Goals.{After-fill}

pub returns-then-as_slice-lt-HEADER : goal.returns-then-as_slice-lt-HEADER
returns-then-as_slice-lt-HEADER c =
    gathers_short _ _ _ _ (record { used_is = c.fill-used.ensures.used; now_is = c.fill-used.ensures.bytes }) (rw c.as_slice.ensures.value at c.if-as_slice-lt-HEADER.true)

pub returns-in-Err : goal.returns-in-Err
returns-in-Err c =
    gathers_fault _ _ _ _ _ (record { used_is = c.fill-used.ensures.used; now_is = c.fill-used.ensures.bytes }) c.requires
    (rw c.as_slice.ensures.value at c.if-as_slice-lt-HEADER.false) (rw c.as_slice-2.ensures.value at c.in-Err.ensures)

pub fill-requires : goal.fill-requires
fill-requires c = rw c.in-Ok.ensures.1 (sound _ c.in-Ok.ensures.0).most

both : (c : After-fill) → Sound c.args.gathered.now c.args.piece.now c.fill-used.new.self c.fill.new.self c.in-Ok.len c.fill-used.result c.fill.result
both c = record {
  header = record { used_is = c.fill-used.ensures.used; now_is = c.fill-used.ensures.bytes };
  body = record { used_is = rw (take_rest c.args.piece.now c.fill-used.result) at c.fill.ensures.used; now_is = rw (take_rest c.args.piece.now c.fill-used.result) at c.fill.ensures.bytes };
  had = c.requires;
  enough = rw c.as_slice.ensures.value at c.if-as_slice-lt-HEADER.false;
  none = rw c.as_slice-2.ensures.value at c.in-Ok.ensures.0;
  len_is = rw c.as_slice-2.ensures.value at c.in-Ok.ensures.1;
}

pub returns-then-as_slice-len : goal.returns-then-as_slice-len
returns-then-as_slice-len c =
    gathers_part _ _ _ _ _ _ _ (both (goal.at.returns-then-as_slice-len c).After-fill) (rw c.as_slice-3.ensures.value at c.if-as_slice-len.true)

pub returns-else-as_slice-len : goal.returns-else-as_slice-len
returns-else-as_slice-len c =
    gathers_whole _ _ _ _ _ _ _ (both (goal.at.returns-else-as_slice-len c).After-fill) (rw c.as_slice-3.ensures.value at c.if-as_slice-len.false)
