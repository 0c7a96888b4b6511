use Rattle.std.proofs.Common.{◌++◌, take, arith}
use Rattle.std.proofs.lemmas.List.{length-take}
use Rattle.ao_base.proofs.ReadingOn.{read_more, read_whole, read_failed, read_long, read_lost}
use Rattle.ao_base.proofs.whole.read_all.Goals as goal

pub reads-preserved : goal.reads-preserved
reads-preserved g c =
    read_more _ _ _ c.reads.all.items c.args.most c.reads.invariant.1 c.reads.invariant.0 c.read.new.buf _ _ c.in-Ok.n
    c.in-Ok.ensures.room c.in-Ok.ensures.gave (omega arith) c.in-Ok-extend_from_slice.ensures.items

pub returns-then-n-eq0 : goal.returns-then-n-eq0
returns-then-n-eq0 g c = (
  c.reads.all.items,
  rw c.from_vec.ensures
      (read_whole _ _ _ c.reads.all.items c.args.most c.reads.invariant.1 c.reads.invariant.0 c.read.new.buf
      (rw (c.if-n-eq0.true) at c.in-Ok.ensures) (omega (arith, length-take c.wanted.result c.reads.buf))),
)

pub returns-in_default : goal.returns-in_default
returns-in_default g c = (
  c.reads.all.items,
  read_failed _ _ _ c.reads.all.items c.args.most c.reads.invariant.1 c.reads.invariant.0 c.read.new.buf _ c.in_default.ensures,
)

pub returns-then-n-left : goal.returns-then-n-left
returns-then-n-left g c = (
  c.reads.all.items ++ take c.in-Ok.n c.read.new.buf,
  read_long _ _ _ c.reads.all.items c.args.most c.reads.invariant.1 c.reads.invariant.0 c.read.new.buf c.in-Ok.n
      c.in-Ok.ensures.room c.in-Ok.ensures.gave (omega (arith, c.in-Ok.ensures.room, length-take c.wanted.result c.reads.buf)),
)

pub returns-in_default-extend_from_slice : goal.returns-in_default-extend_from_slice
returns-in_default-extend_from_slice g c = (
  c.reads.all.items ++ take c.in-Ok.n c.read.new.buf,
  read_lost _ _ _ c.reads.all.items c.args.most c.reads.invariant.1 c.reads.invariant.0 c.read.new.buf c.in-Ok.n
      c.in-Ok.ensures.room c.in-Ok.ensures.gave (omega arith),
)
