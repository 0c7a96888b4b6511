use Rattle.std.proofs.Common.{refl, subst}
use Rattle.ao_shim.specs.Guards.{Held, Taken}
use Rattle.shim_pairs.specs.Passing.{setting}
use Rattle.shim_pairs.proofs.inbound.open_unknown.Goals as goal

pub returns-in-Ok-clause-taken : goal.returns-in-Ok-clause-taken
returns-in-Ok-clause-taken g c = record {
  entry = record { guard = c.inbound.new.self; last = 0 };
  taken = subst (λ (h : Held). Taken (setting c.args.table.now.rows c.args.now c.args.mtu) h.pair h.kept c.inbound.new.self.kept c.args.bytes.now c.args.out.now c.inbound.new.out c.in-Ok.length)
      c.begin.ensures.fresh c.in-Ok.ensures.taken;
  told = refl;
}
