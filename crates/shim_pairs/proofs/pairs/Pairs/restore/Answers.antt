use Rattle.std.proofs.Common.{◌≤◌, length, ap, ◌∙◌, arith}
use Rattle.ao_shim.specs.Guards.{Held}
use Rattle.shim_pairs.specs.declared.entry.Entry.{Entry}
use Rattle.shim_pairs.proofs.RoomLaws.{rows_within}
use Rattle.shim_pairs.proofs.OutLaws.{suits_by, whole_put}
use Rattle.shim_pairs.proofs.pairs.Pairs.restore.Goals as goal

pub invariant_of-self : goal.invariant_of-self
invariant_of-self c =
    let ts = c.self.inside.tables in let p = c.args.saved.now.pair in let t = c.in-Some.table.now in
    let e : Entry = record { guard = c.resume.new.self; last = 0 } in
    let room : length t.rows ≤ c.self.inside.hand.keys.rows = let h = rows_within p.local.address ts t c.in-Some.ensures in let r = c.self.invariant.hand_room in omega (arith, h, r) in
    whole_put ts c.self.inside.entries c.put.new.entries c.self.inside.spares.items c.put.new.spares.items c.self.inside.hand c.resume.new.self c.put.new.hand p 0
    c.self.invariant
    (suits_by ts p t c.in-Some.ensures e (ap (λ (h : Held). h.pair) c.resume.ensures.resumed) (c.resume.ensures.suits t.rows room) (ap (λ (h : Held). h.keys.rows) c.resume.ensures.resumed ∙ c.self.invariant.hand_room))
    c.put.ensures.each c.put.ensures.most c.put.ensures.count c.put.ensures.spares c.put.ensures.hand
