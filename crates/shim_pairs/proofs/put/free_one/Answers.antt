use Rattle.std.proofs.Common.{◌≡◌, Some, length, refl, sym, ap, ◌∙◌, arith}
use Rattle.std.specs.Prelude.{option_map, is_some}
use Rattle.book_base.specs.declared.address.Pair.{Pair}
use Rattle.shim_pairs.specs.declared.entry.Entry.{Entry}
use Rattle.shim_pairs.specs.Holdings.{found}
use Rattle.shim_pairs.proofs.EldestLaws.{eldest_found, eldest_some}
use Rattle.shim_pairs.proofs.PutLaws.{length_removed}
use Rattle.shim_pairs.proofs.RoomLaws.{room_last}
use Rattle.shim_pairs.proofs.put.free_one.Goals as goal

pub unwrap-gone-requires : goal.unwrap-gone-requires
unwrap-gone-requires c =
    let es = c.args.entries.now.entries in
    let n = eldest_some es (let k = c.requires.count in let s = c.requires.some in let o = c.args.spares.now.ok.0 in let z = c.in-None.ensures.cases.0 in omega (arith, k, s, o, z)) in
    rw (c.eldest.ensures, n.1) refl

pub unwrap-guard-requires : goal.unwrap-guard-requires
unwrap-guard-requires c =
    let es = c.args.entries.now.entries in
    let n = eldest_some es (let k = c.requires.count in let s = c.requires.some in let o = c.args.spares.now.ok.0 in let z = c.in-None.ensures.cases.0 in omega (arith, k, s, o, z)) in
    let is : Some c.unwrap-gone.result ≡ Some n.0.0 = sym c.unwrap-gone.ensures ∙ c.eldest.ensures ∙ ap (option_map (λ (e : Pair × Entry). e.0)) n.1 in
    let gone : c.unwrap-gone.result ≡ n.0.0 = cc in
    let f = eldest_found es n.0 n.1 in
    ap is_some (c.remove.ensures.value ∙ ap (λ (p : Pair). found p es) gone ∙ f.1)

pub returns-in-Some-clause-guard : goal.returns-in-Some-clause-guard
returns-in-Some-clause-guard c = λ rows spare held.
    room_last rows c.pop.new.self.items c.args.spares.now.items c.in-Some.guard c.in-Some.ensures.items spare

pub returns-in-None-clause-count : goal.returns-in-None-clause-count
returns-in-None-clause-count c =
    let es = c.args.entries.now.entries in
    let n = length_removed c.unwrap-gone.result es c.unwrap-guard.result (sym c.remove.ensures.value ∙ c.unwrap-guard.ensures) in
    let z = c.in-None.ensures.cases.0 in let y = c.in-None.ensures.cases.1 in
    let k = c.requires.count in let o = c.args.spares.now.ok.0 in let p = c.pop.new.self.ok.0 in
    let r = ap (λ l. length l.entries) c.remove.ensures.removed in
    omega (arith, n, z, y, k, o, p, r)
