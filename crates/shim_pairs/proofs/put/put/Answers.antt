use Rattle.std.proofs.Common.{length, sym, ap, ◌∙◌, inl, inr, arith}
use Rattle.std.specs.BTreeMap.{insert_entry}
use Rattle.book_base.specs.Orders.{by_pair}
use Rattle.ao_shim.specs.Guards.{Held}
use Rattle.pair_table.specs.Listings.{Listing}
use Rattle.shim_pairs.specs.declared.entry.Entry.{Entry}
use Rattle.shim_pairs.specs.Holdings.{found, going, without}
use Rattle.shim_pairs.proofs.PutLaws.{going_found, length_inserted, put_are, still_none, with_one, without_are}
use Rattle.shim_pairs.proofs.put.put.Goals as goal

pub insert-requires-clause-other : goal.insert-requires-clause-other
insert-requires-clause-other c =
    let es = c.args.entries.now.entries in let p = c.args.pair.now in
    ap (λ (l : Listing Entry). found p l.entries) c.free_one-other.ensures.entries ∙ still_none (going c.args.entries.now.most es) p es c.len-held.ensures.sound.sorted c.requires.other

pub returns-clause-put : goal.returns-clause-put
returns-clause-put c =
    let es = c.args.entries.now.entries in let p = c.args.pair.now in let most = c.args.entries.now.most in
    let e : Entry = record { guard = c.args.hand.now; last = c.args.last } in
    ap (λ (l : Listing Entry). l.entries) c.insert.ensures
    ∙ ap (λ (g : Held). insert_entry by_pair c.free_one-other.new.entries.entries p (let x : Entry = record { guard = g; last = c.args.last } in x)) c.replace-guard.ensures.value
    ∙ ap (λ (l : Listing Entry). insert_entry by_pair l.entries p e) c.free_one-other.ensures.entries
    ∙ with_one (going most es) p e es c.len-held.ensures.sound.sorted c.requires.other (going_found most es)

pub returns-clause-each : goal.returns-clause-each
returns-clause-each c = λ q f h.
    let es = c.args.entries.now.entries in let p = c.args.pair.now in let most = c.args.entries.now.most in
    let e : Entry = record { guard = c.args.hand.now; last = c.args.last } in
    let is = ap (λ (l : Listing Entry). l.entries) c.insert.ensures
    ∙ ap (λ (g : Held). insert_entry by_pair c.free_one-other.new.entries.entries p (let x : Entry = record { guard = g; last = c.args.last } in x)) c.replace-guard.ensures.value
    ∙ ap (λ (l : Listing Entry). insert_entry by_pair l.entries p e) c.free_one-other.ensures.entries in
    elim (put_are p e (without (going most es) es) q f (sym (ap (found q) is) ∙ h)) [
      | inl s ↦ inl s
      | inr w ↦ inr (without_are (going most es) q es f c.len-held.ensures.sound.sorted w)
    ]

pub returns-clause-count : goal.returns-clause-count
returns-clause-count c =
    let es = c.args.entries.now.entries in let p = c.args.pair.now in let most = c.args.entries.now.most in
    let none = ap (λ (l : Listing Entry). found p l.entries) c.free_one-other.ensures.entries ∙ still_none (going most es) p es c.len-held.ensures.sound.sorted c.requires.other in
    let n = length_inserted p (record { guard = c.replace-guard.result; last = c.args.last }) c.free_one-other.new.entries.entries none in
    let i = ap (λ (l : Listing Entry). length l.entries) c.insert.ensures in
    let m = ap (λ (l : Listing Entry). l.most) c.insert.ensures in
    let f = ap (λ (l : Listing Entry). l.most) c.free_one-other.ensures.entries in
    let k = c.free_one-other.ensures.count in
    omega (arith, n, i, m, f, k)
