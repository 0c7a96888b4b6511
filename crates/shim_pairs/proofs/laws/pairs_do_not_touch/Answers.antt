use Rattle.std.proofs.Common.{◌≡◌, ◌≢◌, ◌⊎◌, ℕ, List, Option, Some, None, refl, sym, ap, subst, ◌∙◌, inl}
use Rattle.book_base.specs.declared.address.Pair.{Pair}
use Rattle.book_segments.specs.Segments.{Segment, Read, pair_reached, reading}
use Rattle.shim_pairs.specs.declared.entry.Entry.{Entry}
use Rattle.shim_pairs.specs.Holdings.{Holding, found, of_entries, with_entry}
use Rattle.shim_pairs.specs.Passing.{after_taken, pair_left}
use Rattle.shim_pairs.specs.Touching.{IsInOrder, IsUntouched, MakesRoom}
use Rattle.shim_pairs.proofs.TouchLaws.{another_touches, set_other}
use Rattle.shim_pairs.proofs.laws.pairs_do_not_touch.Goals as goal

same : (d e : Segment) (bs : List ℕ) → reading bs ≡ Read d → reading bs ≡ Read e → d ≡ e
same d e bs f g = let x : Read d ≡ Read e = sym f ∙ g in cc

leaving_by : (h k : Holding) (p q : Pair) (e : Entry) → IsInOrder h → q ≢ p → k ≡ of_entries h (with_entry h.most h.entries p e) → IsUntouched h k q ⊎ MakesRoom h p q
leaving_by h k p q e order apart is = rw is (by (found p h.entries) refl)
  where
    by : (o : Option Entry) → found p h.entries ≡ o → IsUntouched h (of_entries h (with_entry h.most h.entries p e)) q ⊎ MakesRoom h p q
    by None f = rw f (another_touches h p q e order f apart)
    by (Some w) f = rw f (inl (set_other p q e h.entries (rw f refl) apart))

entering_by : (h k : Holding) (p q : Pair) (e : Entry) (o : Option Entry) → found p h.entries ≡ o → q ≢ p → k ≡ after_taken o h p e → IsUntouched h k q
entering_by h k p q e None f apart is = rw is refl
entering_by h k p q e (Some w) f apart is = rw is (set_other p q e h.entries (rw f refl) apart)

pub returns-clause-leaving : goal.returns-clause-leaving
returns-clause-leaving c = λ now h k bytes old new p d q order l read apart.
    let one = same d l.d bytes read l.read in
    subst (λ (x : Segment). IsUntouched h k q ⊎ MakesRoom h (pair_left x) q) (sym one)
    (leaving_by h k (pair_left l.d) q l.sealed.entry order (λ e. apart (e ∙ ap pair_left (sym one))) l.sealed.held)

pub returns-clause-entering : goal.returns-clause-entering
returns-clause-entering c = λ now mtu h k bytes old new p d q l read apart.
    let one = same d l.d bytes read l.read in
    entering_by h k (pair_reached l.d) q l.opened.entry (found (pair_reached l.d) h.entries) refl (λ e. apart (e ∙ ap pair_reached (sym one))) l.opened.held

pub returns-clause-staying : goal.returns-clause-staying
returns-clause-staying c = λ h k q s. s.each q
