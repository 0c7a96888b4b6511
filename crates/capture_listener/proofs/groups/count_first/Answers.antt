use Rattle.std.proofs.Common.{◌≡◌, ◌++◌, ◌∷◌, [], ℕ, length, refl, ap, ◌∙◌}
use Rattle.capture_listener.proofs.KeepLaws.{counts_first}
use Rattle.capture_listener.proofs.groups.count_first.Goals as goal

pub returns-clause-counted : goal.returns-clause-counted
returns-clause-counted c indexed none =
    let number : c.len-number.result ≡ length c.args.groups.now.items = c.len-number.ensures ∙ (c.in_ok-reserve-2.ensures.len ∙ c.args.groups.now.ok.0) in
    counts_first c.args.uses.now.items c.args.groups.now.items c.args.numbers.now.entries indexed c.args.segment.now c.args.signs
    c.push_reserved-2.new.self.items c.push.new.self c.push_reserved.new.self.items c.insert.new.self.entries none
    (rw (← c.sorted.ensures, ← number) c.in_ok-insert.ensures.updates.0)
    (rw (c.push_reserved-2.ensures.items, c.in_ok-reserve.ensures.items, c.first_use.ensures, number) refl)
    (rw (c.in_ok-push.ensures.items, c.new-places.ensures.items) (ap (λ (n : ℕ). n ∷ []) (c.len.ensures ∙ c.args.uses.now.ok.0)))
    (rw (c.push_reserved.ensures.items) (ap (λ l. l ++ c.push.new.self ∷ []) c.in_ok-reserve-2.ensures.items))
