-- What was counted of a connection is told, exactly where it is held.
use Rattle.std.proofs.Common.{◌≡◌, ◌∙◌, sym, ap, refl, ℤ, pos, true, false, Option, Some, None}
use Rattle.std.specs.Prelude.{is_some}
use Rattle.book_endpoint.specs.States.{EndState}
use Rattle.book_stack.specs.declared.tally.Tally.{Tally}
use Rattle.aotcp_c.specs.declared.shapes.CCounters.{CCounters}
use Rattle.aotcp_c.specs.Counters.{IsTallyOf, SaysHeld, told_counters}

-- what is told with this code
abbrev pub Tells : Option Tally → Option EndState → CCounters → ℤ → Type 0
Tells o held told code = IsTallyOf o told code × SaysHeld held code

pub nothing_told : (o : Option Tally) (held : Option EndState) (r : Option Tally) (told : CCounters) → r ≡ None → r ≡ o → is_some r ≡ is_some held → Tells o held told (pos 12)
nothing_told None None r told none is same = (refl, refl)
nothing_told None (Some e) r told none is same = let no : is_some r ≡ false = ap is_some none in absurd (cc)
nothing_told (Some t) held r told none is same = absurd (cc (none, is))

pub something_told : (o : Option Tally) (held : Option EndState) (r : Option Tally) (t : Tally) → r ≡ Some t → r ≡ o → is_some r ≡ is_some held → Tells o held (told_counters t.counters t.ids) (pos 0)
something_told None held r t some is same = absurd (cc (some, is))
something_told (Some u) None r t some is same = let yes : is_some r ≡ true = ap is_some some in absurd (cc)
something_told (Some u) (Some e) r t some is same =
    let both : Some t ≡ Some u = sym some ∙ is in
    let one : t ≡ u = cc in
    ((refl, ap (λ (x : Tally). told_counters x.counters x.ids) one), refl)
