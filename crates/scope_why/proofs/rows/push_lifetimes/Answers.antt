use Rattle.std.specs.Prelude.{[], ◌∷◌, ◌++◌, codes, List, ℕ}
use Rattle.std.proofs.Common.{sym, ap}
use Rattle.book_lines.specs.Texts.{spaced}
use Rattle.book_why.specs.Lacks.{lifetime_texts}
use Rattle.scope_why.proofs.Parts.{on_four, on_same, spaced_more}
use Rattle.scope_why.proofs.rows.push_lifetimes.Goals as goal

pub returns : goal.returns
returns c =
    let s = lifetime_texts c.args.row.now.sending [] in
    let a = lifetime_texts c.args.row.now.accepting [] in
    let all = ap (λ (x : List ℕ). 32 ∷ codes "sends" ++ x) (sym (spaced_more s (codes "accepts" ∷ a))) in
    on_same c.push_lifetime-2.result c.args.out.now.items _ _ c.push_lifetime-2.new.out.items all
    (on_four c.push_lifetime-2.result c.args.out.now.items (32 ∷ codes "sends") (spaced s) (32 ∷ codes "accepts") (spaced a)
    c.push_text.new.out.items c.push_lifetime.new.out.items c.push_text-2.new.out.items c.push_lifetime-2.new.out.items
    c.in_ok-push_text.ensures (rw (← c.sending.ensures) c.in_ok-push_lifetime.ensures) c.in_ok-push_text-2.ensures (rw (← c.accepting.ensures) c.push_lifetime-2.ensures))
