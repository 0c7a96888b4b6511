use Rattle.std.proofs.Common.{◌∷◌, ◌++◌, [], List, ℕ, ap, sym}
use Rattle.std.specs.Prelude.{codes}
use Rattle.std.proofs.lemmas.List.{append-nil}
use Rattle.book_scope_texts.specs.Addresses.{usual_address_text}
use Rattle.scope_why.proofs.Parts.{on_same, on_three}
use Rattle.scope_why.proofs.answer.push_no_node.Goals as goal

pub returns : goal.returns
returns c =
    let address = usual_address_text c.args.address.now in
    on_same c.push_newline.result c.args.out.now.items _ _ c.push_newline.new.out.items (ap (λ (x : List ℕ). codes "no node has" ++ (32 ∷ (x ++ 10 ∷ []))) (sym (append-nil address)))
    (on_three c.push_newline.result c.args.out.now.items (codes "no node has") (32 ∷ address) (10 ∷ []) c.extend_from_slice.new.self.items c.push_host.new.out.items c.push_newline.new.out.items
    c.in_ok-extend_from_slice.ensures.items c.in_ok-push_host.ensures c.push_newline.ensures)
