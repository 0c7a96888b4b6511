-- Nodes written one after another, as a loop writes them.
use Rattle.std.proofs.Common.{◌≡◌, ℕ, suc, ◌+◌, ◌-◌, ◌<◌, List, ◌∷◌, ◌++◌, length, drop, get_or, sym, ap, subst, ◌∙◌, append_assoc, arith, add-one}
use Rattle.std.proofs.Math.Seq.{drop-cons}
use Rattle.book_keys.specs.Rows.{Table}
use Rattle.book_cmd_link.specs.KeyTexts.{node_lines, nodes_lines}

goes_on : (time n : ℕ) (tables rest : List Table) (node : Table) (before after all : List ℕ) → tables ≡ node ∷ rest
    → before ++ nodes_lines time n tables ≡ all → after ≡ before ++ node_lines time n node → after ++ nodes_lines time (suc n) rest ≡ all
goes_on time n tables rest node before after all cut so_far more =
    rw more (append_assoc before (node_lines time n node) (nodes_lines time (suc n) rest) ∙ (rw cut at so_far))

pub one_more_node : (time i : ℕ) (tables : List Table) (node : Table) (before after all : List ℕ)
    → i < length tables → ((d : Table) → node ≡ get_or tables (i + 1 - 1) d)
    → before ++ nodes_lines time (i + 1) (drop i tables) ≡ all
    → after ≡ before ++ node_lines time (i + 1) node → after ++ nodes_lines time (i + 1 + 1) (drop (i + 1) tables) ≡ all
one_more_node time i tables node before after all low here so_far more =
    let place : i + 1 - 1 ≡ i = omega arith in
    let at : node ≡ get_or tables i node = subst (λ (k : ℕ). node ≡ get_or tables k node) place (here node) in
    let cut : drop i tables ≡ node ∷ drop (i + 1) tables = rw (add-one i) (drop-cons tables i node low ∙ ap (λ x. x ∷ drop (suc i) tables) (sym at)) in
    rw (add-one (i + 1)) (goes_on time (i + 1) (drop i tables) (drop (i + 1) tables) node before after all cut so_far more)
