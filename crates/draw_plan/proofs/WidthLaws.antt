-- The longest name of one node more.
use Rattle.std.proofs.Common.{◌≡◌, ℕ, suc, ◌+◌, ◌-◌, ◌<◌, List, ◌∷◌, length, drop, get_or, sym, ap, subst, ◌∙◌, arith, add-one}
use Rattle.std.proofs.Math.Seq.{drop-cons}
use Rattle.page_draw_plan_svg.specs.RowNames.{longest_name, longest_row}
use Rattle.book_keys.specs.Rows.{Table}
use Rattle.toml.specs.Data.{Members}

pub one_node : (document : Members) (i : ℕ) (tables : List Table) (node : Table) (before after all : ℕ)
    → i < length tables → ((d : Table) → node ≡ get_or tables (i + 1 - 1) d)
    → longest_name document before (drop i tables) ≡ all
    → after ≡ longest_row document node.name before 1 node.rows → longest_name document after (drop (i + 1) tables) ≡ all
one_node document i tables node before after all low here so_far more =
    let place : i + 1 - 1 ≡ i = omega arith in
    let at : node ≡ get_or tables i node = subst (λ (k : ℕ). node ≡ get_or tables k node) place (here node) in
    let cut : drop i tables ≡ node ∷ drop (i + 1) tables = rw (add-one i) (drop-cons tables i node low ∙ ap (λ x. x ∷ drop (suc i) tables) (sym at)) in
    rw more (rw cut at so_far)
