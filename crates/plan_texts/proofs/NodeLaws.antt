-- The node of a name among the values of an array, as a loop looks for it.
use Rattle.std.proofs.Common.{◌≡◌, ℕ, ◌+◌, ◌<◌, ◌≤◌, List, Option, None, true, false, length, drop, get_or, if◌then◌else◌, sym, ap, ◌∙◌}
use Rattle.std.specs.Prelude.{codes}
use Rattle.std.proofs.lemmas.List.{drop_all}
use Rattle.toml.specs.Data.{Data, get}
use Rattle.toml.specs.View.{view, items_view}
use Rattle.toml.specs.declared.value.Value.{Value}
use Rattle.toml.proofs.Views.{items_view-drop}
use Rattle.book_keys.specs.Columns.{is_word}
use Rattle.book_scope_plan.specs.AdminNames.{rows_named, text_in}

module _ (name : List ℕ) (vs : List Value) (i : ℕ) (v : Value) (total : Option Data) (within : i < length vs) (here : v ≡ get_or vs i v)
    (so_far : rows_named name (items_view (drop i vs)) ≡ total) where
  split : rows_named name (items_view (drop i vs))
      ≡ (if is_word name (text_in (codes "name") (view v)) then get (codes "key") (view v) else rows_named name (items_view (drop (i + 1) vs)))
  split = rw (items_view-drop vs i v within, ← here)

  pub named : is_word name (text_in (codes "name") (view v)) ≡ true → get (codes "key") (view v) ≡ total
  named is = sym (rw is at split) ∙ so_far

  pub goes_on : is_word name (text_in (codes "name") (view v)) ≡ false → rows_named name (items_view (drop (i + 1) vs)) ≡ total
  goes_on is = sym (rw is at split) ∙ so_far

pub nowhere : (name : List ℕ) (vs : List Value) (i : ℕ) (total : Option Data) → length vs ≤ i → rows_named name (items_view (drop i vs)) ≡ total → None ≡ total
nowhere name vs i total le so_far = rw (drop_all i vs le) at so_far
