-- Ends go on under a table where a row was added or withdrawn.
use Rattle.std.proofs.Common.{◌≡◌, ℕ, List, Option, Some, None, Result, Ok, Err, sym, ap, subst, ◌∙◌}
use Rattle.book_base.specs.declared.address.Pair.{Pair}
use Rattle.book_keys.specs.Rows.{Row, Table}
use Rattle.book_keys.specs.Tables.{AddedAs, Addition, Withdrawn, adding, withdrawn}
use Rattle.book_keys.specs.declared.new_row.AddRefusal.{AddRefusal}
use Rattle.book_keys.specs.declared.new_row.AddRefusal.TheVariants as refused
use Rattle.book_keys.specs.declared.new_row.NoRow.{NoRow}
use Rattle.book_endpoint.specs.States.{EndState}
use Rattle.book_cmd_node.specs.NodeRuns.{NodeState, held_end}
use Rattle.tcp_endpoint.specs.declared.endpoint.Endpoint.{Endpoint}
use Rattle.tcp_endpoint.specs.Ends.{FitsEnd}
use Rattle.stack_ends.specs.Held.{Holding, FitsAll, end_at}
use Rattle.stack_ends.specs.EndsStands.{StandsAt}
use Rattle.stack_ends.specs.declared.ends.Ends.{Ends}
use Rattle.stack_ends.specs.Rows.{RowAdded, RowWithdrawn}
use Rattle.stack_ends.specs.Stands.{Stands}

-- tables that fit an end go on fitting once a row is added
abbrev AddingFits : Type 0
AddingFits = (rows new : List Row) (r : Row) (n : ℕ) (e : Endpoint) → adding rows r ≡ AddedAs n new → FitsEnd rows e → FitsEnd new e

-- the same once one is withdrawn
abbrev WithdrawingFits : Type 0
WithdrawingFits = (rows new : List Row) (n : ℕ) (e : Endpoint) → withdrawn rows n ≡ Some new → FitsEnd rows e → FitsEnd new e

same_fits : (before after : Table) (h : Holding) → FitsAll before.rows h → after ≡ before → FitsAll after.rows h
same_fits before after h fit same = subst (λ (t : Table). FitsAll t.rows h) (sym same) fit

pub added_fits : (before after : Table) (h : Holding) (r : Row) (result : Result ℕ AddRefusal) → AddingFits → FitsAll before.rows h → Addition before after result (adding before.rows r) → FitsAll after.rows h
added_fits before after h r (Ok n) law fit added = subst (λ (t : Table). FitsAll t.rows h) (sym added.2) (λ q e is. law before.rows added.0 r n e added.1 (fit q e is))
added_fits before after h r (Err refused.Memory) law fit added = same_fits before after h fit added
added_fits before after h r (Err refused.TooMany) law fit added = same_fits before after h fit added.1
added_fits before after h r (Err (refused.Overlap n)) law fit added = same_fits before after h fit added.1

pub withdrawn_fits : (before after : Table) (h : Holding) (n : ℕ) (result : Result (Unit {0}) NoRow) → WithdrawingFits → FitsAll before.rows h → Withdrawn before after result (withdrawn before.rows n) → FitsAll after.rows h
withdrawn_fits before after h n (Ok x) law fit w = subst (λ (t : Table). FitsAll t.rows h) (sym w.2) (λ q e is. law before.rows w.0 n e w.1 (fit q e is))
withdrawn_fits before after h n (Err x) law fit w = same_fits before after h fit w.1

stands_at : (rows new : List Row) (p : Pair) (o : Option Endpoint) (m : Option EndState) → ((e : Endpoint) → FitsEnd rows e → FitsEnd new e) → StandsAt rows p o m → StandsAt new p o m
stands_at rows new p None None fits h = tt
stands_at rows new p (Some e) (Some s) fits h = record { stands = h.stands; fits = fits e h.fits; pair_is = h.pair_is }
stands_at rows new p None (Some s) fits h = absurd h
stands_at rows new p (Some e) None fits h = absurd h

module _ (k after : Ends) (rows : List Row) (n : NodeState) (S : Stands k rows n) where
  under : (new : List Row) → after.table.rows ≡ new → after.node ≡ k.node → after.clock ≡ k.clock → ((e : Endpoint) → FitsEnd rows e → FitsEnd new e) → Stands after new n
  under new table node clock fits = record {
    rows_are = table;
    clock = S.clock ∙ sym clock;
    holds = rw node (record { each = λ q. stands_at rows new q (end_at k.node q) (held_end q n.ends) fits (S.holds.each q); count = S.holds.count });
    once = S.once;
  }

  same_stands : after.table ≡ k.table → after.node ≡ k.node → after.clock ≡ k.clock → Stands after rows n
  same_stands table node clock = under rows (ap (λ (t : Table). t.rows) table ∙ S.rows_are) node clock (λ e f. f)

  pub added_stands : (r : Row) (result : Result ℕ AddRefusal) → AddingFits → after.node ≡ k.node → after.clock ≡ k.clock → Addition k.table after.table result (adding k.table.rows r)
      → RowAdded after n rows result (adding rows r)
  added_stands r result law node clock added = at result (subst (λ (rs : List Row). Addition k.table after.table result (adding rs r)) S.rows_are added)
    where
      at : (u : Result ℕ AddRefusal) → Addition k.table after.table u (adding rows r) → RowAdded after n rows u (adding rows r)
      at (Ok m) a = (a.0, a.1, under a.0 (ap (λ (t : Table). t.rows) a.2) node clock (λ e f. law rows a.0 r m e a.1 f))
      at (Err refused.Memory) a = same_stands a node clock
      at (Err refused.TooMany) a = (a.0, same_stands a.1 node clock)
      at (Err (refused.Overlap m)) a = (a.0, same_stands a.1 node clock)

  pub withdrawn_stands : (m : ℕ) (result : Result (Unit {0}) NoRow) → WithdrawingFits → after.node ≡ k.node → after.clock ≡ k.clock → Withdrawn k.table after.table result (withdrawn k.table.rows m)
      → RowWithdrawn after n rows result (withdrawn rows m)
  withdrawn_stands m result law node clock w = at result (subst (λ (rs : List Row). Withdrawn k.table after.table result (withdrawn rs m)) S.rows_are w)
    where
      at : (u : Result (Unit {0}) NoRow) → Withdrawn k.table after.table u (withdrawn rows m) → RowWithdrawn after n rows u (withdrawn rows m)
      at (Ok x) a = (a.0, a.1, under a.0 (ap (λ (t : Table). t.rows) a.2) node clock (λ e f. law rows a.0 m e a.1 f))
      at (Err x) a = (a.0, same_stands a.1 node clock)
