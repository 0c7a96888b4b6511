-- One step of a walk over the items of an array.
use Rattle.std.proofs.Common.{◌≡◌, ℕ, ◌+◌, ◌<◌, ◌≤◌, List, [], ◌++◌, length, drop, get_or, sym, ◌∙◌, append_assoc}
use Rattle.std.proofs.lemmas.List.{append-nil, drop_all}
use Rattle.toml.specs.View.{items_view, view}
use Rattle.toml.specs.declared.value.Value.{Value}
use Rattle.toml.proofs.Views.{items_view-drop}
use Rattle.book_scope_texts.specs.declared.finding.KeyFinding.{KeyFinding}
use Rattle.book_scope_texts.specs.declared.finding.KeyPlace.{KeyPlace}
use Rattle.book_scope_texts.specs.RowFindings.{each_peer_finding, peer_finding}

-- one item more
pub one_peer : (p : KeyPlace) (before after whole : List KeyFinding) (vs : List Value) (i : ℕ) (v : Value) → i < length vs → v ≡ get_or vs i v →
    after ≡ before ++ peer_finding p (view v) → before ++ each_peer_finding p (items_view (drop i vs)) ≡ whole →
    after ++ each_peer_finding p (items_view (drop (i + 1) vs)) ≡ whole
one_peer p before after whole vs i v within here is so_far =
    rw is (append_assoc before (peer_finding p (view v)) (each_peer_finding p (items_view (drop (i + 1) vs))) ∙ (rw (items_view-drop vs i v within, ← here) at so_far))

-- no item is left
pub no_peer : (p : KeyPlace) (before whole : List KeyFinding) (vs : List Value) (i : ℕ) → length vs ≤ i →
    before ++ each_peer_finding p (items_view (drop i vs)) ≡ whole → before ≡ whole
no_peer p before whole vs i all so_far = let none : drop i vs ≡ [] = drop_all i vs all in sym (append-nil before) ∙ (rw none at so_far)
