-- The keys of a table, one after the other, as a loop goes over them.
use Rattle.std.proofs.Common.{◌≡◌, ℕ, List, [], ◌∷◌, ◌||◌, refl, ap, map, String, Global, string_bytes, Bor}
use Rattle.std.specs.List.{list_any}
use Rattle.std.specs.Map.{keys_of}
use Rattle.std.specs.Str.{bytes_eq}
use Rattle.toml.specs.View.{members_view}
use Rattle.toml.specs.declared.value.Value.{Value}
use Rattle.book_scope_texts.specs.RowFindings.{keys_in}

pub any_word : (q : List ℕ) (ws : List (Bor (List ℕ))) → list_any (λ w. bytes_eq q w.now) ws ≡ list_any (bytes_eq q) (map (λ w. w.now) ws)
any_word q [] = refl
any_word q (w ∷ ws) = ap (λ b. bytes_eq q w.now || b) (any_word q ws)

pub keys_seen : (es : List (String Global × Value)) → map (λ k. string_bytes k) (keys_of es) ≡ keys_in (members_view es)
keys_seen [] = refl
keys_seen (e ∷ es) = ap (λ (ks : List (List ℕ)). string_bytes e.0 ∷ ks) (keys_seen es)
