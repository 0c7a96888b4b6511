-- Names and addresses looked for among tables that have nothing else.
use Rattle.std.proofs.Common.{◌≡◌, ℕ, List, [], ◌∷◌, ◌||◌, refl, ap, map}
use Rattle.std.specs.List.{list_any}
use Rattle.std.specs.Str.{bytes_eq}
use Rattle.book_base.specs.declared.address.Address.{Address}
use Rattle.book_keys.specs.Rows.{has_address}
use Rattle.book_segments.specs.Sockets.{same_address}
use Rattle.book_scope_texts.specs.FileFindings.{bare_table, table_named}

pub any_name : (text : List ℕ) (names : List (List ℕ)) → list_any (λ t. bytes_eq t.name text) (map table_named names) ≡ list_any (λ name. bytes_eq name text) names
any_name text [] = refl
any_name text (n ∷ ns) = ap (λ b. bytes_eq n text || b) (any_name text ns)

pub any_address : (a : Address) (seen : List Address) → list_any (has_address a) (map bare_table seen) ≡ list_any (λ one. same_address one a) seen
any_address a [] = refl
any_address a (one ∷ more) = ap (λ b. same_address one a || b) (any_address a more)
