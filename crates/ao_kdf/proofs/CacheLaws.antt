-- What is kept once a key is kept.
use Rattle.std.proofs.Common.{◌≡◌, ℕ, zero, suc, ◌-◌, List, [], ◌∷◌, replicate, Option, Some, None, ◌⊎◌, inl, inr, refl, sym, ap}
use Rattle.std.specs.Prelude.{slice_set}
use Rattle.ao_kdf.specs.declared.way.Way.{Way}
use Rattle.ao_kdf.specs.declared.way.Way.TheVariants.{Inbound, Outbound}
use Rattle.ao_kdf.specs.Cache.{Cache, empty, key_at, kept, keeping}

none_kept : (rows at : ℕ) → key_at (replicate rows None) at ≡ None
none_kept zero at = refl
none_kept (suc rows) zero = refl
none_kept (suc rows) (suc at) = none_kept rows at

pub kept-empty : (rows row : ℕ) (way : Way) → kept (empty rows) row way ≡ None
kept-empty rows row Inbound = none_kept rows (row - 1)
kept-empty rows row Outbound = none_kept rows (row - 1)

-- a place after a write: what was written, or what stood there before
written : (keys : List (Option (List ℕ))) (i j : ℕ) (key x : List ℕ) → key_at (slice_set keys i (Some key)) j ≡ Some x
    → (key_at keys j ≡ Some x) ⊎ ((j ≡ i) × (x ≡ key))
written [] i j key x e = absurd (cc)
written (k ∷ ks) zero zero key x e = inr (refl, (let same : Some key ≡ Some x = e in cc))
written (k ∷ ks) zero (suc j) key x e = inl e
written (k ∷ ks) (suc i) zero key x e = inl e
written (k ∷ ks) (suc i) (suc j) key x e = elim (written ks i j key x e) [ inl f ↦ inl f | inr f ↦ inr (ap suc f.0, f.1) ]

-- where a key is kept now, it is the new one, or was kept before
pub kept-keeping : (c : Cache) (row : ℕ) (way : Way) (key : List ℕ) (r : ℕ) (w : Way) (x : List ℕ) → kept (keeping c row way key) r w ≡ Some x
    → (kept c r w ≡ Some x) ⊎ ((r - 1 ≡ row - 1) × (w ≡ way) × (x ≡ key))
kept-keeping c row Inbound key r Inbound x e = elim (written c.inbound (row - 1) (r - 1) key x e) [ inl f ↦ inl f | inr f ↦ inr (f.0, refl, f.1) ]
kept-keeping c row Inbound key r Outbound x e = inl e
kept-keeping c row Outbound key r Inbound x e = inl e
kept-keeping c row Outbound key r Outbound x e = elim (written c.outbound (row - 1) (r - 1) key x e) [ inl f ↦ inl f | inr f ↦ inr (f.0, refl, f.1) ]

-- what was kept at a place stays, or is what was written
stays : (keys : List (Option (List ℕ))) (i j : ℕ) (key x : List ℕ) → ((j ≡ i) → x ≡ key) → key_at keys j ≡ Some x → key_at (slice_set keys i (Some key)) j ≡ Some x
stays [] i j key x same e = absurd (cc)
stays (k ∷ ks) zero zero key x same e = ap Some (sym (same refl))
stays (k ∷ ks) zero (suc j) key x same e = e
stays (k ∷ ks) (suc i) zero key x same e = e
stays (k ∷ ks) (suc i) (suc j) key x same e = stays ks i j key x (λ f. same (ap suc f)) e

-- a key that was kept stays, if the new one isn't another one for its place
pub kept-stays : (c : Cache) (row : ℕ) (way : Way) (key : List ℕ) (r : ℕ) (w : Way) (x : List ℕ) → (r - 1 ≡ row - 1 → w ≡ way → x ≡ key) → kept c r w ≡ Some x
    → kept (keeping c row way key) r w ≡ Some x
kept-stays c row Inbound key r Inbound x same e = stays c.inbound (row - 1) (r - 1) key x (λ f. same f refl) e
kept-stays c row Inbound key r Outbound x same e = e
kept-stays c row Outbound key r Inbound x same e = e
kept-stays c row Outbound key r Outbound x same e = stays c.outbound (row - 1) (r - 1) key x (λ f. same f refl) e
