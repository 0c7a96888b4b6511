-- The entry that accounts for what passed, where no forgery is counted.
use Rattle.std.proofs.Common.{◌≡◌, ℕ, Bool, true, false, ◌&&◌, ◌||◌, List, [], ◌∷◌, Option, Some, None, inl, inr, if◌then◌else◌, refl, subst}
use Rattle.book_base.specs.declared.algorithm.Algorithm.{Algorithm}
use Rattle.book_base.specs.declared.algorithm.Algorithm.TheVariants.{HmacSha1, AesCmac, HmacSha256}
use Rattle.book_base.specs.declared.end.End.{End}
use Rattle.book_base.specs.declared.end.End.TheVariants.{A, B}
use Rattle.book_segments.specs.Bytes.{same_bytes}
use Rattle.book_segments.proofs.Fields.{and_tells, some_is, same_bytes_tells}
use Rattle.book_base.specs.Algorithms.{same_algorithm}
use Rattle.book_endpoint.specs.Verdicts.{Key, key_of, same_master_key, Finding}
use Rattle.book_link.specs.Worlds.{other, same_end, Setup, Made, Happening, Making, Coming, World, side, accounts_for, was_made, forged}
use Rattle.law_link.specs.Laws.{IsAmong}
use Rattle.law_link.proofs.Invariant.{MadeOk, AllMadeOk}
use Rattle.book_keys.proofs.PlanLaws.{same_algorithm_tells}

pub record Found (setup : Setup) (w : World) (at : End) (p : Finding) (past : List Happening) : Type 0 where
  pub made : Made
  pub among : IsAmong made past
  pub accounts : accounts_for at p made ≡ true
  pub ok : MadeOk setup (side w made.maker).sessions made

found_or : (setup : Setup) (w : World) (at : End) (p : Finding) (m : Made) (past : List Happening) (b c : Bool) → accounts_for at p m ≡ b → MadeOk setup (side w m.maker).sessions m
    → (c ≡ true → Found setup w at p past) → (b || c) ≡ true → Found setup w at p (Making m ∷ past)
found_or setup w at p m past true c says h more f = record { made = m; among = inl refl; accounts = says; ok = h }
found_or setup w at p m past false c says h more f = let k = more f in record { made = k.made; among = inr k.among; accounts = k.accounts; ok = k.ok }

pub found_made : (setup : Setup) (w : World) (at : End) (p : Finding) (past : List Happening) → was_made at p past ≡ true → AllMadeOk setup w past → Found setup w at p past
found_made setup w at p [] e h = absurd (cc)
found_made setup w at p (Coming r ∷ past) e h = let k = found_made setup w at p past e h in record { made = k.made; among = k.among; accounts = k.accounts; ok = k.ok }
found_made setup w at p (Making m ∷ past) e h = found_or setup w at p m past (accounts_for at p m) (was_made at p past) refl h.0 (λ f. found_made setup w at p past f h.1) e

maker_is : (maker end : End) → same_end maker end ≡ true → maker ≡ end
maker_is A A e = refl
maker_is A B e = absurd (cc)
maker_is B A e = absurd (cc)
maker_is B B e = refl

unforged : (b : Bool) → ◌≡◌ {A = ℕ} (if b then 0 else 1) 0 → b ≡ true
unforged true e = refl
unforged false e = absurd (cc)

pub none_forged : (at : End) (o : Option Finding) (p : Finding) (past : List Happening) → o ≡ Some p → forged at o past ≡ 0 → was_made at p past ≡ true
none_forged at None p past e z = absurd (cc)
none_forged at (Some q) p past e z = subst (λ (x : Finding). was_made at x past ≡ true) (some_is q p e) (unforged (was_made at q past) z)

same_key_algorithm : (k l : Key) → same_master_key k l ≡ true → k.algorithm ≡ l.algorithm
same_key_algorithm k l e = same_algorithm_tells k.algorithm l.algorithm (and_tells (same_algorithm k.algorithm l.algorithm) (same_bytes k.master l.master) e).0

-- what an entry that accounts for what passed has in common with it
pub record Accounts (at : End) (p : Finding) (m : Made) : Type 0 where
  pub maker : m.maker ≡ other at
  pub algorithm : m.emission.sending.row.algorithm ≡ p.key.algorithm
  pub context : m.emission.context ≡ p.context
  pub input : m.emission.input ≡ p.input

pub accounts_tell : (at : End) (p : Finding) (m : Made) → accounts_for at p m ≡ true → Accounts at p m
accounts_tell at p m e =
    let k = key_of m.emission.sending.row in
    let c = m.emission.context in
    let one = and_tells (same_end m.maker (other at) && same_master_key k p.key && same_bytes c p.context) (same_bytes m.emission.input p.input) e in
    let two = and_tells (same_end m.maker (other at) && same_master_key k p.key) (same_bytes c p.context) one.0 in
    let three = and_tells (same_end m.maker (other at)) (same_master_key k p.key) two.0 in
    record {
      maker = maker_is m.maker (other at) three.0;
      algorithm = same_key_algorithm k p.key three.1;
      context = same_bytes_tells c p.context two.1;
      input = same_bytes_tells m.emission.input p.input one.1;
    }
