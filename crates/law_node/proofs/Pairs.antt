-- The test on pairs is equality.
use Rattle.std.proofs.Common.{◌≡◌, ℕ, Bool, true, false, List, [], ◌∷◌, refl, sym, ap, ◌∙◌, arith}
use Rattle.std.proofs.lemmas.Bool.Decides.{nat_tests}
use Rattle.std.specs.Prelude.{◌==◌}
use Rattle.book_base.specs.declared.address.Address.{Address}
use Rattle.book_base.specs.declared.address.Address.TheVariants as address
use Rattle.book_base.specs.declared.address.Pair.{Pair}
use Rattle.book_base.specs.declared.address.Socket.{Socket}
use Rattle.book_segments.specs.Bytes.{same_bytes}
use Rattle.book_segments.specs.Sockets.{same_address, same_socket}
use Rattle.book_segments.proofs.Fields.{and_tells, eqb_is, same_bytes_tells}
use Rattle.book_cmd_node.specs.NodeRuns.{same_pair}
use Rattle.book_segments.proofs.SocketLaws.{same_address-refl, same_address_is, same_socket-refl, same_socket_is}

pub same_pair_is : (one two : Pair) → same_pair one two ≡ true → one ≡ two
same_pair_is one two e =
    let t = and_tells (same_socket one.local two.local) (same_socket one.remote two.remote) e in
    let half : one ≡ record { local = two.local; remote = one.remote } = ap (λ (s : Socket). let k : Pair = record { local = s; remote = one.remote } in k) (same_socket_is one.local two.local t.0) in
    half ∙ ap (λ (s : Socket). let k : Pair = record { local = two.local; remote = s } in k) (same_socket_is one.remote two.remote t.1)

pub same_pair-refl : (p : Pair) → same_pair p p ≡ true
same_pair-refl p = rw (same_socket-refl p.local, same_socket-refl p.remote) refl

-- a pair that is one isn't the other
pub apart : (h p q : Pair) → same_pair h p ≡ true → same_pair h q ≡ false → same_pair p q ≡ false
apart h p q e f = rw (← same_pair_is h p e) f

-- the same, turned
pub apart_from : (h p q : Pair) → same_pair h p ≡ true → same_pair h q ≡ false → same_pair q p ≡ false
apart_from h p q e f = at (same_pair q p) refl
  where
    at : (v : Bool) → same_pair q p ≡ v → v ≡ false
    at false g = refl
    at true g =
        let is : q ≡ h = same_pair_is q p g ∙ sym (same_pair_is h p e) in
        let told : same_pair h h ≡ false = rw is at f in
        let same = same_pair-refl h in absurd (cc)
