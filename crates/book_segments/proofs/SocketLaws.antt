-- Tests of bytes, addresses and sockets are equality.
use Rattle.std.proofs.Common.{◌≡◌, ℕ, true, false, not, List, [], ◌∷◌, refl, ap, ◌∙◌, arith}
use Rattle.std.proofs.lemmas.Bool.Decides.{nat_tests}
use Rattle.std.specs.Prelude.{◌==◌}
use Rattle.book_base.specs.declared.address.Address.{Address}
use Rattle.book_base.specs.declared.address.Address.TheVariants.{V4, V6}
use Rattle.book_base.specs.declared.address.Socket.{Socket}
use Rattle.book_base.specs.Orders.{is_low}
use Rattle.book_base.proofs.OrderLaws.{low_turned}
use Rattle.book_segments.specs.Bytes.{same_bytes}
use Rattle.book_segments.specs.Sockets.{same_address, same_socket}
use Rattle.book_segments.proofs.Fields.{and_tells, eqb_is, same_bytes_tells}

-- equal addresses are one address
pub same_address_is : (one two : Address) → same_address one two ≡ true → one ≡ two
same_address_is (V4 a) (V4 b) e = ap V4 (same_bytes_tells a b e)
same_address_is (V6 a) (V6 b) e = ap V6 (same_bytes_tells a b e)
same_address_is (V4 a) (V6 b) e = absurd (cc)
same_address_is (V6 a) (V4 b) e = absurd (cc)

-- equal sockets are one socket
pub same_socket_is : (one two : Socket) → same_socket one two ≡ true → one ≡ two
same_socket_is one two e =
    let t = and_tells (same_address one.address two.address) (one.port == two.port) e in
    let address = same_address_is one.address two.address t.0 in
    let port = eqb_is one.port two.port t.1 in
    let half : one ≡ record { address = two.address; port = one.port } = ap (λ (a : Address). let k : Socket = record { address = a; port = one.port } in k) address in
    half ∙ ap (λ (n : ℕ). let k : Socket = record { address = two.address; port = n } in k) port

-- bytes are the same as themselves, and so addresses and sockets
pub same_bytes-refl : (xs : List ℕ) → same_bytes xs xs ≡ true
same_bytes-refl [] = refl
same_bytes-refl (x ∷ xs) = let same : (x == x) ≡ true = grind (arith, nat_tests) in rw same (same_bytes-refl xs)

pub same_address-refl : (a : Address) → same_address a a ≡ true
same_address-refl (V4 a) = same_bytes-refl a
same_address-refl (V6 a) = same_bytes-refl a

pub same_socket-refl : (k : Socket) → same_socket k k ≡ true
same_socket-refl k = let same : (k.port == k.port) ≡ true = grind (arith, nat_tests) in rw (same_address-refl k.address, same) refl

-- of two sockets that differ, the first is low exactly where the second isn't
pub low_apart : (a b : Socket) → same_socket a b ≡ false → is_low b a ≡ not (is_low a b)
low_apart a b e = low_turned a b (λ same. let told : same_socket a a ≡ false = ap (same_socket a) same ∙ e in let is = same_socket-refl a in cc)
