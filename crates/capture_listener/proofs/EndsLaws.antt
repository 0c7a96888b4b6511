-- The two sockets of a session in their order are the same seen from either, and others for other sockets.
use Rattle.std.proofs.Common.{◌≡◌, Bool, true, false, ◌⊎◌, inl, inr, ⊎_elim, refl, ◌∙◌}
use Rattle.std.specs.Prelude.{◌&&◌, ◌||◌}
use Rattle.book_base.specs.declared.address.Socket.{Socket}
use Rattle.book_base.specs.Orders.{sorted_pair}
use Rattle.book_base.proofs.OrderLaws.{sorted_told, sorted_turned}
use Rattle.book_segments.specs.Sockets.{same_socket}
use Rattle.book_segments.proofs.Fields.{and_tells}
use Rattle.book_segments.proofs.SocketLaws.{same_socket_is, same_socket-refl}

-- ---- between

-- two sockets are these two, in either order
abbrev pub joined : Socket → Socket → Socket → Socket → Bool
joined a b x y = (same_socket a x && same_socket b y) || (same_socket a y && same_socket b x)

or_told : (p q : Bool) → (p || q) ≡ true → (p ≡ true) ⊎ (q ≡ true)
or_told true q e = inl refl
or_told false q e = inr e

turned : (p q r s : Bool) → ((s && r) || (q && p)) ≡ ((p && q) || (r && s))
turned true true true true = refl
turned true true true false = refl
turned true true false true = refl
turned true true false false = refl
turned true false true true = refl
turned true false true false = refl
turned true false false true = refl
turned true false false false = refl
turned false true true true = refl
turned false true true false = refl
turned false true false true = refl
turned false true false false = refl
turned false false true true = refl
turned false false true false = refl
turned false false false true = refl
turned false false false false = refl

pub joined_told : (a b x y : Socket) → joined a b x y ≡ true → ((a ≡ x) × (b ≡ y)) ⊎ ((a ≡ y) × (b ≡ x))
joined_told a b x y e =
    ⊎_elim
    (λ h. let t = and_tells (same_socket a x) (same_socket b y) h in inl (same_socket_is a x t.0, same_socket_is b y t.1))
    (λ h. let t = and_tells (same_socket a y) (same_socket b x) h in inr (same_socket_is a y t.0, same_socket_is b x t.1))
    (or_told (same_socket a x && same_socket b y) (same_socket a y && same_socket b x) e)

pub joined_turned : (a b x y : Socket) → joined b a x y ≡ joined a b x y
joined_turned a b x y = turned (same_socket a x) (same_socket b y) (same_socket a y) (same_socket b x)

pub joined-refl : (a b : Socket) → joined a b a b ≡ true
joined-refl a b = rw (same_socket-refl a, same_socket-refl b) refl

-- ---- the order

-- sockets that are joined have the same ends
pub joined_ends : (a b x y : Socket) → joined a b x y ≡ true → sorted_pair a b ≡ sorted_pair x y
joined_ends a b x y e =
    ⊎_elim
    (λ h. rw (h.0, h.1) refl)
    (λ h. rw (h.0, h.1) (sorted_turned x y))
    (joined_told a b x y e)

-- and others are others
pub ends_joined : (a b x y : Socket) → sorted_pair a b ≡ sorted_pair x y → joined a b x y ≡ true
ends_joined a b x y e =
    ⊎_elim
    (λ h. rw (h.0, h.1) (joined-refl x y))
    (λ h. rw (h.0, h.1) (joined_turned x y x y ∙ joined-refl x y))
    (sorted_told a b x y e)
