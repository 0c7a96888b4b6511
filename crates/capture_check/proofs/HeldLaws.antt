-- Connections that are held, and one that is put among them.
use Rattle.std.proofs.Common.{◌≡◌, ◌+◌, Bool, true, false, List, [], ◌∷◌, length, Option, Some, None, ◌⊎◌, inl, inr, ⊎_elim, refl, sym, ap, ◌∙◌, arith}
use Rattle.std.specs.Prelude.{◌&&◌, ◌||◌, is_some, if◌then◌else◌}
use Rattle.std.specs.List.{find}
use Rattle.book_base.specs.declared.address.Socket.{Socket}
use Rattle.book_segments.specs.Sockets.{same_socket}
use Rattle.book_segments.proofs.Fields.{and_tells}
use Rattle.book_segments.proofs.SocketLaws.{same_socket_is, same_socket-refl}
use Rattle.book_cmd_check.specs.Captures.{Connection, joins, with_connection}

-- two sockets are these two, in either order
abbrev pub joined : Socket → Socket → Socket → Socket → Bool
joined a b x y = (same_socket x a && same_socket y b) || (same_socket x b && same_socket y a)

or_told : (p q : Bool) → (p || q) ≡ true → (p ≡ true) ⊎ (q ≡ true)
or_told true q e = inl refl
or_told false q e = inr e

or_turned : (p q : Bool) → (p || q) ≡ (q || p)
or_turned true true = refl
or_turned true false = refl
or_turned false true = refl
or_turned false false = refl

and_turned : (p q : Bool) → (p && q) ≡ (q && p)
and_turned true true = refl
and_turned true false = refl
and_turned false true = refl
and_turned false false = refl

pub joined_told : (a b x y : Socket) → joined a b x y ≡ true → ((x ≡ a) × (y ≡ b)) ⊎ ((x ≡ b) × (y ≡ a))
joined_told a b x y e =
    ⊎_elim
    (λ h. let t = and_tells (same_socket x a) (same_socket y b) h in inl (same_socket_is x a t.0, same_socket_is y b t.1))
    (λ h. let t = and_tells (same_socket x b) (same_socket y a) h in inr (same_socket_is x b t.0, same_socket_is y a t.1))
    (or_told (same_socket x a && same_socket y b) (same_socket x b && same_socket y a) e)

pub joined_turned : (a b x y : Socket) → joined b a x y ≡ joined a b x y
joined_turned a b x y = or_turned (same_socket x b && same_socket y a) (same_socket x a && same_socket y b)

pub turned_joined : (a b x y : Socket) → joined a b y x ≡ joined a b x y
turned_joined a b x y =
    ap (λ (p : Bool). p || (same_socket y b && same_socket x a)) (and_turned (same_socket y a) (same_socket x b))
    ∙ ap (λ (p : Bool). (same_socket x b && same_socket y a) || p) (and_turned (same_socket y b) (same_socket x a))
    ∙ or_turned (same_socket x b && same_socket y a) (same_socket x a && same_socket y b)

pub joined-refl : (a b : Socket) → joined a b a b ≡ true
joined-refl a b = rw (same_socket-refl a, same_socket-refl b) refl

-- a connection between the same two sockets is found as this one
alike : (a b x y s t : Socket) → ((x ≡ s) × (y ≡ t)) ⊎ ((x ≡ t) × (y ≡ s)) → joined a b x y ≡ joined a b s t
alike a b x y s t (inl (p, q)) = rw (p, q) refl
alike a b x y s t (inr (p, q)) = rw (p, q) (turned_joined a b s t)

-- the same seen from two sockets that these are
alike_from : (a b x y s t : Socket) → ((s ≡ a) × (t ≡ b)) ⊎ ((s ≡ b) × (t ≡ a)) → joined s t x y ≡ joined a b x y
alike_from a b x y s t (inl (p, q)) = rw (p, q) refl
alike_from a b x y s t (inr (p, q)) = rw (p, q) (joined_turned a b x y)

-- a connection put among those that are held is found between its sockets
pub find_put : (a b : Socket) (c : Connection) (held : List Connection) → joins a b c ≡ true → find (joins a b) (with_connection c held) ≡ Some c
find_put a b c [] e = rw e refl
find_put a b c (k ∷ ks) e = at (find_put a b c ks e) (joins c.one.socket c.two.socket k) refl
  where
    same : joined c.one.socket c.two.socket k.one.socket k.two.socket ≡ joined a b k.one.socket k.two.socket
    same = alike_from a b k.one.socket k.two.socket c.one.socket c.two.socket (joined_told a b c.one.socket c.two.socket e)

    at : find (joins a b) (with_connection c ks) ≡ Some c → (v : Bool) → joins c.one.socket c.two.socket k ≡ v → find (joins a b) (if v then c ∷ ks else k ∷ with_connection c ks) ≡ Some c
    at i true h = rw e refl
    at i false h = rw (sym same ∙ h) i

-- between other sockets the same is found as before
pub find_others : (a b : Socket) (c : Connection) (held : List Connection) → joins a b c ≡ false → find (joins a b) (with_connection c held) ≡ find (joins a b) held
find_others a b c [] e = rw e refl
find_others a b c (k ∷ ks) e = at (find_others a b c ks e) (joins c.one.socket c.two.socket k) refl
  where
    at : find (joins a b) (with_connection c ks) ≡ find (joins a b) ks → (v : Bool) → joins c.one.socket c.two.socket k ≡ v
        → find (joins a b) (if v then c ∷ ks else k ∷ with_connection c ks) ≡ find (joins a b) (k ∷ ks)
    at i true h =
        let same = alike a b k.one.socket k.two.socket c.one.socket c.two.socket (joined_told c.one.socket c.two.socket k.one.socket k.two.socket h) in
        rw (e, same ∙ e) refl
    at i false h = next (joins a b k) i
      where
        next : (v : Bool) → find (joins a b) (with_connection c ks) ≡ find (joins a b) ks → (if v then Some k else find (joins a b) (with_connection c ks)) ≡ (if v then Some k else find (joins a b) ks)
        next true i = refl
        next false i = i

-- as many as before, or one more
pub length_put : (c : Connection) (held : List Connection)
    → length (with_connection c held) ≡ (if is_some (find (joins c.one.socket c.two.socket) held) then length held else length held + 1)
length_put c [] = refl
length_put c (k ∷ ks) = at (joins c.one.socket c.two.socket k) (find (joins c.one.socket c.two.socket) ks) (length_put c ks)
  where
    at : (v : Bool) (o : Option Connection) → length (with_connection c ks) ≡ (if is_some o then length ks else length ks + 1)
        → length (if v then c ∷ ks else k ∷ with_connection c ks) ≡ (if (is_some (if v then Some k else o)) then length (k ∷ ks) else length (k ∷ ks) + 1)
    at true o i = refl
    at false None i = omega arith
    at false (Some x) i = omega arith
