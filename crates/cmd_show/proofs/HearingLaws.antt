-- What the marks of the rows that hear a connection tell of each row.
use Rattle.std.proofs.Common.{◌≡◌, ℕ, suc, ◌+◌, ◌<◌, ◌==◌, Bool, true, false, ◌&&◌, ◌||◌, List, length, take, drop, get_or, map, refl, sym, ap, ◌∙◌, add-one, drop-cons}
use Rattle.std.proofs.lemmas.List.{get_or-take, get_or-map}
use Rattle.std.specs.List.{list_any}
use Rattle.book_base.specs.declared.address.Pair.{Pair}
use Rattle.book_keys.specs.Plans.{mirrored, same_key, accepts_from, outlasts, accepts_throughout}
use Rattle.book_keys.specs.Rows.{Row, matches, receives}
use Rattle.cmd_show.specs.Unmet.{hears}

-- a mark tells whether the row at its place hears
told : (pair : Pair) (marks : List Bool) (rows : List Row) (i : ℕ) (x : Row) → take (length rows) marks ≡ map (hears pair) rows → i < length rows
    → x ≡ get_or rows i x → get_or marks i false ≡ hears pair x
told pair marks rows i x marked low is =
    sym (get_or-take (length rows) marks i false low) ∙ ap (λ l. get_or l i false) marked ∙ get_or-map (hears pair) rows i x false low ∙ ap (hears pair) (sym is)

-- a row that fails the test is passed over
pub passed : (t : Row → Bool) (rows : List Row) (i : ℕ) (x : Row) → i < length rows → x ≡ get_or rows i x → t x ≡ false
    → list_any t (drop i rows) ≡ list_any t rows → list_any t (drop (i + 1) rows) ≡ list_any t rows
passed t rows i x low is fails so_far = over (t (get_or rows i x)) (ap t (sym is) ∙ fails) (sym (ap (list_any t) (drop-cons rows i x low)) ∙ so_far)
  where
    over : (b : Bool) → b ≡ false → (b || list_any t (drop (suc i) rows)) ≡ list_any t rows → list_any t (drop (i + 1) rows) ≡ list_any t rows
    over true e f = absurd (cc)
    over false e f = rw (add-one i) f

front_fails : (a b : Bool) → a ≡ false → (a && b) ≡ false
front_fails true b e = absurd (cc)
front_fails false b e = refl

rest_fails : (a b : Bool) → b ≡ false → (a && b) ≡ false
rest_fails true b e = e
rest_fails false b e = refl

first_two_fail : (a b k : Bool) → (a && b) ≡ false → (a && (b && k)) ≡ false
first_two_fail true b k e = front_fails b k e
first_two_fail false b k e = refl

-- a row that doesn't hear accepts nothing
pub unheard : (pair : Pair) (marks : List Bool) (rows : List Row) (i : ℕ) (r x : Row) → take (length rows) marks ≡ map (hears pair) rows → i < length rows
    → x ≡ get_or rows i x → get_or marks i false ≡ false → accepts_from pair r x ≡ false
unheard pair marks rows i r x marked low is mark =
    first_two_fail (matches x (mirrored pair)) (receives x.direction) ((x.recv_id == r.send_id) && same_key x r) (sym (told pair marks rows i x marked low is) ∙ mark)

-- nor does one with another id or key
pub unkeyed : (pair : Pair) (r x : Row) → ((x.recv_id == r.send_id) && same_key x r) ≡ false → accepts_from pair r x ≡ false
unkeyed pair r x e = rest_fails (matches x (mirrored pair)) _ (rest_fails (receives x.direction) _ e)

-- a row that doesn't accept doesn't accept throughout, nor does one for too short a time
pub unheard_throughout : (pair : Pair) (lead lag : ℕ) (r x : Row) → accepts_from pair r x ≡ false → accepts_throughout pair lead lag r x ≡ false
unheard_throughout pair lead lag r x e = front_fails (accepts_from pair r x) (outlasts lead lag r x) e

pub too_short : (pair : Pair) (lead lag : ℕ) (r x : Row) → outlasts lead lag r x ≡ false → accepts_throughout pair lead lag r x ≡ false
too_short pair lead lag r x e = rest_fails (accepts_from pair r x) (outlasts lead lag r x) e
