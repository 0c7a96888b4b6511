-- The key of a row, and what is kept after it was used.
use Rattle.std.proofs.Common.{◌≡◌, ◌<◌, ◌≤◌, ℕ, zero, suc, ◌+◌, ◌-◌, Bool, true, false, List, [], ◌∷◌, length, Option, Some, None, inl, inr, refl, sym, ap, ◌∙◌, subst, arith, get_or}
use Rattle.std.specs.Prelude.{slice_get}
use Rattle.book_base.specs.declared.address.Pair.{Pair}
use Rattle.book_base.specs.declared.algorithm.Algorithm.{Algorithm}
use Rattle.book_segments.specs.Segments.{Segment, has, SYN}
use Rattle.book_macs.specs.Contexts.{context, context_of}
use Rattle.book_macs.specs.Keys.{key_length, traffic_key}
use Rattle.book_macs.proofs.LengthLaws.{length-traffic_key}
use Rattle.book_keys.specs.Rows.{Row}
use Rattle.book_keys.specs.Choices.{acceptable_as, accept_row}
use Rattle.book_keys.proofs.ChoiceLaws.{lowest-IsLowest}
use Rattle.ao_kdf.specs.declared.way.Way.{Way}
use Rattle.ao_kdf.specs.declared.way.Way.TheVariants.{Inbound, Outbound}
use Rattle.ao_kdf.specs.Cache.{Cache, kept, keeping, IsRight, steps_for}
use Rattle.ao_kdf.proofs.CacheLaws.{kept-keeping, kept-stays}
use Rattle.tcp_segment.specs.declared.spelling.Head.{Head}
use Rattle.tcp_segment.specs.Drafts.{DatagramMut}
use Rattle.ao_mac.specs.Sealed.{IsSealed}
use Rattle.ao_check.specs.Bonds.{Bond, key_for, Fits, keys_after, steps_of, Counted}

-- ---- rows at their places

pub got : (rows : List Row) (i : ℕ) (r : Row) → i < length rows → ((d : Row) → r ≡ get_or rows i d) → slice_get rows i ≡ Some r
got [] i r h at = absurd (omega arith)
got (x ∷ rows) zero r h at = ap Some (sym (at r))
got (x ∷ rows) (suc i) r h at = got rows i r (omega arith) at

-- the row that was accepted is at its place
pub record AtPlace (rows : List Row) (n : ℕ) (r : Row) : Type 0 where
  pub low : 1 ≤ n
  pub high : n ≤ length rows
  pub here : slice_get rows (n - 1) ≡ Some r

pub accepted_at : (rows : List Row) (pair : Pair) (id now n : ℕ) (r : Row) → accept_row rows pair id now ≡ Some (record { number = n; row = r }) → AtPlace rows n r
accepted_at rows pair id now n r e =
    let l = lowest-IsLowest (acceptable_as pair id now) rows (record { number = n; row = r }) e in
    let low = l.low in
    let high = l.high in
    record { low = low; high = high; here = got rows (n - 1) r (omega arith) (λ d. sym (l.here d)) }

pub same_row : (rows : List Row) (n : ℕ) (r x : Row) → AtPlace rows n r → ((d : Row) → x ≡ get_or rows (n - 1) d) → x ≡ r
same_row rows n r x p at =
    let low = p.low in
    let high = p.high in
    let is = p.here in
    let other = got rows (n - 1) x (omega arith) at in cc

-- ---- the key of a segment without SYN

known : (c e : List ℕ) → Some c ≡ Some e → c ≡ e
known c e h = cc

pub inbound_key : (d : Segment) (pair : Pair) (own : ℕ) (peer : Option ℕ) (r : Row) (c : List ℕ) → has SYN d ≡ false → d.source ≡ pair.remote → d.destination ≡ pair.local
    → context_of d peer (Some own) ≡ Some c → key_for (Some r) Inbound pair own peer ≡ Some (traffic_key r.algorithm r.master c)
unfolding context_of
inbound_key d pair own None r c syn s t e = let none = rw syn at e in absurd (cc)
inbound_key d pair own (Some peer) r c syn s t e =
    let is = known (context d.source d.destination peer own) c (rw syn at e) in
    ap (λ (x : List ℕ). Some (traffic_key r.algorithm r.master x)) (rw (← s, ← t) is)

pub outbound_key : (d : Segment) (pair : Pair) (own : ℕ) (peer : Option ℕ) (r : Row) (c : List ℕ) → has SYN d ≡ false → d.source ≡ pair.local → d.destination ≡ pair.remote
    → context_of d (Some own) peer ≡ Some c → key_for (Some r) Outbound pair own peer ≡ Some (traffic_key r.algorithm r.master c)
unfolding context_of
outbound_key d pair own None r c syn s t e = let none = rw syn at e in absurd (cc)
outbound_key d pair own (Some peer) r c syn s t e =
    let is = known (context d.source d.destination own peer) c (rw syn at e) in
    ap (λ (x : List ℕ). Some (traffic_key r.algorithm r.master x)) (rw (← s, ← t) is)

-- a kept key is the one that is derived
pub kept_right : (rows : List Row) (a : Bond) (n : ℕ) (way : Way) (r : Row) (key : List ℕ) → Fits rows a → slice_get rows (n - 1) ≡ Some r → key_for (Some r) way a.pair a.own a.peer ≡ Some key
    → IsRight (kept a.keys n way) key
kept_right rows a n way r key f here is = λ k e.
    let old = f.keys n way k e in
    let row = ap (λ (o : Option Row). key_for o way a.pair a.own a.peer) here in
    known k key (sym old ∙ (row ∙ is))

-- ---- what is kept afterwards

rows_after : (syn : Bool) (c : Cache) (n : ℕ) (way : Way) (key : List ℕ) → (keys_after syn c n way key).rows ≡ c.rows
rows_after true c n way key = refl
rows_after false c n Inbound key = refl
rows_after false c n Outbound key = refl

keys_right : (syn : Bool) (rows : List Row) (a : Bond) (n : ℕ) (way : Way) (key : List ℕ) → (syn ≡ false → key_for (slice_get rows (n - 1)) way a.pair a.own a.peer ≡ Some key) → Fits rows a
    → (m : ℕ) (w : Way) (k : List ℕ) → kept (keys_after syn a.keys n way key) m w ≡ Some k → key_for (slice_get rows (m - 1)) w a.pair a.own a.peer ≡ Some k
keys_right true rows a n way key is f m w k e = f.keys m w k e
keys_right false rows a n way key is f m w k e =
    elim (kept-keeping a.keys n way key m w k e) [
      | inl old ↦ f.keys m w k old
      | inr (i, v, x) ↦ ap (λ (j : ℕ). key_for (slice_get rows j) w a.pair a.own a.peer) i ∙ (ap (λ (u : Way). key_for (slice_get rows (n - 1)) u a.pair a.own a.peer) v ∙ (is refl ∙ ap Some (sym x)))
    ]

pub fits_after : (syn : Bool) (rows : List Row) (a : Bond) (n : ℕ) (way : Way) (key : List ℕ) (keys : Cache) → keys ≡ keys_after syn a.keys n way key
    → (syn ≡ false → key_for (slice_get rows (n - 1)) way a.pair a.own a.peer ≡ Some key) → Fits rows a
    → Fits rows (record { pair = a.pair; own = a.own; peer = a.peer; current = a.current; keys = keys })
fits_after syn rows a n way key keys e is f =
    let room = f.room in
    let same = rows_after syn a.keys n way key in
    subst (λ (c : Cache). Fits rows (record { pair = a.pair; own = a.own; peer = a.peer; current = a.current; keys = c })) (sym e) (record {
      room = omega arith;
      keys = keys_right syn rows a n way key is f;
      current = f.current;
    })

-- ---- the steps

pub one_step : (syn : Bool) (o : Option (List ℕ)) → steps_of syn o ≤ 1
one_step true o = omega arith
one_step false None = omega arith
one_step false (Some k) = omega arith

no_step : (syn : Bool) (o : Option (List ℕ)) (k : List ℕ) → syn ≡ false → o ≡ Some k → steps_of syn o ≡ 0
no_step true o k s e = absurd (cc)
no_step false None k s e = absurd (cc)
no_step false (Some x) k s e = refl

numbers_same : (n m : ℕ) → Option.Some n ≡ Some m → n ≡ m
numbers_same n m e = cc

stay_after : (syn : Bool) (c : Cache) (n : ℕ) (way : Way) (key : List ℕ) → (syn ≡ false → IsRight (kept c n way) key)
    → (m : ℕ) (w : Way) (k : List ℕ) → kept c m w ≡ Some k → kept (keys_after syn c n way key) m w ≡ Some k
stay_after true c n way key right m w k e = e
stay_after false c n way key right m w k e =
    kept-stays c n way key m w k (λ i v. right refl k (place i v)) e
  where
    place : m - 1 ≡ n - 1 → w ≡ way → kept c n way ≡ Some k
    place i v = at (m - 1) (n - 1) w way i v e
      where
        at : (p q : ℕ) (u v : Way) → p ≡ q → u ≡ v → Rattle.ao_kdf.specs.Cache.key_at (Rattle.ao_kdf.specs.Cache.keys_of c u) p ≡ Some k → Rattle.ao_kdf.specs.Cache.key_at (Rattle.ao_kdf.specs.Cache.keys_of c v) q ≡ Some k
        at p q u v i j h = rw (← i, ← j) h

pub counted_after : (syn : Bool) (c : Cache) (n : ℕ) (way : Way) (key : List ℕ) (keys : Cache) (old new : ℕ) (row : Option ℕ) (flag : Bool) → keys ≡ keys_after syn c n way key → syn ≡ flag → row ≡ Some n
    → (syn ≡ false → IsRight (kept c n way) key) → (syn ≡ false → kept keys n way ≡ Some key) → new ≡ old + steps_of syn (kept c n way)
    → Counted c keys row true way flag old new
counted_after syn c n way key keys old new row flag e g at right is count =
    let most = one_step syn (kept c n way) in
    record {
      room = ap (λ (x : Cache). x.rows) e ∙ rows_after syn c n way key;
      least = omega arith;
      most = omega arith;
      idle = λ e. absurd (cc);
      none = λ m k s r h.
          let same : m ≡ n = numbers_same m n (sym r ∙ at) in
          let here : kept c n way ≡ Some k = rw (← same) h in
          omega (arith, no_step syn (kept c n way) k (g ∙ s) here);
      derived = λ m s r more.
          let same : m ≡ n = numbers_same m n (sym r ∙ at) in
          (key, rw same (is (g ∙ s)));
      stays = λ m w k h. subst (λ (x : Cache). kept x m w ≡ Some k) (sym e) (stay_after syn c n way key right m w k h);
    }

-- ---- a key that is lent

-- it is the one that was kept, and has its algorithm's length
pub lent_long : (o : Option (List ℕ)) (key : List ℕ) (a : Algorithm) (master c : List ℕ) → Some key ≡ o → o ≡ Some (traffic_key a master c) → length key ≡ key_length a
lent_long o key a master c e f = let same : key ≡ traffic_key a master c = cc in ap length same ∙ length-traffic_key a master c

-- ---- a seal by equal parts

pub sealed_as : (d : DatagramMut) (h : Head) (old payload rest : List ℕ) (a b : Algorithm) (k l : List ℕ) (s t : ℕ) (f g : Bool) → a ≡ b → k ≡ l → s ≡ t → f ≡ g
    → IsSealed d h old payload rest a k s f → IsSealed d h old payload rest b l t g
sealed_as d h old payload rest a b k l s t f g ea ek es ef is =
    subst (λ (x : Algorithm). IsSealed d h old payload rest x l t g) ea (subst (λ (x : List ℕ). IsSealed d h old payload rest a x t g) ek
    (subst (λ (x : ℕ). IsSealed d h old payload rest a k x g) es (subst (λ (x : Bool). IsSealed d h old payload rest a k s x) ef is)))
