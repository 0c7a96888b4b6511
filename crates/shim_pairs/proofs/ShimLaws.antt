-- What calls do to the pairs of a shim.
use Rattle.std.proofs.Common.{◌≡◌, arith, ℕ, Bool, true, false, List, [], ◌∷◌, Some, None, Result, Ok, Err, refl, sym, ap, subst, ◌∙◌}
use Rattle.std.specs.Prelude.{cond, option_map, if◌then◌else◌, IfOk, IfErr, OnErr}
use Rattle.std.specs.BTreeMap.{is_at}
use Rattle.std.specs.List.{find}
use Rattle.std.specs.Map.{set_value}
use Rattle.book_base.specs.declared.address.Address.{Address}
use Rattle.book_base.specs.declared.address.Pair.{Pair}
use Rattle.book_base.specs.Orders.{by_pair}
use Rattle.book_segments.specs.Segments.{Segment, Read, reading, pair_reached}
use Rattle.book_keys.specs.Plans.{rows_at, rows_of_table}
use Rattle.book_keys.specs.Rows.{Row, Table, has_address}
use Rattle.book_cmd_node.specs.NodeRuns.{same_pair}
use Rattle.book_shim.specs.Keeping.{fresh}
use Rattle.ao_shim.specs.Guards.{Held, Suits, Taken}
use Rattle.std.proofs.lemmas.Map.{length-set_value}
use Rattle.law_node.proofs.PairMaps.{set_finds}
use Rattle.law_node.proofs.Pairs.{same_pair_is}
use Rattle.shim_pairs.specs.declared.entry.Entry.{Entry}
use Rattle.shim_pairs.specs.declared.answer.Passed.{Passed}
use Rattle.shim_pairs.specs.declared.answer.PairUntaken.TheVariants as untaken
use Rattle.shim_pairs.specs.Holdings.{Holding, found, rows_for, of_entries, AllSuit, SuitsAt, AllHaveRoom, IsWhole, room_of}
use Rattle.book_shim.specs.declared.refusal.Untaken.{Untaken}
use Rattle.book_shim.specs.Arriving.{inbound}
use Rattle.shim_pairs.specs.Passing.{setting, EntersAt, TakenFresh, IsUntaken, IsReached, Stays, seen, Tells}

-- the rows of the table that was found
pub table_rows : (tables : List Table) (a : Address) (t : Table) → Some t ≡ find (has_address a) tables → rows_at tables a ≡ t.rows
table_rows tables a t e = ap rows_of_table (sym e)

module _ (tables : List Table) (es : List (Pair × Entry)) (p : Pair) where
  -- the table suits the entry that was found
  pub suits_held : AllSuit tables es → (e : Entry) (t : Table) → Some e ≡ found p es → Some t ≡ find (has_address p.local.address) tables → Suits t.rows e.guard
  suits_held all e t f at = subst (λ (rows : List Row). Suits rows e.guard) (table_rows tables p.local.address t at) (all p e (sym f)).suits

  -- the entry that was found, with another guard of its pair that the table suits
  pub suits_at : AllSuit tables es → (e f : Entry) (t : Table) → Some e ≡ found p es → Some t ≡ find (has_address p.local.address) tables
      → f.guard.pair ≡ e.guard.pair → Suits t.rows f.guard → f.guard.keys.rows ≡ e.guard.keys.rows → SuitsAt tables p f
  suits_at all e f t is at pair suits rows = record {
    pair_is = pair ∙ (all p e (sym is)).pair_is;
    suits = subst (λ (rows : List Row). Suits rows f.guard) (sym (table_rows tables p.local.address t at)) suits;
    room = rows ∙ (all p e (sym is)).room;
  }

  -- all suit, once an entry was written that suits
  pub suits_written : AllSuit tables es → (e f : Entry) → Some e ≡ found p es → SuitsAt tables p f → AllSuit tables (set_value (is_at (by_pair p)) es f)
  suits_written all e f is suits q g h = at (same_pair p q) refl (sym (set_finds p q f es (rw (← is) refl)) ∙ h)
    where
      at : (v : Bool) → same_pair p q ≡ v → (if v then Some f else found q es) ≡ Some g → SuitsAt tables q g
      at true same i = let one : f ≡ g = cc in subst (λ (x : Pair). SuitsAt tables x g) (same_pair_is p q same) (subst (SuitsAt tables p) one suits)
      at false same i = all q g i

-- a value that is written in the place of an equal one changes nothing
pub set_same : (p : Pair) (es : List (Pair × Entry)) (e : Entry) → Some e ≡ found p es → set_value (is_at (by_pair p)) es e ≡ es
set_same p [] e h = refl
set_same p (x ∷ es) e h = at (is_at (by_pair p) x.0) (set_same p es e) h
  where
    at : (v : Bool) → (Some e ≡ found p es → set_value (is_at (by_pair p)) es e ≡ es) → Some e ≡ cond v (Some x.1) (found p es)
        → cond v ((x.0, e) ∷ es) (x ∷ set_value (is_at (by_pair p)) es e) ≡ x ∷ es
    at true next i = let one : e ≡ x.1 = cc in rw one refl
    at false next i = ap (λ (l : List (Pair × Entry)). x ∷ l) (next i)

pub if_ok : {A E : Type 0} {P Q : A → Type 0} (r : Result A E) → ((x : A) → P x → Q x) → IfOk r P → IfOk r Q
if_ok (Ok x) f h = f x h
if_ok (Err e) f h = tt

pub if_err : {A E : Type 0} {P Q : E → Type 0} (r : Result A E) → ((x : E) → P x → Q x) → IfErr r P → IfErr r Q
if_err (Ok x) f h = tt
if_err (Err e) f h = f e h

pub on_err : {A E P : Type 0} (r : Result A E) → P → OnErr r P
on_err (Ok x) h = tt
on_err (Err e) h = h

-- ---- datagrams from the network

module _ (h k : Holding) (p : Pair) (now mtu : ℕ) (bytes old new : List ℕ) (t : Table) (table : Some t ≡ find (has_address p.local.address) h.tables) where
  rows : rows_for h p ≡ t.rows
  rows = table_rows h.tables p.local.address t table

  -- one of a pair of which nothing is held passed
  pub enters_fresh : (n : Passed) → found p h.entries ≡ None → k ≡ h → TakenFresh t.rows p now mtu bytes old new n → EntersAt p now mtu h k bytes old new n
  enters_fresh n none same taken = record {
    entry = taken.entry;
    taken = rw (rows, none) taken.taken;
    told = rw none taken.told;
    held = rw none same;
  }

  -- one of a pair of which something is held passed
  pub enters_held : (n : Passed) (e f : Entry) → Some e ≡ found p h.entries → e.guard.pair ≡ p → k ≡ of_entries h (set_value (is_at (by_pair p)) h.entries f)
      → Taken (setting t.rows now mtu) e.guard.pair e.guard.kept f.guard.kept bytes old new n.length → Tells now e.guard.kept f n → EntersAt p now mtu h k bytes old new n
  enters_held n e f is pair same taken told = record {
    entry = f;
    taken = rw (rows, ← is) (subst (λ (x : Pair). Taken (setting t.rows now mtu) x e.guard.kept f.guard.kept bytes old new n.length) pair taken);
    told = rw (← is) told;
    held = rw (← is) same;
  }

  -- one of a pair of which nothing is held was refused
  pub refused_fresh : (why : Untaken) → found p h.entries ≡ None → ((q : Pair) → IsReached q bytes → q ≡ p)
      → inbound (setting t.rows now mtu) p fresh bytes ≡ Err why → IsUntaken h now mtu bytes (untaken.Untaken why)
  refused_fresh why none one refused = λ q to. rw (one q to, rows, none) refused

  -- one of a pair of which something is held was refused
  pub refused_held : (why : Untaken) (e : Entry) → Some e ≡ found p h.entries → e.guard.pair ≡ p → ((q : Pair) → IsReached q bytes → q ≡ p)
      → inbound (setting t.rows now mtu) e.guard.pair e.guard.kept bytes ≡ Err why → IsUntaken h now mtu bytes (untaken.Untaken why)
  refused_held why e is pair one refused = λ q to. rw (one q to, rows, ← is) (subst (λ (x : Pair). inbound (setting t.rows now mtu) x e.guard.kept bytes ≡ Err why) pair refused)

-- an entry that only its keys changed
pub stays_written : (h k : Holding) (p : Pair) (e f : Entry) → Some e ≡ found p h.entries → f.guard.kept ≡ e.guard.kept → f.last ≡ e.last
    → k ≡ of_entries h (set_value (is_at (by_pair p)) h.entries f) → Stays h k
stays_written h k p e f is kept last same = rw same (record {
  tables_is = refl;
  most_is = refl;
  each = λ q. ap (option_map seen) (set_finds p q f h.entries (rw (← is) refl)) ∙ at q (same_pair p q) refl;
})
  where
    at : (q : Pair) (v : Bool) → same_pair p q ≡ v → option_map seen (if v then Some f else found q h.entries) ≡ option_map seen (found q h.entries)
    at q true one = rw (← same_pair_is p q one, ← is, kept, last) refl
    at q false one = refl

pub stays_same : (h k : Holding) → k ≡ h → Stays h k
stays_same h k same = rw same (record { tables_is = refl; most_is = refl; each = λ q. refl })

-- the pair of a datagram is one
pub one_pair : (bytes : List ℕ) (d : Segment) (p : Pair) → reading bytes ≡ Read d → p ≡ pair_reached d → (q : Pair) → IsReached q bytes → q ≡ p
one_pair bytes d p read is q to = to d read ∙ sym is

-- ---- the guards

-- all that is held has room
pub rooms : (tables : List Table) (es : List (Pair × Entry)) → AllSuit tables es → AllHaveRoom (room_of tables) es
rooms tables es all p e h = (all p e h).room

-- the guards are as many as before, once an entry was written that suits
pub whole_written : (tables : List Table) (most : ℕ) (es fs : List (Pair × Entry)) (spares : List Held) (hand : Held) (p : Pair) (f : Entry) → IsWhole tables most es spares hand
    → fs ≡ set_value (is_at (by_pair p)) es f → AllSuit tables (set_value (is_at (by_pair p)) es f) → IsWhole tables most fs spares hand
whole_written tables most es fs spares hand p f w same all = rw same (record {
  all = all;
  count = let n = length-set_value (is_at (by_pair p)) es f in let k = w.count in omega (arith, n, k);
  some = w.some;
  spare_room = w.spare_room;
  hand_room = w.hand_room;
})

-- and once the one at hand had another pair
pub whole_hand : (tables : List Table) (most : ℕ) (es : List (Pair × Entry)) (spares : List Held) (hand hand' : Held) → IsWhole tables most es spares hand → hand'.keys.rows ≡ hand.keys.rows → IsWhole tables most es spares hand'
whole_hand tables most es spares hand hand' w same = record { all = w.all; count = w.count; some = w.some; spare_room = w.spare_room; hand_room = same ∙ w.hand_room }
