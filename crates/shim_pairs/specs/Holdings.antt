-- The pairs of sockets of which a shim keeps something, which one goes for want of room, what is
-- saved of them, and how they go on with other tables.
use Rattle.std.specs.Prelude.{◌≡◌, ◌+◌, ◌≤◌, ◌^◌, ◌&&◌, ℕ, zero, suc, nat_le, nat_lt, Bool, true, false, not}
use Rattle.std.specs.Prelude.{slice_get, option_map, is_some, Result, Err, List, [], ◌∷◌, length}
use Rattle.std.specs.Prelude.{Option, Some, None, if◌then◌else◌}
use Rattle.std.specs.List.{AllByRecursion, find}
use Rattle.std.specs.Map.{lookup, remove_entry, set_value}
use Rattle.std.specs.BTreeMap.{is_at, insert_entry}
use Rattle.book_base.specs.declared.address.Pair.{Pair}
use Rattle.book_base.specs.Orders.{by_pair}
use Rattle.book_keys.specs.Coordination.{follow}
use Rattle.book_keys.specs.Plans.{rows_at}
use Rattle.book_keys.specs.Rows.{Row, Table, has_address}
use Rattle.book_shim.specs.declared.kept.Isns.{Isns}
use Rattle.book_shim.specs.declared.kept.Kept.{Kept}
use Rattle.book_shim.specs.Keeping.{fresh}
use Rattle.book_shim.specs.Saving.{resumed}
use Rattle.ao_kdf.specs.Cache.{empty}
use Rattle.ao_shim.specs.Guards.{Held, Suits}
use Rattle.shim_pairs.specs.declared.counters.Counters.{Counters}
use Rattle.shim_pairs.specs.declared.entry.Entry.{Entry}
use Rattle.shim_pairs.specs.declared.saved.Saved.{Saved}
use Rattle.shim_pairs.specs.declared.saved.RestoreRefusal.{RestoreRefusal}
use Rattle.shim_pairs.specs.declared.saved.RestoreRefusal.TheVariants as refusals

-- the tables of the own addresses, how many pairs are kept at most, and each with what is kept of
-- it, in the order of pairs (own)
pub record Holding : Type 0 where
  pub tables : List Table
  pub most : ℕ
  pub entries : List (Pair × Entry)

-- what is held of a pair among these entries (own)
abbrev pub found : Pair → List (Pair × Entry) → Option Entry
found p es = lookup (is_at (by_pair p)) es

-- something is held of the pair (own)
abbrev pub holds : Holding → Pair → Bool
holds h p = is_some (found p h.entries)

-- what is kept of a pair, of which nothing may be held (own)
abbrev pub kept_of : Option Entry → Kept
kept_of None = fresh
kept_of (Some e) = e.guard.kept

-- what is kept of a pair (own)
abbrev pub kept_at : Holding → Pair → Kept
kept_at h p = kept_of (found p h.entries)

-- the rows of the pair's own address (own)
abbrev pub rows_for : Holding → Pair → List Row
rows_for h p = rows_at h.tables p.local.address

-- of two entries the one of which something passed longer ago, the first where both did at one time
-- (own)
abbrev pub elder : Pair × Entry → Option (Pair × Entry) → Pair × Entry
elder x None = x
elder x (Some y) = if nat_le x.1.last y.1.last then x else y

-- the entry of which nothing passed for longest (own)
abbrev pub eldest : List (Pair × Entry) → Option (Pair × Entry)
eldest [] = None
eldest (x ∷ xs) = Some (elder x (eldest xs))

-- which entry goes where another one comes about: none while there is room (own)
abbrev pub going : (most : ℕ) → List (Pair × Entry) → Option (Pair × Entry)
going most es = if nat_lt (length es) most then None else eldest es

-- the entries without that one (own)
abbrev pub without : Option (Pair × Entry) → List (Pair × Entry) → List (Pair × Entry)
without None es = es
without (Some v) es = remove_entry (is_at (by_pair v.0)) es

-- the entries after another one came about (own)
abbrev pub with_another : (most : ℕ) → List (Pair × Entry) → Pair → Entry → List (Pair × Entry)
with_another most es p e = without (going most es) (insert_entry by_pair es p e)

-- the entries with this one of the pair, which is held or comes about (own)
abbrev pub with_entry : (most : ℕ) → List (Pair × Entry) → Pair → Entry → List (Pair × Entry)
with_entry most es p e =
    if is_some (found p es) then set_value (is_at (by_pair p)) es e else with_another most es p e

-- the shim with these entries (own)
abbrev pub of_entries : Holding → List (Pair × Entry) → Holding
of_entries h es = record h { entries = es }

-- the larger one of two numbers (own)
abbrev pub larger : (a b : ℕ) → ℕ
larger a b = if nat_lt a b then b else a

-- how many rows the largest table has (own)
abbrev pub room_of : List Table → ℕ
room_of [] = 0
room_of (t ∷ ts) = larger (length t.rows) (room_of ts)

-- an entry is of its pair, the table of the pair's own address suits it, and it has room for the
-- keys of any other one (own)
pub record SuitsAt (tables : List Table) (p : Pair) (e : Entry) : Type 0 where
  pub pair_is : e.guard.pair ≡ p
  pub suits : Suits (rows_at tables p.local.address) e.guard
  pub room : e.guard.keys.rows ≡ room_of tables

-- each entry is of its pair, and its table suits it (own)
abbrev pub AllSuit : List Table → List (Pair × Entry) → Type 0
AllSuit tables es = (p : Pair) (e : Entry) → found p es ≡ Some e → SuitsAt tables p e

-- each guard has room for the keys of so many rows (own)
abbrev pub HaveRoom : (rows : ℕ) → List Held → Type 0
HaveRoom rows gs = AllByRecursion (λ (g : Held). g.keys.rows ≡ rows) gs

-- the guard of each entry that is found has room for the keys of so many rows (own)
abbrev pub AllHaveRoom : (rows : ℕ) → List (Pair × Entry) → Type 0
AllHaveRoom rows es = (p : Pair) (e : Entry) → found p es ≡ Some e → e.guard.keys.rows ≡ rows

-- each entry suits, and the guards that no pair has are as many as the pairs for which there is
-- still room, and one more at hand (own)
pub record IsWhole (tables : List Table) (most : ℕ) (entries : List (Pair × Entry))
    (spares : List Held) (hand : Held) : Type 0 where
  pub all : AllSuit tables entries
  pub count : length entries + length spares ≡ most
  pub some : 1 ≤ most
  pub spare_room : HaveRoom (room_of tables) spares
  pub hand_room : hand.keys.rows ≡ room_of tables

-- the KeyID of the row of this number, from 1 (RFC 5925, section 3.1)
abbrev pub sent_id : List Row → Option ℕ → Option ℕ
sent_id rows None = None
sent_id rows (Some zero) = None
sent_id rows (Some (suc n)) = option_map (λ r. r.send_id) (slice_get rows n)

-- what is saved of a pair, if it has a connection (own)
abbrev pub saved_in : List Row → Pair → Kept → Option Isns → Option Saved
saved_in rows p g None = None
saved_in rows p g (Some c) = Some (record {
  pair = p;
  isns = c;
  sent = g.sent;
  heard = g.heard;
  key_id = sent_id rows g.current;
})

-- what is saved of an entry, if it has a connection (own)
abbrev pub saved_entry : List Table → Pair → Entry → Option Saved
saved_entry tables p e =
    saved_in (rows_at tables p.local.address) p e.guard.kept e.guard.kept.isns

-- what is saved of the pair at a place, if there is one and it has a connection (own)
abbrev pub saved_at : List Table → Option (Pair × Entry) → Option Saved
saved_at tables None = None
saved_at tables (Some x) = saved_entry tables x.0 x.1

-- the row that sends under this KeyID now, where one is told and there is one (RFC 5925, section
-- 7.4)
abbrev pub current_by : List Row → Pair → (key_id : Option ℕ) → (now : ℕ) → Option ℕ
current_by rows p None now = None
current_by rows p (Some id) now = follow None rows p id now

-- an entry of a connection that was saved, of which nothing passed yet, with room for the keys of
-- so many rows (own)
abbrev pub resumed_entry : (room : ℕ) → List Row → (now : ℕ) → Saved → Entry
resumed_entry room rows now s = record {
  guard = record {
    pair = s.pair;
    kept = resumed s.isns s.sent s.heard (current_by rows s.pair s.key_id now);
    keys = empty room;
  };
  last = 0;
}

-- the shim after a connection that was saved was brought back (own)
abbrev pub restored : Holding → (now : ℕ) → Saved → Holding
restored h now s = of_entries h (with_another h.most h.entries s.pair
    (resumed_entry (room_of h.tables) (rows_for h s.pair) now s))

-- no node has the address (own)
abbrev pub is_foreign : Holding → Pair → Bool
is_foreign h p = not (is_some (find (has_address p.local.address) h.tables))

-- a connection is brought back, unless the pair is held, or no node has its own address (own)
abbrev pub IsRefused : Holding → Pair → Result (Unit {0}) RestoreRefusal → Type 0
IsRefused h p (Err refusals.Held) = holds h p ≡ true
IsRefused h p (Err refusals.NoNode) = (holds h p ≡ false) × (is_foreign h p ≡ true)
IsRefused h p _ = (holds h p ≡ false) × (is_foreign h p ≡ false)

-- the numbers of a connection that was saved are at most 2^63, as those of each guard are (own)
abbrev pub are_low : Saved → Bool
are_low s = nat_le s.sent (2 ^ 63) && nat_le s.heard (2 ^ 63)

-- a connection may be brought back: its numbers are low, its pair isn't held, and a node has its own
-- address (own)
abbrev pub can_resume : Holding → Saved → Bool
can_resume h s = are_low s && (not (holds h s.pair) && not (is_foreign h s.pair))

-- the shim after a connection was brought back, if one was saved and may be; else as it was (own)
abbrev pub brought : (now : ℕ) → Option Saved → Holding → Holding
brought now None h = h
brought now (Some s) h = if can_resume h s then restored h now s else h

-- the shim after the connections of these entries, which other tables had, were brought back one
-- after another (own)
abbrev pub all_brought : (now : ℕ) → List Table → List (Pair × Entry) → Holding → Holding
all_brought now tables [] h = h
all_brought now tables (x ∷ es) h =
    all_brought now tables es (brought now (saved_entry tables x.0 x.1) h)

-- the shim with other tables, into which its connections were brought back (own)
abbrev pub carried : (now : ℕ) → Holding → List Table → Holding
carried now h tables = all_brought now h.tables h.entries (record {
  tables = tables;
  most = h.most;
  entries = [];
})

-- the pairs of a shim, and what it counted (own)
pub record ShimState : Type 0 where
  pub held : Holding
  pub counters : Counters
