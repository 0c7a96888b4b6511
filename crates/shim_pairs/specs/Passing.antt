-- What a datagram does to the pairs of a shim. The file's tops: `Leaves`, `IsUnsent`, `Enters`,
-- `IsUntaken` and `Stays`.
use Rattle.std.specs.Prelude.{◌≡◌, ℕ, false, List, Option, Some, None, option_map, Err}
use Rattle.std.specs.BTreeMap.{is_at}
use Rattle.std.specs.List.{find}
use Rattle.std.specs.Map.{set_value}
use Rattle.book_base.specs.declared.address.Pair.{Pair}
use Rattle.book_base.specs.Orders.{by_pair}
use Rattle.book_segments.specs.Segments.{Segment, Read, reading, pair_reached}
use Rattle.book_keys.specs.Rows.{Row, has_address}
use Rattle.book_shim.specs.declared.kept.Kept.{Kept}
use Rattle.book_shim.specs.Keeping.{Setting, fresh}
use Rattle.book_shim.specs.Leaving.{outbound}
use Rattle.book_shim.specs.Arriving.{inbound}
use Rattle.ao_shim.specs.Guards.{Held, Sent, Suits, Taken}
use Rattle.shim_pairs.specs.declared.entry.Entry.{Entry}
use Rattle.shim_pairs.specs.declared.answer.Passed.{Passed}
use Rattle.shim_pairs.specs.declared.answer.PairUnsent.{PairUnsent}
use Rattle.shim_pairs.specs.declared.answer.PairUnsent.TheVariants as unsent
use Rattle.shim_pairs.specs.declared.answer.PairUntaken.{PairUntaken}
use Rattle.shim_pairs.specs.declared.answer.PairUntaken.TheVariants as untaken
use Rattle.shim_pairs.specs.Holdings.{Holding, found, kept_at, rows_for, with_entry, of_entries}
use Rattle.book_shim.specs.Saving.{is_to_save}

-- the pair of a datagram of the own kernel: its source is the own socket (own)
abbrev pub pair_left : Segment → Pair
pair_left d = record { local = d.source; remote = d.destination }

-- under what a pair's datagrams are handled at a time (own)
abbrev pub setting : List Row → (now mtu : ℕ) → Setting
setting rows now mtu = record { rows = rows; now = now; mtu = mtu }

-- what is told of a datagram that goes on (own)
pub record Tells (now : ℕ) (before : Kept) (after : Entry) (p : Passed) : Type 0 where
  pub last_is : after.last ≡ now
  pub changed_is : p.changed ≡ is_to_save before after.guard.kept

-- a datagram of the own kernel of this pair was sealed, and something is held of the pair (own)
pub record LeavesAt (pair : Pair) (now : ℕ) (before after : Holding) (bytes old new : List ℕ)
    (p : Passed) : Type 0 where
  pub entry : Entry
  pub sent : (mtu : ℕ) → Sent (setting (rows_for before pair) now mtu) pair
      (kept_at before pair) entry.guard.kept bytes old new p.length
  pub told : Tells now (kept_at before pair) entry p
  pub held : after ≡ of_entries before (with_entry before.most before.entries pair entry)

-- a datagram of the own kernel was sealed, and something is held of its pair (own)
pub record Leaves (now : ℕ) (before after : Holding) (bytes old new : List ℕ) (p : Passed) : Type 0
  where
    pub d : Segment
    pub read : reading bytes ≡ Read d
    pub sealed : LeavesAt (pair_left d) now before after bytes old new p

-- the pair is that of the datagram, where the bytes of the own kernel are one (own)
abbrev pub IsLeft : Pair → List ℕ → Type 0
IsLeft p bytes = (d : Segment) → reading bytes ≡ Read d → p ≡ pair_left d

-- the pair is that of the datagram, where the bytes from the network are one (own)
abbrev pub IsReached : Pair → List ℕ → Type 0
IsReached p bytes = (d : Segment) → reading bytes ≡ Read d → p ≡ pair_reached d

-- no node has the address (own)
abbrev pub HasNoNode : Holding → (Segment → Pair) → List ℕ → Type 0
HasNoNode h pair bytes =
    (d : Segment) × (reading bytes ≡ Read d)
    × (find (has_address (pair d).local.address) h.tables ≡ None)

-- a datagram of the own kernel doesn't go on, for this reason (own)
abbrev pub IsUnsent : Holding → (now : ℕ) → List ℕ → PairUnsent → Type 0
IsUnsent h now bytes unsent.NoNode = HasNoNode h pair_left bytes
IsUnsent h now bytes (unsent.Unsent why) = (p : Pair) → IsLeft p bytes
    → (mtu : ℕ) → outbound (setting (rows_for h p) now mtu) p (kept_at h p) bytes ≡ Err why

-- a datagram from the network doesn't go on, for this reason (own)
abbrev pub IsUntaken : Holding → (now mtu : ℕ) → List ℕ → PairUntaken → Type 0
IsUntaken h now mtu bytes untaken.NoNode = HasNoNode h pair_reached bytes
IsUntaken h now mtu bytes (untaken.Untaken why) = (p : Pair) → IsReached p bytes
    → inbound (setting (rows_for h p) now mtu) p (kept_at h p) bytes ≡ Err why

-- the shim after a datagram from the network passed: with what is kept of a pair of which something
-- was held, and else as it was (own)
abbrev pub after_taken : Option Entry → Holding → Pair → Entry → Holding
after_taken None h p e = h
after_taken (Some was) h p e = of_entries h (set_value (is_at (by_pair p)) h.entries e)

-- what is told of a datagram from the network that goes on (own)
abbrev pub TellsTaken : Option Entry → (now : ℕ) → Entry → Passed → Type 0
TellsTaken None now e p = p.changed ≡ false
TellsTaken (Some was) now e p = Tells now was.guard.kept e p

-- a datagram from the network of this pair passed (own)
pub record EntersAt (pair : Pair) (now mtu : ℕ) (before after : Holding) (bytes old new : List ℕ)
    (p : Passed) : Type 0 where
  pub entry : Entry
  pub taken : Taken (setting (rows_for before pair) now mtu) pair
      (kept_at before pair) entry.guard.kept bytes old new p.length
  pub told : TellsTaken (found pair before.entries) now entry p
  pub held : after ≡ after_taken (found pair before.entries) before pair entry

-- a datagram from the network passed (own)
pub record Enters (now mtu : ℕ) (before after : Holding) (bytes old new : List ℕ) (p : Passed)
    : Type 0 where
  pub d : Segment
  pub read : reading bytes ≡ Read d
  pub opened : EntersAt (pair_reached d) now mtu before after bytes old new p

-- what is kept of an entry but its keys: the pair's numbers, and when something passed last (own)
abbrev pub seen : Entry → Kept × ℕ
seen e = (e.guard.kept, e.last)

-- nothing is changed but keys that were derived (own)
pub record Stays (before after : Holding) : Type 0 where
  pub tables_is : after.tables ≡ before.tables
  pub most_is : after.most ≡ before.most
  pub each : (q : Pair) → option_map seen (found q after.entries)
      ≡ option_map seen (found q before.entries)

-- a datagram of a pair of which nothing was held was sealed by this guard (own)
pub record Begins (rows : List Row) (pair : Pair) (now : ℕ) (guard : Held) (bytes old new : List ℕ)
    (p : Passed) : Type 0 where
  pub pair_is : guard.pair ≡ pair
  pub suits : Suits rows guard
  pub sent : (mtu : ℕ) → Sent (setting rows now mtu) pair fresh guard.kept bytes old new p.length
  pub changed_is : p.changed ≡ is_to_save fresh guard.kept

-- a datagram of a pair of which nothing is held was opened (own)
pub record TakenFresh (rows : List Row) (pair : Pair) (now mtu : ℕ) (bytes old new : List ℕ)
    (p : Passed) : Type 0 where
  pub entry : Entry
  pub taken : Taken (setting rows now mtu) pair fresh entry.guard.kept bytes old new p.length
  pub told : p.changed ≡ false
