-- What a datagram of the own kernel does to the pairs of a shim.
use Rattle.std.proofs.Common.{◌≡◌, ◌⊎◌, ◌+◌, arith, ℕ, List, length, Option, Some, None, Err, refl, sym, subst, ◌∙◌, inl, inr}
use Rattle.std.specs.Option.{OnSome}
use Rattle.std.specs.BTreeMap.{is_at}
use Rattle.std.specs.List.{find}
use Rattle.std.specs.Map.{set_value}
use Rattle.book_base.specs.declared.address.Pair.{Pair}
use Rattle.book_base.specs.Orders.{by_pair}
use Rattle.book_segments.specs.Segments.{Segment, Read, reading}
use Rattle.book_keys.specs.Rows.{Row, Table, has_address}
use Rattle.book_shim.specs.declared.refusal.Unsent.{Unsent}
use Rattle.book_shim.specs.Keeping.{fresh}
use Rattle.book_shim.specs.Leaving.{outbound}
use Rattle.ao_shim.specs.Guards.{Held, Suits, Sent}
use Rattle.shim_pairs.specs.declared.entry.Entry.{Entry}
use Rattle.shim_pairs.specs.declared.answer.Passed.{Passed}
use Rattle.shim_pairs.specs.declared.answer.PairUnsent.TheVariants as unsent
use Rattle.shim_pairs.specs.Holdings.{Holding, found, rows_for, with_another, of_entries, AllSuit, SuitsAt, AllHaveRoom, HaveRoom, IsWhole, room_of}
use Rattle.shim_pairs.specs.Passing.{setting, pair_left, LeavesAt, Begins, IsUnsent, IsLeft, Tells}
use Rattle.pair_table.specs.Listings.{Listing}
use Rattle.shim_pairs.proofs.ShimLaws.{rooms, table_rows}

-- all suit where one more entry is held that suits
pub suits_put : (tables : List Table) (es after : List (Pair × Entry)) (p : Pair) (e : Entry) → AllSuit tables es → SuitsAt tables p e
    → ((q : Pair) (f : Entry) → found q after ≡ Some f → ((q ≡ p) × (f ≡ e)) ⊎ (found q es ≡ Some f)) → AllSuit tables after
suits_put tables es after p e all suits each q f h = elim (each q f h) [
  | inl same ↦ subst (λ (x : Pair). SuitsAt tables x f) (sym same.0) (subst (SuitsAt tables p) (sym same.1) suits)
  | inr was ↦ all q f was
]

module _ (tables : List Table) (p : Pair) (t : Table) (table : Some t ≡ find (has_address p.local.address) tables) where
  -- an entry of the pair that the table that was found suits
  pub suits_by : (e : Entry) → e.guard.pair ≡ p → Suits t.rows e.guard → e.guard.keys.rows ≡ room_of tables → SuitsAt tables p e
  suits_by e pair suits rows = record {
    pair_is = pair;
    suits = subst (λ (rows : List Row). Suits rows e.guard) (sym (table_rows tables p.local.address t table)) suits;
    room = rows;
  }

module _ (h k : Holding) (p : Pair) (now : ℕ) (bytes old new : List ℕ) (t : Table) (table : Some t ≡ find (has_address p.local.address) h.tables) where
  rows : rows_for h p ≡ t.rows
  rows = table_rows h.tables p.local.address t table

  -- one of a pair of which nothing is held was sealed
  pub leaves_fresh : (n : Passed) (g : Held) → found p h.entries ≡ None → k ≡ of_entries h (with_another h.most h.entries p (record { guard = g; last = now }))
      → Begins t.rows p now g bytes old new n → LeavesAt p now h k bytes old new n
  leaves_fresh n g none same begins = record {
    entry = record { guard = g; last = now };
    sent = λ mtu. rw (rows, none) (begins.sent mtu);
    told = rw none (record { last_is = refl; changed_is = begins.changed_is });
    held = same ∙ rw none refl;
  }

  -- one of a pair of which something is held was sealed
  pub leaves_held : (n : Passed) (e f : Entry) → Some e ≡ found p h.entries → e.guard.pair ≡ p → k ≡ of_entries h (set_value (is_at (by_pair p)) h.entries f)
      → ((mtu : ℕ) → Sent (setting t.rows now mtu) e.guard.pair e.guard.kept f.guard.kept bytes old new n.length) → Tells now e.guard.kept f n → LeavesAt p now h k bytes old new n
  leaves_held n e f is pair same sent told = record {
    entry = f;
    sent = λ mtu. rw (rows, ← is) (subst (λ (x : Pair). Sent (setting t.rows now mtu) x e.guard.kept f.guard.kept bytes old new n.length) pair (sent mtu));
    told = rw (← is) told;
    held = same ∙ rw (← is) refl;
  }

  -- one of a pair of which nothing is held was refused
  pub unsent_fresh : (why : Unsent) → found p h.entries ≡ None → ((q : Pair) → IsLeft q bytes → q ≡ p)
      → ((mtu : ℕ) → outbound (setting t.rows now mtu) p fresh bytes ≡ Err why) → IsUnsent h now bytes (unsent.Unsent why)
  unsent_fresh why none one refused = λ q to mtu. rw (one q to, rows, none) (refused mtu)

  -- one of a pair of which something is held was refused
  pub unsent_held : (why : Unsent) (e : Entry) → Some e ≡ found p h.entries → e.guard.pair ≡ p → ((q : Pair) → IsLeft q bytes → q ≡ p)
      → ((mtu : ℕ) → outbound (setting t.rows now mtu) e.guard.pair e.guard.kept bytes ≡ Err why) → IsUnsent h now bytes (unsent.Unsent why)
  unsent_held why e is pair one refused = λ q to mtu. rw (one q to, rows, ← is) (subst (λ (x : Pair). outbound (setting t.rows now mtu) x e.guard.kept bytes ≡ Err why) pair (refused mtu))

-- the pair of a datagram is one
pub one_left : (bytes : List ℕ) (d : Segment) (p : Pair) → reading bytes ≡ Read d → p ≡ pair_left d → (q : Pair) → IsLeft q bytes → q ≡ p
one_left bytes d p read is q to = to d read ∙ sym is

-- ---- the guards

pub known : {A P : Type 0} (r : Option A) (x : A) → r ≡ Some x → OnSome r P → P
known None x e h = absurd (cc)
known (Some y) x e h = h

-- the guards are as many as before, once one more has a pair
pub whole_put : (ts : List Table) (before after : Listing Entry) (spares spares' : List Held) (hand guard hand' : Held) (p : Pair) (last : ℕ)
    → IsWhole ts before.most before.entries spares hand → SuitsAt ts p (record { guard = guard; last = last })
    → ((q : Pair) (f : Entry) → found q after.entries ≡ Some f → ((q ≡ p) × (f ≡ record { guard = guard; last = last })) ⊎ (found q before.entries ≡ Some f))
    → after.most ≡ before.most → length after.entries + length spares' ≡ after.most
    → ((rows : ℕ) → HaveRoom rows spares → HaveRoom rows spares') → ((rows : ℕ) → HaveRoom rows spares → AllHaveRoom rows before.entries → hand'.keys.rows ≡ rows)
    → IsWhole ts after.most after.entries spares' hand'
whole_put ts before after spares spares' hand guard hand' p last w suits each most count spare one = record {
  all = suits_put ts before.entries after.entries p (record { guard = guard; last = last }) w.all suits each;
  count = count;
  some = let s = w.some in omega (arith, s, most);
  spare_room = spare (room_of ts) w.spare_room;
  hand_room = one (room_of ts) w.spare_room (rooms ts before.entries w.all);
}
