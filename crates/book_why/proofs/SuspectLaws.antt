-- The suspect that an answer tells is what the check comes to.
use Rattle.std.proofs.Common.{◌≡◌, ◌≢◌, ℕ, ◌+◌, Bool, true, false, List, length, Option, Some, None, Result, Ok, Err, refl, sym, ap, subst, ◌∙◌}
use Rattle.std.specs.Prelude.{◌==◌, ◌||◌, nat_le, is_some, option_map, if◌then◌else◌}
use Rattle.book_base.specs.Results.{◌>>=◌, or_fault}
use Rattle.book_base.specs.Algorithms.{mac_length_of}
use Rattle.book_segments.specs.Bytes.{same_bytes}
use Rattle.book_segments.specs.Options.{Ao, AoFound, Absent, One, Two, WithMd5 as FoundMd5, find_ao}
use Rattle.book_segments.specs.Segments.{Segment, has, SYN, ACK, segment_length, pair_reached}
use Rattle.book_segments.proofs.Fields.{same_bytes_tells}
use Rattle.book_segments.proofs.SocketLaws.{same_bytes-refl}
use Rattle.book_macs.specs.Contexts.{context, context_known, context_of, context_of_later, context_of_syn}
use Rattle.book_keys.specs.Choices.{Numbered, accept_row, has_id}
use Rattle.book_endpoint.specs.States.{number_limit}
use Rattle.book_endpoint.specs.declared.refusal.Refusal.{Refusal}
use Rattle.book_endpoint.specs.declared.refusal.Refusal.TheVariants.{NoAo, TwoAo, WithMd5, NoTuple, Expired, MacLength, NoContext, Range, BadMac}
use Rattle.book_endpoint.specs.Verdicts.{Finding, Judgement, Known, found_with, judge, mac_of, one_ao, require, row_taking, segment_number}
use Rattle.book_cmd_check.specs.Captures.{Connection, acknowledged_isn, judge_later, judge_stored}
use Rattle.book_why.specs.declared.change.IsnPair.{IsnPair}
use Rattle.book_why.specs.Judging.{ComesToItsMac, suspect_finding}
use Rattle.book_why.specs.Recipes.{Suspect, mac_made, recipe_of}
use Rattle.book_why.proofs.RecipeLaws.{check_passes, check_refuses}
use Rattle.book_why.specs.Sights.{Sight, isns_at, isns_held, isns_of_syn, known_at, known_later, number_at, row_at, suspect_at}
use Rattle.book_why.specs.Suspects.{Failing, Passing}

-- what is known of a segment, by whether it is a SYN
abbrev known_by : Bool → Segment → Option Connection → Known
known_by syn d held = if syn then record { own_isn = acknowledged_isn d; peer_isn = None; expected = None } else known_later held

pub known_told : (s : Sight) → judge_stored s.table.rows (pair_reached s.segment) s.now s.segment s.held ≡ judge s.table.rows (pair_reached s.segment) (known_at s) s.now s.segment
known_told s = at (has SYN s.segment) s.held
  where
    opening : Known
    opening = record { own_isn = acknowledged_isn s.segment; peer_isn = None; expected = None }

    at : (syn : Bool) (held : Option Connection) → (if syn then judge s.table.rows (pair_reached s.segment) (record { own_isn = acknowledged_isn s.segment; peer_isn = None; expected = None }) s.now s.segment else judge_later s.table.rows (pair_reached s.segment) s.now s.segment held)
        ≡ judge s.table.rows (pair_reached s.segment) (known_by syn s.segment held) s.now s.segment
    at true held = refl
    at false None = refl
    at false (Some c) = refl

-- the context is that of these initial sequence numbers
record Seen (isns : Option IsnPair) (d : Segment) (bytes : List ℕ) : Type 0 where
  pair : IsnPair
  is : isns ≡ Some pair
  same : context d.source d.destination pair.source_isn pair.destination_isn ≡ bytes

abbrev isns_by : Bool → Segment → Option Connection → Option IsnPair
isns_by syn d held = if syn then Some (isns_of_syn d) else option_map isns_held held

abbrev context_by : Bool → Segment → Known → Option (List ℕ)
context_by syn d known = if syn then context_of_syn d (Some known.own_isn) else context_of_later d known.peer_isn (Some known.own_isn)

some_same : {X : Type 0} → (x y : X) → ◌≡◌ {A = Option X} (Some x) (Some y) → x ≡ y
some_same x y e = cc

syn_seen : (ack : Bool) (d : Segment) (own : ℕ) (bytes : List ℕ)
    → (if ack then context_known d.source d.destination d.sequence (Some own) else Some (context d.source d.destination d.sequence 0)) ≡ Some bytes
    → context d.source d.destination d.sequence (if ack then own else 0) ≡ bytes
syn_seen true d own bytes e = some_same (context d.source d.destination d.sequence own) bytes e
syn_seen false d own bytes e = some_same (context d.source d.destination d.sequence 0) bytes e

seen : (syn : Bool) (d : Segment) (held : Option Connection) (bytes : List ℕ) → context_by syn d (known_by syn d held) ≡ Some bytes → Seen (isns_by syn d held) d bytes
seen true d held bytes e = record { pair = isns_of_syn d; is = refl; same = syn_seen (has ACK d) d (acknowledged_isn d) bytes e }
seen false d None bytes e = absurd (cc)
seen false d (Some c) bytes e = record { pair = isns_held c; is = refl; same = some_same (context d.source d.destination c.one.isn c.two.isn) bytes e }

seen_at : (s : Sight) (bytes : List ℕ) → context_of s.segment (known_at s).peer_isn (Some (known_at s).own_isn) ≡ Some bytes → Seen (isns_at s) s.segment bytes
unfolding context_of
seen_at s bytes e = seen (has SYN s.segment) s.segment s.held bytes e

-- a judgement that comes behind all tests but that of the MAC
Late : Judgement → Type 0
Late (Ok p) = Unit {0}
Late (Err BadMac) = Unit {0}
Late (Err NoAo) = ⊥
Late (Err TwoAo) = ⊥
Late (Err WithMd5) = ⊥
Late (Err NoTuple) = ⊥
Late (Err Expired) = ⊥
Late (Err MacLength) = ⊥
Late (Err NoContext) = ⊥
Late (Err Range) = ⊥

-- the check comes to the MAC of a segment
record Comes (s : Sight) : Type 0 where
  suspect : Suspect
  row : ℕ
  same : suspect.segment ≡ s.segment
  found : suspect_at s ≡ Ok suspect
  comes : ComesToItsMac s.table.rows (pair_reached s.segment) (known_at s) s.now row suspect

-- the tests of `judge` behind each of its steps
abbrev behind_end : Sight → Ao → Numbered → (bytes : List ℕ) → ℕ → Judgement
behind_end s ao row bytes n = require (same_bytes ao.mac (mac_of (found_with row s.segment ao bytes n))) BadMac >>= λ right. Ok (found_with row s.segment ao bytes n)

abbrev behind_number : Sight → Ao → Numbered → (bytes : List ℕ) → ℕ → Judgement
behind_number s ao row bytes n = require (nat_le (n + segment_length s.segment) number_limit) Range >>= λ ends. behind_end s ao row bytes n

abbrev behind_numbered : Sight → Ao → Numbered → (bytes : List ℕ) → Judgement
behind_numbered s ao row bytes = or_fault (segment_number s.segment (known_at s).expected) Range >>= λ n. behind_number s ao row bytes n

abbrev behind_context : Sight → Ao → Numbered → (bytes : List ℕ) → Judgement
behind_context s ao row bytes = require (has SYN s.segment || is_some (known_at s).expected) NoContext >>= λ numbered. behind_numbered s ao row bytes

abbrev behind_length : Sight → Ao → Numbered → Judgement
behind_length s ao row = or_fault (context_of s.segment (known_at s).peer_isn (Some (known_at s).own_isn)) NoContext >>= λ bytes. behind_context s ao row bytes

abbrev behind_row : Sight → Ao → Numbered → Judgement
behind_row s ao row = require (length ao.mac == mac_length_of row.row.algorithm) MacLength >>= λ fits. behind_length s ao row

abbrev behind_ao : Sight → Ao → Judgement
behind_ao s ao = row_taking s.table.rows (pair_reached s.segment) ao.key_id s.now >>= λ row. behind_row s ao row

-- what was found on the way to the MAC
record Way (s : Sight) : Type 0 where
  ao : Ao
  row : Numbered
  bytes : List ℕ
  number : ℕ
  has_ao : one_ao (find_ao s.segment.area) ≡ Ok ao
  has_row : accept_row s.table.rows (pair_reached s.segment) ao.key_id s.now ≡ Some row
  fits : (length ao.mac == mac_length_of row.row.algorithm) ≡ true
  has_context : context_of s.segment (known_at s).peer_isn (Some (known_at s).own_isn) ≡ Some bytes
  numbered : (has SYN s.segment || is_some (known_at s).expected) ≡ true
  has_number : segment_number s.segment (known_at s).expected ≡ Some number
  in_range : nat_le (number + segment_length s.segment) number_limit ≡ true

late_not : (j k : Judgement) → k ≡ j → Late j → Late k
late_not j k e late = subst Late (sym e) late

module _ (s : Sight) (j : Judgement) (late : Late j) where
  by_number : (ao : Ao) (row : Numbered) (bytes : List ℕ) (n : ℕ) → one_ao (find_ao s.segment.area) ≡ Ok ao → accept_row s.table.rows (pair_reached s.segment) ao.key_id s.now ≡ Some row
      → (length ao.mac == mac_length_of row.row.algorithm) ≡ true → context_of s.segment (known_at s).peer_isn (Some (known_at s).own_isn) ≡ Some bytes
      → (has SYN s.segment || is_some (known_at s).expected) ≡ true → segment_number s.segment (known_at s).expected ≡ Some n
      → (b : Bool) → nat_le (n + segment_length s.segment) number_limit ≡ b → (require b Range >>= λ ends. behind_end s ao row bytes n) ≡ j → Way s
  unfolding Late
  by_number ao row bytes n e1 e2 e3 e4 e5 e6 true e7 h = record {
    ao = ao;
    row = row;
    bytes = bytes;
    number = n;
    has_ao = e1;
    has_row = e2;
    fits = e3;
    has_context = e4;
    numbered = e5;
    has_number = e6;
    in_range = e7;
  }
  by_number ao row bytes n e1 e2 e3 e4 e5 e6 false e7 h = absurd (late_not j (Err Range) h late)

  by_numbered : (ao : Ao) (row : Numbered) (bytes : List ℕ) → one_ao (find_ao s.segment.area) ≡ Ok ao → accept_row s.table.rows (pair_reached s.segment) ao.key_id s.now ≡ Some row
      → (length ao.mac == mac_length_of row.row.algorithm) ≡ true → context_of s.segment (known_at s).peer_isn (Some (known_at s).own_isn) ≡ Some bytes
      → (has SYN s.segment || is_some (known_at s).expected) ≡ true
      → (o : Option ℕ) → segment_number s.segment (known_at s).expected ≡ o → (or_fault o Range >>= λ n. behind_number s ao row bytes n) ≡ j → Way s
  unfolding Late
  by_numbered ao row bytes e1 e2 e3 e4 e5 (Some n) e6 h = by_number ao row bytes n e1 e2 e3 e4 e5 e6 (nat_le (n + segment_length s.segment) number_limit) refl h
  by_numbered ao row bytes e1 e2 e3 e4 e5 None e6 h = absurd (late_not j (Err Range) h late)

  by_context : (ao : Ao) (row : Numbered) (bytes : List ℕ) → one_ao (find_ao s.segment.area) ≡ Ok ao → accept_row s.table.rows (pair_reached s.segment) ao.key_id s.now ≡ Some row
      → (length ao.mac == mac_length_of row.row.algorithm) ≡ true → context_of s.segment (known_at s).peer_isn (Some (known_at s).own_isn) ≡ Some bytes
      → (b : Bool) → (has SYN s.segment || is_some (known_at s).expected) ≡ b → (require b NoContext >>= λ numbered. behind_numbered s ao row bytes) ≡ j → Way s
  unfolding Late
  by_context ao row bytes e1 e2 e3 e4 true e5 h = by_numbered ao row bytes e1 e2 e3 e4 e5 (segment_number s.segment (known_at s).expected) refl h
  by_context ao row bytes e1 e2 e3 e4 false e5 h = absurd (late_not j (Err NoContext) h late)

  by_length : (ao : Ao) (row : Numbered) → one_ao (find_ao s.segment.area) ≡ Ok ao → accept_row s.table.rows (pair_reached s.segment) ao.key_id s.now ≡ Some row
      → (length ao.mac == mac_length_of row.row.algorithm) ≡ true
      → (o : Option (List ℕ)) → context_of s.segment (known_at s).peer_isn (Some (known_at s).own_isn) ≡ o → (or_fault o NoContext >>= λ bytes. behind_context s ao row bytes) ≡ j → Way s
  unfolding Late
  by_length ao row e1 e2 e3 (Some bytes) e4 h = by_context ao row bytes e1 e2 e3 e4 (has SYN s.segment || is_some (known_at s).expected) refl h
  by_length ao row e1 e2 e3 None e4 h = absurd (late_not j (Err NoContext) h late)

  by_row : (ao : Ao) (row : Numbered) → one_ao (find_ao s.segment.area) ≡ Ok ao → accept_row s.table.rows (pair_reached s.segment) ao.key_id s.now ≡ Some row
      → (b : Bool) → (length ao.mac == mac_length_of row.row.algorithm) ≡ b → (require b MacLength >>= λ fits. behind_length s ao row) ≡ j → Way s
  unfolding Late
  by_row ao row e1 e2 true e3 h = by_length ao row e1 e2 e3 (context_of s.segment (known_at s).peer_isn (Some (known_at s).own_isn)) refl h
  by_row ao row e1 e2 false e3 h = absurd (late_not j (Err MacLength) h late)

  no_row : (b : Bool) (ao : Ao) → (or_fault None (if b then Expired else NoTuple) >>= λ row. behind_row s ao row) ≡ j → ⊥
  unfolding Late
  no_row true ao h = late_not j (Err Expired) h late
  no_row false ao h = late_not j (Err NoTuple) h late

  by_ao : (ao : Ao) → one_ao (find_ao s.segment.area) ≡ Ok ao
      → (o : Option Numbered) → accept_row s.table.rows (pair_reached s.segment) ao.key_id s.now ≡ o
      → (or_fault o (if has_id s.table.rows (pair_reached s.segment) ao.key_id then Expired else NoTuple) >>= λ row. behind_row s ao row) ≡ j → Way s
  by_ao ao e1 (Some row) e2 h = by_row ao row e1 e2 (length ao.mac == mac_length_of row.row.algorithm) refl h
  by_ao ao e1 None e2 h = absurd (no_row (has_id s.table.rows (pair_reached s.segment) ao.key_id) ao h)

  by_found : (f : AoFound) → find_ao s.segment.area ≡ f → (one_ao f >>= λ ao. behind_ao s ao) ≡ j → Way s
  unfolding Late
  by_found (One ao) e h = by_ao ao (ap one_ao e) (accept_row s.table.rows (pair_reached s.segment) ao.key_id s.now) refl h
  by_found Absent e h = absurd (late_not j (Err NoAo) h late)
  by_found Two e h = absurd (late_not j (Err TwoAo) h late)
  by_found FoundMd5 e h = absurd (late_not j (Err WithMd5) h late)

way_to : (s : Sight) (j : Judgement) → Late j → judge s.table.rows (pair_reached s.segment) (known_at s) s.now s.segment ≡ j → Way s
unfolding judge
way_to s j late h = by_found s j late (find_ao s.segment.area) refl h

-- the suspect at the end of the way
suspect_by : (s : Sight) → Way s → IsnPair → Suspect
suspect_by s w isns = record {
  segment = s.segment;
  ao = w.ao;
  number = w.number;
  source_isn = isns.source_isn;
  destination_isn = isns.destination_isn;
  row = w.row.row;
}

way_found : (s : Sight) (w : Way s) (isns : IsnPair) → isns_at s ≡ Some isns → suspect_at s ≡ Ok (suspect_by s w isns)
unfolding suspect_at row_at suspect_by
way_found s w isns is = rw (w.has_ao, w.has_row, is, w.has_number) refl

comes_by : (s : Sight) → Way s → Comes s
unfolding suspect_by
comes_by s w =
    let here = seen_at s w.bytes w.has_context in
    record {
      suspect = suspect_by s w here.pair;
      row = w.row.number;
      same = refl;
      found = way_found s w here.pair here.is;
      comes = record {
        option = w.has_ao;
        row = w.has_row;
        mac_length = w.fits;
        known_context = w.has_context ∙ ap (λ (l : List ℕ). Some l) (sym here.same);
        numbered = w.numbered;
        number = w.has_number;
        in_range = w.in_range;
      };
    }

abbrev judged_at : Sight → Judgement
judged_at s = judge s.table.rows (pair_reached s.segment) (known_at s) s.now s.segment

when_right : (s : Sight) (c : Comes s) → c.suspect.ao.mac ≡ mac_made (recipe_of c.suspect) → judged_at s ≡ Ok (suspect_finding c.row c.suspect)
when_right s c right =
    subst (λ (d : Segment). judge s.table.rows (pair_reached s.segment) (known_at s) s.now d ≡ Ok (suspect_finding c.row c.suspect)) c.same
    (check_passes s.table.rows (pair_reached s.segment) (known_at s) s.now c.row c.suspect c.comes right)

when_wrong : (s : Sight) (c : Comes s) → c.suspect.ao.mac ≢ mac_made (recipe_of c.suspect) → judged_at s ≡ Err BadMac
when_wrong s c differs =
    subst (λ (d : Segment). judge s.table.rows (pair_reached s.segment) (known_at s) s.now d ≡ Err BadMac) c.same
    (check_refuses s.table.rows (pair_reached s.segment) (known_at s) s.now c.row c.suspect c.comes differs)

not_both : (j : Judgement) (p : Finding) → j ≡ Ok p → j ≡ Err BadMac → ⊥
not_both j p one two = absurd (cc)

ok_same : (j : Judgement) (p q : Finding) → j ≡ Ok p → j ≡ Ok q → p ≡ q
ok_same j p q one two = cc

pub fails_told : (s : Sight) → judge s.table.rows (pair_reached s.segment) (known_at s) s.now s.segment ≡ Err BadMac → Failing s
unfolding Late
fails_told s h = at (comes_by s (way_to s (Err BadMac) tt h))
  where
    at : Comes s → Failing s
    at c = record {
      suspect = c.suspect;
      row = c.row;
      found = c.found;
      comes = c.comes;
      differs = λ same. not_both (judged_at s) (suspect_finding c.row c.suspect) (when_right s c same) h;
    }

differs_from : (xs ys : List ℕ) → same_bytes xs ys ≡ false → xs ≢ ys
differs_from xs ys no_same e = absurd (let same : same_bytes xs ys ≡ true = subst (λ (l : List ℕ). same_bytes xs l ≡ true) e (same_bytes-refl xs) in let both = sym no_same ∙ same in cc)

pub passes_told : (s : Sight) (p : Finding) → judge s.table.rows (pair_reached s.segment) (known_at s) s.now s.segment ≡ Ok p → Passing s p
unfolding Late
passes_told s p h = at (comes_by s (way_to s (Ok p) tt h))
  where
    right : (c : Comes s) → c.suspect.ao.mac ≡ mac_made (recipe_of c.suspect) → Passing s p
    right c same =
        let finding : p ≡ suspect_finding c.row c.suspect = ok_same (judged_at s) p (suspect_finding c.row c.suspect) h (when_right s c same) in
        let row : p.row ≡ c.row = ap (λ (q : Finding). q.row) finding in
        record {
          suspect = c.suspect;
          found = c.found;
          comes = subst (λ (n : ℕ). ComesToItsMac s.table.rows (pair_reached s.segment) (known_at s) s.now n c.suspect) (sym row) c.comes;
          agrees = same;
          finding = finding ∙ ap (λ (n : ℕ). suspect_finding n c.suspect) (sym row);
        }

    by : (c : Comes s) (b : Bool) → same_bytes c.suspect.ao.mac (mac_made (recipe_of c.suspect)) ≡ b → Passing s p
    by c true e = right c (same_bytes_tells c.suspect.ao.mac (mac_made (recipe_of c.suspect)) e)
    by c false e = absurd (not_both (judged_at s) p h (when_wrong s c (differs_from c.suspect.ao.mac (mac_made (recipe_of c.suspect)) e)))

    at : Comes s → Passing s p
    at c = by c (same_bytes c.suspect.ao.mac (mac_made (recipe_of c.suspect))) refl
