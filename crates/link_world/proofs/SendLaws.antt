-- Segments that an end makes.
use Rattle.std.proofs.Common.{◌≡◌, ◌+◌, ◌-◌, ◌≤◌, ℕ, suc, List, [], ◌∷◌, ◌++◌, length, take, get_or, Option, Some, None, refl, sym, ap, ◌∙◌, subst, arith}
use Rattle.std.proofs.lemmas.List.{take-append-le, take-take}
use Rattle.book_base.specs.declared.end.End.{End}
use Rattle.ao_check.proofs.KeyLaws.{same_row}
use Rattle.book_keys.specs.Rows.{Row}
use Rattle.book_link.specs.declared.event.Event.TheVariants.{At}
use Rattle.book_link.specs.declared.event.Transmission.{Transmission}
use Rattle.book_link.specs.Outcomes as book
use Rattle.book_link.specs.Steps.{Stepped, step}
use Rattle.book_link.specs.Worlds.{Setup, World, Made, Happening, Making, pair_of, segments, side as side_of}
use Rattle.link_report.specs.declared.log.Log.{Log}
use Rattle.link_report.specs.Entries.{IsMade}
use Rattle.link_report.specs.Logs.{StandsLog, forgery_count, made_count}
use Rattle.link_report.proofs.LogLaws.{segments_kept}
use Rattle.link_report.specs.declared.outcome.Outcome.{Outcome}
use Rattle.link_report.specs.declared.outcome.Outcome.TheVariants as outcome
use Rattle.link_report.specs.Outcomes.{Shows, TellsMade}
use Rattle.link_report.specs.declared.side.Side.{Side}
use Rattle.link_report.specs.Segments.{HasSent, IsQuiet, IsSent, sending}
use Rattle.link_report.specs.Sides.{StandsSide}
use Rattle.tcp_endpoint.specs.declared.emission.Emission.{Emission}
use Rattle.tcp_endpoint.specs.declared.emission.Emission.TheVariants as emissions
use Rattle.tcp_endpoint.specs.declared.emission.Made.{Made as Told}
use Rattle.link_world.specs.Changes.{HasStepped, Stays, by_event}
use Rattle.link_world.specs.Links.{AreOfEnd, StandsAt}
use Rattle.link_world.proofs.WholeLaws.{HasRow, sent_made, sent_row}

-- what holds of an end that sends
abbrev pub Sends : Transmission → Side → Side → List ℕ → List ℕ → Option Emission → Type 0
Sends which before after bytes out told =
    (setup : Setup) (w : World) (e : End) → pair_of setup e ≡ before.pair → StandsSide before (side_of w e)
    → HasSent w (step setup w (At e (sending which))) which e after bytes out told

-- nothing was made
pub sent_none : (which : Transmission) (e : End) (before after : Side) (old new : Log) (bytes out : List ℕ) (told : Option Emission) (x : book.Outcome) (o : Outcome)
    → after.pair ≡ before.pair → made_count new ≡ made_count old → forgery_count new ≡ forgery_count old
    → ((history : List Happening) → StandsLog old history → StandsLog new history) → Sends which before after bytes out told
    → ((setup : Setup) (w : World) → HasSent w (step setup w (At e (sending which))) which e after bytes out told → IsQuiet w (step setup w (At e (sending which))) bytes out x)
    → Shows o x → HasStepped e before after old new (by_event (At e (sending which))) o
sent_none which e before after old new bytes out told x o pair made forged logs sends quiet shows =
    record {
      pair = pair;
      made = omega (arith, made);
      forged = omega (arith, forged);
      follows = λ setup w h.
          let s = sends setup w e h.pair_is h.side_is in
          let q = quiet setup w s in
          record {
            side_is = s.stands;
            others = s.others;
            log_is = subst (StandsLog new) (sym q.history) (logs w.history h.log_is);
            shows = subst (Shows o) (sym q.outcome_is) shows;
          };
    }

-- the row of what was made is one of the table
pub row_made : (which : Transmission) (e : End) (before after : Side) (log : Log) (bytes out : List ℕ) (told : Told) → AreOfEnd e before log
    → Sends which before after bytes out (Some (emissions.Segment told)) → (row : Row) × HasRow after.table.rows told.sending.row row
row_made which e before after log bytes out told known sends =
    let s = sends known.setup known.world e known.stands.pair_is known.stands.side_is in
    (s.tells.0.emission.sending.row, sent_row after.table.rows refl s.tells.3)

-- what is told of a segment that was kept under this name
tells_made : {w : World} {which : Transmission} {e : End} {d : Side} {before after : List ℕ} {told : Told} {made : Made} (name : ℕ)
    → IsSent w which e d before after told made → name ≡ suc (segments w.history) → TellsMade name told made
tells_made {w} {which} {e} {d} {before} {after} {told} {made} name h is =
    record {
      name_is = h.name ∙ sym is;
      long = h.told.written.long ∙ ap length (sym h.bytes);
      sending = h.told.sending;
      number = h.told.number;
      ack = h.told.ack;
      flags = h.told.flags;
      payload = h.told.payload;
      context = h.told.context;
    }

-- a segment was made and kept
pub sent_some : (which : Transmission) (e : End) (before after : Side) (old kept new : Log) (bytes out : List ℕ) (told : Told) (name : ℕ) → after.pair ≡ before.pair
    → made_count kept ≡ made_count old → made_count new ≡ made_count kept + 1 → forgery_count new ≡ forgery_count old
    → ((history : List Happening) → StandsLog old history → StandsLog kept history) → Sends which before after bytes out (Some (emissions.Segment told))
    → ((w : World) (made : Made) → IsSent w which e after bytes out told made → (history : List Happening) → StandsLog kept history
    → made.name ≡ suc (segments history) → StandsLog new (Making made ∷ history))
    → name ≡ made_count kept + 1 → HasStepped e before after old new (by_event (At e (sending which))) (outcome.Sent name told)
sent_some which e before after old kept new bytes out told name pair reserved made forged logs sends push is =
    record {
      pair = pair;
      made = omega (arith, reserved, made);
      forged = omega (arith, forged);
      follows = λ setup w h.
          let s = sends setup w e h.pair_is h.side_is in
          let entry : Made = s.tells.0 in
          let sent = s.tells.3 in
          let there = logs w.history h.log_is in
          let count = segments_kept kept.kept.items w.history there.keeps in
          let named : name ≡ suc (segments w.history) = omega (arith, is, count) in
          record {
            side_is = s.stands;
            others = s.others;
            log_is = subst (StandsLog new) (sym s.tells.2) (push w entry sent w.history there sent.name);
            shows = (entry, s.tells.1, tells_made name sent named);
          };
    }

-- the bytes in front of a buffer
pub front_bytes : (n l : ℕ) (xs ys : List ℕ) → n ≤ l → n ≤ length xs → take n (take l (xs ++ ys)) ≡ take n xs
front_bytes n l xs ys most within = take-take n l (xs ++ ys) most ∙ take-append-le n xs ys within

-- the row that is lent is the one under which it was made
pub row_lent : {w : World} {which : Transmission} {e : End} {d : Side} {before after : List ℕ} {told : Told} {made : Made} (row : Row)
    → IsSent w which e d before after told made → ((x : Row) → row ≡ get_or d.table.rows (told.sending.row - 1) x) → row ≡ made.emission.sending.row
row_lent {w} {which} {e} {d} {before} {after} {told} {made} row h at =
    let there : HasRow d.table.rows told.sending.row made.emission.sending.row = sent_row d.table.rows refl h in
    same_row d.table.rows told.sending.row made.emission.sending.row row
    (record { low = there.low; high = there.high; here = there.here }) at
