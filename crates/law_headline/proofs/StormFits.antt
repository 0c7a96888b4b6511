-- The link of a storm and each of its events fit.
use Rattle.std.proofs.Common.{◌≡◌, ◌<◌, ◌+◌, ◌/◌, ◌%◌, ◌==◌, ℕ, zero, suc, Bool, true, false, cond, [], ◌∷◌, replicate, Option, Some, None, length, refl, ap, arith, lit<}
use Rattle.std.specs.List.{AllByRecursion}
use Rattle.book_base.specs.declared.algorithm.Algorithm.TheVariants.{HmacSha1}
use Rattle.book_base.specs.declared.end.End.{End}
use Rattle.book_base.specs.declared.end.End.TheVariants.{A, B}
use Rattle.book_segments.specs.Spelling.{AreBytes}
use Rattle.book_keys.specs.Overlaps.{IsValid}
use Rattle.book_keys.specs.Shared.{shared_row}
use Rattle.book_link.specs.declared.event.Event.{Event}
use Rattle.law_link.specs.Laws.{EventFits, RowFits, SetupFits, TablesFit}
use Rattle.book_link.specs.Runs.{empty, run_from}
use Rattle.book_link.specs.Steps.{step}
use Rattle.book_link.specs.Storm.{draw, drawn, drawn_end, event_by, event_of, events_drawn, last_delivered, one_delivered, storm_events, storm_setup, storm_starts}
use Rattle.book_link.specs.Worlds.{Made, Setup, World, first_rows, segment_named, segments}

-- four bytes of an address
are_four : (last : ℕ) → last < 256 → AreBytes (10 ∷ 0 ∷ 0 ∷ last ∷ [])
are_four last low zero = lit< tt
are_four last low (suc zero) = lit< tt
are_four last low (suc (suc zero)) = lit< tt
are_four last low (suc (suc (suc zero))) = low
are_four last low (suc (suc (suc (suc i)))) = lit< tt

elevens : (n : ℕ) → AreBytes (replicate n 11)
elevens zero i = lit< tt
elevens (suc n) zero = lit< tt
elevens (suc n) (suc i) = elevens n i

row_fits : RowFits (shared_row HmacSha1 (replicate 20 11))
row_fits = record { recv_id = lit< tt; send_id = lit< tt; master = elevens 20 }

one_fits : (e : End) → AllByRecursion RowFits (first_rows storm_setup e)
one_fits A = (row_fits, tt)
one_fits B = (row_fits, tt)

one_valid : (e : End) → IsValid (first_rows storm_setup e)
one_valid A = record { apart = λ i j d less within. absurd (omega arith); limit = omega arith }
one_valid B = record { apart = λ i j d less within. absurd (omega arith); limit = omega arith }

pub storm_fits : SetupFits storm_setup
storm_fits = record {
  family = ((refl, are_four 1 (lit< tt)), (refl, are_four 2 (lit< tt)));
  a_port = lit< tt;
  b_port = lit< tt;
  rows = one_fits;
}

pub storm_tables : TablesFit storm_setup
storm_tables = record { valid = one_valid }

delivered : (e : End) (o : Option Made) → EventFits (last_delivered e o)
delivered e None = tt
delivered e (Some m) = tt

one : (e : End) (n v : ℕ) → EventFits (one_delivered e n v)
one e zero v = tt
one e (suc n) v = tt

either : (b : Bool) (x y : Event) → EventFits x → EventFits y → EventFits (cond b x y)
either true x y p q = p
either false x y p q = q

by_kind : (w : World) (e : End) (kind v : ℕ) → EventFits (event_by w e kind v)
by_kind w e kind v =
    let last = delivered e (segment_named (segments w.history) w.history) in
    either (kind == 0) _ _ (omega arith)
    (either (kind == 1) _ _ tt
    (either (kind == 2) _ _ tt
    (either (kind == 3) _ _ last
    (either (kind == 4) _ _ last
    (either (kind == 5) _ _ (one e (segments w.history) v)
    (either (kind == 6) _ _ tt tt))))))

drawn_fit : (setup : Setup) (w : World) (state n : ℕ) → AllByRecursion EventFits (events_drawn setup w state n)
drawn_fit setup w state zero = tt
drawn_fit setup w state (suc n) =
    let event = event_of w (draw (drawn state)) in
    (by_kind w (drawn_end (draw (drawn state))) (draw (drawn state) / 2 % 8) (draw (drawn state) / 256), drawn_fit setup (step setup w event).world (drawn state) n)

pub events_fit : (seed count : ℕ) → AllByRecursion EventFits (storm_events seed count)
unfolding storm_events
events_fit seed count =
    ((lit< tt, lit< tt), ((lit< tt, lit< tt), drawn_fit storm_setup (run_from storm_setup (empty storm_setup) storm_starts) seed count))

drawn_long : (setup : Setup) (w : World) (state n : ℕ) → length (events_drawn setup w state n) ≡ n
drawn_long setup w state zero = refl
drawn_long setup w state (suc n) =
    let event = event_of w (draw (drawn state)) in ap suc (drawn_long setup (step setup w event).world (drawn state) n)

pub storm_long : (seed count : ℕ) → length (storm_events seed count) ≡ count + 2
unfolding storm_events
storm_long seed count =
    let long = drawn_long storm_setup (run_from storm_setup (empty storm_setup) storm_starts) seed count in omega arith
