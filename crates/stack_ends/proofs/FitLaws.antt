-- The table fits each end after an end was put, dropped or written, after an arrival and after a tick.
use Rattle.std.proofs.Common.{◌≡◌, ℕ, Bool, true, false, List, Option, Some, None, Result, Ok, Err, refl, sym, ap, ◌∙◌}
use Rattle.std.specs.Prelude.{is_some, if◌then◌else◌, OnErr, OnOk}
use Rattle.book_base.specs.declared.address.Pair.{Pair}
use Rattle.book_segments.specs.Segments.{Segment, Reading, Read, Bad as Unread}
use Rattle.book_keys.specs.Rows.{Row}
use Rattle.book_endpoint.specs.States.{EndState}
use Rattle.book_cmd_node.specs.NodeRuns.{same_pair}
use Rattle.book_segments.specs.Segments.{pair_reached}
use Rattle.tcp_endpoint.specs.declared.endpoint.Endpoint.{Endpoint}
use Rattle.tcp_endpoint.specs.Ends.{FitsEnd}
use Rattle.stack_ends.specs.declared.answer.NodeArrival.{NodeArrival}
use Rattle.stack_ends.specs.declared.answer.NodeRefusal.{NodeRefusal}
use Rattle.stack_ends.specs.EndsArrivals.{Comes, ComesTo}
use Rattle.stack_ends.specs.Held.{Holding, end_at, Adds, Begins, FitsAll, Removes, Ticks, TicksAt}
use Rattle.stack_ends.specs.Loans.{written}
use Rattle.stack_ends.proofs.MapLaws.{written_finds}

pub fits_put : (rows : List Row) (before after : Holding) (p : Pair) (f : Endpoint) → FitsAll rows before
    → ((q : Pair) → end_at after q ≡ (if same_pair p q then Some f else end_at before q)) → FitsEnd rows f → FitsAll rows after
fits_put rows before after p f fit finds one q e is = at (same_pair p q) (sym (finds q) ∙ is)
  where
    at : (v : Bool) → (if v then Some f else end_at before q) ≡ Some e → FitsEnd rows e
    at true g = let same : f ≡ e = cc in rw (← same) one
    at false g = fit q e g

pub fits_dropped : (rows : List Row) (before after : Holding) (p : Pair) → FitsAll rows before → Removes before after p → FitsAll rows after
fits_dropped rows before after p fit R q e is = at (same_pair p q) (sym (R.finds q) ∙ is)
  where
    at : (v : Bool) → (if v then None else end_at before q) ≡ Some e → FitsEnd rows e
    at true g = absurd (cc)
    at false g = fit q e g

pub fits_same : (rows : List Row) (before after : Holding) → FitsAll rows before → after ≡ before → FitsAll rows after
fits_same rows before after fit same = rw same fit

fits_heard : (rows : List Row) (now : ℕ) (d : Segment) (before after : Holding) (told : NodeArrival) (o : Option Endpoint) → FitsAll rows before
    → ComesTo rows now d before after told o → FitsAll rows after
fits_heard rows now d before after told None fit c = fits_same rows before after fit c.1
fits_heard rows now d before after told (Some e) fit c = let h = c.2 in fits_put rows before after (pair_reached d) h.next fit h.finds h.hears.fits

pub fits_come : (rows : List Row) (now : ℕ) (before after : Holding) (told : NodeArrival) (r : Reading) → FitsAll rows before
    → Comes rows now before after told r → FitsAll rows after
fits_come rows now before after told (Unread fault) fit c = fits_same rows before after fit c.1
fits_come rows now before after told (Read d) fit c = fits_heard rows now d before after told (end_at before (pair_reached d)) fit c

ticked_fits : (rows : List Row) (now : ℕ) (o after : Option Endpoint) (f : Endpoint) → ((e : Endpoint) → o ≡ Some e → FitsEnd rows e) → TicksAt now o after → after ≡ Some f → FitsEnd rows f
ticked_fits rows now None after f fit t is = absurd (cc)
ticked_fits rows now (Some e) after f fit t is = let same : t.0 ≡ f = cc in rw (← same) (t.2.fits rows (fit e refl))

pub fits_ticked : (rows : List Row) (now : ℕ) (before after : Holding) → FitsAll rows before → Ticks now before after → FitsAll rows after
fits_ticked rows now before after fit T q f is = ticked_fits rows now (end_at before q) (end_at after q) f (λ e. fit q e) (T.each q) is

pub fits_written : (rows : List Row) (before : Holding) (p : Pair) (e f : Endpoint) → FitsAll rows before → end_at before p ≡ Some e → FitsEnd rows f → FitsAll rows (written p before f)
fits_written rows before p e f fit is one = fits_put rows before (written p before f) p f fit (λ q. written_finds before p q f (ap is_some is)) one

-- an end was added, or nothing changed
pub fits_opened : {A : Type 0} (rows : List Row) (before after : Holding) (p : Pair) (s : EndState) (r : Result A NodeRefusal) → FitsAll rows before → OnErr r (after ≡ before)
    → OnOk r ((e : Endpoint) × Adds before after p e × Begins rows p s e) → FitsAll rows after
fits_opened rows before after p s (Ok x) fit same added = fits_put rows before after p added.0 fit added.1.finds added.2.fits
fits_opened rows before after p s (Err why) fit same added = fits_same rows before after fit same
