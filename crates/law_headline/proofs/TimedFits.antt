-- What a link file with waits and a key file say fits a link.
use Rattle.std.proofs.Common.{◌≡◌, ◌≤◌, ◌==◌, ◌+◌, ℕ, zero, suc, min, cond, nat_lt, Bool, true, false, List, [], ◌∷◌, ◌++◌, Option, Some, None, Ok, refl, arith}
use Rattle.std.specs.List.{All, AllByRecursion}
use Rattle.std.proofs.lemmas.Bool.{ltb-false}
use Rattle.book_base.specs.declared.end.End.{End}
use Rattle.book_keys.specs.Lifetimes.{greatest_time}
use Rattle.book_keys.specs.Nodes.{tables_of}
use Rattle.book_keys.specs.Rows.{Table}
use Rattle.book_link.specs.declared.event.Event.{Event}
use Rattle.book_link.specs.declared.event.Event.TheVariants.{At}
use Rattle.book_link.specs.declared.event.Action.TheVariants.{Clock, Resend}
use Rattle.law_link.specs.Laws.{EventFits, SetupFits}
use Rattle.book_link.specs.Worlds.{Setup, setup_of}
use Rattle.book_cmd_link.specs.declared.timed.TimedEvent.{TimedEvent}
use Rattle.book_cmd_link.specs.declared.timed.TimedEvent.TheVariants.{Plain, Wait}
use Rattle.book_cmd_link.specs.declared.timed.TimedScript.{TimedScript}
use Rattle.book_cmd_link.specs.TimedRuns.{Expanded, Progress, after_expiry, before, begins_timed, by_expiry, due_at, expand, expand_from, expired_then, expiry, plain, reading_at, timed_event, timed_script_of, until, waited}
use Rattle.law_scripts.specs.Timed.{IsTimedEvent, IsTimedScript}
use Rattle.law_scripts.proofs.TimedRanges.{timed_script_ok}
use Rattle.law_headline.proofs.InputLaws.{event_fits, fits}
use Rattle.law_headline.proofs.TableFits.{tables_fit}

-- each plain event of what is expanded fits
abbrev Fitting : Expanded → Type 0
Fitting x = AllByRecursion EventFits x.events

both : (xs ys : List Event) → AllByRecursion EventFits xs → AllByRecursion EventFits ys → AllByRecursion EventFits (xs ++ ys)
both [] ys one two = two
both (x ∷ xs) ys one two = (one.0, both xs ys one.1 two)

either : (b : Bool) (x y : Expanded) → (b ≡ true → Fitting x) → (b ≡ false → Fitting y) → Fitting (cond b x y)
either true x y one other = one refl
either false x y one other = other refl

until_fits : (setup : Setup) (e : End) (to : ℕ) (p : Progress) → to ≤ greatest_time → Fitting (until setup e to p)
until_fits setup e to p low =
    either (reading_at p e == to) (record { events = []; progress = p }) (record { events = At e (Clock to) ∷ []; progress = plain setup p (At e (Clock to)) })
    (λ is. tt) (λ is. (low, tt))

-- an expiry that comes in time fits, with what follows it
expiry_fits : (setup : Setup) (e : End) (to : ℕ) (p : Progress) (others : Progress → Expanded) (next : Option ℕ) → to ≤ greatest_time → ((q : Progress) → Fitting (others q))
    → Fitting (by_expiry next to (expired_then setup e p others) (until setup e to p))
expiry_fits setup e to p others None low rest = until_fits setup e to p low
expiry_fits setup e to p others (Some d) low rest =
    let q = after_expiry e (plain setup (plain setup p (At e (Clock d))) (At e Resend)) in
    either (nat_lt to d) (until setup e to p) (before (expiry e d) (others q)) (λ is. until_fits setup e to p low)
    (λ is. let early : d ≤ to = ltb-false to d is in (omega (arith, early, low), (tt, rest q)))

-- a wait's clocks go no further than its end
waited_fits : (n : ℕ) (setup : Setup) (e : End) (to : ℕ) (p : Progress) → to ≤ greatest_time → Fitting (waited n setup e to p)
waited_fits zero setup e to p low = until_fits setup e to p low
waited_fits (suc n) setup e to p low = expiry_fits setup e to p (waited n setup e to) (due_at p e) low (λ q. waited_fits n setup e to q low)

event_fits_timed : (setup : Setup) (p : Progress) (x : TimedEvent) → IsTimedEvent x → Fitting (timed_event setup p x)
event_fits_timed setup p (Plain event) is = (event_fits event is, tt)
event_fits_timed setup p (Wait e count) is =
    let to = min (reading_at p e + count) greatest_time in
    waited_fits (count + 1) setup e to p (omega arith)

all_fit : (setup : Setup) (p : Progress) (xs : List TimedEvent) → All IsTimedEvent xs → Fitting (expand_from setup p xs)
all_fit setup p [] all = tt
all_fit setup p (x ∷ xs) all =
    let y = timed_event setup p x in
    both y.events (expand_from setup y.progress xs).events (event_fits_timed setup p x (all 0 x (omega arith)))
    (all_fit setup y.progress xs (λ k d h. all (suc k) d (omega arith)))

pub expanded_fit : (setup : Setup) (text : List ℕ) (script : TimedScript) → timed_script_of text ≡ Ok script → AllByRecursion EventFits (expand setup script.events).events
unfolding expand
expanded_fit setup text script is = all_fit setup (begins_timed setup) script.events (timed_script_ok text script is).events

pub timed_fits : (keys text : List ℕ) (tables : List Table) (script : TimedScript) → tables_of keys ≡ Ok tables → timed_script_of text ≡ Ok script
    → SetupFits (setup_of tables script.a script.b)
timed_fits keys text tables script read is =
    let s : IsTimedScript script = timed_script_ok text script is in
    fits tables script.a script.b s.a s.b s.two (tables_fit keys tables read)
