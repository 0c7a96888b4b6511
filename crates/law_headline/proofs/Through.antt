-- A run in which each session was given few bytes gets through, and so does each run of few events.
use Rattle.std.proofs.Common.{◌≡◌, ℕ, ◌≤◌, List, ◌++◌, length, sym, ap, subst, arith, length-append}
use Rattle.book_link.specs.declared.event.Event.{Event}
use Rattle.book_link.specs.Storm.{storm_events, storm_setup}
use Rattle.book_link.specs.Worlds.{Setup}
use Rattle.law_link.specs.Headline.{GivesFew, few_events}
use Rattle.law_link.specs.Laws.{SetupFits, TablesFit}
use Rattle.law_link.proofs.Giving.{gives_few}
use Rattle.law_link.proofs.Prefix.{acknowledged_was_received}
use Rattle.law_progress.proofs.Connecting.{connects}
use Rattle.law_progress.proofs.Progressing.{never_stuck, each_trip_gains, catches_up}
use Rattle.law_headline.specs.GetsThrough.{GetsThrough}
use Rattle.law_headline.specs.Lawful.{AtEachMoment}
use Rattle.law_headline.proofs.LawfulRuns.{Fit, front_fits}
use Rattle.law_headline.proofs.StormFits.{storm_fits, storm_tables, events_fit, storm_long}

front_short : (front rest events : List Event) (n : ℕ) → front ++ rest ≡ events → length events ≤ n → length front ≤ n
front_short front rest events n is short =
    let long = length-append front rest in
    let same : length (front ++ rest) ≡ length events = ap length is in
    omega arith

few_given : (setup : Setup) (events : List Event) → length events ≤ few_events → AtEachMoment setup events GivesFew
few_given setup events short front rest is = gives_few setup front (front_short front rest events few_events is short)

pub through : (setup : Setup) (events : List Event) → SetupFits setup → TablesFit setup → Fit events → AtEachMoment setup events GivesFew → GetsThrough setup events
through setup events fits tables all few =
    let moment = λ (front rest : List Event) (is : front ++ rest ≡ events). front_fits front rest (subst Fit (sym is) all) in
    record {
      few = few;
      acknowledged = λ front rest is none e. acknowledged_was_received setup fits front (moment front rest is) none (few front rest is) e;
      connects = λ front rest is. connects setup fits tables front (moment front rest is);
      never_stuck = λ front rest is. never_stuck setup fits tables front (moment front rest is) (few front rest is);
      each_trip_gains = λ front rest is. each_trip_gains setup fits tables front (moment front rest is) (few front rest is);
      catches_up = λ front rest is. catches_up setup fits tables front (moment front rest is) (few front rest is);
    }

pub few_through : (setup : Setup) (events : List Event) → SetupFits setup → TablesFit setup → Fit events → length events ≤ few_events → GetsThrough setup events
few_through setup events fits tables all short = through setup events fits tables all (few_given setup events short)

pub storm_through : (seed count : ℕ) → count ≤ 10000 → GetsThrough storm_setup (storm_events seed count)
storm_through seed count low =
    let long = storm_long seed count in few_through storm_setup (storm_events seed count) storm_fits storm_tables (events_fit seed count) (omega arith)
