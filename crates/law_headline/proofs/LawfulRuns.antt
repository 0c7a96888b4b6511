-- Each run of events that fit is lawful: the laws at each of its front parts.
use Rattle.std.proofs.Common.{◌≡◌, List, [], ◌∷◌, ◌++◌, subst, sym}
use Rattle.std.specs.List.{AllByRecursion}
use Rattle.book_link.specs.declared.event.Event.{Event}
use Rattle.book_link.specs.declared.event.Event.TheVariants.{At, Dump}
use Rattle.book_link.specs.declared.event.Action.TheVariants.{Clock, Connect, Listen, Start, Give, Fill, Send, Resend, Deliver, Inject, Alter, Take, Close, Abort, AddRow, Withdraw}
use Rattle.law_link.specs.Laws.{SetupFits, TablesFit, EventFits}
use Rattle.book_link.specs.Runs.{run}
use Rattle.book_link.specs.Worlds.{Setup, World}
use Rattle.law_link.proofs.Entries.{as_made, carries_given}
use Rattle.law_link.proofs.Gaps.{never_keyless}
use Rattle.law_link.proofs.Onward.{steps_only_grow}
use Rattle.law_link.proofs.Origin.{has_origin, resets_by_abort}
use Rattle.law_link.proofs.Partners.{partner_is_one, one_partner}
use Rattle.law_link.proofs.Prefix.{delivers_in_order, ends_whole, shows_ends}
use Rattle.law_link.proofs.Receiving.{receives_given}
use Rattle.law_link.proofs.Rollover.{rolls_over}
use Rattle.law_link.proofs.Running.{run_inv}
use Rattle.law_link.proofs.Took.{took_from}
use Rattle.law_headline.specs.Lawful.{Lawful, TakesAsTold, AdmitsInTime, HasKey}

abbrev pub Fit : List Event → Type 0
Fit events = AllByRecursion EventFits events

pub front_fits : (front rest : List Event) → Fit (front ++ rest) → Fit front
front_fits [] rest all = tt
front_fits (e ∷ front) rest all = (all.0, front_fits front rest all.1)

event_fits : (front : List Event) (event : Event) (rest : List Event) → Fit (front ++ event ∷ rest) → EventFits event
event_fits [] event rest all = all.0
event_fits (e ∷ front) event rest all = event_fits front event rest all.1

takes : (setup : Setup) (w : World) (event : Event) → TakesAsTold setup w event
takes setup w (At e (Take count)) = λ bytes shown is. took_from setup w e count bytes shown is
takes setup w (At e (Clock seconds)) = tt
takes setup w (At e (Connect isn)) = tt
takes setup w (At e (Listen isn)) = tt
takes setup w (At e (Start isn peer)) = tt
takes setup w (At e (Give piece)) = tt
takes setup w (At e (Fill count byte)) = tt
takes setup w (At e Send) = tt
takes setup w (At e Resend) = tt
takes setup w (At e (Deliver name)) = tt
takes setup w (At e (Inject bytes)) = tt
takes setup w (At e (Alter name place mask fixing)) = tt
takes setup w (At e Close) = tt
takes setup w (At e Abort) = tt
takes setup w (At e (AddRow row)) = tt
takes setup w (At e (Withdraw number)) = tt
takes setup w (Dump name) = tt

has_key : (setup : Setup) (w : World) (event : Event) → HasKey setup w event
has_key setup w (At e Send) = λ covered. (never_keyless setup w e covered).0
has_key setup w (At e Resend) = λ covered. (never_keyless setup w e covered).1
has_key setup w (At e (Take count)) = tt
has_key setup w (At e (Clock seconds)) = tt
has_key setup w (At e (Connect isn)) = tt
has_key setup w (At e (Listen isn)) = tt
has_key setup w (At e (Start isn peer)) = tt
has_key setup w (At e (Give piece)) = tt
has_key setup w (At e (Fill count byte)) = tt
has_key setup w (At e (Deliver name)) = tt
has_key setup w (At e (Inject bytes)) = tt
has_key setup w (At e (Alter name place mask fixing)) = tt
has_key setup w (At e Close) = tt
has_key setup w (At e Abort) = tt
has_key setup w (At e (AddRow row)) = tt
has_key setup w (At e (Withdraw number)) = tt
has_key setup w (Dump name) = tt

module _ (setup : Setup) (fits : SetupFits setup) where
  admits : TablesFit setup → (front : List Event) (event : Event) → Fit front → AdmitsInTime setup (run setup front) event
  admits tables front (At e (Deliver name)) all = λ m rolling. rolls_over setup fits tables (run setup front) e name m (run_inv setup fits front all) rolling
  admits tables front (At e Send) all = tt
  admits tables front (At e Resend) all = tt
  admits tables front (At e (Take count)) all = tt
  admits tables front (At e (Clock seconds)) all = tt
  admits tables front (At e (Connect isn)) all = tt
  admits tables front (At e (Listen isn)) all = tt
  admits tables front (At e (Start isn peer)) all = tt
  admits tables front (At e (Give piece)) all = tt
  admits tables front (At e (Fill count byte)) all = tt
  admits tables front (At e (Inject bytes)) all = tt
  admits tables front (At e (Alter name place mask fixing)) all = tt
  admits tables front (At e Close) all = tt
  admits tables front (At e Abort) all = tt
  admits tables front (At e (AddRow row)) all = tt
  admits tables front (At e (Withdraw number)) all = tt
  admits tables front (Dump name) all = tt

  pub lawful : (events : List Event) → Fit events → Lawful setup events
  lawful events all =
      let moment = λ (front rest : List Event) (is : front ++ rest ≡ events). front_fits front rest (subst Fit (sym is) all) in
      let coming = λ (front : List Event) (event : Event) (rest : List Event) (is : front ++ event ∷ rest ≡ events). event_fits front event rest (subst Fit (sym is) all) in
      record {
        in_order = λ front rest is. delivers_in_order setup fits front (moment front rest is);
        received = λ front rest is. receives_given setup fits front (moment front rest is);
        only_grow = λ front event rest is. steps_only_grow setup fits front event (moment front (event ∷ rest) is) (coming front event rest is);
        as_made = λ front rest is. as_made setup fits front (moment front rest is);
        carries = λ front rest is. carries_given setup fits front (moment front rest is);
        one_partner = λ front rest is. (one_partner setup fits front (moment front rest is), partner_is_one (run setup front));
        ends_whole = λ front rest is. ends_whole setup fits front (moment front rest is);
        shows_ends = λ front rest is. shows_ends setup fits front (moment front rest is);
        takes = λ front event rest is. takes setup (run setup front) event;
        rolls_over = λ tables front event rest is. admits tables front event (moment front (event ∷ rest) is);
        never_keyless = λ front event rest is. has_key setup (run setup front) event;
        has_origin = λ front event rest is. has_origin setup fits (run setup front) event (coming front event rest is) (run_inv setup fits front (moment front (event ∷ rest) is));
        reset_by_abort = λ front event rest is. resets_by_abort setup fits (run setup front) event (coming front event rest is) (run_inv setup fits front (moment front (event ∷ rest) is));
      }
