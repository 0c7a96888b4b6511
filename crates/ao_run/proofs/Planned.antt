-- What holds of a run session by session, and what tables that `lint` calls aligned carry.
use Rattle.std.proofs.Common.{◌≡◌, ℕ, Bool, true, false, not, ◌||◌, if◌then◌else◌, List, [], ◌∷◌, ◌++◌, length, Ok, refl, sym, ap, subst, arith, length-append}
use Rattle.std.specs.List.{AllByRecursion, list_any}
use Rattle.book_base.specs.declared.address.Pair.{Pair}
use Rattle.book_base.specs.declared.address.Socket.{Socket}
use Rattle.book_cmd_link.specs.LintTexts.{is_aligned, lint_said}
use Rattle.book_cmd_link.specs.declared.script.KeysFrom.TheVariants as keys_from
use Rattle.book_keys.specs.declared.lint.LintAnswer.{LintAnswer}
use Rattle.book_keys.specs.declared.lint.LintAnswer.TheVariants as answer
use Rattle.book_keys.specs.declared.plan.Plan.{Plan}
use Rattle.book_keys.specs.Nodes.{tables_of}
use Rattle.book_keys.specs.Plans.{lint_of}
use Rattle.book_keys.specs.Rows.{Table}
use Rattle.book_lines.specs.Said.{Said}
use Rattle.book_link.specs.declared.event.Event.{Event}
use Rattle.book_link.specs.Worlds.{Setup, setup_of}
use Rattle.law_seen.proofs.Carrying.{aligned_carries}
use Rattle.law_seen.specs.Carried.{IsAligned, KeepsTables}
use Rattle.law_seen.proofs.Streams.{session_by_session}
use Rattle.law_headline.proofs.InputLaws.{events_fit, keyed_fits, keyed_tables}
use Rattle.law_headline.proofs.LawfulRuns.{front_fits}
use Rattle.law_link.proofs.Origin.{origin_if, reset_if}
use Rattle.law_link.proofs.Running.{run_inv}
use Rattle.law_link.specs.Laws.{EventFits, SetupFits, TablesFit}
use Rattle.ao_run.specs.Delivers.{CarriedWhereAligned, CarriesAll, CarriesLinkFiles, HoldsApart}

event_fits : (front : List Event) (event : Event) (rest : List Event) → AllByRecursion EventFits (front ++ event ∷ rest) → EventFits event
event_fits [] event rest all = all.0
event_fits (e ∷ front) event rest all = event_fits front event rest all.1

front_keeps : (front rest : List Event) → AllByRecursion KeepsTables (front ++ rest) → AllByRecursion KeepsTables front
front_keeps [] rest all = tt
front_keeps (e ∷ front) rest all = (all.0, front_keeps front rest all.1)

-- what holds of a run of events that fit
pub record ApartAndCarried (setup : Setup) (events : List Event) : Type 0 where
  pub apart : HoldsApart setup events
  pub carried : CarriedWhereAligned setup events

carried_of : (setup : Setup) → SetupFits setup → TablesFit setup → (events : List Event) → AllByRecursion EventFits events → CarriedWhereAligned setup events
carried_of setup fits tables events all plan aligned keeps few front rest is e =
    let long = length-append front rest in
    let same : length (front ++ rest) ≡ length events = ap length is in
    aligned_carries plan setup fits tables aligned front (front_fits front rest (rw (sym is) at all)) (front_keeps front rest (rw (sym is) at keeps)) (omega arith) e

pub apart_of : (setup : Setup) → SetupFits setup → TablesFit setup → (events : List Event) → AllByRecursion EventFits events → ApartAndCarried setup events
apart_of setup fits tables events all = record {
  apart = record {
    session_by_session = λ front rest is. session_by_session setup fits front (front_fits front rest (rw (sym is) at all));
    has_origin = λ front event rest is.
        let fit = rw (sym is) at all in
        let before = front_fits front (event ∷ rest) fit in
        λ r a none. origin_if setup fits _ event (event_fits front event rest fit) (run_inv setup fits front before) r a none;
    reset_by_abort = λ front event rest is.
        let fit = rw (sym is) at all in
        let before = front_fits front (event ∷ rest) fit in
        λ r a none. reset_if setup fits _ event (event_fits front event rest fit) (run_inv setup fits front before) r a none;
  };
  carried = carried_of setup fits tables events all;
}

-- ---- what `lint` says

-- each connection is aligned
abbrev AllAligned : List Table → Plan → List (Said Pair) → Type 0
AllAligned tables plan said = AllByRecursion (λ (s : Said Pair). lint_of tables s.value plan ≡ answer.Aligned) said

aligned_is : (a : LintAnswer) → is_aligned a ≡ true → a ≡ answer.Aligned
aligned_is answer.Aligned e = refl
aligned_is (answer.NoPeerRow end n) e = absurd (cc)
aligned_is (answer.ShortAccept end n) e = absurd (cc)
aligned_is (answer.Gap end time) e = absurd (cc)

none_misfits : (a more : Bool) → (not a || more) ≡ false → (a ≡ true) × (more ≡ false)
none_misfits true more e = (refl, e)
none_misfits false more e = absurd (cc)

none_amiss : (b : Bool) → ◌≡◌ {A = ℕ} 0 (if b then 1 else 0) → b ≡ false
none_amiss true e = absurd (omega arith)
none_amiss false e = refl

aligned_each : (tables : List Table) (plan : Plan) (said : List (Said Pair)) → list_any (λ s. not (is_aligned (lint_said tables plan s))) said ≡ false → AllAligned tables plan said
aligned_each tables plan [] e = tt
aligned_each tables plan (s ∷ rest) e =
    let t = none_misfits (is_aligned (lint_said tables plan s)) (list_any (λ s. not (is_aligned (lint_said tables plan s))) rest) e in
    (aligned_is (lint_said tables plan s) t.0, aligned_each tables plan rest t.1)

pub all_aligned : (tables : List Table) (plan : Plan) (said : List (Said Pair)) → ◌≡◌ {A = ℕ} 0 (if list_any (λ s. not (is_aligned (lint_said tables plan s))) said then 1 else 0) → AllAligned tables plan said
all_aligned tables plan said zero = aligned_each tables plan said (none_amiss _ zero)

setup_aligned : (tables : List Table) (plan : Plan) (pair : Pair) (a b : Socket) → a ≡ pair.local → b ≡ pair.remote → lint_of tables pair plan ≡ answer.Aligned → IsAligned plan (setup_of tables a b)
setup_aligned tables plan pair a b one two aligned =
    subst (λ (x : Socket). IsAligned plan (setup_of tables x b)) (sym one) (subst (λ (y : Socket). IsAligned plan (setup_of tables pair.local y)) (sym two) aligned)

carries_files : (k : List ℕ) (tables : List Table) → tables_of k ≡ Ok tables → (plan : Plan) (pair : Pair) → lint_of tables pair plan ≡ answer.Aligned → CarriesLinkFiles plan tables pair
carries_files k tables key_file plan pair aligned file script read one two keeps few =
    let setup = setup_of tables script.a script.b in
    carried_of setup (keyed_fits k file tables script key_file read) (keyed_tables k tables script.a script.b key_file) script.events (events_fit keys_from.KeyFile file script read)
    plan (setup_aligned tables plan pair script.a script.b one two aligned) keeps few

pub all_carried : (k : List ℕ) (tables : List Table) → tables_of k ≡ Ok tables → (plan : Plan) (said : List (Said Pair)) → AllAligned tables plan said → CarriesAll plan tables said
all_carried k tables key_file plan [] h = tt
all_carried k tables key_file plan (s ∷ rest) h = (carries_files k tables key_file plan s.value h.0, all_carried k tables key_file plan rest h.1)
