-- What an event does to an end and to the log.
use Rattle.std.proofs.Common.{◌≡◌, ◌+◌, ◌≤◌, ℕ, List, [], ◌∷◌, Option, Some, None, Result, Ok, Err, refl, sym, ap, ◌∙◌, subst, arith}
use Rattle.book_base.specs.declared.end.End.{End}
use Rattle.book_base.specs.declared.end.End.TheVariants.{A, B}
use Rattle.book_link.specs.declared.event.Action.{Action}
use Rattle.book_link.specs.declared.event.Event.TheVariants.{At}
use Rattle.book_link.specs.Outcomes as book
use Rattle.book_link.specs.Steps.{Stepped, step}
use Rattle.book_link.specs.Worlds.{Setup, World, LinkSide as EndSide, Happening, pair_of, other, side as side_of}
use Rattle.link_report.specs.declared.log.Log.{Log}
use Rattle.link_report.specs.Logs.{StandsLog, forgery_count, made_count}
use Rattle.link_report.specs.declared.outcome.Outcome.{Outcome}
use Rattle.link_report.specs.Outcomes.{Shows}
use Rattle.link_report.specs.declared.answer.Answer.{Answer}
use Rattle.link_report.specs.declared.side.Side.{Side}
use Rattle.link_report.specs.SideOutcomes.{outcome_of}
use Rattle.link_report.specs.Sides.{StandsSide}
use Rattle.link_report.specs.Steps.{Steps}
use Rattle.link_world.specs.Changes.{Follows, HasStepped, Stays, by_event}
use Rattle.link_world.specs.Links.{StandsAt}

-- an action at an end by which nothing is made and nothing comes
pub quietly : (e : End) (before after : Side) (log : Log) (action : Action) (told : Answer) (o : Outcome) → after.pair ≡ before.pair
    → Steps before after action told → Shows o (outcome_of told) → HasStepped e before after log log (by_event (At e action)) o
quietly e before after log action told o pair steps shows =
    record {
      pair = pair;
      made = omega arith;
      forged = omega arith;
      follows = λ setup w h.
          let m = steps setup w e h.pair_is h.side_is in
          record {
            side_is = m.stands;
            others = m.others;
            log_is = subst (StandsLog log) (sym m.history) h.log_is;
            shows = subst (Shows o) (sym m.outcome) shows;
          };
    }

-- memory ran out: the side stands for what it stood for, and so does the log
pub unmoved : (before after : Side) (log : Log) → after.pair ≡ before.pair → ((m : EndSide) → StandsSide before m → StandsSide after m)
    → Stays before after log log
unmoved before after log pair same =
    record {
      pair = pair;
      made = refl;
      forged = refl;
      side_is = same;
      log_is = λ history h. h;
    }

-- memory ran out, and the side is as it was
pub untouched : (before after : Side) (log : Log) → after ≡ before → Stays before after log log
untouched before after log same =
    unmoved before after log (ap (λ (d : Side). d.pair) same) (λ m h. subst (λ (d : Side). StandsSide d m) (sym same) h)

-- a step that leaves the world as it is
pub still : (e : End) (d : Side) (log : Log) (s : Setup → World → Stepped) (o : Outcome)
    → ((setup : Setup) (w : World) → StandsAt e d log setup w → (x : book.Outcome) × (s setup w ≡ record { world = w; outcome = x }) × Shows o x)
    → HasStepped e d d log log s o
still e d log s o same =
    record {
      pair = refl;
      made = omega arith;
      forged = omega arith;
      follows = λ setup w h.
          let t = same setup w h in
          subst (λ (y : Stepped). Follows w y e d log o) (sym t.1) (record { side_is = h.side_is; others = refl; log_is = h.log_is; shows = t.2 });
    }

-- another step that comes to the same
pub restated : (e : End) (before after : Side) (old new : Log) (s t : Setup → World → Stepped) (o : Outcome)
    → ((setup : Setup) (w : World) → StandsAt e before old setup w → s setup w ≡ t setup w)
    → HasStepped e before after old new s o → HasStepped e before after old new t o
restated e before after old new s t o same h =
    record {
      pair = h.pair;
      made = h.made;
      forged = h.forged;
      follows = λ setup w at. subst (λ (y : Stepped). Follows w y e after new o) (same setup w at) (h.follows setup w at);
    }
