-- What a take gives is taken, and it shows the end where it tells it.
use Rattle.std.proofs.Common.{◌≡◌, ℕ, Bool, true, false, ◌||◌, List, [], ◌∷◌, ◌++◌, Option, refl, ap, ◌∙◌}
use Rattle.book_base.specs.declared.end.End.{End}
use Rattle.book_base.specs.declared.end.End.TheVariants.{A, B}
use Rattle.book_endpoint.specs.States.{taking, take_out, at_end}
use Rattle.law_link.specs.Headline.{TookFrom}
use Rattle.book_link.specs.declared.event.Event.TheVariants.{At}
use Rattle.book_link.specs.declared.event.Action.TheVariants.{Take}
use Rattle.book_link.specs.Outcomes.{Took}
use Rattle.book_link.specs.Worlds.{Setup, Session, LinkSide, Happening, World, side, live}
use Rattle.book_link.specs.Steps.{put, with_sessions, acted, act_on, took, step}

put_side : (w : World) (e : End) (now : LinkSide) (happened : Option Happening) → side (put w e now happened) e ≡ now
put_side w A now happened = refl
put_side w B now happened = refl

bytes_are : (a b : List ℕ) (t u : Bool) → Took a t ≡ Took b u → a ≡ b
bytes_are a b t u e = cc

mark_is : (a b : List ℕ) (t u : Bool) → Took a t ≡ Took b u → t ≡ u
mark_is a b t u e = cc

or_right : (a b : Bool) → b ≡ true → (a || b) ≡ true
or_right true b e = refl
or_right false b e = e

took_by : (w : World) (e : End) (sessions : List Session) (count : ℕ) (bytes : List ℕ) (shown : Bool) → (act_on w e sessions (took count)).outcome ≡ Took bytes shown
    → TookFrom (live sessions) (live (side (act_on w e sessions (took count)).world e).sessions) bytes shown
took_by w e [] count bytes shown is = absurd (cc)
took_by w e (s ∷ rest) count bytes shown is =
    let act = took count s.state in
    let u = acted s act in
    let t = take_out count s.state in
    record {
      old = s;
      new = u;
      lived = refl;
      lives = ap (λ (x : LinkSide). live x.sessions) (put_side w e (with_sessions (side w e) (u ∷ rest)) act.happened);
      appended = ap (λ (l : List ℕ). s.state.taken ++ l) (bytes_are (taking count s.state) bytes (at_end t) shown is);
      marked = λ told. or_right s.end_shown (at_end t) (mark_is (taking count s.state) bytes (at_end t) shown is ∙ told);
    }

pub took_from : (setup : Setup) (w : World) (e : End) (count : ℕ) (bytes : List ℕ) (shown : Bool) → (step setup w (At e (Take count))).outcome ≡ Took bytes shown
    → TookFrom (live (side w e).sessions) (live (side (step setup w (At e (Take count))).world e).sessions) bytes shown
took_from setup w e count bytes shown is = took_by w e (side w e).sessions count bytes shown is
