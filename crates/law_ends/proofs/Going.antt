-- Two stacks and the link that mirrors them, over any calls.
use Rattle.std.proofs.Common.{◌≡◌, ℕ, Bool, true, false, List, [], ◌∷◌, if◌then◌else◌, refl, sym, subst}
use Rattle.book_base.specs.declared.address.Pair.{Pair}
use Rattle.book_base.specs.declared.end.End.{End}
use Rattle.book_base.specs.declared.end.End.TheVariants.{A, B}
use Rattle.book_keys.specs.Rows.{Row}
use Rattle.book_link.specs.Runs.{empty, run_from}
use Rattle.book_link.specs.Worlds.{Setup, pair_of, LinkSide, World, side, same_end}
use Rattle.book_cmd_node.specs.NodeRuns.{NodeState, same_pair}
use Rattle.book_stack.specs.Calls.{Call, At, Input, Output, Add, Withdraw, CallAnswer, Told, Moves, Knocks, Refuses, Hands, Rests, Adds, Withdraws, NoSuchRow, call}
use Rattle.law_link.proofs.Histories.{run_split}
use Rattle.law_link.proofs.Sessions.{both}
use Rattle.law_ends.specs.Doings.{Doing, Twins, stack_of, after_doing, twins_from, new_twins}
use Rattle.law_ends.specs.Users.{UserSession, after_act, after_call_told, after_doing_told, sessions_from, AreFresh, FreshIsns}
use Rattle.law_ends.specs.Links.{doing_events, link_events_from}
use Rattle.law_ends.specs.Ends.{IsPastOfLink}
use Rattle.law_ends.proofs.Plain.{act_fresh}
use Rattle.law_ends.proofs.Standing.{Stands}
use Rattle.law_ends.proofs.Calling.{call_goes}

-- ---- numbers that are fresh were so before

told_fresh : (b : Bool) (us vs : List UserSession) → (AreFresh us → AreFresh vs) → AreFresh (if b then us else vs) → AreFresh vs
told_fresh true us vs back h = back h
told_fresh false us vs back h = h

call_fresh : (pair : Pair) (c : Call) (answer : CallAnswer) (us : List UserSession) → AreFresh (after_call_told pair c answer us) → AreFresh us
call_fresh pair (At q a) (Told o) us h = told_fresh (same_pair q pair) (after_act a o us) us (act_fresh a o us) h
call_fresh pair (At q a) (Moves o) us h = h
call_fresh pair (At q a) (Knocks p) us h = h
call_fresh pair (At q a) (Refuses why) us h = h
call_fresh pair (At q a) (Hands x) us h = h
call_fresh pair (At q a) Rests us h = h
call_fresh pair (At q a) (Adds x) us h = h
call_fresh pair (At q a) Withdraws us h = h
call_fresh pair (At q a) NoSuchRow us h = h
call_fresh pair (Input coming) answer us h = h
call_fresh pair (Output now) answer us h = h
call_fresh pair (Add row) answer us h = h
call_fresh pair (Withdraw n) answer us h = h

doing_fresh : (setup : Setup) (t : Twins) (e : End) (d : Doing) (us : List UserSession) → AreFresh (after_doing_told setup t e d us) → AreFresh us
doing_fresh setup t e d us h =
    let answer = (call d.what (stack_of t d.end)).answer in
    told_fresh (same_end e d.end) (after_call_told (pair_of setup e) d.what answer us) us (call_fresh (pair_of setup e) d.what answer us) h

sessions_fresh : (setup : Setup) (t : Twins) (e : End) (doings : List Doing) (us : List UserSession) → AreFresh (sessions_from setup t e doings us) → AreFresh us
sessions_fresh setup t e [] us h = h
sessions_fresh setup t e (d ∷ doings) us h = doing_fresh setup t e d us (sessions_fresh setup (after_doing t d) e doings (after_doing_told setup t e d us) h)

-- ---- both ends

-- each end of the link stands beside its stack
pub record BothStand (setup : Setup) (w : World) (t : Twins) (us : End → List UserSession) : Type 0 where
  pub at : (e : End) → Stands (pair_of setup e) (side w e) (stack_of t e).rows (stack_of t e).node (us e)

moved : (pair : Pair) (l m : LinkSide) (rows : List Row) (n : NodeState) (us : List UserSession) → m ≡ l → Stands pair l rows n us → Stands pair m rows n us
moved pair l m rows n us same h = subst (λ (x : LinkSide). Stands pair x rows n us) (sym same) h

doing_goes : (setup : Setup) (w : World) (t : Twins) (us : End → List UserSession) (x : End) (c : Call) → BothStand setup w t us
    → (let d : Doing = record { end = x; what = c } in AreFresh (after_doing_told setup t x d (us x)))
    → (let d : Doing = record { end = x; what = c } in BothStand setup (run_from setup w (doing_events setup t d)) (after_doing t d) (λ e. after_doing_told setup t e d (us e)))
doing_goes setup w t us A c h fresh =
    let d : Doing = record { end = A; what = c } in
    let v = run_from setup w (doing_events setup t d) in
    let g = call_goes setup w A t.a (us A) (h.at A) c fresh in
    record {
      at = both (λ e. Stands (pair_of setup e) (side v e) (stack_of (after_doing t d) e).rows (stack_of (after_doing t d) e).node (after_doing_told setup t e d (us e)))
          g.here (moved (pair_of setup B) (side w B) (side v B) t.b.rows t.b.node (us B) g.there (h.at B));
    }
doing_goes setup w t us B c h fresh =
    let d : Doing = record { end = B; what = c } in
    let v = run_from setup w (doing_events setup t d) in
    let g = call_goes setup w B t.b (us B) (h.at B) c fresh in
    record {
      at = both (λ e. Stands (pair_of setup e) (side v e) (stack_of (after_doing t d) e).rows (stack_of (after_doing t d) e).node (after_doing_told setup t e d (us e)))
          (moved (pair_of setup A) (side w A) (side v A) t.a.rows t.a.node (us A) g.there (h.at A)) g.here;
    }

pub doings_go : (setup : Setup) (w : World) (t : Twins) (us : End → List UserSession) (doings : List Doing) → BothStand setup w t us → ((e : End) → AreFresh (sessions_from setup t e doings (us e)))
    → BothStand setup (run_from setup w (link_events_from setup t doings)) (twins_from t doings) (λ e. sessions_from setup t e doings (us e))
doings_go setup w t us [] h fresh = h
doings_go setup w t us (d ∷ doings) h fresh =
    let told : End → List UserSession = λ e. after_doing_told setup t e d (us e) in
    let next = after_doing t d in
    let events = doing_events setup t d in
    let one = doing_goes setup w t us d.end d.what h (sessions_fresh setup next d.end doings (told d.end) (fresh d.end)) in
    let all = doings_go setup (run_from setup w events) next told doings one fresh in
    subst (λ (v : World). BothStand setup v (twins_from next doings) (λ e. sessions_from setup next e doings (told e))) (sym (run_split setup w events (link_events_from setup next doings))) all

pub begins_stand : (setup : Setup) (most : End → ℕ) → BothStand setup (empty setup) (new_twins setup most) (λ e. [])
begins_stand setup most = record {
  at = both (λ e. Stands (pair_of setup e) (side (empty setup) e) (stack_of (new_twins setup most) e).rows (stack_of (new_twins setup most) e).node [])
      (record { rows_are = refl; clock_is = refl; live_is = tt; once = refl; told = tt })
      (record { rows_are = refl; clock_is = refl; live_is = tt; once = refl; told = tt });
}

-- the past of two stacks is the past of a link
pub is_past : (setup : Setup) (most : End → ℕ) (doings : List Doing) → FreshIsns setup most doings → IsPastOfLink setup most doings
is_past setup most doings fresh e =
    let h = (doings_go setup (empty setup) (new_twins setup most) (λ e. []) doings (begins_stand setup most) fresh).at e in
    record { rows = h.rows_are; clock = h.clock_is; held = h.live_is; told = h.told }
