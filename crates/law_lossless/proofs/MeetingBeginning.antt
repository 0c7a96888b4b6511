-- Two stacks that hold the ends of a link in step, with a byte that waits.
use Rattle.std.proofs.Common.{List, [], ◌∷◌, inr, refl, arith}
use Rattle.book_base.specs.declared.end.End.{End}
use Rattle.book_base.specs.declared.end.End.TheVariants.{A, B}
use Rattle.book_cmd_node.specs.declared.node.Act.TheVariants as act
use Rattle.book_link.specs.Storm.{storm_setup}
use Rattle.book_link.specs.Worlds.{first_rows, pair_of}
use Rattle.book_stack.specs.Calls.{Call, At, call}
use Rattle.book_stack.specs.Runs.{stack_after}
use Rattle.book_stack.specs.Stacks.{StackState, empty_stack}
use Rattle.law_link.proofs.Sessions.{both}
use Rattle.law_progress.specs.Progress.{IsUp, IsWaiting}
use Rattle.law_lossless.specs.Lossless.{AreInStep}
use Rattle.law_lossless.proofs.Beginning.{begun, begun_steps, begun_up, sessions}
use Rattle.law_lossless.specs.Meeting.{Stacks, stack_at, Holds}

-- the calls by which each stack came to its end
abbrev calls_at : End → List Call
calls_at A = At (pair_of storm_setup A) (act.Start 4294960000 4000000000) ∷ At (pair_of storm_setup A) (act.Give (1 ∷ [])) ∷ []
calls_at B = At (pair_of storm_setup B) (act.Start 4000000000 4294960000) ∷ []

abbrev begun_at : End → StackState
begun_at e = stack_after (empty_stack (first_rows storm_setup e) 1) (calls_at e)

abbrev stacks : Stacks
stacks = record { a = begun_at A; b = begun_at B }

holds_a : Holds storm_setup begun 0 A (begun_at A) (sessions A).state
unfolding call
holds_a = record {
  run = record { rows = first_rows storm_setup A; most = 1; calls = calls_at A; is = refl; some = omega arith; few = omega arith };
  rows = refl;
  clock = refl;
  time = refl;
  held = refl;
  line = inr refl;
  none = record { later = λ p d e. absurd (cc) };
}

holds_b : Holds storm_setup begun 0 B (begun_at B) (sessions B).state
unfolding call
holds_b = record {
  run = record { rows = first_rows storm_setup B; most = 1; calls = calls_at B; is = refl; some = omega arith; few = omega arith };
  rows = refl;
  clock = refl;
  time = refl;
  held = refl;
  line = inr refl;
  none = record { later = λ p d e. absurd (cc) };
}

pub begins_held : (s : Stacks) × (up : IsUp storm_setup begun 0 0) × AreInStep storm_setup begun 0 0 up × ((e : End) → Holds storm_setup begun 0 e (stack_at s e) (up.session e).state) × IsWaiting (up.session A).state
unfolding begun_up
begins_held = (stacks, begun_up, begun_steps, both (λ e. Holds storm_setup begun 0 e (stack_at stacks e) (sessions e).state) holds_a holds_b, waits)
  where
    waits : IsWaiting (sessions A).state
    waits = omega arith
