use Rattle.std.proofs.Common.{Bor, ℕ, List, Option}
use Rattle.std.specs.Prelude.{option_map}
use Rattle.scope_run.specs.Acts.{SessionsBy}
use Rattle.scope_run.specs.Sides.{Given}
use Rattle.scope_run.proofs.Given.{of_some}
use Rattle.scope_run.proofs.sessions.act.Goals as goal

pub returns-in-Some : goal.returns-in-Some
returns-in-Some g c =
    of_some (λ (word : Option (List ℕ)). (x : Given) × SessionsBy word (option_map (λ w. w.now) c.args.asked.now.draw) c.args.asked.now x
    (record { keys = g.K.Source.side c.args.keys.now; isns = g.J.Source.side c.args.isns.now; input = g.I.Source.side c.args.input.now; out = g.O.Sink.side c.args.out.now })
    (record { keys = g.K.Source.side c.act.new.keys; isns = g.J.Source.side c.act.new.isns; input = g.I.Source.side c.act.new.input; out = g.O.Sink.side c.act.new.out }) c.act.result)
    (λ w. w.now) c.args.asked.now.retire c.in-Some.word c.in-Some.is (c.act.ensures (option_map (λ w. w.now) c.args.asked.now.draw))
