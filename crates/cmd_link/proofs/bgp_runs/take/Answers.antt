use Rattle.std.proofs.Common.{refl, ◌++◌, ◌∷◌, []}
use Rattle.std.proofs.lemmas.Result.{on_ok_weaker}
use Rattle.cmd_link.proofs.FollowLaws.{follows_taken}
use Rattle.cmd_link.proofs.bgp_runs.take.Goals as goal

pub returns-clause-follows : goal.returns-clause-follows
returns-clause-follows c =
    on_ok_weaker c.hear.result (λ heard. λ setup events event stands is number f.
    follows_taken setup events event c.args.end c.outcome.result.now (record { number = c.args.number; end = c.args.end; session = c.sessions.result }) c.taken_in-piece.result.now
    c.delivered-delivered.result c.args.readers.now c.hear.new.reader c.args.said.now.text.items c.hear.new.said.text.items c.args.said.now.faults c.hear.new.said.faults
    (record {
      is = is;
      shows = c.outcome.ensures setup events event stands;
      piece_is = c.taken_in-piece.ensures;
      number = number;
      end = refl;
      session = c.sessions.ensures setup (events ++ event ∷ []) stands;
      delivered_is = c.delivered-delivered.ensures setup (events ++ event ∷ []) stands;
      small = c.delivered-delivered.type_inv;
    })
    f heard) (rw c.at_mut.ensures.value at c.hear.ensures.heard)
