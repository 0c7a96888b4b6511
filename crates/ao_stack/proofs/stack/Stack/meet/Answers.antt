use Rattle.std.proofs.Common.{refl, sym, ◌∙◌, Ok, Err, arith}
use Rattle.book_cmd_node.specs.NodeRuns.{held_end}
use Rattle.book_segments.specs.Segments.{pair_reached}
use Rattle.book_stack.specs.Calls.{Incoming}
use Rattle.ao_stack.specs.declared.input.Heard.TheVariants as heards
use Rattle.ao_stack.proofs.ArriveLaws.{front_at, has_syn, knocked, met_asks, met_else}
use Rattle.ao_stack.proofs.stack.Stack.meet.Goals as goal

pub judge-requires-clause-syn : goal.judge-requires-clause-syn
judge-requires-clause-syn g c = has_syn c.args.datagram.now (sym c.requires.asks ∙ c.asks_anew-asks_anew.ensures.only c.if-not-asks_anew.false)

pub returns-then-not-asks_anew-clause-told : goal.returns-then-not-asks_anew-clause-told
returns-then-not-asks_anew-clause-told g c s bytes S read =
    let d = c.args.datagram.now in
    let coming : Incoming = record { now = c.args.now; bytes = bytes } in
    let front = front_at s c.args.pair.now (pair_reached d) c.requires.reached _ (c.front-front.ensures s.rows s.node S.ends) in
    met_else _ coming d s c.hear.result (sym (c.asks_anew-asks_anew.ensures.asks d (held_end (pair_reached d) s.node.ends) c.requires.asks front) ∙ c.if-not-asks_anew.true)
    (c.hear.ensures.told s bytes S read c.requires.reached)

pub returns-in-Ok-clause-told : goal.returns-in-Ok-clause-told
returns-in-Ok-clause-told g c s bytes S read =
    let d = c.args.datagram.now in
    let coming : Incoming = record { now = c.args.now; bytes = bytes } in
    let front = front_at s c.args.pair.now (pair_reached d) c.requires.reached _ (c.front-front.ensures s.rows s.node S.ends) in
    let j = c.in-Ok.ensures.judged s S in
    met_asks _ coming d s (heards.Knocks c.args.pair.now) (Ok j.0) (sym (c.asks_anew-asks_anew.ensures.asks d (held_end (pair_reached d) s.node.ends) c.requires.asks front) ∙ c.if-not-asks_anew.false) j.1
    (knocked _ coming c.args.pair.now d s j.0 S c.requires.reached)

pub returns-in-Err-clause-told : goal.returns-in-Err-clause-told
returns-in-Err-clause-told g c s bytes S read =
    let d = c.args.datagram.now in
    let coming : Incoming = record { now = c.args.now; bytes = bytes } in
    let front = front_at s c.args.pair.now (pair_reached d) c.requires.reached _ (c.front-front.ensures s.rows s.node S.ends) in
    met_asks _ coming d s c.refuse.result (Err c.in-Err.why) (sym (c.asks_anew-asks_anew.ensures.asks d (held_end (pair_reached d) s.node.ends) c.requires.asks front) ∙ c.if-not-asks_anew.false) (c.in-Err.ensures.judged s S)
    (c.refuse.ensures.told s bytes S read c.requires.reached front)

pub returns-then-not-asks_anew-clause-costs : goal.returns-then-not-asks_anew-clause-costs
returns-then-not-asks_anew-clause-costs g c s S = record {
  judged = c.args.steps.now;
  one = omega arith;
  unasked = λ e. refl;
  rest = c.hear.ensures.costs;
}

pub returns-in-Ok-clause-costs : goal.returns-in-Ok-clause-costs
returns-in-Ok-clause-costs g c s S =
    let d = c.args.datagram.now in
    let front = front_at s c.args.pair.now (pair_reached d) c.requires.reached _ (c.front-front.ensures s.rows s.node S.ends) in
    let asking = sym (c.asks_anew-asks_anew.ensures.asks d (held_end (pair_reached d) s.node.ends) c.requires.asks front) ∙ c.if-not-asks_anew.false in record {
      judged = c.judge.new.steps;
      one = c.judge.ensures.steps;
      unasked = λ e. absurd (cc);
      rest = refl;
    }

pub returns-in-Err-clause-costs : goal.returns-in-Err-clause-costs
returns-in-Err-clause-costs g c s S =
    let d = c.args.datagram.now in
    let front = front_at s c.args.pair.now (pair_reached d) c.requires.reached _ (c.front-front.ensures s.rows s.node S.ends) in
    let asking = sym (c.asks_anew-asks_anew.ensures.asks d (held_end (pair_reached d) s.node.ends) c.requires.asks front) ∙ c.if-not-asks_anew.false in record {
      judged = c.judge.new.steps;
      one = c.judge.ensures.steps;
      unasked = λ e. absurd (cc);
      rest = c.refuse.ensures.costs;
    }
