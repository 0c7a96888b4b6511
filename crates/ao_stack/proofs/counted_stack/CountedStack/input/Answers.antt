use Rattle.std.proofs.Common.{refl, sym, subst}
use Rattle.book_segments.specs.Segments.{reading}
use Rattle.book_stack.specs.Calls.{Incoming, Input}
use Rattle.book_stack.specs.Turns.{clocked}
use Rattle.ao_stack.specs.declared.input.Heard.TheVariants as heard
use Rattle.ao_stack.specs.declared.stack.Stack.{Stack}
use Rattle.ao_stack.specs.Answers.{Follows, IsHeard}
use Rattle.ao_stack.specs.declared.counted_stack.CountedStack.{CountedStack}
use Rattle.ao_stack.proofs.CountersStandLaws.{knocks_so, moved_so, refuses_so, told_so}
use Rattle.ao_stack.proofs.counted_stack.CountedStack.input.Goals as goal

pub returns-in-Knocks-clause-told : goal.returns-in-Knocks-clause-told
returns-in-Knocks-clause-told c s n S =
    let k = c.args.self.now in
    let coming : Incoming = record { now = c.args.now; bytes = c.args.bytes.now } in
    let after : CountedStack = record { stack = c.input.new.self; tallies = k.tallies; node = c.knocked-self.result } in
    knocks_so k after s n S coming c.in-Knocks.pair (c.in-Knocks.ensures.told s S.stack) c.knocked-self.ensures refl

pub returns-in-Refused-clause-told : goal.returns-in-Refused-clause-told
returns-in-Refused-clause-told c s n S =
    let k = c.args.self.now in
    let coming : Incoming = record { now = c.args.now; bytes = c.args.bytes.now } in
    let after : CountedStack = record { stack = c.input.new.self; tallies = k.tallies; node = c.refused-self.result } in
    refuses_so k after s n S coming c.in-Refused.why (c.in-Refused.ensures.told s S.stack) c.refused-self.ensures refl

pub returns-in-Told-clause-told : goal.returns-in-Told-clause-told
returns-in-Told-clause-told c s n S =
    let k = c.args.self.now in
    let coming : Incoming = record { now = c.args.now; bytes = c.args.bytes.now } in
    let F = subst (λ (x : Stack). Follows x (Input coming) s (IsHeard (reading coming.bytes) (heard.Told c.in-Told.told))) (sym c.count_told.ensures.stack) (c.in-Told.ensures.told s S.stack) in
    told_so k c.count_told.new.self s n S coming (clocked c.args.now s).stack c.in-Told.told (c.in-Told.ensures.passed s S.stack) F c.count_told.ensures.counts

pub returns-in-Moved-clause-told : goal.returns-in-Moved-clause-told
returns-in-Moved-clause-told c s n S =
    let k = c.args.self.now in
    let coming : Incoming = record { now = c.args.now; bytes = c.args.bytes.now } in
    let F = subst (λ (x : Stack). Follows x (Input coming) s (IsHeard (reading coming.bytes) (heard.Moved c.in-Moved.told))) (sym c.count_told-in-Moved.ensures.stack) (c.in-Moved.ensures.told s S.stack) in
    moved_so k c.count_told-in-Moved.new.self s n S coming (clocked c.args.now s).stack c.in-Moved.told (c.in-Moved.ensures.passed s S.stack) F c.count_told-in-Moved.ensures.counts
