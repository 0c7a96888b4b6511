use Rattle.std.proofs.Common.{◌≡◌, ◌||◌, length, refl, ap, ◌∙◌}
use Rattle.book_endpoint.specs.States.{take_out}
use Rattle.book_link.specs.Outcomes as book
use Rattle.book_link.specs.Steps.{took}
use Rattle.link_report.specs.declared.sessions.Live.{Live}
use Rattle.link_report.proofs.ActLaws.{moved_live}
use Rattle.link_report.proofs.OfferLaws.{taken_bytes, took_acts}
use Rattle.link_report.proofs.side.Side.take_into.Goals as goal

pub returns-in-Some-clause-step : goal.returns-in-Some-clause-step
returns-in-Some-clause-step c = λ w e h.
    let l = c.in-Some.live in
    let n = length c.args.bytes.items in
    let long : length c.as_mut_slice.result.now ≡ n = ap length c.as_mut_slice.ensures.value in
    let m : Live = record { endpoint = c.take-taken.new.self; end_shown = l.end_shown || c.at_end-at_end.result } in
    moved_live w e (took n) c.args.self.now _ l m (book.Took c.from_vec.result c.at_end-at_end.result) h c.in-Some.is refl refl refl refl
    (λ s stands.
    let count = rw long at c.take-taken.ensures.count s stands in
    let taken = rw long at c.take-taken.ensures.taken s stands in
    let after = rw long at c.take-taken.ensures.stands s stands in
    let whole = c.take-taken.auto.out ∙ c.as_mut_slice.ensures.len in
    let bytes = taken_bytes n c.take-taken.result _ s _ c.take-taken.new.out _ _ _ whole count taken c.truncate.ensures.items c.from_vec.ensures in
    took_acts n s l m _ _ bytes (c.at_end-at_end.ensures (take_out n s) after) after refl)
