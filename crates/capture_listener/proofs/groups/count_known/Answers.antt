use Rattle.std.proofs.Common.{sym, ◌∙◌}
use Rattle.capture_listener.proofs.KeepLaws.{known_again, known_next, known_same, place_low}
use Rattle.capture_listener.proofs.groups.count_known.Goals as goal

pub count_again-requires : goal.count_again-requires
count_again-requires c =
    let found = rw (c.as_slice.ensures.value) at (sym c.in-Some.is ∙ c.place_among.ensures) in
    place_low c.args.segment.now c.args.uses.now.items c.as_slice-2.result.now c.in-Some.place found

pub returns-in-Some-clause-counted : goal.returns-in-Some-clause-counted
returns-in-Some-clause-counted c =
    let found = rw (c.as_slice.ensures.value, c.as_slice-2.ensures.value) at (sym c.in-Some.is ∙ c.place_among.ensures) in
    known_again c.args.uses.now.items c.count_again.new.uses.items c.args.groups.now.items c.args.segment.now c.args.signs c.args.number c.index.result.now c.requires.least c.requires.most c.index.ensures
    c.count_again.result c.in-Some.place found c.count_again.ensures.counted

pub returns-in-None-clause-counted : goal.returns-in-None-clause-counted
returns-in-None-clause-counted c =
    let found = rw (c.as_slice.ensures.value, c.as_slice-2.ensures.value) at (sym c.in-None.is ∙ c.place_among.ensures) in
    known_next c.args.uses.now.items c.count_next.new.uses.items c.args.groups.now.items c.args.segment.now c.args.signs c.args.number c.index.result.now c.requires.least c.requires.most c.index.ensures
    c.count_next.result c.count_next.new.places c.index_mut.result.now found c.index_mut.ensures.value c.count_next.ensures.counted

pub returns-in-None-clause-unchanged : goal.returns-in-None-clause-unchanged
returns-in-None-clause-unchanged c =
    known_same c.args.uses.now.items c.count_next.new.uses.items c.args.groups.now.items c.args.segment.now c.args.signs c.args.number c.index.result.now c.requires.least c.requires.most c.index.ensures
    c.count_next.result c.count_next.new.places c.index_mut.result.now c.index_mut.ensures.value c.count_next.ensures.unchanged
