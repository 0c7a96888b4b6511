use Rattle.std.proofs.Common.{◌≡◌, ℕ, ◌+◌, ◌<◌, List, [], ◌++◌, length, take, ap, ◌∙◌, arith}
use Rattle.std.proofs.lemmas.List.{length-append, length-take}
use Rattle.ao_base.specs.InMemory.{TakingState, taking_side}
use Rattle.ao_base.specs.Outside.{Side, WasWritten, Rose}
use Rattle.ao_base.proofs.InMemoryLaws.{sink_stays}
use Rattle.ao_base.proofs.Sides.{rose_after, took_more}
use Rattle.base_tests.proofs.of_ao_base_memory.both_written.Goals as goal

-- a new sink, with room for more than two writes
never : (s : TakingState) (b c : Side) (first second : List ℕ) (n m : ℕ) → s.held ≡ [] → s.failing ≡ [] → s.faults ≡ 0 →
    WasWritten (take n first) (taking_side s) b → WasWritten (take m second) b c → length first + length second < s.room → Rose b c → ⊥
never s b c first second n m empty none no_fault x y less rose =
    let both : WasWritten (take n first ++ take m second) (taking_side s) c = took_more (take n first) (take m second) (taking_side s) b c x y in
    let size = length-append (take n first) (take m second) in
    let one = length-take n first in
    let two = length-take m second in
    let held : length s.held ≡ 0 = ap length empty in
    sink_stays s c (take n first ++ take m second) none (omega arith) (omega arith) both (rose_after _ (taking_side s) b c x.counts rose)

pub unreachable-requires-in-Err-write_all : goal.unreachable-requires-in-Err-write_all
unreachable-requires-in-Err-write_all c =
    let made = c.in_ok-sink.ensures in
    let wrote = c.in-Ok.ensures.1 in
    let failed = c.in-Err-write_all.ensures.1 in
    let none : c.in_ok-sink.sink.failing ≡ [] = ap (λ (s : TakingState). s.failing) made ∙ (c.from_vec.ensures ∙ c.new.ensures.items) in
    let room = ap (λ (s : TakingState). s.room) made in
    never c.in_ok-sink.sink (taking_side c.write_all.new.sink) (taking_side c.write_all-2.new.sink) c.args.first.now c.args.second.now c.in-Ok.ensures.0 c.in-Err-write_all.ensures.0
    (ap (λ (s : TakingState). s.held) made) none (ap (λ (s : TakingState). s.faults) made) wrote.took failed.took (rw room c.requires) failed.failed.1
