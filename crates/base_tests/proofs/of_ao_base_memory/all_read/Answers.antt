use Rattle.std.proofs.Common.{◌≡◌, [], refl, ap, ◌∙◌, arith}
use Rattle.ao_base.specs.InMemory.{GivingState, giving_side}
use Rattle.ao_base.proofs.InMemoryLaws.{source_stays}
use Rattle.base_tests.proofs.of_ao_base_memory.all_read.Goals as goal

pub unreachable-requires : goal.unreachable-requires
unreachable-requires c =
    let made = c.new-src.ensures in
    let read = rw c.in-Err-Fault.field-0-is at c.in-Err-Fault.ensures.1 in
    let none : c.new-src.result.failing ≡ [] = ap (λ (s : GivingState). s.failing) made ∙ (c.from_vec.ensures ∙ c.new.ensures.items) in
    let no_fault = ap (λ (s : GivingState). s.faults) made in
    source_stays c.new-src.result (giving_side c.read_all.new.src) c.in-Err-Fault.ensures.0 none (omega arith) read.gave (read.fault refl)
