-- What a handle holds.
use Rattle.std.specs.declared.option.Option.{Option}
use Rattle.ao_stack.specs.declared.counted_stack.CountedStack.{CountedStack}
use Rattle.aotcp_c.specs.declared.handle.Handle.{Handle}
use Rattle.aotcp_c.specs.Held.{content}

-- the stack that a handle holds, or none (own)
abbrev pub stack_in : Handle → Option CountedStack
stack_in handle = content handle.place.value
