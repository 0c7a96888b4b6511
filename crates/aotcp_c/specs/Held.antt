-- What a handle owns, and what it holds.
use Rattle.std.specs.declared.option.Option.{Option}
use Rattle.std.specs.declared.option.Option.TheVariants.{None, Some}
use base.Fml.{Fml, ftrue}
use denote.RattleType.{RattleType}
use denote.RawPtr.{Ptr}
use Rattle.std.specs.Box.Ownership.{box_owns}
use Rattle.std.specs.declared.alloc.Global.{Global}
use Rattle.std.specs.contracts.impls.GlobalAllocator.TheImpl.{ghosts}
use Rattle.ao_stack.specs.contracts.counted_stack.CountedStack.{the_row as stack}
use Rattle.shim_pairs.specs.contracts.shim.Shim.{the_row as shim}

-- at p the box of a value, beside the allocator that it came from; or nothing (own)
abbrev pub held : (R : RattleType) → Ptr → Option (R.Denot × Global) → Fml
held R p (Some s) = box_owns (ghosts.dealloc_token s.1) R p s.0
held R p None = ftrue

-- at p the box of a stack, or nothing (own)
abbrev pub held_stack : Ptr → Option (stack.Denot × Global) → Fml
held_stack = held stack

-- at p the box of a shim, or nothing (own)
abbrev pub held_shim : Ptr → Option (shim.Denot × Global) → Fml
held_shim = held shim

-- what a handle holds (own)
abbrev pub content : {X : Type 0} → Option (X × Global) → Option X
content (Some s) = Some s.0
content None = None
