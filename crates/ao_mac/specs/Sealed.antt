-- A draft whose MAC was put in.
use Rattle.std.specs.Prelude.{ℕ, Bool, List}
use Rattle.book_base.specs.declared.algorithm.Algorithm.{Algorithm}
use Rattle.tcp_segment.specs.declared.spelling.Head.{Head}
use Rattle.tcp_segment.specs.Drafts.{DatagramMut, Drafted}
use Rattle.tcp_segment.specs.Layout.{drafted}
use Rattle.ao_mac.specs.Macs.{IsMacOf}

-- the buffer holds the same head, payload and rest with a MAC, which is that of the segment as it was and as it is (RFC 5925, section 5.1)
pub record IsSealed (d : DatagramMut) (h : Head) (old payload rest : List ℕ) (algorithm : Algorithm) (key : List ℕ) (extension : ℕ) (with_options : Bool) : Type 0 where
  pub mac : List ℕ
  pub drafted_so : Drafted d h mac payload rest
  pub of_old : IsMacOf mac algorithm key extension (drafted h old payload) with_options
  pub of_new : IsMacOf mac algorithm key extension (drafted h mac payload) with_options
