-- The names of the faults of datagrams (own).
use Rattle.std.specs.Prelude.{ℕ, List, ◌++◌, codes, decimal}
use Rattle.book_segments.specs.declared.fault.OptionFault.TheVariants.{ShortLength, PastEnd}
use Rattle.book_segments.specs.declared.fault.DatagramFault.{DatagramFault}
use Rattle.book_segments.specs.declared.fault.DatagramFault.TheVariants.{Truncated, Version}
use Rattle.book_segments.specs.declared.fault.DatagramFault.TheVariants.{HeaderLength}
use Rattle.book_segments.specs.declared.fault.DatagramFault.TheVariants.{HeaderChecksum, Fragment}
use Rattle.book_segments.specs.declared.fault.DatagramFault.TheVariants.{NotTcp, ExtensionHeader}
use Rattle.book_segments.specs.declared.fault.DatagramFault.TheVariants.{DataOffset, BadOption}

-- the text of a fault, with the place of a faulty option in its area (own)
abbrev pub fault_text : DatagramFault → List ℕ
fault_text Truncated = codes "truncated"
fault_text Version = codes "version"
fault_text HeaderLength = codes "header-length"
fault_text HeaderChecksum = codes "header-checksum"
fault_text Fragment = codes "fragment"
fault_text NotTcp = codes "not-tcp"
fault_text ExtensionHeader = codes "extension-header"
fault_text DataOffset = codes "data-offset"
fault_text (BadOption (ShortLength place)) = codes "option short-length " ++ decimal place
fault_text (BadOption (PastEnd place)) = codes "option past-end " ++ decimal place
