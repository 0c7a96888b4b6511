use Rattle.book_captures.proofs.PcapngCaptures.{in_blocks}
use Rattle.book_captures.proofs.laws.captures_of_pcapng_files_are_in_their_blocks.Goals as goal

pub returns : goal.returns
returns c = in_blocks
