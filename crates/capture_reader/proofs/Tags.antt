-- One tag, where there are bytes enough for it.
use Rattle.std.proofs.Common.{◌≡◌, ℕ, ◌<◌, ◌≤◌, List, ◌∷◌, length, drop, Err, refl, arith}
use Rattle.book_pcap.specs.declared.pcap_head.ByteOrder.TheVariants.{Big}
use Rattle.book_pcap.specs.Packets.{two_at}
use Rattle.book_captures.specs.declared.link_type.Protocol.TheVariants.{Tag}
use Rattle.book_captures.specs.declared.reasons.Header.TheVariants as header
use Rattle.book_captures.specs.declared.reasons.Skipped.TheVariants.{Short}
use Rattle.book_captures.specs.Frames.{ethertype, behind_tags}

pub tag_step : (body : List ℕ) → 4 ≤ length body → behind_tags Tag body ≡ behind_tags (ethertype (two_at Big body 2)) (drop 4 body)
unfolding behind_tags
tag_step (a ∷ b ∷ c ∷ d ∷ rest) le = refl
tag_step body le = absurd (omega arith)

pub tag_short : (body : List ℕ) → length body < 4 → behind_tags Tag body ≡ Err (Short header.Tag)
unfolding behind_tags
tag_short (a ∷ b ∷ c ∷ d ∷ rest) lt = absurd (omega arith)
tag_short body lt = refl
