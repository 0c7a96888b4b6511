-- Numbers among the first bytes, whatever follows them.
use Rattle.std.proofs.Common.{◌≡◌, ℕ, zero, suc, ◌+◌, ◌<◌, List, [], ◌∷◌, ◌++◌, length, take, drop, refl, ap, arith}
use Rattle.std.specs.Prelude.{slice_index}
use Rattle.std.proofs.lemmas.List.{get_or_append_left}
use Rattle.book_pcap.specs.declared.pcap_head.ByteOrder.{ByteOrder}
use Rattle.book_pcap.specs.declared.pcap_head.ByteOrder.TheVariants.{Big, Little}
use Rattle.book_pcap.specs.Packets.{two_at, four_at}

index : (xs ys : List ℕ) (i : ℕ) → i < length xs → slice_index (xs ++ ys) i ≡ slice_index xs i
index xs ys i lt = get_or_append_left xs ys 0 i lt

pub two_front : (order : ByteOrder) (xs ys : List ℕ) (i : ℕ) → i + 1 < length xs → two_at order (xs ++ ys) i ≡ two_at order xs i
two_front Big xs ys i lt = rw (index xs ys i (omega arith), index xs ys (i + 1) lt) refl
two_front Little xs ys i lt = rw (index xs ys i (omega arith), index xs ys (i + 1) lt) refl

pub four_front : (order : ByteOrder) (xs ys : List ℕ) (i : ℕ) → i + 3 < length xs → four_at order (xs ++ ys) i ≡ four_at order xs i
four_front Big xs ys i lt = rw (index xs ys i (omega arith), index xs ys (i + 1) (omega arith), index xs ys (i + 2) (omega arith), index xs ys (i + 2 + 1) (omega arith)) refl
four_front Little xs ys i lt = rw (index xs ys i (omega arith), index xs ys (i + 1) (omega arith), index xs ys (i + 2) (omega arith), index xs ys (i + 2 + 1) (omega arith)) refl
