-- Options of a block, one after another.
use Rattle.std.proofs.Common.{◌≡◌, ℕ, zero, suc, ◌+◌, ◌-◌, ◌==◌, ◌&&◌, ◌<◌, ◌≤◌, true, false, List, length, take, drop, Option, Some, None, refl, arith}
use Rattle.std.proofs.lemmas.Bool.{lt-ltb, le-ltb, eq-eqb, ne_eqb}
use Rattle.book_pcap.specs.declared.pcap_head.ByteOrder.{ByteOrder}
use Rattle.book_pcap.specs.Packets.{two_at}
use Rattle.book_captures.specs.BlockContents.{padded_length, option_in}

pub ends_short : (k : ℕ) (order : ByteOrder) (code size : ℕ) (options : List ℕ) → length options < 4 + size → option_in k order code size options ≡ None
unfolding option_in
ends_short zero order code size options lt = refl
ends_short (suc k) order code size options lt = rw (lt-ltb (length options) (4 + size) lt) refl

pub ends_here : (k : ℕ) (order : ByteOrder) (code size : ℕ) (options : List ℕ) → 4 + size ≤ length options → two_at order options 0 ≡ 0 → option_in k order code size options ≡ None
unfolding option_in
ends_here zero order code size options le e = refl
ends_here (suc k) order code size options le e = rw (le-ltb (length options) (4 + size) le, eq-eqb (two_at order options 0) 0 e) refl

pub ends_all : (most i : ℕ) (order : ByteOrder) (code size : ℕ) (options : List ℕ) → most ≤ i → option_in (most - i) order code size options ≡ None
unfolding option_in
ends_all most i order code size options le = let none : most - i ≡ 0 = omega arith in rw none refl

tells : (k : ℕ) (order : ByteOrder) (code size : ℕ) (options : List ℕ) → 4 + size ≤ length options → (two_at order options 0 ≡ 0 → ⊥)
    → ((two_at order options 0 == code) && (two_at order options 2 == size)) ≡ true
    → option_in (suc k) order code size options ≡ Some (take size (drop 4 options))
unfolding option_in
tells k order code size options le some is =
    rw (le-ltb (length options) (4 + size) le, ne_eqb (two_at order options 0) 0 some, is) refl

pub tells_here : (most i : ℕ) (order : ByteOrder) (code size : ℕ) (options : List ℕ) → i < most → 4 + size ≤ length options → (two_at order options 0 ≡ 0 → ⊥)
    → ((two_at order options 0 == code) && (two_at order options 2 == size)) ≡ true
    → option_in (most - i) order code size options ≡ Some (take size (drop 4 options))
tells_here most i order code size options lt le some is =
    let k : most - i ≡ suc (most - (i + 1)) = omega arith in rw k (tells (most - (i + 1)) order code size options le some is)

goes : (k : ℕ) (order : ByteOrder) (code size : ℕ) (options : List ℕ) → 4 + size ≤ length options → (two_at order options 0 ≡ 0 → ⊥)
    → ((two_at order options 0 == code) && (two_at order options 2 == size)) ≡ false
    → option_in (suc k) order code size options ≡ option_in k order code size (drop (4 + padded_length (two_at order options 2)) options)
unfolding option_in
goes k order code size options le some other = rw (le-ltb (length options) (4 + size) le, ne_eqb (two_at order options 0) 0 some, other) refl

pub goes_on : (most i : ℕ) (order : ByteOrder) (code size : ℕ) (options : List ℕ) → i < most → 4 + size ≤ length options → (two_at order options 0 ≡ 0 → ⊥)
    → ((two_at order options 0 == code) && (two_at order options 2 == size)) ≡ false
    → option_in (most - i) order code size options ≡ option_in (most - (i + 1)) order code size (drop (4 + padded_length (two_at order options 2)) options)
goes_on most i order code size options lt le some other =
    let k : most - i ≡ suc (most - (i + 1)) = omega arith in rw k (goes (most - (i + 1)) order code size options le some other)

-- the steps of the search of an option
pub ruleset option_steps = (ends_short, ends_here, tells_here, goes_on)
