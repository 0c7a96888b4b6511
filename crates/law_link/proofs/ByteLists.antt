-- Lists of bytes: what is spelled of a segment that fits, what a MAC is computed over, a context.
use Rattle.std.proofs.Common.{ℕ, zero, suc, ◌+◌, ◌/◌, ◌<◌, Bool, true, false, List, [], ◌∷◌, ◌++◌, length, take, drop, replicate, arith}
use Rattle.std.specs.Prelude.{slice_set, slice_index, bit_xor}
use Rattle.std.proofs.lemmas.Nat.{xor_of_8}
use Rattle.book_base.specs.declared.address.Address.{Address}
use Rattle.book_base.specs.declared.address.Address.TheVariants.{V4, V6}
use Rattle.book_base.specs.declared.address.Pair.{Pair}
use Rattle.book_segments.specs.Bytes.{put2, put4, ring}
use Rattle.book_segments.specs.Sockets.{octets}
use Rattle.book_segments.specs.Options.{Ao}
use Rattle.book_segments.specs.Segments.{IpHeader, Ipv4, Ipv6, Segment, complement_of, pseudo_of, pseudo, header, tcp_bytes, spell_as, spell}
use Rattle.book_segments.specs.Spelling.{AreBytes, IsV4, IsV6, FitsIp, Fits, ip_length, with_checksum as with_sum, pseudo_in, with_right_checksum}
use Rattle.book_segments.proofs.ByteLaws.{bytes_drop, bytes_take, nil_bytes}
use Rattle.book_macs.specs.Contexts.{context}
use Rattle.book_macs.specs.MacInput.{covered, mac_input}
use Rattle.book_link.specs.declared.event.Fixing.{Fixing}
use Rattle.book_link.specs.declared.event.Fixing.TheVariants.{Keep, Fix}
use Rattle.book_link.specs.Alterations.{masked, place_in, altered}
use Rattle.law_link.specs.Laws.{AddressesFit}

-- numbers below 256, as a record, so that the list is told by the fact
pub record Byted (xs : List ℕ) : Type 0 where
  pub at : AreBytes xs

cons_at : (x : ℕ) (xs : List ℕ) → x < 256 → AreBytes xs → AreBytes (x ∷ xs)
cons_at x xs h g zero = h
cons_at x xs h g (suc i) = g i

pub cons : (x : ℕ) (xs : List ℕ) → x < 256 → Byted xs → Byted (x ∷ xs)
cons x xs h g = record { at = cons_at x xs h g.at }

pub join : (xs ys : List ℕ) → Byted xs → Byted ys → Byted (xs ++ ys)
join [] ys h g = g
join (x ∷ xs) ys h g = cons x (xs ++ ys) (h.at 0) (join xs ys (record { at = λ i. h.at (suc i) }) g)

pub two : (n : ℕ) (rest : List ℕ) → Byted rest → Byted (put2 n rest)
unfolding put2
two n rest h = cons _ _ (omega arith) (cons _ _ (omega arith) h)

pub four : (n : ℕ) (rest : List ℕ) → Byted rest → Byted (put4 n rest)
unfolding put4
four n rest h = cons _ _ (omega arith) (cons _ _ (omega arith) (cons _ _ (omega arith) (cons _ _ (omega arith) h)))

pub nothing : Byted []
nothing = record { at = nil_bytes }

pub taken : (b : List ℕ) (n : ℕ) → Byted b → Byted (take n b)
taken b n h = record { at = bytes_take b n h.at }

pub dropped : (b : List ℕ) (n : ℕ) → Byted b → Byted (drop n b)
dropped b n h = record { at = bytes_drop b n h.at }

pub repeated : (n b : ℕ) → b < 256 → Byted (replicate n b)
repeated zero b low = nothing
repeated (suc n) b low = cons b (replicate n b) low (repeated n b low)

pub zeros : (m : ℕ) → Byted (replicate m 0)
zeros m = repeated m 0 (omega arith)

v4_bytes : (a : Address) → IsV4 a → Byted (octets a)
v4_bytes (V4 bytes) h = record { at = h.1 }
v4_bytes (V6 bytes) h = absurd h

v6_bytes : (a : Address) → IsV6 a → Byted (octets a)
v6_bytes (V4 bytes) h = absurd h
v6_bytes (V6 bytes) h = record { at = h.1 }

header_bytes : (d : Segment) (c : ℕ) (rest : List ℕ) → Fits d → Byted rest → Byted (header d c rest)
unfolding header
header_bytes d c rest f h =
    let words = f.area.words in
    let most = f.area.most in
    let reserved = f.reserved in
    two d.source.port _ (two d.destination.port _ (four d.sequence _ (four d.acknowledgement _
    (cons _ _ (omega arith) (cons _ _ f.flags (two d.window _ (two c _ (two d.urgent rest h))))))))

spell_by : (ip : IpHeader) (d : Segment) (tcp : List ℕ) → FitsIp ip d → Byted tcp → Byted (spell_as ip d tcp)
spell_by (Ipv4 service identification flags ttl checksum options) d tcp f h =
    let most = f.options_fit.most in
    let flags_fit = f.flags_fit in
    cons _ _ (omega arith) (cons _ _ f.service_fits (two _ _ (two _ _ (cons _ _ (omega arith) (cons _ _ (omega arith) (cons _ _ f.ttl_fits (cons _ _ (omega arith) (two _ _
    (join _ _ (v4_bytes d.source.address f.source) (join _ _ (v4_bytes d.destination.address f.destination) (join options tcp (record { at = f.options_fit.bytes }) h)))))))))))
spell_by (Ipv6 class_flow hops) d tcp f h =
    four _ _ (two _ _ (cons _ _ (omega arith) (cons _ _ f.hops_fit
    (join _ _ (v6_bytes d.source.address f.source) (join _ _ (v6_bytes d.destination.address f.destination) h)))))

-- the spelling of a segment that fits is bytes
pub spell_bytes : (d : Segment) → Fits d → AreBytes (spell d)
unfolding spell tcp_bytes
spell_bytes d f =
    let tcp = header_bytes d d.checksum (d.area ++ d.payload) f (join d.area d.payload (record { at = f.area.bytes }) (record { at = f.payload })) in
    (spell_by d.ip d (header d d.checksum (d.area ++ d.payload)) f.ip tcp).at

pseudo_bytes : (ip : IpHeader) (d : Segment) (rest : List ℕ) → FitsIp ip d → Byted rest → Byted (pseudo_of ip d rest)
pseudo_bytes (Ipv4 service identification flags ttl checksum options) d rest f h =
    join _ _ (v4_bytes d.source.address f.source) (join _ _ (v4_bytes d.destination.address f.destination) (cons _ _ (omega arith) (cons _ _ (omega arith) (two _ rest h))))
pseudo_bytes (Ipv6 class_flow hops) d rest f h =
    join _ _ (v6_bytes d.source.address f.source) (join _ _ (v6_bytes d.destination.address f.destination)
    (four _ _ (cons _ _ (omega arith) (cons _ _ (omega arith) (cons _ _ (omega arith) (cons _ rest (omega arith) h))))))

covered_bytes : (flag : Bool) (area : List ℕ) (ao : Ao) → AreBytes area → ao.key_id < 256 → ao.rnext_key_id < 256 → length ao.mac < 252 → Byted (covered flag area ao)
covered_bytes true area ao h key next long =
    let all : Byted area = record { at = h } in
    join _ _ (taken area (ao.place + 4) all) (join _ _ (zeros (length ao.mac)) (dropped area (ao.place + 4 + length ao.mac) all))
covered_bytes false area ao h key next long =
    cons _ _ (omega arith) (cons _ _ (omega arith) (cons _ _ key (cons _ _ next (zeros (length ao.mac)))))

-- what a MAC is computed over is bytes
pub input_bytes : (n : ℕ) (d : Segment) (ao : Ao) (flag : Bool) → Fits d → ao.key_id < 256 → ao.rnext_key_id < 256 → length ao.mac < 252 → AreBytes (mac_input n d ao flag)
unfolding mac_input pseudo
input_bytes n d ao flag f key next long =
    let all = join (covered flag d.area ao) d.payload (covered_bytes flag d.area ao f.area.bytes key next long) (record { at = f.payload }) in
    (four (n / ring) _ (pseudo_bytes d.ip d (header d 0 (covered flag d.area ao ++ d.payload)) f.ip (header_bytes d 0 (covered flag d.area ao ++ d.payload) f all))).at

-- ---- the sockets of a pair

-- the sockets of a pair fit their places
pub record PairFits (pair : Pair) : Type 0 where
  pub family : AddressesFit pair.local.address pair.remote.address
  pub local_port : pair.local.port < 65536
  pub remote_port : pair.remote.port < 65536

family_bytes : (a c : Address) → AddressesFit a c → Byted (octets a) × Byted (octets c)
family_bytes (V4 one) (V4 two) f = (v4_bytes (V4 one) f.0, v4_bytes (V4 two) f.1)
family_bytes (V6 one) (V6 two) f = (v6_bytes (V6 one) f.0, v6_bytes (V6 two) f.1)
family_bytes (V4 one) (V6 two) f = absurd f
family_bytes (V6 one) (V4 two) f = absurd f

-- a context over the pair is bytes
pub context_bytes : (pair : Pair) (i j : ℕ) → PairFits pair → AreBytes (context pair.local pair.remote i j)
unfolding context
context_bytes pair i j f =
    let b = family_bytes pair.local.address pair.remote.address f.family in
    (join _ _ b.0 (join _ _ b.1 (two pair.local.port _ (two pair.remote.port _ (four i _ (four j [] nothing)))))).at

-- ---- an altered copy

set_bytes : (xs : List ℕ) (i v : ℕ) → v < 256 → Byted xs → Byted (slice_set xs i v)
set_bytes [] i v low h = h
set_bytes (x ∷ xs) zero v low h = cons v xs low (record { at = λ j. h.at (suc j) })
set_bytes (x ∷ xs) (suc i) v low h = cons x (slice_set xs i v) (h.at 0) (set_bytes xs i v low (record { at = λ j. h.at (suc j) }))

masked_bytes : (b : List ℕ) (i mask : ℕ) → mask < 256 → Byted b → Byted (masked b i mask)
masked_bytes b i mask low h = set_bytes b i (bit_xor (slice_index b i) mask) (xor_of_8 (slice_index b i) mask (h.at i) low) h

summed : (b : List ℕ) → Byted b → Byted (with_right_checksum b)
unfolding with_right_checksum
summed b h =
    let t = drop (ip_length b) b in
    let tb = dropped b (ip_length b) h in
    join (take (ip_length b) b) _ (taken b (ip_length b) h) (join (take 16 t) _ (taken t 16 tb) (two (complement_of (pseudo_in b (with_sum t 0))) (drop 18 t) (dropped t 18 tb)))

pub altered_bytes : (b : List ℕ) (place mask : ℕ) (fixing : Fixing) → mask < 256 → Byted b → Byted (altered b (record { place = place; mask = mask; fixing = fixing }))
unfolding altered
altered_bytes b place mask Keep low h = masked_bytes b (place_in b place) mask low h
altered_bytes b place mask Fix low h = summed (masked b (place_in b place) mask) (masked_bytes b (place_in b place) mask low h)
