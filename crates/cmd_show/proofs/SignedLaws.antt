-- A datagram with its MAC, and the numbers of a context.
use Rattle.std.proofs.Common.{◌≡◌, ℕ, ◌+◌, ◌*◌, ◌/◌, ◌<◌, ◌==◌, true, List, [], ◌∷◌, length, drop, Some, refl, sym, ap, ◌∙◌, arith, eq-eqb}
use Rattle.std.specs.Prelude.{slice_index}
use Rattle.std.proofs.lemmas.List.{drop_all}
use Rattle.book_base.specs.declared.algorithm.Algorithm.{Algorithm}
use Rattle.book_base.specs.Algorithms.{mac_length_of}
use Rattle.book_segments.specs.Bytes.{put2, put4, ring}
use Rattle.book_segments.specs.Options.{Ao, One, find_ao}
use Rattle.book_segments.specs.Segments.{Segment, Read, reading, two_octets_at, four_octets_at}
use Rattle.book_segments.specs.Spelling.{AreBytes}
use Rattle.book_segments.proofs.ByteLaws.{front_list, in_front, put_two, put_four}
use Rattle.book_cmd_check.specs.Vectors.{signed_of}

pub signed_so : (algorithm : Algorithm) (bytes : List ℕ) (d : Segment) (ao : Ao) → reading bytes ≡ Read d → find_ao d.area ≡ One ao → length ao.mac ≡ mac_length_of algorithm →
    signed_of algorithm bytes ≡ Some (record { segment = d; ao = ao })
unfolding signed_of
signed_so algorithm bytes d ao is_read found size =
    let long : (length ao.mac == mac_length_of algorithm) ≡ true = eq-eqb (length ao.mac) (mac_length_of algorithm) size in
    rw (is_read, found, long) refl

-- ports and initial sequence numbers are the bytes that they were read from
pub numbers_back : (t : List ℕ) → length t ≡ 12 → AreBytes t → put2 (two_octets_at t 0) (put2 (two_octets_at t 2) (put4 (four_octets_at t 4) (put4 (four_octets_at t 8) []))) ≡ t
numbers_back t size h =
    let whole : t ≡ front_list 12 0 t = in_front 12 0 t (omega arith) in
    let none : drop 12 t ≡ [] = drop_all 12 t (omega arith) in
    let last : List ℕ = slice_index t 8 ∷ slice_index t 9 ∷ slice_index t 10 ∷ slice_index t 11 ∷ [] in
    let most : List ℕ = slice_index t 4 ∷ slice_index t 5 ∷ slice_index t 6 ∷ slice_index t 7 ∷ last in
    let more : List ℕ = slice_index t 2 ∷ slice_index t 3 ∷ most in
    ap (λ r. put2 (two_octets_at t 0) (put2 (two_octets_at t 2) (put4 (four_octets_at t 4) r))) (put_four (slice_index t 8) (slice_index t 9) (slice_index t 10) (slice_index t 11) [] (h 8) (h 9) (h 10) (h 11))
    ∙ ap (λ r. put2 (two_octets_at t 0) (put2 (two_octets_at t 2) r)) (put_four (slice_index t 4) (slice_index t 5) (slice_index t 6) (slice_index t 7) last (h 4) (h 5) (h 6) (h 7))
    ∙ ap (λ r. put2 (two_octets_at t 0) r) (put_two (slice_index t 2) (slice_index t 3) most (h 2) (h 3))
    ∙ put_two (slice_index t 0) (slice_index t 1) more (h 0) (h 1)
    ∙ ap (λ r. slice_index t 0 ∷ slice_index t 1 ∷ slice_index t 2 ∷ slice_index t 3 ∷ slice_index t 4 ∷ slice_index t 5 ∷ slice_index t 6 ∷ slice_index t 7 ∷ slice_index t 8 ∷ slice_index t 9 ∷ slice_index t 10 ∷ slice_index t 11 ∷ r) (sym none)
    ∙ sym whole

-- the extension of a number
pub extension_of : (extension sequence : ℕ) → sequence < ring → (extension * ring + sequence) / ring ≡ extension
extension_of extension sequence h = omega arith
