-- The parts of a MAC's input are the whole input but for the payload.
use Rattle.std.proofs.Common.{◌≡◌, ℕ, ◌/◌, List, [], ◌++◌, length, replicate, refl, ap, ◌∙◌, append_assoc}
use Rattle.book_segments.specs.Bytes.{put2, put4, ring}
use Rattle.book_segments.specs.Segments.{IpHeader, Ipv4, Ipv6, Segment, header, pseudo, pseudo_of}
use Rattle.book_why.specs.Recipes.{Suspect, covered_with, recipe_of}
use Rattle.book_why.specs.MacTexts.{extension_part, header_part, options_part, pseudo_part}

put4_append : (n : ℕ) (rest : List ℕ) → put4 n rest ≡ put4 n [] ++ rest
unfolding put4
put4_append n rest = refl

pseudo_of_append : (ip : IpHeader) (d : Segment) (rest : List ℕ) → pseudo_of ip d rest ≡ pseudo_of ip d [] ++ rest
unfolding put2 put4
pseudo_of_append (Ipv4 a b c t s o) d rest = simp append_assoc
pseudo_of_append (Ipv6 c h) d rest = simp append_assoc

pseudo_append : (d : Segment) (rest : List ℕ) → pseudo d rest ≡ pseudo d [] ++ rest
unfolding pseudo
pseudo_append d rest = pseudo_of_append d.ip d rest

header_append : (d : Segment) (sum : ℕ) (rest : List ℕ) → header d sum rest ≡ header d sum [] ++ rest
unfolding header put2 put4
header_append d sum rest = refl

pub input_parted : (s : Suspect) → (recipe_of s).input ≡ extension_part s ++ (pseudo_part s ++ (header_part s ++ (options_part s ++ s.segment.payload)))
unfolding extension_part pseudo_part header_part options_part
input_parted s =
    let rest = covered_with s.row.with_options s.segment.area s.ao (replicate (length s.ao.mac) 0) ++ s.segment.payload in
    put4_append (s.number / ring) (pseudo s.segment (header s.segment 0 rest))
    ∙ ap (λ (l : List ℕ). put4 (s.number / ring) [] ++ l) (pseudo_append s.segment (header s.segment 0 rest)
    ∙ ap (λ (l : List ℕ). pseudo s.segment [] ++ l) (header_append s.segment 0 rest))
