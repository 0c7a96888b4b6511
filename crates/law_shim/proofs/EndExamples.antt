-- What is relayed of the segments of RFC 9235, section 4.1, computed from the definitions.
use Rattle.std.proofs.Common.{◌≡◌, ℕ, List, [], ◌∷◌, ◌+◌, length, Some, refl}
use Rattle.book_segments.specs.Bytes.{put2}
use Rattle.book_segments.specs.Options.{Absent, plains, listed, options_of, find_ao}
use Rattle.book_segments.specs.Segments.{Ipv4, Ipv6}
use Rattle.book_shim.specs.Relaying.{rewritten, coming_area}
use Rattle.law_shim.proofs.Examples.{plain_text, sealed_text, taken_text, plain_syn, taken_syn}
use Rattle.law_shim.specs.Sizes.{sizes_among, left_of}

-- the options of the client's SYN: a maximum segment size of 1460, and others
abbrev pub syn_options : List ℕ
syn_options = 2 ∷ 4 ∷ 5 ∷ 180 ∷ 1 ∷ 3 ∷ 3 ∷ 8 ∷ 4 ∷ 2 ∷ 8 ∷ 10 ∷ 0 ∷ 21 ∷ 90 ∷ 183 ∷ 0 ∷ 0 ∷ 0 ∷ 0 ∷ []

-- the client's text comes out at the server byte for byte
pub text_whole : taken_text ≡ plain_text
text_whole = refl

-- a SYN comes out with another maximum segment size, and as long
pub syn_long : length taken_syn ≡ length plain_syn
syn_long = refl

-- with a MAC of 12 bytes TCP-AO takes 16
pub text_long : length sealed_text ≡ length plain_text + 16
text_long = refl

-- the client's SYN tells 1460
pub told_first : sizes_among (plains (listed (options_of syn_options))) ≡ 1460 ∷ []
unfolding options_of
told_first = refl

-- as it is handed on where the own device takes 1500, it tells 1440
pub told_then : sizes_among (plains (listed (options_of (coming_area (Some 1460) syn_options)))) ≡ 1440 ∷ []
unfolding options_of rewritten put2
told_then = refl

-- which is what is left of it
pub left_then : left_of 1500 (Ipv4 0 0 0 0 0 []) 1460 ≡ 1440
left_then = refl

-- a device of 1280 bytes leaves 1200 over IPv6
pub left_least : left_of 1280 (Ipv6 0 0) 1440 ≡ 1200
left_least = refl

-- no TCP-AO comes in
pub none_in : find_ao (coming_area (Some 1460) (29 ∷ 4 ∷ 1 ∷ 2 ∷ syn_options)) ≡ Absent
unfolding options_of find_ao rewritten put2
none_in = refl
