-- The MAC input as the parts that are fed one after another.
use Rattle.std.proofs.Common.{◌≡◌, ℕ, ◌+◌, ◌-◌, ◌/◌, ◌%◌, ◌≤◌, ◌<◌, Bool, List, [], ◌∷◌, ◌++◌, length, take, drop, refl, sym, ap, subst, true, ◌∙◌, append_assoc, arith, replicate}
use Rattle.std.proofs.lemmas.List.{length-drop, take_all, take-replicate}
use Rattle.book_base.specs.declared.address.Address.TheVariants.{V4, V6}
use Rattle.book_segments.specs.Bytes.{put2, put4}
use Rattle.book_segments.specs.Options.{Ao, One, find_ao}
use Rattle.book_segments.specs.Segments.{IpHeader, Ipv4, Ipv6, Segment, pseudo_of, pseudo, header, tcp_length}
use Rattle.book_segments.specs.Spelling.{FitsIp, IsV4, IsV6}
use Rattle.book_base.specs.declared.algorithm.Algorithm.{Algorithm}
use Rattle.book_macs.specs.Keys.{mac}
use Rattle.book_macs.specs.MacInput.{covered, mac_input}

put4-append : (n : ℕ) (rest : List ℕ) → put4 n rest ≡ put4 n [] ++ rest
unfolding put4
put4-append n rest = refl

pseudo_of-append : (ip : IpHeader) (d : Segment) (rest : List ℕ) → pseudo_of ip d rest ≡ pseudo_of ip d [] ++ rest
unfolding put2 put4
pseudo_of-append (Ipv4 a b c t s o) d rest = simp append_assoc
pseudo_of-append (Ipv6 c h) d rest = simp append_assoc

pub pseudo-append : (d : Segment) (rest : List ℕ) → pseudo d rest ≡ pseudo d [] ++ rest
unfolding pseudo
pseudo-append d rest = pseudo_of-append d.ip d rest

pub header-append : (d : Segment) (sum : ℕ) (rest : List ℕ) → header d sum rest ≡ header d sum [] ++ rest
unfolding header put2 put4
header-append d sum rest = refl

-- the header with its checksum zero, of the header as it is
pub header-zero : (d : Segment) (sum : ℕ) → header d 0 [] ≡ take 16 (header d sum []) ++ (0 ∷ 0 ∷ drop 18 (header d sum []))
unfolding header put2 put4
header-zero d sum = refl

pseudo_of-v4 : (ip : IpHeader) (d : Segment) (a b : List ℕ) → FitsIp ip d → d.source.address ≡ V4 a → d.destination.address ≡ V4 b
    → pseudo_of ip d [] ≡ a ++ (b ++ (0 ∷ 6 ∷ put2 (tcp_length d) []))
pseudo_of-v4 (Ipv4 x y t u s o) d a b f one two = rw (one, two) refl
pseudo_of-v4 (Ipv6 x h) d a b f one two = absurd (subst IsV6 one f.source)

-- the pseudo-header over IPv4
pub pseudo-v4 : (d : Segment) (a b : List ℕ) → FitsIp d.ip d → d.source.address ≡ V4 a → d.destination.address ≡ V4 b
    → pseudo d [] ≡ a ++ (b ++ (0 ∷ 6 ∷ put2 (tcp_length d) []))
unfolding pseudo
pseudo-v4 d a b f one two = pseudo_of-v4 d.ip d a b f one two

pseudo_of-v6 : (ip : IpHeader) (d : Segment) (a b : List ℕ) → FitsIp ip d → d.source.address ≡ V6 a → d.destination.address ≡ V6 b
    → pseudo_of ip d [] ≡ a ++ (b ++ put4 (tcp_length d) (0 ∷ 0 ∷ 0 ∷ 6 ∷ []))
pseudo_of-v6 (Ipv4 x y t u s o) d a b f one two = absurd (subst IsV4 one f.source)
pseudo_of-v6 (Ipv6 x h) d a b f one two = rw (one, two) refl

-- the pseudo-header over IPv6
pub pseudo-v6 : (d : Segment) (a b : List ℕ) → FitsIp d.ip d → d.source.address ≡ V6 a → d.destination.address ≡ V6 b
    → pseudo d [] ≡ a ++ (b ++ put4 (tcp_length d) (0 ∷ 0 ∷ 0 ∷ 6 ∷ []))
unfolding pseudo
pseudo-v6 d a b f one two = pseudo_of-v6 d.ip d a b f one two

pub drop_rest : (n : ℕ) (xs : List ℕ) → take (length xs - n) (drop n xs) ≡ drop n xs
drop_rest n xs = let l = length-drop n xs in take_all (length xs - n) (drop n xs) (omega arith)

-- the header with its checksum zero, in three pieces
pub zeroed : (hd : List ℕ) (d : Segment) (sum : ℕ) → hd ≡ header d sum [] → take 16 hd ++ (replicate 2 0 ++ take (length hd - 18) (drop 18 hd)) ≡ header d 0 []
zeroed hd d sum e = rw drop_rest (subst (λ (l : List ℕ). take 16 l ++ (0 ∷ 0 ∷ drop 18 l) ≡ header d 0 []) (sym e) (sym (header-zero d sum)))

-- the area with the MAC zero, in three pieces
pub covered-all : (area : List ℕ) (ao : Ao) (n : ℕ) → n ≡ ao.place + 4 + length ao.mac
    → take (ao.place + 4) area ++ (replicate (length ao.mac) 0 ++ take (length area - n) (drop n area)) ≡ covered true area ao
covered-all area ao n e = rw (drop_rest, e) refl

-- so many zero bytes of forty
pub zeros : (n : ℕ) → n ≤ 40 → take n (replicate {A = ℕ} 40 0) ≡ replicate n 0
zeros n h = take-replicate n 40 0 h

-- a number of two bytes, written as two and as four
pub pseudo_tail4 : (a b : List ℕ) (n : ℕ) → a ++ (b ++ (0 ∷ 6 ∷ n / 256 % 256 ∷ n % 256 ∷ [])) ≡ a ++ (b ++ (0 ∷ 6 ∷ put2 n []))
unfolding put2
pseudo_tail4 a b n = refl

put4-short : (n : ℕ) (rest : List ℕ) → n < 65536 → 0 ∷ 0 ∷ n / 256 % 256 ∷ n % 256 ∷ rest ≡ put4 n rest
unfolding put4
put4-short n rest h =
    let a : n / 16777216 % 256 ≡ 0 = omega arith in
    let b : n / 65536 % 256 ≡ 0 = omega arith in rw (a, b) refl

pub pseudo_tail6 : (a b : List ℕ) (n : ℕ) → n < 65536 → a ++ (b ++ (0 ∷ 0 ∷ n / 256 % 256 ∷ n % 256 ∷ 0 ∷ 0 ∷ 0 ∷ 6 ∷ [])) ≡ a ++ (b ++ put4 n (0 ∷ 0 ∷ 0 ∷ 6 ∷ []))
pseudo_tail6 a b n h = ap (λ (l : List ℕ). a ++ (b ++ l)) (put4-short n (0 ∷ 0 ∷ 0 ∷ 6 ∷ []) h)

pub pseudo_sized4 : (d : Segment) (a b : List ℕ) (n : ℕ) → FitsIp d.ip d → d.source.address ≡ V4 a → d.destination.address ≡ V4 b → n ≡ tcp_length d
    → a ++ (b ++ (0 ∷ 6 ∷ put2 n [])) ≡ pseudo d []
pseudo_sized4 d a b n f one two e = rw e (sym (pseudo-v4 d a b f one two))

pub pseudo_sized6 : (d : Segment) (a b : List ℕ) (n : ℕ) → FitsIp d.ip d → d.source.address ≡ V6 a → d.destination.address ≡ V6 b → n ≡ tcp_length d
    → a ++ (b ++ put4 n (0 ∷ 0 ∷ 0 ∷ 6 ∷ [])) ≡ pseudo d []
pseudo_sized6 d a b n f one two e = rw e (sym (pseudo-v6 d a b f one two))

-- the input in the order in which its parts are fed
pub mac_input-fed : (number extension : ℕ) (d : Segment) (ao : Ao) (flag : Bool) → number / 4294967296 ≡ extension
    → (((put4 extension [] ++ pseudo d []) ++ header d 0 []) ++ covered flag d.area ao) ++ d.payload ≡ mac_input number d ao flag
unfolding mac_input
mac_input-fed number extension d ao flag e =
    let whole : put4 (number / 4294967296) (pseudo d (header d 0 (covered flag d.area ao ++ d.payload)))
    ≡ (((put4 (number / 4294967296) [] ++ pseudo d []) ++ header d 0 []) ++ covered flag d.area ao) ++ d.payload =
    rw (put4-append, pseudo-append, header-append) (simp append_assoc) in
    rw (← e) (sym whole)

-- the MAC of what was fed
pub mac_of_fed : (algorithm : Algorithm) (key bytes : List ℕ) (number extension : ℕ) (d : Segment) (ao : Ao) (flag : Bool) (q : List ℕ)
    → bytes ≡ mac algorithm key ((((put4 extension [] ++ pseudo d []) ++ header d 0 []) ++ covered flag d.area ao) ++ q)
    → number / 4294967296 ≡ extension → q ≡ d.payload → bytes ≡ mac algorithm key (mac_input number d ao flag)
mac_of_fed algorithm key bytes number extension d ao flag q e is back =
    let fed : (((put4 extension [] ++ pseudo d []) ++ header d 0 []) ++ covered flag d.area ao) ++ q ≡ mac_input number d ao flag =
    rw back (mac_input-fed number extension d ao flag is) in
    e ∙ ap (λ f. mac algorithm key f) fed

-- one option is found, not two
pub one_is : (d : Segment) (p q : Ao) → find_ao d.area ≡ One p → find_ao d.area ≡ One q → p ≡ q
one_is d p q e f = cc
