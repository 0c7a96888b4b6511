-- Two MAC inputs are equal exactly where their parts are.
use Rattle.std.proofs.Common.{◌≡◌, ℕ, zero, suc, ◌+◌, ◌-◌, ◌/◌, ◌%◌, ◌<◌, Bool, true, false, List, [], ◌∷◌, ◌++◌, length, take, drop, replicate, refl, sym, ap, ◌∙◌, arith, append_assoc}
use Rattle.std.specs.Prelude.{◌↔◌, IsTrue, slice_index, slice_index_or}
use Rattle.std.proofs.lemmas.List.{length-append, drop_at, drop-drop, take_rest, same_lists, get_or_default}
use Rattle.book_base.specs.declared.address.Address.{Address}
use Rattle.book_base.specs.declared.address.Address.TheVariants.{V4, V6}
use Rattle.book_segments.specs.Bytes.{put2, put4}
use Rattle.book_segments.specs.Sockets.{octets}
use Rattle.book_segments.specs.Options.{Ao, One, find_ao, options_of}
use Rattle.book_segments.specs.Segments.{IpHeader, Ipv4, Ipv6, Segment, pseudo_of, pseudo, header, tcp_length}
use Rattle.book_segments.specs.Spelling.{FitsIp, Fits, IsV4, IsV6}
use Rattle.book_segments.proofs.Fields.{put2_law, put4_law, append_split, two_law, header_law}
use Rattle.book_macs.specs.MacInput.{covered, mac_input}
use Rattle.ao_mac.proofs.Parts.{pseudo-append, header-append, header-zero}
use Rattle.book_macs.proofs.Ids.{v4_long, v6_long}

-- ---- answers

pub never : IsTrue false → ⊥
never t = cc

-- the answer is no where a part differs
pub refused : {A B : Type 0} (b : Bool) → b ≡ false → (IsTrue b ↔ A) → (B → A) → IsTrue false ↔ B
refused {A} {B} b e f g = (λ t. absurd (never t), λ h. sym e ∙ f.1 (g h))

pub holds : {A : Type 0} (b : Bool) → b ≡ true → (IsTrue b ↔ A) → A
holds {A} b e f = f.0 e

-- the last part decides
pub decides : {A B : Type 0} (b : Bool) → (IsTrue b ↔ A) → (A → B) → (B → A) → IsTrue b ↔ B
decides {A} {B} b f g h = (λ t. g (f.0 t), λ y. f.1 (h y))

-- lists of one length are equal where their bytes are
get_is : (xs : List ℕ) (k d : ℕ) → k < length xs → slice_index_or xs k d ≡ slice_index xs k
get_is xs k d h = get_or_default xs k d 0 h

pub same_by_index : (xs ys : List ℕ) (n : ℕ) → length xs ≡ length ys → n ≡ length xs → ((k : ℕ) → k < n → slice_index xs k ≡ slice_index ys k) → xs ≡ ys
same_by_index xs ys n e is f =
    same_lists xs ys e (λ k d h. get_is xs k d h ∙ (f k (omega arith) ∙ sym (get_is ys k d (omega arith))))

-- ---- headers

pub header_to : (h k : List ℕ) (d e : Segment) → h ≡ header d d.checksum [] → k ≡ header e e.checksum [] → take 16 h ≡ take 16 k → take (length h - 18) (drop 18 h) ≡ take (length k - 18) (drop 18 k)
    → header d 0 [] ≡ header e 0 []
header_to h k d e hd ke front back =
    let one : header d 0 [] ≡ take 16 h ++ (0 ∷ 0 ∷ drop 18 h) = header-zero d d.checksum ∙ ap (λ (l : List ℕ). take 16 l ++ (0 ∷ 0 ∷ drop 18 l)) (sym hd) in
    let two : header e 0 [] ≡ take 16 k ++ (0 ∷ 0 ∷ drop 18 k) = header-zero e e.checksum ∙ ap (λ (l : List ℕ). take 16 l ++ (0 ∷ 0 ∷ drop 18 l)) (sym ke) in
    let last : drop 18 h ≡ drop 18 k = sym (take_rest h 18) ∙ (back ∙ take_rest k 18) in
    one ∙ (ap (λ (l : List ℕ). l ++ (0 ∷ 0 ∷ drop 18 h)) front ∙ (ap (λ (l : List ℕ). take 16 k ++ (0 ∷ 0 ∷ l)) last ∙ sym two))

front_of : (d : Segment) (sum : ℕ) → take 16 (header d sum []) ≡ take 16 (header d 0 [])
unfolding header put2 put4
front_of d sum = refl

back_of : (d : Segment) (sum : ℕ) → drop 18 (header d sum []) ≡ drop 18 (header d 0 [])
unfolding header put2 put4
back_of d sum = refl

pub header_front : (h k : List ℕ) (d e : Segment) → h ≡ header d d.checksum [] → k ≡ header e e.checksum [] → header d 0 [] ≡ header e 0 [] → take 16 h ≡ take 16 k
header_front h k d e hd ke is = ap (take 16) hd ∙ (front_of d d.checksum ∙ (ap (take 16) is ∙ (sym (front_of e e.checksum) ∙ ap (take 16) (sym ke))))

pub header_back : (h k : List ℕ) (d e : Segment) → h ≡ header d d.checksum [] → k ≡ header e e.checksum [] → header d 0 [] ≡ header e 0 [] → take (length h - 18) (drop 18 h) ≡ take (length k - 18) (drop 18 k)
header_back h k d e hd ke is =
    take_rest h 18 ∙ (ap (drop 18) hd ∙ (back_of d d.checksum ∙ (ap (drop 18) is ∙ (sym (back_of e e.checksum) ∙ (ap (drop 18) (sym ke) ∙ sym (take_rest k 18))))))

-- ---- pseudo-headers

v4_same : (a b : Address) → IsV4 a → IsV4 b → octets a ≡ octets b → a ≡ b
v4_same (V4 x) (V4 y) h k e = ap V4 e
v4_same (V4 x) (V6 y) h k e = absurd k
v4_same (V6 x) b h k e = absurd h

v6_same : (a b : Address) → IsV6 a → IsV6 b → octets a ≡ octets b → a ≡ b
v6_same (V6 x) (V6 y) h k e = ap V6 e
v6_same (V6 x) (V4 y) h k e = absurd k
v6_same (V4 x) b h k e = absurd h

-- what a pseudo-header says
pub record Pseudo (d e : Segment) : Type 0 where
  pub size : tcp_length d ≡ tcp_length e
  pub source : d.source.address ≡ e.source.address
  pub destination : d.destination.address ≡ e.destination.address

-- what is equal where pseudo-headers of one family with something behind them are
record OneWay (d e : Segment) (r t : List ℕ) : Type 0 where
  pub said : Pseudo d e
  pub rest : r ≡ t

-- the first byte of what is covered isn't 0
abbrev Starts : List ℕ → Type 0
Starts bytes = (c : ℕ) × (more : List ℕ) × (bytes ≡ suc c ∷ more)

by_v4 : (d e : Segment) (r t : List ℕ) → IsV4 d.source.address → IsV4 d.destination.address → IsV4 e.source.address → IsV4 e.destination.address → tcp_length d < 65536 → tcp_length e < 65536
    → octets d.source.address ++ (octets d.destination.address ++ (0 ∷ 6 ∷ put2 (tcp_length d) r)) ≡ octets e.source.address ++ (octets e.destination.address ++ (0 ∷ 6 ∷ put2 (tcp_length e) t)) → OneWay d e r t
by_v4 d e r t ds dd es ed dl el h =
    let one = append_split (octets d.source.address) (octets e.source.address) _ _ (v4_long d.source.address ds ∙ sym (v4_long e.source.address es)) h in
    let two = append_split (octets d.destination.address) (octets e.destination.address) _ _ (v4_long d.destination.address dd ∙ sym (v4_long e.destination.address ed)) one.1 in
    let three = two_law _ _ _ _ _ _ two.1 in
    let four = put2_law _ _ _ _ three.2 in
    let size = four.0 in
    record {
      said = record { size = omega arith; source = v4_same d.source.address e.source.address ds es one.0; destination = v4_same d.destination.address e.destination.address dd ed two.0 };
      rest = four.1;
    }

by_v6 : (d e : Segment) (r t : List ℕ) → IsV6 d.source.address → IsV6 d.destination.address → IsV6 e.source.address → IsV6 e.destination.address → tcp_length d < 65536 → tcp_length e < 65536
    → octets d.source.address ++ (octets d.destination.address ++ put4 (tcp_length d) (0 ∷ 0 ∷ 0 ∷ 6 ∷ r)) ≡ octets e.source.address ++ (octets e.destination.address ++ put4 (tcp_length e) (0 ∷ 0 ∷ 0 ∷ 6 ∷ t)) → OneWay d e r t
by_v6 d e r t ds dd es ed dl el h =
    let one = append_split (octets d.source.address) (octets e.source.address) _ _ (v6_long d.source.address ds ∙ sym (v6_long e.source.address es)) h in
    let two = append_split (octets d.destination.address) (octets e.destination.address) _ _ (v6_long d.destination.address dd ∙ sym (v6_long e.destination.address ed)) one.1 in
    let three = put4_law _ _ _ _ two.1 in
    let size = three.0 in
    let four = two_law _ _ _ _ _ _ three.1 in
    let five = two_law _ _ _ _ _ _ four.2 in
    record {
      said = record { size = omega arith; source = v6_same d.source.address e.source.address ds es one.0; destination = v6_same d.destination.address e.destination.address dd ed two.0 };
      rest = five.2;
    }

header_over : (d : Segment) (rest : List ℕ) → drop 20 (header d 0 rest) ≡ rest
unfolding header put2 put4
header_over d rest = refl

put4_short : (n : ℕ) (rest : List ℕ) → n < 65536 → put4 n rest ≡ 0 ∷ n / 65536 % 256 ∷ n / 256 % 256 ∷ n % 256 ∷ rest
unfolding put4
put4_short n rest h = let e : n / 16777216 % 256 ≡ 0 = omega arith in rw e refl

two_over : (a b rest : List ℕ) (n m : ℕ) → length a ≡ n → length b ≡ n → m ≡ n + n → drop m (a ++ (b ++ rest)) ≡ rest
two_over a b rest n m ha hb e =
    ap (drop m) (sym (append_assoc a b rest)) ∙ drop_at (a ++ b) rest m (omega (arith, length-append a b))

-- no segment of IPv4 has the input of one of IPv6: where the options of the one begin, the other has the zero byte of a length
mixed : (d e : Segment) (c t : List ℕ) → IsV4 d.source.address → IsV4 d.destination.address → IsV6 e.source.address → IsV6 e.destination.address → tcp_length e < 65536 → Starts c
    → octets d.source.address ++ (octets d.destination.address ++ (0 ∷ 6 ∷ put2 (tcp_length d) (header d 0 c))) ≡ octets e.source.address ++ (octets e.destination.address ++ put4 (tcp_length e) (0 ∷ 0 ∷ 0 ∷ 6 ∷ t)) → ⊥
unfolding put2
mixed d e c t ds dd es ed el s h =
    let a : List ℕ = octets d.source.address in
    let b : List ℕ = octets d.destination.address in
    let behind : List ℕ = 0 ∷ 6 ∷ put2 (tcp_length d) (header d 0 c) in
    let left : drop 24 (drop 8 (a ++ (b ++ behind))) ≡ c =
    ap (drop 24) (two_over a b behind 4 8 (v4_long d.source.address ds) (v4_long d.destination.address dd) refl) ∙ header_over d c in
    let zeros : List ℕ = 0 ∷ tcp_length e / 65536 % 256 ∷ tcp_length e / 256 % 256 ∷ tcp_length e % 256 ∷ 0 ∷ 0 ∷ 0 ∷ 6 ∷ t in
    let right : drop 32 (octets e.source.address ++ (octets e.destination.address ++ put4 (tcp_length e) (0 ∷ 0 ∷ 0 ∷ 6 ∷ t))) ≡ zeros =
    two_over (octets e.source.address) (octets e.destination.address) (put4 (tcp_length e) (0 ∷ 0 ∷ 0 ∷ 6 ∷ t)) 16 32 (v6_long e.source.address es) (v6_long e.destination.address ed) refl ∙ put4_short (tcp_length e) (0 ∷ 0 ∷ 0 ∷ 6 ∷ t) el in
    let starts : suc s.0 ∷ s.1 ≡ zeros =
    sym s.2 ∙ (sym left ∙ (drop-drop 24 8 (a ++ (b ++ behind)) ∙ (ap (drop 32) h ∙ right))) in
    let none : suc s.0 ≡ 0 = cc in
    absurd (omega arith)

-- what is equal where two inputs are, behind the extensions
opened_as : (i j : IpHeader) (d e : Segment) (c t : List ℕ) → FitsIp i d → FitsIp j e → tcp_length d < 65536 → tcp_length e < 65536 → Starts c → Starts t
    → pseudo_of i d (header d 0 c) ≡ pseudo_of j e (header e 0 t) → OneWay d e (header d 0 c) (header e 0 t)
opened_as (Ipv4 s1 i1 f1 t1 c1 o1) (Ipv4 s2 i2 f2 t2 c2 o2) d e c t f g dl el sc st h = by_v4 d e (header d 0 c) (header e 0 t) f.source f.destination g.source g.destination dl el h
opened_as (Ipv6 c1 h1) (Ipv6 c2 h2) d e c t f g dl el sc st h = by_v6 d e (header d 0 c) (header e 0 t) f.source f.destination g.source g.destination dl el h
opened_as (Ipv4 s1 i1 f1 t1 c1 o1) (Ipv6 c2 h2) d e c t f g dl el sc st h = absurd (mixed d e c (header e 0 t) f.source f.destination g.source g.destination el sc h)
opened_as (Ipv6 c1 h1) (Ipv4 s2 i2 f2 t2 c2 o2) d e c t f g dl el sc st h = absurd (mixed e d t (header d 0 c) g.source g.destination f.source f.destination dl st (sym h))

-- a pseudo-header is of this family, with nothing behind it
lengths_as : (i : IpHeader) (d : Segment) → FitsIp i d → tcp_length d < 65536
lengths_as (Ipv4 s i f t c o) d g = let all = g.total in omega arith
lengths_as (Ipv6 c h) d g = g.total

long_v4 : (d : Segment) → IsV4 d.source.address → IsV4 d.destination.address → length (octets d.source.address ++ (octets d.destination.address ++ (0 ∷ 6 ∷ put2 (tcp_length d) []))) ≡ 12
unfolding put2
long_v4 d s t =
    let tail : List ℕ = 0 ∷ 6 ∷ put2 (tcp_length d) [] in
    omega (arith, length-append (octets d.source.address) (octets d.destination.address ++ tail), length-append (octets d.destination.address) tail, v4_long d.source.address s, v4_long d.destination.address t)

long_v6 : (d : Segment) → IsV6 d.source.address → IsV6 d.destination.address → length (octets d.source.address ++ (octets d.destination.address ++ put4 (tcp_length d) (0 ∷ 0 ∷ 0 ∷ 6 ∷ []))) ≡ 40
unfolding put4
long_v6 d s t =
    let tail : List ℕ = put4 (tcp_length d) (0 ∷ 0 ∷ 0 ∷ 6 ∷ []) in
    omega (arith, length-append (octets d.source.address) (octets d.destination.address ++ tail), length-append (octets d.destination.address) tail, v6_long d.source.address s, v6_long d.destination.address t)

said_as : (i j : IpHeader) (d e : Segment) → FitsIp i d → FitsIp j e → tcp_length d < 65536 → tcp_length e < 65536 → pseudo_of i d [] ≡ pseudo_of j e [] → Pseudo d e
said_as (Ipv4 s1 i1 f1 t1 c1 o1) (Ipv4 s2 i2 f2 t2 c2 o2) d e f g dl el h = (by_v4 d e [] [] f.source f.destination g.source g.destination dl el h).said
said_as (Ipv6 c1 h1) (Ipv6 c2 h2) d e f g dl el h = (by_v6 d e [] [] f.source f.destination g.source g.destination dl el h).said
said_as (Ipv4 s1 i1 f1 t1 c1 o1) (Ipv6 c2 h2) d e f g dl el h =
    absurd (omega (arith, ap length h, long_v4 d f.source f.destination, long_v6 e g.source g.destination))
said_as (Ipv6 c1 h1) (Ipv4 s2 i2 f2 t2 c2 o2) d e f g dl el h =
    absurd (omega (arith, ap length h, long_v6 d f.source f.destination, long_v4 e g.source g.destination))

no_v6 : (a b : Address) → a ≡ b → IsV4 a → IsV6 b → ⊥
no_v6 (V4 x) (V4 y) e h k = k
no_v6 (V4 x) (V6 y) e h k = absurd (cc)
no_v6 (V6 x) b e h k = h

says_as : (i j : IpHeader) (d e : Segment) → FitsIp i d → FitsIp j e → Pseudo d e → pseudo_of i d [] ≡ pseudo_of j e []
says_as (Ipv4 s1 i1 f1 t1 c1 o1) (Ipv4 s2 i2 f2 t2 c2 o2) d e f g p = rw (p.source, p.destination, p.size) refl
says_as (Ipv6 c1 h1) (Ipv6 c2 h2) d e f g p = rw (p.source, p.destination, p.size) refl
says_as (Ipv4 s1 i1 f1 t1 c1 o1) (Ipv6 c2 h2) d e f g p = absurd (no_v6 d.source.address e.source.address p.source f.source g.source)
says_as (Ipv6 c1 h1) (Ipv4 s2 i2 f2 t2 c2 o2) d e f g p = absurd (no_v6 e.source.address d.source.address (sym p.source) g.source f.source)

pub said : (d e : Segment) → Fits d → Fits e → pseudo d [] ≡ pseudo e [] → Pseudo d e
unfolding pseudo
said d e f g h = said_as d.ip e.ip d e f.ip g.ip (lengths_as d.ip d f.ip) (lengths_as e.ip e g.ip) h

pub says : (d e : Segment) → Fits d → Fits e → Pseudo d e → pseudo d [] ≡ pseudo e []
unfolding pseudo
says d e f g p = says_as d.ip e.ip d e f.ip g.ip p

-- ---- what is covered

taken : (n x : ℕ) (xs : List ℕ) → 0 < n → take n (x ∷ xs) ≡ x ∷ take (n - 1) xs
taken zero x xs h = absurd (omega arith)
taken (suc n) x xs h = let e : suc n - 1 ≡ n = omega arith in rw e refl

starts_all : (area : List ℕ) (ao : Ao) → find_ao area ≡ One ao → Starts (covered true area ao)
unfolding find_ao options_of
starts_all [] ao e = absurd (cc)
starts_all (zero ∷ rest) ao e = absurd (cc)
starts_all (suc k ∷ rest) ao e =
    let behind : List ℕ = replicate (length ao.mac) 0 ++ drop (ao.place + 4 + length ao.mac) (suc k ∷ rest) in
    (k, take (ao.place + 4 - 1) rest ++ behind, ap (λ (l : List ℕ). l ++ behind) (taken (ao.place + 4) (suc k) rest (omega arith)))

starts : (flag : Bool) (area : List ℕ) (ao : Ao) → find_ao area ≡ One ao → Starts (covered flag area ao)
starts true area ao e = starts_all area ao e
starts false area ao e = (28, (4 + length ao.mac) ∷ ao.key_id ∷ ao.rnext_key_id ∷ replicate (length ao.mac) 0, refl)

starts_more : (c p : List ℕ) → Starts c → Starts (c ++ p)
starts_more c p s = (s.0, s.1 ++ p, ap (λ (l : List ℕ). l ++ p) s.2)

-- one option is found
pub one_of : (area : List ℕ) (p q : Ao) → find_ao area ≡ One p → find_ao area ≡ One q → p ≡ q
one_of area p q x y = one_is p q (sym x ∙ y)
  where
    one_is : (p q : Ao) → One p ≡ One q → p ≡ q
    one_is p q h = cc

-- ---- the whole input

-- the parts of two inputs are equal
pub record SameParts (x y : ℕ) (d e : Segment) (p q : Ao) (f g : Bool) : Type 0 where
  pub extension : x ≡ y
  pub header_is : header d 0 [] ≡ header e 0 []
  pub pseudo_is : pseudo d [] ≡ pseudo e []
  pub covered_is : covered f d.area p ≡ covered g e.area q
  pub payload_is : d.payload ≡ e.payload

-- the input in its parts
in_parts : (number : ℕ) (d : Segment) (ao : Ao) (flag : Bool) → mac_input number d ao flag ≡ put4 (number / 4294967296) (pseudo d [] ++ (header d 0 [] ++ (covered flag d.area ao ++ d.payload)))
unfolding mac_input
in_parts number d ao flag =
    let rest : List ℕ = covered flag d.area ao ++ d.payload in
    ap (λ (l : List ℕ). put4 (number / 4294967296) (pseudo d l)) (header-append d 0 rest) ∙ ap (put4 (number / 4294967296)) (pseudo-append d (header d 0 [] ++ rest))

pub of_parts : (n m x y : ℕ) (d e : Segment) (p q : Ao) (f g : Bool) → n / 4294967296 ≡ x → m / 4294967296 ≡ y → SameParts x y d e p q f g → mac_input n d p f ≡ mac_input m e q g
of_parts n m x y d e p q f g en em s =
    let same : n / 4294967296 ≡ m / 4294967296 = en ∙ (s.extension ∙ sym em) in
    let left : mac_input n d p f ≡ put4 (m / 4294967296) (pseudo e [] ++ (header e 0 [] ++ (covered g e.area q ++ e.payload))) =
    in_parts n d p f ∙ rw (same, s.pseudo_is, s.header_is, s.covered_is, s.payload_is) refl in
    left ∙ sym (in_parts m e q g)

same_areas : (d e : Segment) → Fits d → Fits e → header d 0 [] ≡ header e 0 [] → length d.area ≡ length e.area
same_areas d e f g h =
    let offset = (header_law d e 0 [] [] h).offset in
    let one = f.area.words in
    let two = g.area.words in
    let three = f.reserved in
    let four = g.reserved in
    omega arith

header_long : (d : Segment) → length (header d 0 []) ≡ 20
unfolding header put2 put4
header_long d = refl

pub to_parts : (n m x y : ℕ) (d e : Segment) (p q : Ao) (f g : Bool) → Fits d → Fits e → find_ao d.area ≡ One p → find_ao e.area ≡ One q
    → x < 4294967296 → y < 4294967296 → n / 4294967296 ≡ x → m / 4294967296 ≡ y → mac_input n d p f ≡ mac_input m e q g → SameParts x y d e p q f g
unfolding mac_input pseudo
to_parts n m x y d e p q f g fd fe od oe hx hy en em h =
    let c : List ℕ = covered f d.area p ++ d.payload in
    let t : List ℕ = covered g e.area q ++ e.payload in
    let one = put4_law (n / 4294967296) (m / 4294967296) (pseudo d (header d 0 c)) (pseudo e (header e 0 t)) h in
    let number = one.0 in
    let dl = lengths_as d.ip d fd.ip in
    let el = lengths_as e.ip e fe.ip in
    let two = opened_as d.ip e.ip d e c t fd.ip fe.ip dl el (starts_more (covered f d.area p) d.payload (starts f d.area p od)) (starts_more (covered g e.area q) e.payload (starts g e.area q oe)) one.1 in
    let cut : header d 0 [] ++ c ≡ header e 0 [] ++ t = sym (header-append d 0 c) ∙ (two.rest ∙ header-append e 0 t) in
    let three = append_split (header d 0 []) (header e 0 []) c t (header_long d ∙ sym (header_long e)) cut in
    let areas = same_areas d e fd fe three.0 in
    let size = two.said.size in
    let all : length c ≡ length t = ap length three.1 in
    let covers : length (covered f d.area p) ≡ length (covered g e.area q) =
    omega (arith, length-append (covered f d.area p) d.payload, length-append (covered g e.area q) e.payload) in
    let four = append_split (covered f d.area p) (covered g e.area q) d.payload e.payload covers three.1 in
    record {
      extension = omega arith;
      header_is = three.0;
      pseudo_is = says d e fd fe two.said;
      covered_is = four.0;
      payload_is = four.1;
    }
