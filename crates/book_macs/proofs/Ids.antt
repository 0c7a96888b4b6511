-- Equal MAC inputs have equal ids, and all else that the MAC protects.
use Rattle.std.proofs.Common.{◌≡◌, ℕ, zero, suc, ◌+◌, ◌-◌, ◌*◌, ◌/◌, ◌%◌, ◌^◌, ◌<◌, ◌≤◌, nat_lt, Bool, true, false, List, [], ◌∷◌, ◌++◌, length, take, drop, replicate, slice_index, refl, sym, ap, ◌∙◌, arith, length-append, append-nil}
use Rattle.std.proofs.lemmas.Bool.Decides.{nat_tests}
use Rattle.std.proofs.lemmas.List.{length-replicate}
use Rattle.book_base.specs.declared.address.Address.{Address}
use Rattle.book_base.specs.declared.address.Address.TheVariants.{V4, V6}
use Rattle.book_segments.specs.Sockets.{octets}
use Rattle.book_segments.specs.Options.{Opt, option_front, options_of, of_kind, listed, Ao, One, ao_of, found, find_ao}
use Rattle.book_segments.specs.Segments.{IpHeader, Ipv4, Ipv6, Segment, tcp_length}
use Rattle.book_segments.specs.Spelling.{FitsIp, IsV4, IsV6}
use Rattle.book_segments.proofs.OptionFronts.{Leading, by_front, walked, options_from}
use Rattle.book_segments.proofs.Blanked.{blanked, length-blanked, blank_option, blanks, leading, take_exact, drop_exact}
use Rattle.book_segments.proofs.Fields.{append_split}
use Rattle.book_macs.specs.MacInput.{covered, mac_input}
use Rattle.book_macs.specs.Meaning.{SameFamily, NumberedSegment, SameMeaning}
use Rattle.book_macs.proofs.Telling.{opened}

-- the area that the MAC covers has this one option, with these ids
record HasIds (area : List ℕ) (ao : Ao) : Type 0 where
  other : Ao
  option : find_ao area ≡ One other
  key_id : other.key_id ≡ ao.key_id
  rnext_key_id : other.rnext_key_id ≡ ao.rnext_key_id

covered_is : (place m : ℕ) (area : List ℕ) → place + 4 + m ≤ length area → take (place + 4) area ++ (replicate m 0 ++ drop (place + 4 + m) area) ≡ blanked place m area
covered_is zero m area h = refl
covered_is (suc place) m [] h = absurd (omega arith)
covered_is (suc place) m (x ∷ area) h =
    let one : suc place + 4 ≡ suc (place + 4) = omega arith in
    let two : suc place + 4 + m ≡ suc (place + 4 + m) = omega arith in
    ap (λ i. take i (x ∷ area) ++ (replicate m 0 ++ drop (suc place + 4 + m) (x ∷ area))) one
    ∙ ap (λ i. take (suc (place + 4)) (x ∷ area) ++ (replicate m 0 ++ drop i (x ∷ area))) two
    ∙ ap (λ l. x ∷ l) (covered_is place m area (omega arith))

one_is : (a b : Ao) → One a ≡ One b → a ≡ b
one_is a b e = cc

-- what one option that is found was found among
record FoundOne (ours md5 : List Opt) (ao : Ao) : Type 0 where
  option : Opt
  ours_is : ours ≡ option ∷ []
  md5_is : md5 ≡ []
  ao_is : ao_of option ≡ ao

found_one : (ours md5 : List Opt) (ao : Ao) → found ours md5 ≡ One ao → FoundOne ours md5 ao
found_one [] md5 ao e = absurd (cc)
found_one (o ∷ p ∷ os) md5 ao e = absurd (cc)
found_one (o ∷ []) (m ∷ ms) ao e = absurd (cc)
found_one (o ∷ []) [] ao e = record { option = o; ours_is = refl; md5_is = refl; ao_is = one_is (ao_of o) ao e }

ids_of : (body : List ℕ) (m : ℕ) → 2 ≤ length body
    → (slice_index (take 2 body ++ replicate m 0) 0 ≡ slice_index body 0) × (slice_index (take 2 body ++ replicate m 0) 1 ≡ slice_index body 1)
ids_of [] m h = absurd (omega arith)
ids_of (x ∷ []) m h = absurd (omega arith)
ids_of (x ∷ y ∷ body) m h = (refl, refl)

length-rest : (body : List ℕ) → length (drop 2 body) ≡ length body - 2
length-rest [] = refl
length-rest (x ∷ []) = refl
length-rest (x ∷ y ∷ body) = omega arith

-- with the options
ids_with : (area : List ℕ) (ao : Ao) → find_ao area ≡ One ao → HasIds (covered true area ao) ao
unfolding find_ao options_of
ids_with area ao e =
    let list = listed (options_from (suc (length area)) 0 area) in
    let one = found_one (of_kind 29 list) (of_kind 19 list) ao e in
    let o = one.option in
    let b = blanks (suc (length area)) 0 area o one.ours_is in
    let m = length o.body - 2 in
    let two = b.two in
    let within = b.within in
    let place = b.place in
    let place_is : ao.place ≡ b.offset = ap (λ (x : Ao). x.place) (sym one.ao_is) ∙ (let h : o.place ≡ b.offset = omega arith in h) in
    let mac_is : length ao.mac ≡ m = ap (λ (x : Ao). length x.mac) (sym one.ao_is) ∙ length-rest o.body in
    let area_is : covered true area ao ≡ blanked b.offset m area =
    covered_is ao.place (length ao.mac) area (omega arith) ∙ ap (λ i. blanked i (length ao.mac) area) place_is ∙ ap (λ i. blanked b.offset i area) mac_is in
    let long : length (blanked b.offset m area) ≡ length area = length-blanked b.offset m area (omega arith) in
    let options_is : options_from (suc (length (covered true area ao))) 0 (covered true area ao) ≡ options_from (suc (length area)) 0 (blanked b.offset m area) =
    ap (λ (l : List ℕ). options_from (suc (length l)) 0 l) area_is ∙ ap (λ i. options_from (suc i) 0 (blanked b.offset m area)) long in
    let ours : of_kind 29 (listed (options_from (suc (length (covered true area ao))) 0 (covered true area ao))) ≡ blank_option o ∷ [] = ap (λ x. of_kind 29 (listed x)) options_is ∙ b.ao in
    let md5 : of_kind 19 (listed (options_from (suc (length (covered true area ao))) 0 (covered true area ao))) ≡ [] = ap (λ x. of_kind 19 (listed x)) options_is ∙ b.md5 ∙ one.md5_is in
    let ids = ids_of o.body m two in
    record {
      other = ao_of (blank_option o);
      option = ap (λ x. found x (of_kind 19 (listed (options_from (suc (length (covered true area ao))) 0 (covered true area ao))))) ours ∙ ap (λ x. found (blank_option o ∷ []) x) md5;
      key_id = ids.0 ∙ ap (λ (x : Ao). x.key_id) one.ao_is;
      rnext_key_id = ids.1 ∙ ap (λ (x : Ao). x.rnext_key_id) one.ao_is;
    }

-- the option alone
ids_without : (m key_id rnext_key_id : ℕ) → find_ao (29 ∷ (4 + m) ∷ key_id ∷ rnext_key_id ∷ replicate m 0) ≡ One (record { key_id = key_id; rnext_key_id = rnext_key_id; mac = replicate m 0; place = 0 })
unfolding find_ao options_of
ids_without m key_id rnext_key_id =
    let body = key_id ∷ rnext_key_id ∷ replicate m 0 in
    let zeros : length (replicate {A = ℕ} m 0) ≡ m = length-replicate m 0 in
    let body_long : length body ≡ 4 + m - 2 = omega arith in
    let low : nat_lt (4 + m) 4 ≡ false = grind (arith, nat_tests) in
    let high : nat_lt (length body + 2) (4 + m) ≡ false = grind (arith, nat_tests) in
    let whole : take (4 + m - 2) body ≡ body = ap (take (4 + m - 2)) (sym (append-nil body)) ∙ take_exact body [] (4 + m - 2) body_long in
    let none : drop (4 + m - 2) body ≡ [] = ap (drop (4 + m - 2)) (sym (append-nil body)) ∙ drop_exact body [] (4 + m - 2) body_long in
    let front_is : option_front (29 ∷ (4 + m) ∷ body) ≡ Leading 29 body (4 + m) [] =
    leading 27 (4 + m) body low high ∙ ap (λ b. Leading 29 b (4 + m) (drop (4 + m - 2) body)) whole ∙ ap (λ l. Leading 29 body (4 + m) l) none in
    ap (λ f. found (of_kind 29 (listed (by_front f 0 (walked (length (29 ∷ (4 + m) ∷ body)))))) (of_kind 19 (listed (by_front f 0 (walked (length (29 ∷ (4 + m) ∷ body))))))) front_is

ids : (flag : Bool) (area : List ℕ) (ao : Ao) → find_ao area ≡ One ao → HasIds (covered flag area ao) ao
ids true area ao e = ids_with area ao e
ids false area ao e =
    record {
      other = record { key_id = ao.key_id; rnext_key_id = ao.rnext_key_id; mac = replicate (length ao.mac) 0; place = 0 };
      option = ids_without (length ao.mac) ao.key_id ao.rnext_key_id;
      key_id = refl;
      rnext_key_id = refl;
    }

pub v4_long : (a : Address) → IsV4 a → length (octets a) ≡ 4
v4_long (V4 bytes) h = h.0
v4_long (V6 bytes) h = absurd h

pub v6_long : (a : Address) → IsV6 a → length (octets a) ≡ 16
v6_long (V4 bytes) h = absurd h
v6_long (V6 bytes) h = h.0

-- addresses of one family are of one length, and TCP lengths are small
record Sizes (d e : Segment) : Type 0 where
  source : length (octets d.source.address) ≡ length (octets e.source.address)
  destination : length (octets d.destination.address) ≡ length (octets e.destination.address)
  one : tcp_length d < 65536
  two : tcp_length e < 65536

sizes : (i j : IpHeader) (d e : Segment) → SameFamily i j → FitsIp i d → FitsIp j e → Sizes d e
sizes (Ipv4 a b c f g o) (Ipv4 a2 b2 c2 f2 g2 o2) d e same h k =
    let low = h.total in
    let high = k.total in
    record {
      source = v4_long d.source.address h.source ∙ sym (v4_long e.source.address k.source);
      destination = v4_long d.destination.address h.destination ∙ sym (v4_long e.destination.address k.destination);
      one = omega arith;
      two = omega arith;
    }
sizes (Ipv6 a b) (Ipv6 a2 b2) d e same h k =
    record {
      source = v6_long d.source.address h.source ∙ sym (v6_long e.source.address k.source);
      destination = v6_long d.destination.address h.destination ∙ sym (v6_long e.destination.address k.destination);
      one = h.total;
      two = k.total;
    }
sizes (Ipv4 a b c f g o) (Ipv6 a2 b2) d e same h k = absurd same
sizes (Ipv6 a b) (Ipv4 a2 b2 c2 f2 g2 o2) d e same h k = absurd same

same_area : (la ra lb rb : ℕ) → 80 + 4 * la + ra ≡ 80 + 4 * lb + rb → la % 4 ≡ 0 → lb % 4 ≡ 0 → ra < 16 → rb < 16 → la ≡ lb
same_area la ra lb rb e a b c d = omega arith

same_number : (n m s t : ℕ) → n < 2 ^ 64 → m < 2 ^ 64 → n % 4294967296 ≡ s → m % 4294967296 ≡ t → n / 4294967296 % 4294967296 ≡ m / 4294967296 % 4294967296
    → s % 4294967296 ≡ t % 4294967296 → n ≡ m
same_number n m s t a b c d e f = omega arith

same_16 : (n m : ℕ) → n < 65536 → m < 65536 → n % 65536 ≡ m % 65536 → n ≡ m
same_16 n m a b e = omega arith

same_32 : (n m : ℕ) → n < 4294967296 → m < 4294967296 → n % 4294967296 ≡ m % 4294967296 → n ≡ m
same_32 n m a b e = omega arith

pub equal_inputs_equal_meaning : (n m : ℕ) (d e : Segment) (p q : Ao) (f g : Bool) → NumberedSegment n d p → NumberedSegment m e q → SameFamily d.ip e.ip → length p.mac ≡ length q.mac
    → mac_input n d p f ≡ mac_input m e q g → SameMeaning n m d e p q
equal_inputs_equal_meaning n m d e p q f g one two family macs same =
    let fd = one.fits in
    let fe = two.fits in
    let z = sizes d.ip e.ip d e family fd.ip fe.ip in
    let small_one = z.one in
    let small_two = z.two in
    let o = opened n m d e p q f g family z.source z.destination same in
    let h = o.header in
    let areas = same_area (length d.area) d.reserved (length e.area) e.reserved h.offset fd.area.words fe.area.words fd.reserved fe.reserved in
    let lengths : tcp_length d ≡ tcp_length e = same_16 (tcp_length d) (tcp_length e) small_one small_two o.size in
    let payloads : length d.payload ≡ length e.payload = omega arith in
    let whole = ap (λ (l : List ℕ). length l) h.rest in
    let left = length-append (covered f d.area p) d.payload in
    let right = length-append (covered g e.area q) e.payload in
    let parts = append_split (covered f d.area p) (covered g e.area q) d.payload e.payload (omega arith) h.rest in
    let ours = ids f d.area p one.option in
    let theirs = ids g e.area q two.option in
    let other : ours.other ≡ theirs.other = one_is ours.other theirs.other (sym ours.option ∙ ap find_ao parts.0 ∙ theirs.option) in
    record {
      number = same_number n m d.sequence e.sequence one.number two.number one.sequence two.sequence o.extension h.sequence;
      sequence = same_32 d.sequence e.sequence fd.sequence fe.sequence h.sequence;
      acknowledgement = same_32 d.acknowledgement e.acknowledgement fd.acknowledgement fe.acknowledgement h.acknowledgement;
      flags = h.flags;
      window = same_16 d.window e.window fd.window fe.window h.window;
      key_id = sym ours.key_id ∙ ap (λ (x : Ao). x.key_id) other ∙ theirs.key_id;
      rnext_key_id = sym ours.rnext_key_id ∙ ap (λ (x : Ao). x.rnext_key_id) other ∙ theirs.rnext_key_id;
      payload = parts.1;
    }
