-- A buffer that holds a draft, whatever stands in its MAC, its payload and its checksum.
use Rattle.std.proofs.Common.{◌≡◌, ℕ, ◌+◌, ◌-◌, ◌≤◌, true, List, ◌++◌, length, take, drop, Option, Some, None, refl, sym, ap, ◌∙◌, arith, length-take, length-drop}
use Rattle.std.specs.Prelude.{slice_range, is_none}
use Rattle.std.specs.Coded.{coded_ℕ, coded_list, coded_bool, le_prop}
use Rattle.std.proofs.Math.Nat.{le_trans}
use Rattle.std.proofs.lemmas.List.{take_at, append-nil, take-append-drop, drop-drop}
use denote.Struct.Props.{≡_prop}
use mathlib.Core.HLevel.{⊥_prop}
use mathlib.Core.Logic.{∥∥₁_elim, ∥∥₁_map}
use Rattle.book_segments.specs.declared.fault.DatagramFault.{DatagramFault}
use Rattle.book_segments.specs.Options.{Ao, AoFound, Absent, One, Two, WithMd5, find_ao}
use Rattle.book_segments.specs.Segments.{first_fault, fields, spell}
use Rattle.book_segments.specs.Spelling.{AreBytes, with_sum}
use Rattle.book_segments.proofs.Read.{spelled_by}
use Rattle.tcp_segment.specs.declared.spelling.Head.{Head}
use Rattle.tcp_segment.specs.Places.{IsRead}
use Rattle.tcp_segment.specs.Sums.{IsSet}
use Rattle.tcp_segment.specs.Layout.{drafted, HoldsDraft, IsFront}
use Rattle.tcp_segment.proofs.DraftLaws.{Lies, lies, draft_unfaulted, draft_read, draft_ao, summed}
use Rattle.tcp_segment.proofs.WriteLaws.{before, before_long, parts, regroup3}

part_long : (b : List ℕ) (from to : ℕ) → from ≤ to → to ≤ length b → length (slice_range b from to) ≡ to - from
part_long b from to h k = omega (arith, length-take (to - from) (drop from b), length-drop from b)

cut_two : (b : List ℕ) (from to : ℕ) → from ≤ to → drop from b ≡ slice_range b from to ++ drop to b
cut_two b from to h =
    let n : from + (to - from) ≡ to = omega arith in
    sym (take-append-drop (to - from) (drop from b)) ∙ ap (λ (l : List ℕ). slice_range b from to ++ l) (drop-drop (to - from) from b ∙ ap (λ (k : ℕ). drop k b) n)

cut_three : (b : List ℕ) (i j k : ℕ) → i ≤ j → j ≤ k → b ≡ take i b ++ (slice_range b i j ++ (slice_range b j k ++ drop k b))
cut_three b i j k h l =
    sym (take-append-drop i b) ∙ ap (λ (t : List ℕ). take i b ++ t) (cut_two b i j h ∙ ap (λ (t : List ℕ). slice_range b i j ++ t) (cut_two b j k l))

-- the bytes are the segment of some head, MAC and payload, with some TCP checksum, and then a rest
pub record IsDraft (b : List ℕ) (header mac payload len : ℕ) : Type 0 where
  pub head : Head
  pub checksum : ℕ
  pub code : List ℕ
  pub text : List ℕ
  pub rest : List ℕ
  pub holds : HoldsDraft b header mac payload len head checksum code text rest

held : {b : List ℕ} {header mac payload len c : ℕ} {h : Head} {code text rest : List ℕ} → HoldsDraft b header mac payload len h c code text rest → IsDraft b header mac payload len
held {c = c} {h = h} {code = code} {text = text} {rest = rest} D = record { head = h; checksum = c; code = code; text = text; rest = rest; holds = D }

-- its front is one of a draft
pub front_held : {b : List ℕ} {header mac payload len c : ℕ} {h : Head} {code text rest : List ℕ} → HoldsDraft b header mac payload len h c code text rest → IsFront (take mac b) header mac payload len
front_held {b = b} {mac = mac} {len = len} {c = c} {h = h} {code = code} {text = text} {rest = rest} D =
    let B : List ℕ = before h c (length code) (length text) in
    let lb = before_long h c (length code) (length text) D.head.family in
    let is : b ≡ B ++ (code ++ (text ++ rest)) = D.bytes ∙ (ap (λ (l : List ℕ). l ++ rest) (parts h c code text) ∙ regroup3 B code text rest) in
    let front : take mac b ≡ B = ap (take mac) is ∙ take_at B (code ++ (text ++ rest)) mac (omega (arith, lb, D.mac_is)) in
    record {
      head = h;
      checksum = c;
      code = code;
      text = text;
      holds = record {
        bytes = ap (λ (l : List ℕ). l ++ (code ++ text)) front ∙ (sym (parts h c code text) ∙ sym (append-nil (spell (with_sum (drafted h code text) c))));
        head = D.head;
        checksum_fits = D.checksum_fits;
        header_is = D.header_is;
        mac_is = D.mac_is;
        payload_is = D.payload_is;
        len_is = D.len_is;
        mac_length = D.mac_length;
        most = D.most;
      };
    }

-- with such a front it is a draft, whatever stands behind
front_holds : {b : List ℕ} {header mac payload len : ℕ} → mac ≤ payload → payload ≤ len → len ≤ length b → IsFront (take mac b) header mac payload len → IsDraft b header mac payload len
front_holds {b = b} {mac = mac} {payload = payload} {len = len} order ends room f =
    let D = f.holds in
    let h : Head = f.head in
    let c : ℕ = f.checksum in
    let B : List ℕ = before h c (length f.code) (length f.text) in
    let code : List ℕ = slice_range b mac payload in
    let text : List ℕ = slice_range b payload len in
    let rest : List ℕ = drop len b in
    let lb = before_long h c (length f.code) (length f.text) D.head.family in
    let lf : length (take mac b) ≡ mac = omega (arith, length-take mac b) in
    let is : take mac b ++ (f.code ++ f.text) ≡ B ++ (f.code ++ f.text) = D.bytes ∙ (append-nil (spell (with_sum (drafted h f.code f.text) c)) ∙ parts h c f.code f.text) in
    let front : take mac b ≡ B = sym (take_at (take mac b) (f.code ++ f.text) mac lf) ∙ (ap (take mac) is ∙ take_at B (f.code ++ f.text) mac (omega (arith, lb, D.mac_is))) in
    let lc : length code ≡ length f.code = omega (arith, part_long b mac payload order (le_trans ends room), D.payload_is, D.mac_is, D.mac_length) in
    let lt : length text ≡ length f.text = omega (arith, part_long b payload len ends room, D.payload_is, D.len_is) in
    let same : B ≡ before h c (length code) (length text) = ap (λ (m : ℕ). before h c m (length f.text)) (sym lc) ∙ ap (before h c (length code)) (sym lt) in
    let cut : b ≡ take mac b ++ (code ++ (text ++ rest)) = cut_three b mac payload len order ends in
    record {
      head = h;
      checksum = c;
      code = code;
      text = text;
      rest = rest;
      holds = record {
        bytes = cut ∙ (ap (λ (l : List ℕ). l ++ (code ++ (text ++ rest))) (front ∙ same) ∙ (sym (regroup3 (before h c (length code) (length text)) code text rest) ∙ ap (λ (l : List ℕ). l ++ rest) (sym (parts h c code text))));
        head = D.head;
        checksum_fits = D.checksum_fits;
        header_is = D.header_is;
        mac_is = D.mac_is;
        payload_is = D.payload_is;
        len_is = omega (arith, D.len_is, lt);
        mac_length = lc ∙ D.mac_length;
        most = D.most;
      };
    }

-- what holds of each draft by its type says that it is one
pub holds_by : {b : List ℕ} {header mac payload len : ℕ} → mac ≤ payload → payload ≤ len → len ≤ length b → ∥ IsFront (take mac b) header mac payload len ∥₁ → ∥ IsDraft b header mac payload len ∥₁
holds_by order ends room headed = ∥∥₁_map headed (front_holds order ends room)

-- where its parts lie
pub holds_lies : {b : List ℕ} {header mac payload len : ℕ} → ∥ IsDraft b header mac payload len ∥₁ → Lies b header mac payload len
holds_lies holds = record {
  header_least = ∥∥₁_elim holds le_prop (λ d. (lies d.holds).header_least);
  mac_behind = ∥∥₁_elim holds le_prop (λ d. (lies d.holds).mac_behind);
  payload_behind = ∥∥₁_elim holds le_prop (λ d. (lies d.holds).payload_behind);
  end_behind = ∥∥₁_elim holds le_prop (λ d. (lies d.holds).end_behind);
  most = ∥∥₁_elim holds le_prop (λ d. (lies d.holds).most);
  room = ∥∥₁_elim holds le_prop (λ d. (lies d.holds).room);
}

none_is : (o : Option DatagramFault) → is_none o ≡ true → o ≡ None
none_is None e = refl
none_is (Some f) e = absurd (cc)

unfaulted : {b : List ℕ} {header mac payload len : ℕ} → ∥ IsDraft b header mac payload len ∥₁ → AreBytes b → first_fault b ≡ None
unfaulted holds bytes = none_is _ (∥∥₁_elim holds (≡_prop coded_bool _ _) (λ d. ap is_none (draft_unfaulted d.holds bytes)))

-- it is read as a datagram
pub holds_read : {b : List ℕ} {header mac payload len : ℕ} → ∥ IsDraft b header mac payload len ∥₁ → AreBytes b → IsRead b (record { header = header; payload = payload; end = len })
holds_read {b = b} holds bytes = record {
  fits = (spelled_by b bytes (unfaulted holds bytes)).fits;
  spelled = ∥∥₁_elim holds (≡_prop (coded_list coded_ℕ) _ _) (λ d. (draft_read d.holds bytes).spelled);
  tcp = ∥∥₁_elim holds (≡_prop (coded_list coded_ℕ) _ _) (λ d. (draft_read d.holds bytes).tcp);
  end = ∥∥₁_elim holds (≡_prop coded_ℕ _ _) (λ d. (draft_read d.holds bytes).end);
  payload = ∥∥₁_elim holds (≡_prop coded_ℕ _ _) (λ d. (draft_read d.holds bytes).payload);
  header = ∥∥₁_elim holds le_prop (λ d. (draft_read d.holds bytes).header);
  room = ∥∥₁_elim holds le_prop (λ d. (draft_read d.holds bytes).room);
}

one_by : (x : AoFound) → ∥ ((ao : Ao) × (x ≡ One ao)) ∥₁ → (ao : Ao) × (x ≡ One ao)
one_by Absent h = absurd (∥∥₁_elim h ⊥_prop (λ a. let e = a.1 in absurd (cc)))
one_by (One ao) h = (ao, refl)
one_by Two h = absurd (∥∥₁_elim h ⊥_prop (λ a. let e = a.1 in absurd (cc)))
one_by WithMd5 h = absurd (∥∥₁_elim h ⊥_prop (λ a. let e = a.1 in absurd (cc)))

-- it has one TCP-AO option
pub holds_ao : {b : List ℕ} {header mac payload len : ℕ} → ∥ IsDraft b header mac payload len ∥₁ → AreBytes b → (ao : Ao) × (find_ao (fields b).area ≡ One ao)
holds_ao {b = b} holds bytes = one_by (find_ao (fields b).area) (∥∥₁_map holds (λ d. draft_ao d.holds bytes))

-- its checksum is set
pub holds_summed : {b after : List ℕ} {header mac payload len : ℕ} → ∥ IsDraft b header mac payload len ∥₁ → AreBytes b → IsSet b after header len → ∥ IsFront (take mac after) header mac payload len ∥₁
holds_summed {after = after} holds bytes set = ∥∥₁_map holds (λ d. front_held (summed after d.holds bytes set))
