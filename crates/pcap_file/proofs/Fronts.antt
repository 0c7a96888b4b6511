-- What stands at the front of a file stays there, whatever follows.
use Rattle.std.proofs.Common.{◌≡◌, ℕ, ◌+◌, ◌-◌, ◌<◌, ◌≤◌, inl, inr, List, [], ◌++◌, length, take, drop, Option, Some, None, Result, Ok, Err, refl, sym, ap, ◌∙◌, arith}
use Rattle.std.proofs.lemmas.Bool.{cases_eq, cases_lt, lt-ltb, le-ltb}
use Rattle.std.proofs.lemmas.List.{length-append, length-take-le, length-drop, nil_from_length, take-append-drop, drop-append-le}
use Rattle.std.proofs.Math.Seq.{take-append_seam, drop-append_seam}
use Rattle.book_pcap.specs.declared.pcap_head.ByteOrder.{ByteOrder}
use Rattle.book_pcap.specs.declared.pcap_head.Head.{Head}
use Rattle.book_pcap.specs.declared.pcap_head.HeadFault.{HeadFault}
use Rattle.book_base.specs.Fronts.{Ends, Leads}
use Rattle.book_pcap.specs.Packets.{Kept, four_at, record_at, head_of, and_rest, opened}
use Rattle.book_pcap.proofs.Captures.{record_none, record_short, record_over, record_part, record_whole, none_at}
use Rattle.pcap_file.specs.Reads.{opened_from}
use Rattle.pcap_file.proofs.Parts.{four_in_front}

-- a record and what follows it
pub record RecordFront (order : ByteOrder) (text : List ℕ) (kept : Kept) (rest : List ℕ) : Type 0 where
  pub past : List ℕ
  pub split : text ≡ past ++ rest
  pub some : 16 ≤ length past
  pub stays : (more : List ℕ) → record_at order (past ++ more) ≡ Leads kept more

-- a record of these bytes alone, in front of others
module _ (order : ByteOrder) (past : List ℕ) (len : ℕ) (size : length past ≡ 16 + len) (len_is : four_at order past 8 ≡ len) (fits : len ≤ 262144) where
  alone : (more : List ℕ) → record_at order (past ++ more) ≡ Leads (record { seconds = four_at order past 0; bytes = drop 16 past }) more
  alone more =
      let whole = length-append past more in
      let rest : length (drop 16 past) ≡ length past - 16 = length-drop 16 past in
      let count : four_at order (past ++ more) 8 ≡ len = four_in_front order past more 8 (omega arith) ∙ len_is in
      let time : four_at order (past ++ more) 0 ≡ four_at order past 0 = four_in_front order past more 0 (omega arith) in
      let bytes : take len (drop 16 (past ++ more)) ≡ drop 16 past =
      ap (take len) (drop-append-le 16 past more (omega arith)) ∙ (ap (λ n. take n (drop 16 past ++ more)) (omega arith) ∙ take-append_seam (drop 16 past) more) in
      let after : drop (16 + len) (past ++ more) ≡ more = ap (λ n. drop n (past ++ more)) (sym size) ∙ drop-append_seam past more in
      let few : four_at order (past ++ more) 8 ≤ 262144 = rw count fits in
      let all : 16 + four_at order (past ++ more) 8 ≤ length (past ++ more) = rw count (omega arith) in
      rw (count, time, bytes, after) at (record_whole order (past ++ more) (omega arith) few all)

whole_front : (order : ByteOrder) (text : List ℕ) (kept : Kept) (rest : List ℕ) → 16 ≤ length text → four_at order text 8 ≤ 262144 → 16 + four_at order text 8 ≤ length text →
    record_at order text ≡ Leads kept rest → RecordFront order text kept rest
whole_front order text kept rest long fits all is =
    let len : ℕ = four_at order text 8 in
    let past : List ℕ = take (16 + len) text in
    let behind : List ℕ = drop (16 + len) text in
    let split : past ++ behind ≡ text = take-append-drop (16 + len) text in
    let size : length past ≡ 16 + len = length-take-le (16 + len) text all in
    let len_is : four_at order past 8 ≡ len = sym (four_in_front order past behind 8 (omega arith)) ∙ ap (λ xs. four_at order xs 8) split in
    let here : record_at order text ≡ Leads (record { seconds = four_at order past 0; bytes = drop 16 past }) behind =
    ap (record_at order) (sym split) ∙ alone order past len size len_is fits behind in
    let same = sym here ∙ is in
    let kept_is : record { seconds = four_at order past 0; bytes = drop 16 past } ≡ kept = cc in
    let rest_is : behind ≡ rest = cc in
    record {
      past = past;
      split = sym split ∙ ap (λ xs. past ++ xs) rest_is;
      some = omega arith;
      stays = λ more. alone order past len size len_is fits more ∙ ap (λ k. Leads k more) kept_is;
    }

-- a whole record stays one
pub record_front : (order : ByteOrder) (text : List ℕ) (kept : Kept) (rest : List ℕ) → record_at order text ≡ Leads kept rest → RecordFront order text kept rest
record_front order text kept rest is =
    elim (cases_eq (length text) 0) [
      | inl none ↦ let bad = sym (none_at order text none) ∙ is in absurd (cc)
      | inr some ↦ elim (cases_lt (length text) 16) [
        | inl short ↦ let bad = sym (record_short order text (omega arith) short) ∙ is in absurd (cc)
        | inr long ↦ elim (cases_lt 262144 (four_at order text 8)) [
          | inl over ↦ let bad = sym (record_over order text long over) ∙ is in absurd (cc)
          | inr fits ↦ elim (cases_lt (length text) (16 + four_at order text 8)) [
            | inl part ↦ let bad = sym (record_part order text long fits part) ∙ is in absurd (cc)
            | inr all ↦ whole_front order text kept rest long fits all is
          ]
        ]
      ]
    ]

-- a header, where it wasn't read before, and what follows it
pub record HeadFront (had : Option Head) (text : List ℕ) (head : Head) (body : List ℕ) : Type 0 where
  pub past : List ℕ
  pub split : text ≡ past ++ body
  pub stays : (more : List ℕ) → opened_from had (past ++ more) ≡ Ok (head, more)

opened_long : (text more : List ℕ) → length text ≡ 24 → opened (text ++ more) ≡ and_rest (head_of text) more
opened_long text more size =
    let whole = length-append text more in
    let front : take 24 (text ++ more) ≡ text = ap (λ n. take n (text ++ more)) (sym size) ∙ take-append_seam text more in
    let after : drop 24 (text ++ more) ≡ more = ap (λ n. drop n (text ++ more)) (sym size) ∙ drop-append_seam text more in
    rw (le-ltb (length (text ++ more)) 24 (omega arith), front, after) refl

ok_parts : (one two : Head) (xs ys : List ℕ) → and_rest (Ok one) xs ≡ Ok (two, ys) → (one ≡ two) × (xs ≡ ys)
ok_parts one two xs ys is =
    let pair : ◌≡◌ {A = Head × List ℕ} (one, xs) (two, ys) = cc in
    (ap (λ p. p.0) pair, ap (λ p. p.1) pair)

and_front : (r : Result Head HeadFault) (past rest : List ℕ) (head : Head) (body : List ℕ) → and_rest r rest ≡ Ok (head, body) →
    ((more : List ℕ) → opened (past ++ more) ≡ and_rest r more) → HeadFront None (past ++ rest) head body
and_front (Ok found) past rest head body is stays =
    let same = ok_parts found head rest body is in
    let head_is : found ≡ head = same.0 in
    let rest_is : rest ≡ body = same.1 in
    record { past = past; split = ap (λ xs. past ++ xs) rest_is; stays = λ more. stays more ∙ ap (λ h. Ok (h, more)) head_is }
and_front (Err fault) past rest head body is stays = absurd (cc)

long_front : (text : List ℕ) (head : Head) (body : List ℕ) → 24 ≤ length text → opened text ≡ Ok (head, body) → HeadFront None text head body
long_front text head body long is =
    let past : List ℕ = take 24 text in
    let behind : List ℕ = drop 24 text in
    let split : past ++ behind ≡ text = take-append-drop 24 text in
    let size : length past ≡ 24 = length-take-le 24 text long in
    let here : opened text ≡ and_rest (head_of past) behind = ap opened (sym split) ∙ opened_long past behind size in
    rw split at (and_front (head_of past) past behind head body (sym here ∙ is) (λ more. opened_long past more size))

opened_short : (text : List ℕ) → length text < 24 → opened text ≡ Err HeadFault.Short
opened_short text lt = rw (lt-ltb (length text) 24 lt) refl

-- a header stays one
pub head_front : (had : Option Head) (text : List ℕ) (head : Head) (body : List ℕ) → opened_from had text ≡ Ok (head, body) → HeadFront had text head body
head_front (Some known) text head body is =
    let same = ok_parts known head text body is in
    let head_is : known ≡ head = same.0 in
    let body_is : text ≡ body = same.1 in
    record { past = []; split = body_is; stays = λ more. ap (λ h. Ok (h, more)) head_is }
head_front None text head body is = elim (cases_lt (length text) 24) [
  | inl short ↦ let bad = sym (opened_short text short) ∙ is in absurd (cc)
  | inr long ↦ long_front text head body long is
]
