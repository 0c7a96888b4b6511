-- What a checksum of ffff in the place of 0000 changes: nothing.
use Rattle.std.proofs.Common.{◌≡◌, ℕ, ◌+◌, ◌-◌, ◌%◌, ◌<◌, ◌==◌, Bool, true, false, ◌&&◌, ◌||◌, nat_lt, List, [], ◌++◌, length, Option, Some, None, Result, Ok, Err, refl, sym, ap, ◌∙◌, if◌then◌else◌, arith, append-nil}
use Rattle.std.proofs.lemmas.Bool.Decides.{nat_tests}
use Rattle.std.specs.Prelude.{is_some, nat_le}
use Rattle.book_base.specs.Results.{◌>>=◌, or_fault}
use Rattle.book_base.specs.Algorithms.{mac_length_of}
use Rattle.book_base.specs.declared.address.Pair.{Pair}
use Rattle.book_segments.specs.Bytes.{same_bytes}
use Rattle.book_segments.specs.Meant.{meant}
use Rattle.book_segments.specs.Options.{Ao, find_ao}
use Rattle.book_segments.specs.Received.{below_limit, first_missing, keep, runs}
use Rattle.book_segments.specs.Segments.{IpHeader, Ipv4, Ipv6, Segment, Read, words_sum, sums, pseudo_of, pseudo, header, tcp_bytes, good, has, reading, spell, segment_length, FIN, SYN}
use Rattle.book_segments.specs.Spelling.{Fits, with_sum}
use Rattle.book_segments.proofs.Fields.{eqb_is}
use Rattle.book_segments.proofs.Folding.{sums_by}
use Rattle.book_segments.proofs.SpellLaws.{read_front}
use Rattle.book_segments.proofs.SumLaws.{words_pseudo, words_tcp, fits_with, same_pseudo, same_tcp}
use Rattle.book_macs.specs.Contexts.{context_of, context_of_later, context_of_syn}
use Rattle.book_macs.specs.MacInput.{mac_input, covered}
use Rattle.book_keys.specs.Choices.{Numbered}
use Rattle.book_keys.specs.Rows.{Row}
use Rattle.book_endpoint.specs.declared.phase.Phase.{Phase}
use Rattle.book_endpoint.specs.declared.phase.Phase.TheVariants.{Established, Listen, SynSent, SynReceived}
use Rattle.book_endpoint.specs.declared.refusal.Refusal.{Refusal}
use Rattle.book_endpoint.specs.declared.refusal.Refusal.TheVariants.{BadMac, MacLength, NoContext, Range}
use Rattle.book_endpoint.specs.States.{EndState, hears, number_limit, window}
use Rattle.book_endpoint.specs.Verdicts.{Finding, Judgement, Known, found_with, judge, mac_of, segment_number, one_ao, require, row_taking}
use Rattle.book_endpoint.specs.Arrivals.{arrive, heard, judged_by, numbers_known}
use Rattle.book_endpoint.specs.Hearing.{acked, acked_fin, windowed}
use Rattle.endpoint_steps.specs.Arriving.{acknowledged, after_check, arrive_judged, arrive_read, go_on, hear_data, heard_runs, ordinary}
use Rattle.endpoint_steps.proofs.Arriving.{read_by_cases}
use Rattle.book_stack.specs.Stacks.{handed}
use Rattle.law_stack.specs.Handed.{IsHandedWell, IsTakenAlike}

-- ---- the sum

-- a plain sum above 0 is divisible by ffff with ffff more exactly where it is without
divides_alike : (s t : ℕ) → 0 < s → t ≡ s + 65535 → (nat_lt 0 t && (t % 65535 == 0)) ≡ (nat_lt 0 s && (s % 65535 == 0))
divides_alike s t p e =
    let m : t % 65535 ≡ s % 65535 = omega (arith, e) in
    let one : nat_lt 0 t ≡ true = grind (arith, nat_tests, e) in
    let two : nat_lt 0 s ≡ true = grind (arith, nat_tests) in
    rw (one, two, m) refl

good_full : (d : Segment) → Fits d → d.checksum ≡ 0 → good (with_sum d 65535) ≡ good d
unfolding good
good_full d f e =
    let none = words_pseudo d (tcp_bytes d 0) f.ip in
    let full = words_pseudo d (tcp_bytes d 65535) f.ip in
    let t = words_tcp d 65535 (omega arith) in
    ap sums (ap (pseudo (with_sum d 65535)) (same_tcp d 65535 65535) ∙ same_pseudo d 65535 (tcp_bytes d 65535))
    ∙ sums_by (pseudo d (tcp_bytes d 65535))
    ∙ divides_alike (words_sum (pseudo d (tcp_bytes d 0))) (words_sum (pseudo d (tcp_bytes d 65535))) (omega (arith, none)) (omega (arith, none, full, t))
    ∙ sym (sums_by (pseudo d (tcp_bytes d 0)))
    ∙ rw e refl

-- ---- what an arrival reads of it

context_same : (d : Segment) (c : ℕ) (one two : Option ℕ) → context_of (with_sum d c) one two ≡ context_of d one two
unfolding context_of
context_same d c one two = by_syn (has SYN d)
  where
    later : (one : Option ℕ) → context_of_later (with_sum d c) one two ≡ context_of_later d one two
    later None = refl
    later (Some isn) = known two
      where
        known : (two : Option ℕ) → context_of_later (with_sum d c) (Some isn) two ≡ context_of_later d (Some isn) two
        known None = refl
        known (Some peer) = refl

    syn : (two : Option ℕ) → context_of_syn (with_sum d c) two ≡ context_of_syn d two
    syn None = refl
    syn (Some peer) = refl

    by_syn : (v : Bool) → (if v then context_of_syn (with_sum d c) two else context_of_later (with_sum d c) one two) ≡ (if v then context_of_syn d two else context_of_later d one two)
    by_syn true = syn two
    by_syn false = later one

number_same : (d : Segment) (c : ℕ) (expected : Option ℕ) → segment_number (with_sum d c) expected ≡ segment_number d expected
number_same d c None = refl
number_same d c (Some x) = refl

input_same : (n : ℕ) (d : Segment) (c : ℕ) (ao : Ao) (full : Bool) → mac_input n (with_sum d c) ao full ≡ mac_input n d ao full
unfolding mac_input header
input_same n d c ao full = rw (same_pseudo d c (header d 0 (covered full d.area ao ++ d.payload))) refl

found_same : (r : Numbered) (d : Segment) (c : ℕ) (ao : Ao) (context : List ℕ) (n : ℕ) → found_with r (with_sum d c) ao context n ≡ found_with r d ao context n
found_same r d c ao context n = rw (input_same n d c ao r.row.with_options) refl

bind_same : {A B : Type 0} (r : Result A Refusal) (f g : A → Result B Refusal) → ((x : A) → f x ≡ g x) → (r >>= f) ≡ (r >>= g)
bind_same (Ok x) f g same = same x
bind_same (Err e) f g same = refl

-- what is found passes where its MAC is right
abbrev passing_by : Ao → Finding → Judgement
passing_by ao p = require (same_bytes ao.mac (mac_of p)) BadMac >>= (λ right. Ok p)

judge_same : (rows : List Row) (pair : Pair) (known : Known) (now : ℕ) (d : Segment) (c : ℕ) → judge rows pair known now (with_sum d c) ≡ judge rows pair known now d
unfolding judge
judge_same rows pair known now d c =
    bind_same (one_ao (find_ao d.area)) _ _ (λ ao.
    bind_same (row_taking rows pair ao.key_id now) _ _ (λ row.
    bind_same (require (length ao.mac == mac_length_of row.row.algorithm) MacLength) _ _ (λ fits.
    rw (context_same d c known.peer_isn (Some known.own_isn)) (
    bind_same (or_fault (context_of d known.peer_isn (Some known.own_isn)) NoContext) _ _ (λ context.
    bind_same (require (has SYN d || is_some known.expected) NoContext) _ _ (λ numbered.
    rw (number_same d c known.expected) (
    bind_same (or_fault (segment_number d known.expected) Range) _ _ (λ n.
    bind_same (require (nat_le (n + segment_length d) number_limit) Range) _ _ (λ ends.
    ap (passing_by ao) (found_same row d c ao context n))))))))))

-- ---- what an arrival does with it

windowed_same : (s : EndState) (una : ℕ) (d : Segment) (c n : ℕ) (ack : Option ℕ) → windowed s una (with_sum d c) n ack ≡ windowed s una d n ack
windowed_same s una d c n None = refl
windowed_same s una d c n (Some a) = refl

runs_same : (s : EndState) (kept : ℕ → Option ℕ) (d : Segment) (c n now : ℕ) (many : Bool) → heard_runs s kept (with_sum d c) n now many ≡ heard_runs s kept d n now many
runs_same s kept d c n now true = refl
runs_same s kept d c n now false = refl

data_same : (s : EndState) (d : Segment) (c n now : ℕ) (heard : Bool) → hear_data s (with_sum d c) n now heard ≡ hear_data s d n now heard
data_same s d c n now false = refl
data_same s d c n now true =
    let high = s.expected + window s in
    let kept = keep s.received (record { number = n; bytes = d.payload }) (record { low = s.expected; high = below_limit s.fin high }) in
    let at = first_missing kept s.expected (window s) in
    runs_same s kept d c n now (nat_lt 64 (runs kept false at (high - at)))

on_same : (s : EndState) (una : ℕ) (d : Segment) (c n now : ℕ) (ack : Option ℕ) → go_on s una (with_sum d c) n now ack ≡ go_on s una d n now ack
on_same s una d c n now ack =
    let t = acked_fin (windowed s una d n ack) ack in
    rw (windowed_same s una d c n ack) (data_same t d c n now (hears t.phase && (nat_lt 0 (length d.payload) || has FIN d)))

acknowledged_same : (s : EndState) (d : Segment) (c n now : ℕ) (ack : Option ℕ) (phase : Phase) → acknowledged s (with_sum d c) n now ack phase ≡ acknowledged s d n now ack phase
acknowledged_same s d c n now ack SynReceived = rw (on_same (record (acked s ack) { phase = Established }) s.una d c n now ack) refl
acknowledged_same s d c n now ack _ = rw (on_same (acked s ack) s.una d c n now ack) refl

ordinary_same : (before heard : EndState) (d : Segment) (c n now : ℕ) → ordinary before heard (with_sum d c) n now ≡ ordinary before heard d n now
ordinary_same before heard d c n now = rw (acknowledged_same heard d c n now (meant d.acknowledgement heard.una) heard.phase) refl

check_same : (pair : Pair) (before heard : EndState) (d : Segment) (c n now : ℕ) (phase : Phase) → after_check pair before heard (with_sum d c) n now phase ≡ after_check pair before heard d n now phase
check_same pair before heard d c n now Listen = refl
check_same pair before heard d c n now SynSent = refl
check_same pair before heard d c n now _ = rw (ordinary_same before heard d c n now) refl

judged_same : (rows : List Row) (pair : Pair) (now : ℕ) (s : EndState) (d : Segment) (c : ℕ) (j : Judgement) → arrive_judged rows pair now s (with_sum d c) j ≡ arrive_judged rows pair now s d j
judged_same rows pair now s d c (Err why) = refl
judged_same rows pair now s d c (Ok p) = rw (check_same pair s (heard rows pair now s p.rnext_key_id) d c p.number now s.phase) refl

-- a checksum that is as right changes nothing
arrive_same : (rows : List Row) (pair : Pair) (now : ℕ) (s : EndState) (d : Segment) (c : ℕ) → good (with_sum d c) ≡ good d → arrive rows pair now s (Read (with_sum d c)) ≡ arrive rows pair now s (Read d)
arrive_same rows pair now s d c same =
    sym (read_by_cases rows pair now s (Read (with_sum d c))) ∙ read_same ∙ read_by_cases rows pair now s (Read d)
  where
    read_same : arrive_read rows pair now s (Read (with_sum d c)) ≡ arrive_read rows pair now s (Read d)
    read_same = rw (same, judge_same rows pair (numbers_known s) now d c, judged_same rows pair now s d c (judged_by rows pair now s d)) refl

-- ---- the datagram as it is handed out

handed_sum : (d : Segment) → Fits d → (good (handed d) ≡ good d) × Fits (handed d)
handed_sum d f = at (d.checksum == 0) refl
  where
    at : (v : Bool) → (d.checksum == 0) ≡ v → (good (with_sum d (if v then 65535 else d.checksum)) ≡ good d) × Fits (with_sum d (if v then 65535 else d.checksum))
    at true e = (good_full d f (eqb_is d.checksum 0 e), fits_with d 65535 (omega arith) f)
    at false e = (refl, f)

pub handed_well : (d : Segment) → Fits d → IsHandedWell d
handed_well d f = let h = handed_sum d f in record {
  fits = h.1;
  read = read_front (spell (handed d)) [] (handed d) h.1 (sym (append-nil (spell (handed d))));
  right = h.0;
}

pub taken_alike : (d : Segment) → Fits d → IsTakenAlike d
taken_alike d f rows pair now s =
    let h = handed_well d f in
    let plain : reading (spell d) ≡ Read d = read_front (spell d) [] d f (sym (append-nil (spell d))) in
    rw (h.read, plain) (arrive_same rows pair now s d (if d.checksum == 0 then 65535 else d.checksum) h.right)
