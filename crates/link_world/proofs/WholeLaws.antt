-- A segment that an end made is what a log keeps of it.
use Rattle.std.proofs.Common.{◌≡◌, ℕ, ◌+◌, ◌-◌, ◌*◌, ◌/◌, ◌%◌, ◌==◌, ◌≤◌, Bool, true, false, List, [], ◌++◌, length, take, drop, Option, Some, None, if◌then◌else◌, refl, sym, ap, ◌∙◌, subst, arith, append-nil}
use Rattle.std.specs.Prelude.{is_some, slice_get, slice_index, slice_range}
use Rattle.std.proofs.lemmas.Bool.{eqb-true}
use Rattle.book_base.specs.declared.address.Pair.{Pair}
use Rattle.book_base.specs.declared.end.End.{End}
use Rattle.book_base.specs.Algorithms.{mac_length_of}
use Rattle.book_segments.specs.Bytes.{ring}
use Rattle.book_segments.specs.declared.fault.DatagramFault.{DatagramFault}
use Rattle.book_segments.specs.Options.{find_ao}
use Rattle.book_segments.specs.Segments.{Segment, Read, SYN, two_octets_at, v4_fault, v6_fault, first_fault, fields, read_unless, reading, spell}
use Rattle.book_segments.specs.Spelling.{ip_length}
use Rattle.book_segments.proofs.Blanked.{take_exact}
use Rattle.book_segments.proofs.ByteLaws.{length_part}
use Rattle.book_segments.proofs.Read.{tcp_read, v4_read, v6_read, tests}
use Rattle.book_macs.specs.declared.context.Context.{Context}
use Rattle.book_macs.specs.Contexts.{bytes_of, context_of}
use Rattle.book_macs.specs.Keys.{traffic_key}
use Rattle.book_macs.specs.MacInput.{mac_input}
use Rattle.book_macs.proofs.LengthLaws.{length-mac, length-traffic_key}
use Rattle.tcp_segment.specs.Sums.{HasPlainHeader}
use Rattle.book_keys.specs.Rows.{Row}
use Rattle.book_keys.specs.Coordination.{Sending, choose as choose_row}
use Rattle.ao_check.proofs.ChoosingLaws.{choose_in}
use Rattle.ao_check.proofs.KeyLaws.{got}
use Rattle.book_endpoint.specs.States.{EndState}
use Rattle.book_endpoint.specs.Emissions.{Draft, Emission, Emitted, Quiet, NoKey, Emits, sets, most_bytes, blank, own_ao, input_of, seal_of, sealed, seal_known}
use Rattle.endpoint_steps.specs.Drafting.{keyed, emitted, to_emit, to_resend}
use Rattle.endpoint_steps.proofs.Drafting.{emit_by_drafts, resend_by_drafts}
use Rattle.segment_writer.specs.Drafts.{IsWritten}
use Rattle.tcp_endpoint.specs.declared.emission.Made.{Made as Told}
use Rattle.book_link.specs.declared.event.Transmission.{Transmission}
use Rattle.book_link.specs.declared.event.Transmission.TheVariants.{New, Again}
use Rattle.book_link.specs.Worlds.{Made, World}
use Rattle.law_link.proofs.Tests.{choose}
use Rattle.book_base.proofs.TestLaws.{by_bool}
use Rattle.law_link.proofs.Written.{area_ao, same_input}
use Rattle.link_report.specs.declared.side.Side.{Side}
use Rattle.link_report.specs.Segments.{made_by, IsSent}
use Rattle.link_report.specs.Entries.{IsMade, IsWhole}

-- ---- what is emitted

-- it is the sealed segment of a draft, with the row that was chosen
pub record IsSealed (rows : List Row) (pair : Pair) (now : ℕ) (s : EndState) (x : Emission) : Type 0 where
  pub out : Draft
  pub sending : Sending
  pub context : List ℕ
  pub is : x ≡ sealed pair s out sending context
  pub picked : choose_row s.current rows pair now ≡ Some sending

abbrev emission_or : Emission → Emitted → Emission
emission_or x Quiet = x
emission_or x NoKey = x
emission_or x (Emits y) = y

module _ (rows : List Row) (pair : Pair) (now : ℕ) (s : EndState) (x : Emission) where
  known_sealed : (out : Draft) (sending : Sending) (o : Option (List ℕ)) → choose_row s.current rows pair now ≡ Some sending
      → seal_known pair s out sending o ≡ Emits x → IsSealed rows pair now s x
  known_sealed out sending None picked e = absurd (cc)
  known_sealed out sending (Some c) picked e =
      record { out = out; sending = sending; context = c; is = sym (ap (emission_or x) e); picked = picked }

  keyed_sealed : (sending : Sending) (o : Option Draft) → choose_row s.current rows pair now ≡ Some sending
      → keyed pair s sending o ≡ Emits x → IsSealed rows pair now s x
  keyed_sealed sending None picked e = absurd (cc)
  keyed_sealed sending (Some out) picked e = known_sealed out sending (context_of (blank pair s out sending) (Some s.isn) s.peer_isn) picked e

  none_emitted : (b : Bool) → (if b then NoKey else Quiet) ≡ Emits x → IsSealed rows pair now s x
  none_emitted true e = absurd (cc)
  none_emitted false e = absurd (cc)

  emitted_sealed : (draft : ℕ → Option Draft) (o : Option Sending) → choose_row s.current rows pair now ≡ o
      → emitted pair s draft o ≡ Emits x → IsSealed rows pair now s x
  emitted_sealed draft None picked e = none_emitted (is_some (draft 0)) e
  emitted_sealed draft (Some sending) picked e = keyed_sealed sending (draft (most_bytes pair s sending)) picked e

  -- what an end makes, or makes again
  pub made_sealed : (which : Transmission) → made_by which rows pair now s ≡ Emits x → IsSealed rows pair now s x
  made_sealed New e = emitted_sealed (to_emit s) (choose_row s.current rows pair now) refl (sym (emit_by_drafts rows pair now s) ∙ e)
  made_sealed Again e = emitted_sealed (to_resend s) (choose_row s.current rows pair now) refl (sym (resend_by_drafts rows pair now s) ∙ e)

-- ---- its row

-- the row with this number is that one
pub record HasRow (rows : List Row) (number : ℕ) (row : Row) : Type 0 where
  pub low : 1 ≤ number
  pub high : number ≤ length rows
  pub here : slice_get rows (number - 1) ≡ Some row

-- the row that was chosen is one of the table
pub chosen_row : (rows : List Row) (pair : Pair) (now : ℕ) (s : EndState) (x : Emission) → IsSealed rows pair now s x
    → HasRow rows x.sending.number x.sending.row
chosen_row rows pair now s x h =
    let i = choose_in s.current rows pair now h.sending h.picked in
    let low = i.low in
    let high = i.high in
    let same : h.sending ≡ x.sending = ap (λ (y : Emission). y.sending) (sym h.is) in
    subst (λ (y : Sending). HasRow rows y.number y.row) same
    (record { low = low; high = high; here = got rows (h.sending.number - 1) h.sending.row (omega (arith, low, high)) (λ d. sym (i.here d)) })

-- ---- its bytes

no_fault : (o : Option DatagramFault) (c d : Segment) → read_unless o c ≡ Read d → o ≡ None
no_fault None c d e = refl
no_fault (Some fault) c d e = absurd (cc)

if_four : (t : Bool) (x y : Option DatagramFault) → t ≡ true → (if t then x else y) ≡ None → x ≡ None
if_four true x y e h = h
if_four false x y e h = absurd (cc)

if_six : (t : Bool) (x y : Option DatagramFault) → t ≡ false → (if t then x else y) ≡ None → y ≡ None
if_six true x y e h = absurd (cc)
if_six false x y e h = h

plain_by : (b : List ℕ) (t : Bool) → (slice_index b 0 / 16 == 4) ≡ t → (if t then 20 else 40) + 20 ≤ length b → length b ≤ 1500 → HasPlainHeader b
plain_by b t e least most =
    let head : ip_length b ≡ (if t then 20 else 40) = ap (λ (c : Bool). if c then 20 else 40) e in
    record { least = omega (arith, head, least); most = omega (arith, most) }

plain_four : (b : List ℕ) → (slice_index b 0 / 16 == 4) ≡ true → v4_fault b ≡ None → length b ≤ 1500 → HasPlainHeader b
plain_four b four none most =
    let r = v4_read b none in
    let size : ℕ = 4 * (slice_index b 0 % 16) in
    let t = tcp_read (slice_range b size (two_octets_at b 2)) r.tcp in
    let long = t.long in
    let part = length_part b size (two_octets_at b 2) r.within r.whole in
    let least = r.least in
    let whole = r.whole in
    plain_by b true four (omega (arith, long, part, least, whole)) most

plain_six : (b : List ℕ) → (slice_index b 0 / 16 == 4) ≡ false → v6_fault b ≡ None → length b ≤ 1500 → HasPlainHeader b
plain_six b six none most =
    let r = v6_read b none in
    let size : ℕ = two_octets_at b 4 in
    let t = tcp_read (slice_range b 40 (40 + size)) r.tcp in
    let long = t.long in
    let whole = r.whole in
    let part = length_part b 40 (40 + size) (omega arith) whole in
    plain_by b false six (omega (arith, long, part, whole)) most

-- the bytes of a segment, 1,500 at most, begin as an IP header without options and 20 bytes do
pub plain_read : (b : List ℕ) (d : Segment) → reading b ≡ Read d → length b ≤ 1500 → HasPlainHeader b
unfolding reading
plain_read b d e most =
    let t = tests b (no_fault (first_fault b) (fields b) d e) in
    let four : Bool = slice_index b 0 / 16 == 4 in
    by_bool (HasPlainHeader b) four (λ is. plain_four b is (if_four four (v4_fault b) (v6_fault b) is t.family) most)
    (λ is. plain_six b is (if_six four (v4_fault b) (v6_fault b) is t.family) most)

-- what is written is read again
written_read : (d : Segment) (count : ℕ) (before after : List ℕ) → IsWritten d count before after → reading (spell d) ≡ Read d
written_read d count before after w = ap reading (sym (append-nil (spell d))) ∙ w.again []

-- the front of the buffer is the segment
pub written_front : (d : Segment) (count : ℕ) (before after : List ℕ) → IsWritten d count before after → take count after ≡ spell d
written_front d count before after w = ap (take count) w.bytes ∙ take_exact (spell d) (drop count before) count (sym w.long)

-- ---- what the log keeps

whole_sealed : (pair : Pair) (s : EndState) (out : Draft) (sending : Sending) (context : List ℕ) (m : Made) (count : ℕ) (before after : List ℕ)
    → m.emission ≡ sealed pair s out sending context → m.bytes ≡ spell m.emission.segment → IsWritten m.emission.segment count before after → count ≤ 1500
    → IsWhole m
whole_sealed pair s out sending context m count before after e bytes w few =
    let a = sending.row.algorithm in
    let flag = sending.row.with_options in
    let code = seal_of pair s out sending context in
    let ao = own_ao out sending code in
    let code_long : length code ≡ mac_length_of a =
    length-mac a (traffic_key a sending.row.master context) (input_of pair s out sending) (length-traffic_key a sending.row.master context) in
    let reads : reading m.bytes ≡ Read m.emission.segment = ap reading bytes ∙ written_read m.emission.segment count before after w in
    let long = w.long in
    let size = ap length bytes in
    record {
      plain = plain_read m.bytes m.emission.segment reads (omega (arith, long, size, few));
      reads = reads;
      sequence = ap (λ (x : Emission). x.segment.sequence) e ∙ ap (λ (x : Emission). x.number % ring) (sym e);
      ao = ao;
      found = ap (λ (x : Emission). find_ao x.segment.area) e ∙ area_ao pair (sets out.flags SYN) sending code;
      input =
          ap (λ (x : Emission). x.input) e ∙ sym (same_input pair s out sending code out.number flag code_long)
          ∙ ap (λ (x : Emission). mac_input x.number x.segment ao x.sending.row.with_options) (sym e);
    }

-- a segment that was made is whole
pub made_whole : (which : Transmission) (rows : List Row) (pair : Pair) (now : ℕ) (s : EndState) (m : Made) (count : ℕ) (before after : List ℕ)
    → made_by which rows pair now s ≡ Emits m.emission → m.bytes ≡ spell m.emission.segment → IsWritten m.emission.segment count before after → count ≤ 1500
    → IsWhole m
made_whole which rows pair now s m count before after is bytes w few =
    let h = made_sealed rows pair now s m.emission which is in
    whole_sealed pair s h.out h.sending h.context m count before after h.is bytes w few

-- ---- what is told of a segment that was sent

-- the row that is told is one of the table
pub sent_row : {w : World} {which : Transmission} {e : End} {d : Side} {before after : List ℕ} {told : Told} {made : Made} (rows : List Row) → rows ≡ d.table.rows
    → IsSent w which e d before after told made → HasRow rows told.sending.row made.emission.sending.row
sent_row {w} {which} {e} {d} {before} {after} {told} {made} rows same h =
    let number : made.emission.sending.number ≡ told.sending.row = ap (λ y. y.row) (sym h.told.sending) in
    let there = chosen_row d.table.rows d.pair d.clock h.state made.emission (made_sealed d.table.rows d.pair d.clock h.state made.emission which h.is) in
    subst (λ (n : ℕ). HasRow rows n made.emission.sending.row) number
    (subst (λ (l : List Row). HasRow l made.emission.sending.number made.emission.sending.row) (sym same) there)

-- it is as the log is told of it
pub sent_made : {w : World} {which : Transmission} {e : End} {d : Side} {before after : List ℕ} {told : Told} {made : Made}
    (maker : End) (number : ℕ) (row : Row) (context : Context) (bytes : List ℕ) → IsSent w which e d before after told made → told.length ≤ 1500
    → maker ≡ e → number ≡ told.number → row ≡ made.emission.sending.row → context ≡ told.context → bytes ≡ take told.length after
    → IsMade maker number row context bytes made
sent_made {w} {which} {e} {d} {before} {after} {told} {made} maker number row context bytes h few is_maker is_number is_row is_context is_bytes =
    let written = h.told.written in
    record {
      maker_is = h.maker ∙ sym is_maker;
      number_is = sym h.told.number ∙ sym is_number;
      row_is = sym is_row;
      context_is = sym h.told.context ∙ ap bytes_of (sym is_context);
      bytes_are = h.bytes ∙ sym (written_front made.emission.segment told.length before after written) ∙ sym is_bytes;
      whole = made_whole which d.table.rows d.pair d.clock h.state made told.length before after h.is h.bytes written few;
    }
