-- A datagram from the peer that passed, as it is handed on.
use Rattle.std.proofs.Common.{◌≡◌, ℕ, ◌+◌, ◌≤◌, List, length, Option, Ok, Err, refl, sym, ap, ◌∙◌, arith}
use Rattle.book_base.specs.declared.address.Pair.{Pair}
use Rattle.book_segments.specs.Options.{Ao, One, find_ao}
use Rattle.book_segments.specs.Segments.{IpHeader, Ipv4, Ipv6, Segment, segment_length}
use Rattle.book_segments.specs.Spelling.{FitsIp, Fits}
use Rattle.book_keys.specs.Rows.{Row}
use Rattle.book_endpoint.specs.declared.refusal.Refusal.{Refusal}
use Rattle.book_endpoint.specs.declared.refusal.Refusal.TheVariants.{NoAo, TwoAo, WithMd5, NoTuple, Expired, MacLength, NoContext, Range, BadMac}
use Rattle.book_endpoint.specs.Verdicts.{Finding, Judgement}
use Rattle.book_shim.specs.declared.kept.Kept.{Kept}
use Rattle.book_shim.specs.Relaying.{with_area, length_in_header, coming, coming_area}
use Rattle.book_shim.specs.Arriving.{admitted, past_heard, handed_on}
use Rattle.ao_check.specs.declared.passing.Passing.{Passing}
use Rattle.ao_check.specs.Verdicts.{Tells}
use Rattle.tcp_segment.specs.Views.{view_ao}
use Rattle.ao_shim.specs.Arrivals.{row_heard}
use Rattle.ao_shim.proofs.InLaws.{row_is}
use Rattle.law_shim.proofs.LongLaws.{rewritten_long, coming_shortens}

-- what was found of a segment that passed
pub record IsPassed (d : Segment) (x : Passing) (j : Judgement) : Type 0 where
  pub finding : Finding
  pub is : j ≡ Ok finding
  pub number_is : finding.number ≡ x.passed.number
  pub rnext_is : finding.rnext_key_id ≡ x.option.rnext
  pub end : x.passed.number + segment_length d ≤ 9223372036854775808

one_is : (a b : Ao) → One a ≡ One b → a ≡ b
one_is a b e = cc

pub passed : (rows : List Row) (pair : Pair) (d : Segment) (x : Passing) (j : Judgement) → Tells rows pair d (Ok x.passed) j → find_ao d.area ≡ One (view_ao x.option) → IsPassed d x j
passed rows pair d x j t found =
    let names = t.2 in
    let same : names.ao ≡ view_ao x.option = one_is names.ao (view_ao x.option) (sym names.found ∙ found) in
    record {
      finding = t.0;
      is = t.1;
      number_is = ap (λ (p : Finding). p.number) names.entry_is;
      rnext_is = ap (λ (p : Finding). p.rnext_key_id) names.entry_is ∙ ap (λ (a : Ao). a.rnext_key_id) same;
      end = names.end;
    }

-- what is kept of it
pub heard_is : (rows : List Row) (now mtu : ℕ) (pair : Pair) (g : Kept) (d : Segment) (p : Finding) (number rnext : ℕ) → p.number ≡ number → p.rnext_key_id ≡ rnext
    → ◌≡◌ {A = Kept} (record (past_heard (admitted g d) d number) { current = row_heard rows pair now g d number rnext }) (handed_on (record { rows = rows; now = now; mtu = mtu }) pair g d p).kept
heard_is rows now mtu pair g d p number rnext a b =
    let one : ◌≡◌ {A = Kept} (record (past_heard (admitted g d) d number) { current = row_heard rows pair now g d number rnext }) (record (past_heard (admitted g d) d p.number) { current = row_heard rows pair now g d p.number p.rnext_key_id }) = rw (a, b) refl in
    one ∙ ap (λ (c : Option ℕ). let k : Kept = record (past_heard (admitted g d) d p.number) { current = c } in k) (row_is rows now mtu pair g d p)

-- the options that come in are no more bytes than came
pub coming_less : (most : Option ℕ) (d : Segment) → Fits d → length (coming_area most d.area) ≤ length d.area
coming_less most d f = rewritten_long (coming most) d.area (coming_shortens most) f.listed f.area.words

pub less_told : (i : IpHeader) (d : Segment) (area : List ℕ) → FitsIp i d → length area ≤ length d.area → length_in_header i (with_area d area) ≤ 65535
less_told (Ipv4 service identification flags ttl checksum options) d area f h = let t = f.total in omega arith
less_told (Ipv6 class_flow hops) d area f h = let t = f.total in omega arith
