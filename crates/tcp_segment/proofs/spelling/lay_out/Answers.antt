use Rattle.std.proofs.Common.{◌≡◌, ℕ, List, ◌+◌, ◌-◌, ◌++◌, length, replicate, take, drop, ap, sym, ◌∙◌, arith, inl, inr}
use Rattle.std.proofs.lemmas.List.{length-replicate}
use Rattle.book_segments.specs.Sockets.{octets}
use Rattle.book_segments.specs.Segments.{spell}
use Rattle.tcp_segment.specs.Layout.{AreSized, drafted, header_length, option_heads, mss_length, ip_start, tcp_start, ip_size}
use Rattle.tcp_segment.proofs.WriteLaws.{mss_cases, heads_long, before, six_writes, laid_out, start_long, tcp_start_long}
use Rattle.tcp_segment.proofs.spelling.lay_out.Goals as goal

pub overflow_cast-area_length : goal.overflow_cast-area_length
overflow_cast-area_length c = let m = c.requires.head.mac in let n = c.heads_length_of.ensures in
    elim (mss_cases c.args.head.now.mss) [ inl s ↦ elim m [ inl e ↦ omega arith | inr e ↦ omega arith ] | inr s ↦ elim m [ inl e ↦ omega arith | inr e ↦ omega arith ] ]

pub tcp_start_of-requires : goal.tcp_start_of-requires
tcp_start_of-requires c = let m = c.requires.head.mac in let n = c.heads_length_of.ensures in
    elim (mss_cases c.args.head.now.mss) [ inl s ↦ elim m [ inl e ↦ omega arith | inr e ↦ omega arith ] | inr s ↦ elim m [ inl e ↦ omega arith | inr e ↦ omega arith ] ]

pub returns : goal.returns
returns c =
    let h = c.args.head.now in
    let m : ℕ = c.args.head.now.mac_length in
    let p : ℕ = c.args.payload_len in
    let header : ℕ = c.ip_length_of-header.result in
    let len : ℕ = header + 20 + c.heads_length_of.result + m + p in
    let heads : List ℕ = option_heads h m in
    let area : ℕ = length heads + m in
    let S : List ℕ = octets h.source.address in
    let D : List ℕ = octets h.destination.address in
    let start : List ℕ = ip_start h (20 + area + p) h.source.address in
    let tcp : List ℕ = tcp_start h 0 area in
    let family : AreSized h.source.address h.destination.address = (c.requires.head.family, c.octets_of.ensures.sized, c.octets_of-2.ensures.sized) in
    let eh = c.ip_length_of-header.ensures in
    let en = c.heads_length_of.ensures in
    let lh : length heads ≡ 4 + mss_length h.mss = heads_long h m in
    let size : len - header ≡ 20 + area + p = omega arith in
    let offset : header + 20 + c.heads_length_of.result + m - header - 20 ≡ area = omega arith in
    let start-is : ip_start h (len - header) h.source.address ≡ start = ap (λ (k : ℕ). ip_start h k h.source.address) size in
    let tcp-is : c.tcp_start_of.result ≡ tcp = c.tcp_start_of.ensures.bytes ∙ ap (tcp_start h 0) offset in
    let ls : length start + (length S + length D) ≡ ip_size h.source.address = start_long h.source.address h.destination.address h (20 + area + p) family in
    let lt : length tcp ≡ 20 = tcp_start_long h 0 area in
    let r1 : c.put_ip_start-at.result ≡ length start = c.put_ip_start-at.ensures.end ∙ ap length start-is in
    let r2 : c.put-at.result ≡ length start + length S = omega (arith, c.put-at.ensures.end, r1, ap length c.octets_of.ensures.bytes) in
    let r3 : c.put-at-2.result ≡ length start + length S + length D = omega (arith, c.put-at-2.ensures.end, r2, ap length c.octets_of-2.ensures.bytes) in
    let r4 : c.put-at-3.result ≡ length start + length S + length D + 20 = omega (arith, c.put-at-3.ensures.end, r3, ap length tcp-is, lt) in
    let r5 : c.put_options-at.result ≡ header + 20 + c.heads_length_of.result = omega (arith, c.put_options-at.ensures.end, r4, ls, eh, en, lh) in
    let left : len - c.put_options-at.result ≡ m + p = omega (arith, r5) in
    let place : header_length h + p ≡ len = omega (arith, eh, en) in
    let out : c.put_zeros.new.out ≡ (before h 0 m p ++ (replicate {A = ℕ} m 0 ++ replicate {A = ℕ} p 0)) ++ drop len c.args.out.now =
    six_writes c.args.out.now c.put_ip_start-at.new.out c.put-at.new.out c.put-at-2.new.out c.put-at-3.new.out c.put_options-at.new.out c.put_zeros.new.out start S D tcp heads
    c.put_ip_start-at.result c.put-at.result c.put-at-2.result c.put-at-3.result c.put_options-at.result len m p
    (c.put_ip_start-at.ensures.front ∙ start-is)
    (c.put-at.ensures.front ∙ ap (λ (l : List ℕ). take c.put_ip_start-at.result c.put_ip_start-at.new.out ++ l) c.octets_of.ensures.bytes)
    (c.put-at-2.ensures.front ∙ ap (λ (l : List ℕ). take c.put-at.result c.put-at.new.out ++ l) c.octets_of-2.ensures.bytes)
    (c.put-at-3.ensures.front ∙ ap (λ (l : List ℕ). take c.put-at-2.result c.put-at-2.new.out ++ l) tcp-is)
    c.put_options-at.ensures.front c.put_zeros.ensures.front
    (c.put_ip_start-at.ensures.rest len (omega (arith, r1, ls, eh))) (c.put-at.ensures.rest len (omega (arith, r2, ls, eh))) (c.put-at-2.ensures.rest len (omega (arith, r3, ls, eh)))
    (c.put-at-3.ensures.rest len (omega (arith, r4, ls, eh))) (c.put_options-at.ensures.rest len (omega (arith, r5))) c.put_zeros.ensures.rest left in
    let rest : List ℕ = drop len c.args.out.now in
    record {
      bytes = laid_out h m p rest c.put_zeros.new.out out ∙ ap (λ (k : ℕ). spell (drafted h (replicate {A = ℕ} m 0) (replicate {A = ℕ} p 0)) ++ drop k c.args.out.now) (sym place);
      head = record { family = family; numbers = c.tcp_start_of.ensures.numbers; mac = c.requires.head.mac };
      checksum_fits = omega arith;
      header_is = eh;
      mac_is = omega (arith, eh, en);
      payload_is = omega (arith, eh, en);
      len_is = omega (arith, eh, en, length-replicate {A = ℕ} p 0);
      mac_length = length-replicate {A = ℕ} m 0;
      most = omega (arith, place, c.requires.head.most);
    }
