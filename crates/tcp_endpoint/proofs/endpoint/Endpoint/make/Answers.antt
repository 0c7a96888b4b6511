use Rattle.std.proofs.Common.{◌≡◌, ◌+◌, ◌-◌, ◌≤◌, ◌%◌, min, refl, sym, ap, ◌∙◌, arith, subst}
use Rattle.std.specs.Prelude.{slice_index_or}
use Rattle.book_base.specs.Algorithms.{mac_length_of}
use Rattle.book_segments.specs.Bytes.{ring}
use Rattle.book_macs.specs.Contexts.{bytes_of}
use Rattle.book_keys.specs.Rows.{Row}
use Rattle.tcp_segment.specs.Layout.{ip_size}
use Rattle.book_endpoint.specs.States.{own_mss}
use Rattle.book_endpoint.specs.Emissions as book
use Rattle.ao_check.proofs.KeyLaws.{same_row}
use Rattle.segment_writer.specs.Drafts.{IsOf}
use Rattle.tcp_endpoint.specs.Plans.{draft_of, IsCounted, IsOutlineOf}
use Rattle.tcp_endpoint.proofs.ReadyLaws.{window_is}
use Rattle.tcp_endpoint.proofs.MakeLaws.{draft_flags, draft_current, stands_with, ack_same, payload_same, size_small}
use Rattle.tcp_endpoint.proofs.endpoint.Endpoint.make.Goals as goal

pub returns-clause-short : goal.returns-clause-short
returns-clause-short g c =
    let r = c.row.result.now in
    let few = size_small c.args.self.now.pair.local.address c.flags_of-flags.result c.most_bytes-most.result c.outline-outline.result.count r.algorithm
    (subst (λ a. c.most_bytes-most.result + (4 + mac_length_of a) ≤ own_mss c.args.self.now.pair.local.address) c.algorithm.ensures c.most_bytes-most.ensures.small)
    c.outline-outline.ensures.few
    (λ t. c.outline-outline.ensures.bare (ap (λ f. book.sets f 2) (sym c.flags_of-flags.ensures) ∙ t)) in
    let is = c.write_segment-length.ensures.length r in
    let same = sym (c.row.ensures r) in
    let size = ap (λ (x : Row). ip_size c.args.self.now.pair.local.address + 24 + book.ao_place (book.sets c.flags_of-flags.result 2) + mac_length_of x.algorithm + c.outline-outline.result.count) same in
    omega (arith, few, is, size)

pub returns-clause-makes : goal.returns-clause-makes
returns-clause-makes g c = λ s chosen h row_is sending_is here.
    let e = c.args.self.now in
    let rows = c.args.table.now.rows in
    let p = c.args.plan in
    let place : c.args.sending.now.row ≡ chosen.number = ap (λ x. x.row) sending_is in
    let low = c.requires.low in
    let high = c.requires.high in
    let same : c.row.result.now ≡ chosen.row =
    same_row rows chosen.number chosen.row c.row.result.now (record { low = omega (arith, low, place); high = omega (arith, high, place); here = here })
    (λ d. c.row.ensures d ∙ ap (λ n. slice_index_or rows (n - 1) d) place) in
    let limit : c.most_bytes-most.result ≡ book.most_bytes e.pair s chosen =
    c.most_bytes-most.ensures.value s h ∙ ap (λ a. min (own_mss e.pair.local.address) s.mss - (4 + mac_length_of a)) (c.algorithm.ensures ∙ ap (λ r. r.algorithm) same) in
    let most = book.most_bytes e.pair s chosen in
    let draft = draft_of s most p in
    let outline = subst (λ m. IsOutlineOf e.queue c.outline-outline.result (draft_of s m p)) limit (c.outline-outline.ensures.outlines s h) in
    let counted = subst (λ m. IsCounted e m p c.outline-outline.result.count) limit c.outline-outline.ensures.counted in
    let flags : c.flags_of-flags.result ≡ draft.flags = c.flags_of-flags.ensures ∙ draft_flags s most p in
    let of : IsOf _ e.association rows c.args.sending.now s draft chosen = record {
      flags = flags;
      number = outline.number_is;
      expected = c.expected_field.ensures ∙ ap (λ n. n % ring) h.expected;
      window_is = c.window.ensures ∙ sym (window_is e s h);
      payload = outline.payload;
      own = e.bound.own ∙ h.isn;
      peer = e.bound.peer ∙ h.peer_isn;
      sending_is = sending_is;
      row = here;
    } in
    let carried = c.carry_out.ensures.stands s most
    (record {
      phase = h.phase;
      isn = h.isn;
      peer_isn = h.peer_isn;
      una = h.una;
      next = h.next;
      send_window = h.send_window;
      wl1 = h.wl1;
      wl2 = h.wl2;
      expected = h.expected;
      fin = h.fin;
      given = h.given;
      queue = h.queue;
      taken = h.taken;
      bytes = h.bytes;
      ack_owed = h.ack_owed;
      closing = h.closing;
      rst_owed = h.rst_owed;
      mss = h.mss;
      deadline = h.deadline;
      current = ap (λ b. b.current) c.write_segment-length.ensures.same ∙ h.current;
    })
    counted in
    record {
      emission = book.sealed e.pair s draft chosen (bytes_of c.write_segment-length.result.context);
      is = c.write_segment-length.ensures.emits s draft chosen of;
      stands = stands_with c.carry_out.new.self draft.state chosen.number carried (draft_current s most p ∙ row_is);
      made = record {
        written = c.write_segment-length.ensures.written s draft chosen of;
        sending = sending_is;
        number = c.value.ensures ∙ outline.number_is;
        ack = c.acknowledged_by-ack.ensures ∙ ack_same c.flags_of-flags.result draft.flags _ s.expected flags h.expected;
        flags = flags;
        payload = payload_same e.queue draft.payload c.outline-outline.result.offset c.outline-outline.result.count c.outline-outline.ensures.piece outline.payload;
        context = refl;
      };
    }
