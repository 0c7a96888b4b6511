use Rattle.std.proofs.Common.{arith, refl, sym, ap, ◌∙◌, ◌≡◌, ◌+◌, ◌≤◌, ◌<◌, ◌%◌, ℕ, ◌++◌, Some, length, drop, subst}
use Rattle.std.proofs.lemmas.List.{get_or_read}
use Rattle.book_segments.specs.Received.{bytes_from}
use Rattle.stream_buffers.specs.Kept.{Kept, byte_at, forgotten_below}
use Rattle.stream_buffers.specs.Spans.{IsSound}
use Rattle.stream_buffers.proofs.Calls.{take_more, ready_byte, taken_out}
use Rattle.stream_buffers.proofs.reassembly.Reassembly.take.Goals as goal

pub loop-index-init : goal.loop-index-init
loop-index-init c = refl

pub loop-index-preserved : goal.loop-index-preserved
loop-index-preserved c =
    let at = c.loop-index.index in
    let m = byte_at c.args.self.now in
    let e : c.args.self.now.from ≡ c.self.inside.from = ap (λ (k : Kept). k.from) (sym c.self.view_is) in
    let place : (c.self.inside.from + at) % 65536 < length c.self.inside.buffer.items = omega (arith, c.self.invariant.size) in
    let read = get_or_read c.self.inside.buffer.items _ c.index.result.now place c.index.ensures 0 in
    let byte : m (c.args.self.now.from + at) ≡ Some c.index.result.now = ap (λ f. m (f + at)) e ∙ (ready_byte c.self.invariant c.self.view_is (c.self.inside.from + at) (omega arith) (omega arith) ∙ ap Some (sym read)) in
    take_more m c.args.self.now.from at c.args.out.now c.loop-index.out c.index.result.now (omega arith) c.loop-index.invariant byte

pub returns-clause-taken : goal.returns-clause-taken
returns-clause-taken c =
    let e : c.loop-index.index ≡ c.min-count.result = omega arith in
    let P : ℕ → Type 0 = λ k. c.loop-index.out ≡ bytes_from (byte_at c.args.self.now) c.args.self.now.from k ++ drop k c.args.out.now in
    subst P e c.loop-index.invariant

pub returns-clause-rest : goal.returns-clause-rest
returns-clause-rest c =
    let s = c.self.inside in
    let h = c.self.invariant in
    let e : c.args.self.now.from ≡ s.from = ap (λ (k : Kept). k.from) (sym c.self.view_is) in
    let to = s.from + c.min-count.result in
    let le : to ≤ s.expected = omega (arith, h.ordered) in
    let h' : IsSound s.buffer.items to s.expected s.end s.runs = record {
      size = h.size;
      capacity = h.capacity;
      few = h.few;
      ordered = le;
      apart = h.apart;
      numbered = h.numbered;
      near = omega (arith, h.near);
      within = h.within;
    } in
    record {
      from = ap (λ f. f + c.min-count.result) (sym e);
      expected = ap (λ (k : Kept). k.expected) c.self.view_is;
      bytes = λ p. taken_out s.buffer.items s.from to s.expected s.end s.runs c.args.self.now h c.self.view_is (omega arith) le h' p ∙ ap (λ f. forgotten_below (f + c.min-count.result) (byte_at c.args.self.now) p) (sym e);
    }
