use Rattle.std.proofs.Common.{ℕ, length, take, drop, sym, ap, subst, ◌∙◌, arith}
use Rattle.std.proofs.lemmas.List.{length-take-le}
use Rattle.book_segments.specs.Segments.{reading}
use Rattle.book_segments.specs.Spelling.{Spells}
use Rattle.shim_pairs.proofs.CopyLaws.{copied, most_bytes, read_own, whole_within}
use Rattle.shim_pairs.proofs.copy.copy_datagram.Goals as goal

pub slice_bounds-copy_from_slice-end : goal.slice_bounds-copy_from_slice-end
slice_bounds-copy_from_slice-end c =
    let n = c.length-whole.ensures.length in let m = most_bytes c.in-Ok.datagram c.length-whole.ensures.fits in let r = c.requires in omega (arith, n, m, r)

pub slice_bounds-copy_from_slice-end-2 : goal.slice_bounds-copy_from_slice-end-2
slice_bounds-copy_from_slice-end-2 c =
    let n = c.length-whole.ensures.length in let m = most_bytes c.in-Ok.datagram c.length-whole.ensures.fits in let r = c.requires in
    sym (length-take-le c.length-whole.result c.args.copy.now (omega (arith, n, m, r)))

pub copy_from_slice-requires : goal.copy_from_slice-requires
copy_from_slice-requires c =
    let n = c.length-whole.ensures.length in let m = most_bytes c.in-Ok.datagram c.length-whole.ensures.fits in let r = c.requires in
    length-take-le c.length-whole.result c.args.copy.now (omega (arith, n, m, r))
    ∙ sym (length-take-le c.length-whole.result c.args.bytes.now (whole_within c.in-Ok.datagram c.args.bytes.now c.length-whole.result n c.in-Ok.ensures.spelled))

pub returns-clause-read : goal.returns-clause-read
returns-clause-read c =
    let n = c.length-whole.ensures.length in
    let w = whole_within c.in-Ok.datagram c.args.bytes.now c.length-whole.result n c.in-Ok.ensures.spelled in
    ap reading (copied c.length-whole.result c.copy_from_slice.new.self (drop c.length-whole.result c.args.copy.now) (ap length c.copy_from_slice.ensures.after ∙ length-take-le c.length-whole.result c.args.bytes.now w) ∙ c.copy_from_slice.ensures.after)
    ∙ read_own c.in-Ok.datagram (take c.length-whole.result c.args.bytes.now) (subst (λ (k : ℕ). Spells c.in-Ok.datagram (take k c.args.bytes.now)) (sym n) c.in-Ok.ensures.spelled)
    ∙ sym c.in-Ok.ensures.read
