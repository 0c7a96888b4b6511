use Rattle.std.proofs.Common.{◌≡◌, ℕ, ◌||◌, Bool, true, false, Option, refl, sym, ap, ◌∙◌, if◌then◌else◌}
use Rattle.std.specs.Prelude.{is_some, Some, None, Ok}
use Rattle.book_base.specs.declared.address.Pair.{Pair}
use Rattle.book_segments.specs.Segments.{Segment, has, SYN, ACK, RST}
use Rattle.book_endpoint.specs.Verdicts.{Finding}
use Rattle.book_shim.specs.declared.kept.Kept.{Kept}
use Rattle.book_shim.specs.Keeping.{Setting}
use Rattle.book_shim.specs.Arriving.{Opened, take_in, handed_on, row_asked, asked_id}
use Rattle.law_shim.proofs.Sealing.{takes}
use Rattle.law_shim.proofs.relayed.syn_leaves_the_connection.Goals as goal

-- what is kept then, by the flags
kept_so : (here : Setting) (pair : Pair) (g : Kept) (d : Segment) (p : Finding) → has SYN d ≡ true → has ACK d ≡ false
    → (handed_on here pair g d p).kept ≡ record g { current = row_asked here pair g.current (asked_id g d p) }
kept_so here pair g d p s a = rw (s, a) refl

-- no key is asked for, by the test
none_asked : (r b : Bool) (here : Setting) (pair : Pair) (current : Option ℕ) (id : ℕ) → b ≡ true → row_asked here pair current (if r || b then None else Some id) ≡ current
none_asked true b here pair current id e = refl
none_asked false true here pair current id e = refl
none_asked false false here pair current id e = absurd (cc)

stays_so : (here : Setting) (pair : Pair) (g : Kept) (d : Segment) (p : Finding) → has SYN d ≡ true → has ACK d ≡ false → (is_some g.isns || is_some g.opening) ≡ true
    → row_asked here pair g.current (asked_id g d p) ≡ g.current
stays_so here pair g d p s a e = rw (s, a) (none_asked (has RST d) (is_some g.isns || is_some g.opening) here pair g.current p.rnext_key_id e)

kept_is : (here : Setting) (pair : Pair) (g : Kept) (d : Segment) (t : Opened) → take_in here pair g d ≡ Ok t → has SYN d ≡ true → has ACK d ≡ false
    → t.kept ≡ record g { current = row_asked here pair g.current (asked_id g d t.passed) }
kept_is here pair g d t h s a =
    let o = takes here pair g d t h in
    ap (λ (x : Opened). x.kept) o.taken_is ∙ kept_so here pair g d t.passed s a

pub returns-clause-connection : goal.returns-clause-connection
returns-clause-connection c = λ here pair g d t h s a.
    let k = kept_is here pair g d t h s a in
    k ∙ ap (λ (x : Option ℕ). let y : Kept = record g { current = x } in y) (sym (ap (λ (x : Kept). x.current) k))

pub returns-clause-key : goal.returns-clause-key
returns-clause-key c = λ here pair g d t h s a e.
    kept_is here pair g d t h s a ∙ ap (λ (x : Option ℕ). let y : Kept = record g { current = x } in y) (stays_so here pair g d t.passed s a e)
