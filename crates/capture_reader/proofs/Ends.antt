-- What follows headers ends the frame.
use Rattle.std.proofs.Common.{◌≡◌, ℕ, ◌+◌, ◌-◌, ◌*◌, ◌%◌, ◌≤◌, ◌==◌, Bool, true, false, List, [], ◌∷◌, ◌++◌, length, take, drop, nat_lt, Result, Ok, Err, if◌then◌else◌, refl, sym, ap, ◌∙◌, subst, arith, append_assoc}
use Rattle.std.proofs.lemmas.List.{length-append, take-append-drop, drop_at}
use Rattle.book_base.specs.Results.{◌>>=◌}
use Rattle.book_pcap.specs.declared.pcap_head.ByteOrder.TheVariants.{Big}
use Rattle.book_pcap.specs.Packets.{two_at}
use Rattle.book_captures.specs.declared.link_type.LinkType.{LinkType}
use Rattle.book_captures.specs.declared.link_type.Protocol.{Protocol}
use Rattle.book_captures.specs.declared.link_type.Protocol.TheVariants.{Ip, Tag, Session, Labels}
use Rattle.book_captures.specs.declared.reasons.Header.TheVariants as header
use Rattle.book_captures.specs.declared.reasons.Skipped.{Skipped}
use Rattle.book_captures.specs.declared.reasons.Skipped.TheVariants.{Short, NotSession}
use Rattle.book_captures.specs.Frames.{Layer, ethertype, ppp, link_header_length, protocol_in, behind_link, behind_tags, behind_session, behind_labels, innermost}

-- the second list ends the first
pub record Ends (text body : List ℕ) : Type 0 where
  pub front : List ℕ
  pub split : text ≡ front ++ body

itself : (text : List ℕ) → Ends text text
itself text = record { front = []; split = refl }

behind : (n : ℕ) (text : List ℕ) → Ends text (drop n text)
behind n text = record { front = take n text; split = sym (take-append-drop n text) }

further : (a b c : List ℕ) → Ends a b → Ends b c → Ends a c
further a b c one two = record {
  front = one.front ++ two.front;
  split = one.split ∙ (ap (λ (xs : List ℕ). one.front ++ xs) two.split ∙ sym (append_assoc one.front two.front c));
}

behind_four : (a b c d : ℕ) (rest body : List ℕ) → Ends rest body → Ends (a ∷ b ∷ c ∷ d ∷ rest) body
behind_four a b c d rest body e = record { front = a ∷ b ∷ c ∷ d ∷ e.front; split = ap (λ (xs : List ℕ). a ∷ b ∷ c ∷ d ∷ xs) e.split }

-- the body of a layer that is found
found : (text : List ℕ) (one l : Layer) → one ≡ l → Ends text one.body → Ends text l.body
found text one l same e = subst (λ (x : Layer). Ends text x.body) same e

same_ok : (one l : Layer) → ◌≡◌ {A = Result Layer Skipped} (Ok one) (Ok l) → one ≡ l
same_ok one l e = cc

second : (first : Bool) (why : Skipped) (one l : Layer) → (if first then Err why else Ok one) ≡ Ok l → one ≡ l
second true why one l e = absurd (cc)
second false why one l e = cc

middle : (first good : Bool) (why other : Skipped) (one l : Layer) → (if first then Err why else if good then Ok one else Err other) ≡ Ok l → one ≡ l
middle true good why other one l e = absurd (cc)
middle false true why other one l e = cc
middle false false why other one l e = absurd (cc)

link_ends : (link : LinkType) (frame : List ℕ) (l : Layer) → behind_link link frame ≡ Ok l → Ends frame l.body
unfolding behind_link
link_ends link frame l e =
    let one : Layer = record { protocol = protocol_in link frame; body = drop (link_header_length link) frame } in
    found frame one l (second (nat_lt (length frame) (link_header_length link)) (Short header.Link) one l e) (behind (link_header_length link) frame)

tags_end : (p : Protocol) (body : List ℕ) (l : Layer) → behind_tags p body ≡ Ok l → Ends body l.body
unfolding behind_tags
tags_end Tag (a ∷ b ∷ c ∷ d ∷ rest) l e = behind_four a b c d rest l.body (tags_end (ethertype (c * 256 + d)) rest l e)
tags_end Tag body l e = absurd (cc)
tags_end p body l e = found body (record { protocol = p; body = body }) l (same_ok (record { protocol = p; body = body }) l e) (itself body)

session_ends : (p : Protocol) (body : List ℕ) (l : Layer) → behind_session p body ≡ Ok l → Ends body l.body
unfolding behind_session
session_ends Session body l e =
    let one : Layer = record { protocol = ppp (two_at Big body 6); body = drop 8 body } in
    found body one l (middle (nat_lt (length body) 8) (two_at Big body 0 == 4352) (Short header.Session) NotSession one l e) (behind 8 body)
session_ends p body l e = found body (record { protocol = p; body = body }) l (same_ok (record { protocol = p; body = body }) l e) (itself body)

bottom : (odd : Bool) (a b c d : ℕ) (rest : List ℕ) (l : Layer) → (behind_labels Labels rest ≡ Ok l → Ends rest l.body)
    → (if odd then Ok (record { protocol = Ip; body = rest }) else behind_labels Labels rest) ≡ Ok l → Ends (a ∷ b ∷ c ∷ d ∷ rest) l.body
bottom true a b c d rest l others e =
    behind_four a b c d rest l.body (found rest (record { protocol = Ip; body = rest }) l (same_ok (record { protocol = Ip; body = rest }) l e) (itself rest))
bottom false a b c d rest l others e = behind_four a b c d rest l.body (others e)

labels_end : (p : Protocol) (body : List ℕ) (l : Layer) → behind_labels p body ≡ Ok l → Ends body l.body
unfolding behind_labels
labels_end Labels (a ∷ b ∷ c ∷ d ∷ rest) l e = bottom (c % 2 == 1) a b c d rest l (labels_end Labels rest l) e
labels_end Labels body l e = absurd (cc)
labels_end p body l e = found body (record { protocol = p; body = body }) l (same_ok (record { protocol = p; body = body }) l e) (itself body)

-- a reading that is followed by another
record Bound (r : Result Layer Skipped) (f : Layer → Result Layer Skipped) (l : Layer) : Type 0 where
  between : Layer
  first : r ≡ Ok between
  rest : f between ≡ Ok l

bound : (r : Result Layer Skipped) (f : Layer → Result Layer Skipped) (l : Layer) → (r >>= f) ≡ Ok l → Bound r f l
bound (Ok x) f l e = record { between = x; first = refl; rest = e }
bound (Err why) f l e = absurd (cc)

-- what is innermost ends the frame
pub innermost_ends : (link : LinkType) (frame : List ℕ) (l : Layer) → innermost link frame ≡ Ok l → Ends frame l.body
unfolding innermost
innermost_ends link frame l e =
    let third = λ (x : Layer). behind_labels x.protocol x.body in
    let two = λ (x : Layer). behind_session x.protocol x.body >>= third in
    let one = λ (x : Layer). behind_tags x.protocol x.body >>= two in
    let a = bound (behind_link link frame) one l e in
    let b = bound (behind_tags a.between.protocol a.between.body) two l a.rest in
    let c = bound (behind_session b.between.protocol b.between.body) third l b.rest in
    further frame a.between.body l.body (link_ends link frame a.between a.first)
    (further a.between.body b.between.body l.body (tags_end a.between.protocol a.between.body b.between b.first)
    (further b.between.body c.between.body l.body (session_ends b.between.protocol b.between.body c.between c.first)
    (labels_end c.between.protocol c.between.body l c.rest)))

pub not_longer : (text body : List ℕ) → Ends text body → length body ≤ length text
not_longer text body e =
    let size = ap (λ (xs : List ℕ). length xs) e.split ∙ length-append e.front body in omega arith

pub ends_there : (text body : List ℕ) → Ends text body → drop (length text - length body) text ≡ body
ends_there text body e =
    let size = ap (λ (xs : List ℕ). length xs) e.split ∙ length-append e.front body in
    let place : length text - length body ≡ length e.front = omega arith in
    ap (λ (n : ℕ). drop n text) place
    ∙ (ap (drop (length e.front)) e.split ∙ drop_at e.front body (length e.front) refl)
