-- What was laid out, sealed and finished is the segment of each draft that was to be written.
use Rattle.std.proofs.Common.{◌≡◌, ℕ, ◌+◌, ◌-◌, ◌≤◌, true, List, length, drop, Option, Some, None, refl, sym, ap, subst, ◌∙◌, arith, get_or}
use Rattle.std.specs.Prelude.{slice_get}
use Rattle.book_base.specs.declared.address.Pair.{Pair}
use Rattle.book_base.specs.Algorithms.{mac_length_of}
use Rattle.book_segments.specs.Segments.{Segment, SYN, spell}
use Rattle.book_segments.specs.Spelling.{finished}
use Rattle.book_keys.specs.Rows.{Row}
use Rattle.book_keys.specs.Coordination.{Sending}
use Rattle.book_endpoint.specs.States.{EndState}
use Rattle.book_endpoint.specs.Emissions.{Draft, Emits, sets, sealed, made_under}
use Rattle.ao_check.specs.declared.choice.Sending.{Sending as Told}
use Rattle.tcp_segment.specs.declared.spelling.Head.{Head}
use Rattle.tcp_segment.specs.Drafts.{DatagramMut, Drafted}
use Rattle.tcp_segment.specs.Layout.{drafted, header_length, AreSized, IsFinished}
use Rattle.ao_kdf.specs.Cache.{Cache}
use Rattle.ao_kdf.specs.declared.way.Way.TheVariants.{Outbound}
use Rattle.ao_check.specs.Bonds.{Bond, Counted}
use Rattle.tcp_segment.specs.Counter.{number as value_of}
use Rattle.ao_check.specs.Signings.{IsToSign}
use Rattle.ao_check.proofs.KeyLaws.{got}
use Rattle.ao_check.proofs.SignedLaws.{to_sign}
use Rattle.ao_check.specs.Contexts.{IsPlanned}
use Rattle.segment_writer.specs.declared.outgoing.Outgoing.{Outgoing}
use Rattle.segment_writer.specs.Drafts.{bytes_in, IsKnown, IsOf, IsWritten}
use Rattle.segment_writer.specs.Heads.{head_of, head_for}
use Rattle.segment_writer.proofs.SealLaws.{HasCode, HasContext, emits_is, written_is}
use Rattle.segment_writer.proofs.SizeLaws.{finished_long}

-- the head is that of what is to be written, and the row that signs it is this one
pub record IsLaid (o : Outgoing) (rows : List Row) (sending : Told) (pair : Pair) (h : Head) (r : Row) : Type 0 where
  pub head : h ≡ head_of pair o sending (mac_length_of r.algorithm)
  pub here : slice_get rows (sending.row - 1) ≡ Some r

some_is : (r q : Row) → Some r ≡ Some q → r ≡ q
some_is r q e = cc

row_is : (o : Outgoing) (a : Bond) (rows : List Row) (sending : Told) (pair : Pair) (h : Head) (r : Row) (s : EndState) (draft : Draft) (chosen : Sending)
    → IsLaid o rows sending pair h r → IsOf o a rows sending s draft chosen → r ≡ chosen.row
row_is o a rows sending pair h r s draft chosen l i =
    let number : sending.row ≡ chosen.number = ap (λ (x : Told). x.row) i.sending_is in
    some_is r chosen.row (sym l.here ∙ (ap (λ (n : ℕ). slice_get rows (n - 1)) number ∙ i.row))

head_is : (o : Outgoing) (a : Bond) (rows : List Row) (sending : Told) (pair : Pair) (h : Head) (r : Row) (s : EndState) (draft : Draft) (chosen : Sending)
    → IsLaid o rows sending pair h r → IsOf o a rows sending s draft chosen → h ≡ head_for pair s draft chosen
head_is o a rows sending pair h r s draft chosen l i =
    let same = row_is o a rows sending pair h r s draft chosen l i in
    l.head ∙ rw (i.flags, i.number, i.expected, i.window_is, i.sending_is, same) refl

-- a segment whose context was found is made
pub emits_so : (o : Outgoing) (a : Bond) (rows : List Row) (sending : Told) (pair : Pair) (h : Head) (r : Row)
    (s : EndState) (draft : Draft) (chosen : Sending) (p context : List ℕ)
    → IsLaid o rows sending pair h r → IsOf o a rows sending s draft chosen → p ≡ bytes_in o.payload
    → HasContext h p a.own a.peer context
    → made_under pair s chosen draft ≡ Emits (sealed pair s draft chosen context)
emits_so o a rows sending pair h r s draft chosen p context l i copied e =
    let k : Head = head_for pair s draft chosen in
    let head : h ≡ k = head_is o a rows sending pair h r s draft chosen l i in
    let e1 = subst (λ (x : Head). HasContext x p a.own a.peer context) head e in
    let e2 = subst (λ (x : List ℕ). HasContext k x a.own a.peer context) (copied ∙ i.payload) e1 in
    let e3 = subst (λ (x : ℕ). HasContext k draft.payload x a.peer context) i.own e2 in
    let e4 = subst (λ (x : Option ℕ). HasContext k draft.payload s.isn x context) i.peer e3 in
    emits_is pair s draft chosen context e4

-- a segment whose MAC was found stands in the buffer
pub written_so : (o : Outgoing) (a : Bond) (rows : List Row) (sending : Told) (pair : Pair) (h : Head) (r : Row)
    (s : EndState) (draft : Draft) (chosen : Sending) (p context code before after : List ℕ) (count : ℕ)
    → IsLaid o rows sending pair h r → IsOf o a rows sending s draft chosen → p ≡ bytes_in o.payload
    → AreSized h.source.address h.destination.address
    → length code ≡ h.mac_length → count ≡ header_length h + length p
    → HasCode h p r context (value_of o.number) code
    → IsFinished h code p (drop count before) after
    → IsWritten (sealed pair s draft chosen context).segment count before after
written_so o a rows sending pair h r s draft chosen p context code before after count l i copied family long size is f =
    let k : Head = head_for pair s draft chosen in
    let head : h ≡ k = head_is o a rows sending pair h r s draft chosen l i in
    let row : r ≡ chosen.row = row_is o a rows sending pair h r s draft chosen l i in
    let text : p ≡ draft.payload = copied ∙ i.payload in
    let is1 = subst (λ (x : Head). HasCode x p r context (value_of o.number) code) head is in
    let is2 = subst (λ (x : List ℕ). HasCode k x r context (value_of o.number) code) text is1 in
    let is3 = subst (λ (x : Row). HasCode k draft.payload x context (value_of o.number) code) row is2 in
    let is4 = subst (λ (x : ℕ). HasCode k draft.payload chosen.row context x code) i.number is3 in
    let f1 = subst (λ (x : Head). IsFinished x code p (drop count before) after) head f in
    let f2 = subst (λ (x : List ℕ). IsFinished k code x (drop count before) after) text f1 in
    let whole : count ≡ length (spell (finished (drafted h code p))) = size ∙ sym (finished_long h code p family long) in
    let w1 = subst (λ (x : Head). count ≡ length (spell (finished (drafted x code p)))) head whole in
    let w2 = subst (λ (x : List ℕ). count ≡ length (spell (finished (drafted k code x)))) text w1 in
    written_is pair s draft chosen context code before after count (long ∙ ap (λ (x : Head). x.mac_length) head) is4 w2 f2

-- ---- what the caller knows is what signing asks

is_planned : (d : Segment) (peer : Option ℕ) → IsKnown d.flags peer → IsPlanned d peer
is_planned d None k = k
is_planned d (Some peer) k = tt

pub is_ready : (d : DatagramMut) (o : Outgoing) (pair : Pair) (sending : Told) (n : ℕ) (h : Head) (code p rest : List ℕ) (a : Bond)
    → Drafted d h code p rest → h ≡ head_of pair o sending n → a.pair ≡ pair → IsKnown o.flags a.peer → IsToSign d a
is_ready d o pair sending n h code p rest a D e same known =
    let flags : h.flags ≡ o.flags = ap (λ (x : Head). x.flags) e in
    let from : h.source ≡ a.pair.local = ap (λ (x : Head). x.source) e ∙ ap (λ (x : Pair). x.local) (sym same) in
    let to : h.destination ≡ a.pair.remote = ap (λ (x : Head). x.destination) e ∙ ap (λ (x : Pair). x.remote) (sym same) in
    to_sign d h code p rest a D from to (is_planned (drafted h code p) a.peer (subst (λ (x : ℕ). IsKnown x a.peer) (sym flags) known))

-- with SYN or without it, as was to be written
pub is_counted : (before after : Cache) (row old new : ℕ) (o : Outgoing) (pair : Pair) (sending : Told) (n : ℕ) (h : Head)
    → h ≡ head_of pair o sending n
    → Counted before after (Some row) true Outbound (sets h.flags SYN) old new → Counted before after (Some row) true Outbound (sets o.flags SYN) old new
is_counted before after row old new o pair sending n h e k =
    subst (λ (x : ℕ). Counted before after (Some row) true Outbound (sets x SYN) old new) (ap (λ (x : Head). x.flags) e) k

-- the row at its place
pub is_here : (rows : List Row) (n : ℕ) (r : Row) → 1 ≤ n → n ≤ length rows → ((d : Row) → r ≡ get_or rows (n - 1) d)
    → slice_get rows (n - 1) ≡ Some r
is_here rows n r low high at = got rows (n - 1) r (omega arith) at
