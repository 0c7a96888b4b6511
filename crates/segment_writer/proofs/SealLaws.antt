-- A head that was laid out, with its payload and its MAC, is the sealed segment of its draft.
use Rattle.std.proofs.Common.{◌≡◌, ℕ, ◌/◌, List, length, drop, replicate, Option, Some, refl, sym, ap, subst, ◌∙◌}
use Rattle.std.proofs.lemmas.List.{length-replicate}
use Rattle.book_base.specs.declared.address.Pair.{Pair}
use Rattle.book_base.specs.Algorithms.{mac_length_of}
use Rattle.book_segments.specs.Bytes.{ring}
use Rattle.book_segments.specs.Options.{Ao, One, find_ao}
use Rattle.book_segments.specs.Segments.{Segment, spell}
use Rattle.book_segments.specs.Spelling.{finished}
use Rattle.book_macs.specs.Contexts.{context_of}
use Rattle.book_macs.specs.Keys.{mac, traffic_key}
use Rattle.book_macs.specs.MacInput.{mac_input}
use Rattle.book_keys.specs.Rows.{Row}
use Rattle.book_keys.specs.Coordination.{Sending}
use Rattle.book_endpoint.specs.States.{EndState}
use Rattle.book_endpoint.specs.Emissions.{Draft, Emits, written, no_mac, blank, own_ao, seal_of, sealed, seal_known, made_under}
use Rattle.tcp_segment.specs.declared.spelling.Head.{Head}
use Rattle.tcp_segment.specs.Layout.{drafted, IsFinished}
use Rattle.tcp_segment.proofs.DraftLaws.{drafted_ao}
use Rattle.ao_mac.specs.Macs.{IsMacOf}
use Rattle.segment_writer.specs.Drafts.{IsWritten}
use Rattle.segment_writer.specs.Heads.{head_for}
use Rattle.segment_writer.proofs.HeadLaws.{drafts_are, place_is}

-- ---- the draft before its MAC

-- what is laid out of a head and a payload, its MAC zero
abbrev pub zeroed : Head → List ℕ → Segment
zeroed h payload = drafted h (replicate h.mac_length 0) payload

-- its context between these initial sequence numbers is this one
abbrev pub HasContext : Head → List ℕ → ℕ → Option ℕ → List ℕ → Type 0
HasContext h payload own peer context = context_of (zeroed h payload) (Some own) peer ≡ Some context

-- its MAC under a row and a context, with the extension of this number, is this one
abbrev pub HasCode : Head → List ℕ → Row → List ℕ → ℕ → List ℕ → Type 0
HasCode h payload r context number code =
    IsMacOf code r.algorithm (traffic_key r.algorithm r.master context) (number / ring) (zeroed h payload) r.with_options

-- a segment without its MAC is what is laid out with zeros
blank_is : (pair : Pair) (s : EndState) (draft : Draft) (chosen : Sending) → zeroed (head_for pair s draft chosen) draft.payload ≡ blank pair s draft chosen
blank_is pair s draft chosen =
    drafts_are pair s draft chosen (no_mac chosen) (length-replicate {A = ℕ} (mac_length_of chosen.row.algorithm) 0)

-- its TCP-AO option is found
ao_is : (pair : Pair) (s : EndState) (draft : Draft) (chosen : Sending) (m payload : List ℕ)
    → find_ao (drafted (head_for pair s draft chosen) m payload).area ≡ One (own_ao draft chosen m)
ao_is pair s draft chosen m payload =
    let at : ℕ → Ao = λ n. record { key_id = chosen.key_id; rnext_key_id = chosen.rnext_key_id; mac = m; place = n } in
    drafted_ao (head_for pair s draft chosen) m payload ∙ ap (λ (n : ℕ). One (at n)) (place_is draft.flags pair.local.address)

-- where its context is known, it is made
pub emits_is : (pair : Pair) (s : EndState) (draft : Draft) (chosen : Sending) (context : List ℕ)
    → HasContext (head_for pair s draft chosen) draft.payload s.isn s.peer_isn context
    → made_under pair s chosen draft ≡ Emits (sealed pair s draft chosen context)
emits_is pair s draft chosen context e =
    ap (λ (d : Segment). seal_known pair s draft chosen (context_of d (Some s.isn) s.peer_isn)) (sym (blank_is pair s draft chosen))
    ∙ ap (seal_known pair s draft chosen) e

-- ---- its MAC

code_is : (pair : Pair) (s : EndState) (draft : Draft) (chosen : Sending) (context code : List ℕ)
    → HasCode (head_for pair s draft chosen) draft.payload chosen.row context draft.number code
    → code ≡ seal_of pair s draft chosen context
code_is pair s draft chosen context code is =
    let r = chosen.row in
    let ao : Ao = own_ao draft chosen (no_mac chosen) in
    let key : List ℕ = traffic_key r.algorithm r.master context in
    is draft.number ao refl (ao_is pair s draft chosen (no_mac chosen) draft.payload)
    ∙ ap (λ (d : Segment). mac r.algorithm key (mac_input draft.number d ao r.with_options)) (blank_is pair s draft chosen)

-- what stands in the buffer is the sealed segment of the draft
pub written_is : (pair : Pair) (s : EndState) (draft : Draft) (chosen : Sending) (context code before after : List ℕ) (count : ℕ)
    → length code ≡ mac_length_of chosen.row.algorithm
    → HasCode (head_for pair s draft chosen) draft.payload chosen.row context draft.number code
    → count ≡ length (spell (finished (drafted (head_for pair s draft chosen) code draft.payload)))
    → IsFinished (head_for pair s draft chosen) code draft.payload (drop count before) after
    → IsWritten (sealed pair s draft chosen context).segment count before after
written_is pair s draft chosen context code before after count long is size f =
    let d : Segment = drafted (head_for pair s draft chosen) code draft.payload in
    let same : finished d ≡ (sealed pair s draft chosen context).segment =
    ap finished (drafts_are pair s draft chosen code long ∙ ap (written pair s draft chosen) (code_is pair s draft chosen context code is)) in
    let w : IsWritten (finished d) count before after = record { bytes = f.bytes; long = size; good = f.good; again = f.again } in
    subst (λ (x : Segment). IsWritten x count before after) same w
