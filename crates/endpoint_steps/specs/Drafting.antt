-- What an end makes as one choice of a draft, by the most bytes that it may carry: the form over
-- which the proofs of ends and runs go.
use Rattle.std.specs.Prelude.{ℕ, ◌+◌, ◌-◌, ◌==◌, min, nat_lt, not, ◌&&◌, Option, Some, None, is_some, if◌then◌else◌}
use Rattle.book_base.specs.declared.address.Pair.{Pair}
use Rattle.book_macs.specs.Contexts.{context_of}
use Rattle.book_keys.specs.Coordination.{Sending}
use Rattle.book_endpoint.specs.States.{EndState, given_end}
use Rattle.book_endpoint.specs.Emissions.{Draft, Emitted, Quiet, NoKey, is_syn_sent, is_syn_received, is_silent, sends_data, sends_fin, fitting, unsent, resends, is_blocked}
use Rattle.book_endpoint.specs.Emissions.{rst_draft, syn_draft, syn_ack_draft, data_draft, fin_draft, ack_draft, again_draft, fin_again_draft, blank, most_bytes, seal_known}

-- What is sent next, with at most so many bytes: RST, SYN, SYN with ACK, data, FIN, or ACK, the first of these that is to be sent (RFC 9293, section 3.10).
unfoldable pub to_emit : EndState → ℕ → Option Draft
to_emit s most =
    if s.rst_owed then Some (rst_draft s)
    else (if is_syn_sent s.phase && (s.next == s.isn)
    then Some (syn_draft s (record s { next = s.isn + 1 }))
    else (if is_syn_received s.phase && (s.next == s.isn)
    then Some (syn_ack_draft s (record s { next = s.isn + 1 }))
    else (if sends_data s then Some (data_draft s (fitting s most))
    else (if sends_fin s then Some (fin_draft s)
    else (if s.ack_owed && not (is_silent s.phase) then Some (ack_draft s)
    else None)))))

-- What isn't acknowledged: bytes, at most so many, or the FIN (RFC 9293, section 3.10.8).
abbrev pub unacknowledged : EndState → ℕ → Draft
unacknowledged s most =
    if nat_lt s.una (given_end s) then again_draft s (min (s.next - s.una) most)
    else fin_again_draft s

-- A probe of a window of zero: one byte, or the FIN (RFC 9293, section 3.8.6.1).
abbrev pub probe : EndState → Option Draft
probe s =
    if nat_lt 0 (unsent s) then Some (data_draft s 1)
    else (if s.closing then Some (fin_draft s) else None)

-- What is sent again, with at most so many bytes: the SYN, what isn't acknowledged, or a probe (RFC 9293, sections 3.10.8 and 3.8.6.1).
unfoldable pub to_resend : EndState → ℕ → Option Draft
to_resend s most =
    if is_syn_sent s.phase && nat_lt s.isn s.next then Some (syn_draft s s)
    else (if is_syn_received s.phase && nat_lt s.isn s.next then Some (syn_ack_draft s s)
    else (if resends s.phase && nat_lt s.una s.next then Some (unacknowledged s most)
    else (if is_blocked s then probe s
    else None)))

-- The segment of a draft, if there is one, under the key of a row (RFC 5925, section 7.4).
abbrev pub keyed : Pair → EndState → Sending → Option Draft → Emitted
keyed pair s sending None = Quiet
keyed pair s sending (Some out) =
    seal_known pair s out sending (context_of (blank pair s out sending) (Some s.isn) s.peer_isn)

-- What is made of a draft, chosen by the most bytes of a segment, with the row to send with, if there is one (own).
abbrev pub emitted : Pair → EndState → (ℕ → Option Draft) → Option Sending → Emitted
emitted pair s draft None = if is_some (draft 0) then NoKey else Quiet
emitted pair s draft (Some sending) = keyed pair s sending (draft (most_bytes pair s sending))
