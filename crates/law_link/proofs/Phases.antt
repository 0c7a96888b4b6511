-- What is said of phases, and which changes of phase keep it.
use Rattle.std.proofs.Common.{◌≡◌, Bool, true, false, refl}
use Rattle.book_endpoint.specs.declared.phase.Phase.{Phase}
use Rattle.book_endpoint.specs.declared.phase.Phase.TheVariants.{Listen, SynSent, SynReceived, Established, FinWait1, FinWait2, CloseWait, Closing, LastAck, TimeWait, Closed}
use Rattle.book_endpoint.specs.States.{hears, abort_resets}
use Rattle.book_endpoint.specs.Hearing.{past_fin, after_own_fin}
use Rattle.book_endpoint.specs.Emissions.{is_sending, is_silent, is_syn_sent, is_syn_received, fin_sent, resends}

-- the own FIN was made, or the end is closed
abbrev pub fin_gone : Phase → Bool
fin_gone FinWait1 = true
fin_gone FinWait2 = true
fin_gone Closing = true
fin_gone LastAck = true
fin_gone TimeWait = true
fin_gone Closed = true
fin_gone _ = false

-- the own FIN was made
abbrev pub fin_made : Phase → Bool
fin_made FinWait1 = true
fin_made FinWait2 = true
fin_made Closing = true
fin_made LastAck = true
fin_made TimeWait = true
fin_made _ = false

-- the peer's initial sequence number isn't known yet
abbrev pub waits : Phase → Bool
waits Listen = true
waits SynSent = true
waits _ = false

-- the handshake is over
abbrev pub open_now : Phase → Bool
open_now Listen = false
open_now SynSent = false
open_now SynReceived = false
open_now Closed = false
open_now _ = true

-- ---- changes of phase

-- a change of phase that keeps what is said of the sending half
pub record PhaseOk (old new : Phase) : Type 0 where
  pub waiting : waits new ≡ true → waits old ≡ true
  pub finished : fin_gone new ≡ false → fin_gone old ≡ false
  pub made : fin_made new ≡ true → fin_made old ≡ true

same_ok : (phase : Phase) → PhaseOk phase phase
same_ok phase = record { waiting = λ e. e; finished = λ e. e; made = λ e. e }

pub own_ok : (phase : Phase) → PhaseOk phase (after_own_fin phase)
own_ok FinWait1 = record { waiting = λ e. absurd (cc); finished = λ e. absurd (cc); made = λ e. e }
own_ok Closing = record { waiting = λ e. absurd (cc); finished = λ e. absurd (cc); made = λ e. e }
own_ok LastAck = record { waiting = λ e. absurd (cc); finished = λ e. absurd (cc); made = λ e. absurd (cc) }
own_ok phase = same_ok phase

pub past_ok : (phase : Phase) → PhaseOk phase (past_fin phase)
past_ok Established = record { waiting = λ e. e; finished = λ e. e; made = λ e. e }
past_ok FinWait1 = record { waiting = λ e. e; finished = λ e. e; made = λ e. e }
past_ok FinWait2 = record { waiting = λ e. e; finished = λ e. e; made = λ e. e }
past_ok phase = same_ok phase

pub closed_ok : (phase : Phase) → PhaseOk phase Closed
closed_ok phase = record { waiting = λ e. absurd (cc); finished = λ e. absurd (cc); made = λ e. absurd (cc) }

pub established_ok : PhaseOk SynReceived Established
established_ok = record { waiting = λ e. absurd (cc); finished = λ e. refl; made = λ e. absurd (cc) }

pub received_ok : PhaseOk Listen SynReceived
received_ok = record { waiting = λ e. absurd (cc); finished = λ e. refl; made = λ e. absurd (cc) }

pub answered_ok : PhaseOk SynSent Established
answered_ok = record { waiting = λ e. absurd (cc); finished = λ e. refl; made = λ e. absurd (cc) }

-- a change of phase that keeps what is said of the receiving half
pub record PhaseKept (old new : Phase) : Type 0 where
  pub opens : open_now new ≡ true → open_now old ≡ true
  pub knows : is_silent new ≡ false → is_silent old ≡ false

same_kept : (phase : Phase) → PhaseKept phase phase
same_kept phase = record { opens = λ e. e; knows = λ e. e }

pub own_kept : (phase : Phase) → PhaseKept phase (after_own_fin phase)
own_kept FinWait1 = record { opens = λ e. e; knows = λ e. e }
own_kept Closing = record { opens = λ e. e; knows = λ e. e }
own_kept LastAck = record { opens = λ e. absurd (cc); knows = λ e. absurd (cc) }
own_kept phase = same_kept phase

pub past_kept : (phase : Phase) → PhaseKept phase (past_fin phase)
past_kept Established = record { opens = λ e. e; knows = λ e. e }
past_kept FinWait1 = record { opens = λ e. e; knows = λ e. e }
past_kept FinWait2 = record { opens = λ e. e; knows = λ e. e }
past_kept phase = same_kept phase

pub closed_kept : (phase : Phase) → PhaseKept phase Closed
closed_kept phase = record { opens = λ e. absurd (cc); knows = λ e. absurd (cc) }

-- ---- what a phase says

pub sending_unfinished : (phase : Phase) → is_sending phase ≡ true → fin_gone phase ≡ false
sending_unfinished Established e = refl
sending_unfinished CloseWait e = refl
sending_unfinished _ e = absurd (cc)

pub sending_open : (phase : Phase) → is_sending phase ≡ true → open_now phase ≡ true
sending_open Established e = refl
sending_open CloseWait e = refl
sending_open _ e = absurd (cc)

pub sending_speaks : (phase : Phase) → is_sending phase ≡ true → is_silent phase ≡ false
sending_speaks Established e = refl
sending_speaks CloseWait e = refl
sending_speaks _ e = absurd (cc)

pub fin_sent_gone : (phase : Phase) → is_sending phase ≡ true → fin_gone (fin_sent phase) ≡ true
fin_sent_gone Established e = refl
fin_sent_gone CloseWait e = refl
fin_sent_gone _ e = absurd (cc)

pub fin_sent_knows : (phase : Phase) → is_sending phase ≡ true → waits (fin_sent phase) ≡ false
fin_sent_knows Established e = refl
fin_sent_knows CloseWait e = refl
fin_sent_knows _ e = absurd (cc)

-- where the FIN is among what may be sent again, it was made
pub resends_made : (phase : Phase) → resends phase ≡ true → fin_gone phase ≡ true → fin_made phase ≡ true
resends_made FinWait1 e g = refl
resends_made Closing e g = refl
resends_made LastAck e g = refl
resends_made _ e g = absurd (cc)

pub resends_open : (phase : Phase) → resends phase ≡ true → open_now phase ≡ true
resends_open Established e = refl
resends_open CloseWait e = refl
resends_open FinWait1 e = refl
resends_open Closing e = refl
resends_open LastAck e = refl
resends_open _ e = absurd (cc)

pub resends_speaks : (phase : Phase) → resends phase ≡ true → is_silent phase ≡ false
resends_speaks Established e = refl
resends_speaks CloseWait e = refl
resends_speaks FinWait1 e = refl
resends_speaks Closing e = refl
resends_speaks LastAck e = refl
resends_speaks _ e = absurd (cc)

pub syn_sent_unfinished : (phase : Phase) → is_syn_sent phase ≡ true → fin_gone phase ≡ false
syn_sent_unfinished SynSent e = refl
syn_sent_unfinished _ e = absurd (cc)

pub syn_received_unfinished : (phase : Phase) → is_syn_received phase ≡ true → fin_gone phase ≡ false
syn_received_unfinished SynReceived e = refl
syn_received_unfinished _ e = absurd (cc)

pub syn_received_speaks : (phase : Phase) → is_syn_received phase ≡ true → is_silent phase ≡ false
syn_received_speaks SynReceived e = refl
syn_received_speaks _ e = absurd (cc)

pub hears_speaks : (phase : Phase) → hears phase ≡ true → is_silent phase ≡ false
hears_speaks Established e = refl
hears_speaks FinWait1 e = refl
hears_speaks FinWait2 e = refl
hears_speaks _ e = absurd (cc)

-- a RST is owed only where the peer knows of the end
pub resets_speaks : (phase : Phase) (sent : Bool) → abort_resets phase sent ≡ true → is_silent phase ≡ false
resets_speaks SynReceived sent e = refl
resets_speaks Established sent e = refl
resets_speaks FinWait1 sent e = refl
resets_speaks FinWait2 sent e = refl
resets_speaks CloseWait sent e = refl
resets_speaks _ sent e = absurd (cc)
