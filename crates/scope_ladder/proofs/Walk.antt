-- What is drawn of the packets that were heard, and how each end comes.
use Rattle.std.proofs.Common.{◌≡◌, inl, inr, ℕ, zero, suc, ◌+◌, ◌≤◌, ◌<◌, List, [], ◌∷◌, ◌++◌, length, take, Option, Some, None, Result, Ok, Err, refl, sym, ap, subst, ◌∙◌, append_assoc, arith}
use Rattle.std.proofs.Math.Seq.{take-append-add}
use Rattle.std.proofs.lemmas.List.{append-nil, length-append, take-append-le}
use Rattle.ao_base.specs.Outside.{IsAtEnd, Rose, Side, WasWritten}
use Rattle.ao_base.proofs.Sides.{gave_none, rose_after, took_and_none, took_more, took_none}
use Rattle.book_captures.specs.Captures.{CapturePacket, capture_of}
use Rattle.book_draw.specs.declared.session_rung.SessionEnds.{SessionEnds}
use Rattle.book_draw.specs.declared.session_rung.SessionRung.{SessionRung}
use Rattle.book_draw.specs.declared.span.DrawnTime.{DrawnTime}
use Rattle.book_draw.specs.SessionLadders.{ladder_between, left_text}
use Rattle.book_draw.specs.SessionRungs.{session_rungs_from, rungs_between, rungs_in, rungs_of_session, session_at, sessions_drawn}
use Rattle.book_draw.specs.Times.{left_out}
use Rattle.page_draw_svg.specs.declared.form.LadderForm.{LadderForm}
use Rattle.page_draw_svg.specs.declared.form.LadderForm.TheVariants.{Text, Picture}
use Rattle.page_draw_svg.specs.SessionPictures.{picture_within, session_as}
use Rattle.book_sessions.specs.Listening.{listening_behind}
use Rattle.capture_walk.specs.Reads.{Reading, new_reading}
use Rattle.capture_walk.specs.declared.hearer.Heard.{Heard}
use Rattle.capture_walk.specs.declared.hearer.HearHalt.{HearHalt}
use Rattle.capture_walk.specs.declared.walking.WalkEnd.{WalkEnd}
use Rattle.capture_walk.specs.declared.walking.WalkEnd.TheVariants as end
use Rattle.capture_walk.specs.declared.walking.WalkHalt.{WalkHalt}
use Rattle.capture_walk.specs.declared.walking.WalkHalt.TheVariants as walk_halt
use Rattle.capture_walk.specs.HasRead.{HasRead}
use Rattle.capture_walk.specs.Hearing.{Hears, Tells as TellsText}
use Rattle.capture_walk.specs.Walks as walks
use Rattle.capture_walk.proofs.Showing.{read_now, shown_none}
use Rattle.capture_walk.proofs.Taken.{all_none}
use Rattle.capture_walk.proofs.Telling.{hears_told}
use Rattle.scope_ladder.specs.declared.draw.LadderHalt.{LadderHalt}
use Rattle.scope_ladder.specs.declared.draw.LadderHalt.TheVariants as halt
use Rattle.scope_ladder.specs.declared.drawer.Drawer.{Drawer}
use Rattle.scope_ladder.specs.Drawing.{AddsPacket, Follows, Request, StandsAfter, drawn_text, flow_text, last_text, rungs_for}
use Rattle.scope_ladder.specs.Searches.{SeeksBy, Tells, flow_as, kept_in, last_as}
use Rattle.scope_ladder.specs.Writing.{Breaks, Ends, EndsBy, Writes, WritesLast}

-- ---- what is drawn before all is read

no_flow : (f : LadderForm) (t : DrawnTime) (n : ℕ) → flow_as f t n [] ≡ []
no_flow Text t zero = refl
no_flow Text t (suc n) = refl
no_flow Picture t n = refl

-- of no packets nothing
pub no_text : (q : Request) → flow_text q [] ≡ []
unfolding rungs_in
no_text q = no_flow q.form q.within q.number

-- no packet was heard
pub stands_first : (q : Request) (d : Drawer) → Follows q d [] (listening_behind q.given) → StandsAfter q d []
unfolding rungs_in
stands_first q d follows = record { known = listening_behind q.given; follows = follows; comes = λ more. refl }

-- one packet more
module _ (q : Request) (before now : Drawer) (shown : List CapturePacket) (p : CapturePacket) (h : StandsAfter q before shown) (adds : AddsPacket q now (rungs_for q shown) h.known p) where
  rungs_more : rungs_for q (shown ++ p ∷ []) ≡ rungs_for q shown ++ adds.more
  rungs_more = h.comes (p ∷ []) ∙ ap (λ (rs : List SessionRung). rungs_for q shown ++ rs) (adds.comes (λ k. []) ∙ append-nil adds.more)

  stands_more : StandsAfter q now (shown ++ p ∷ [])
  stands_more = record {
    known = adds.after;
    follows = rw rungs_more adds.follows;
    comes = λ more. ap (rungs_for q) (append_assoc shown (p ∷ []) more)
        ∙ (h.comes (p ∷ more)
        ∙ (ap (λ (rs : List SessionRung). rungs_for q shown ++ rs) (adds.comes (λ k. session_rungs_from q.judging k more))
        ∙ (sym (append_assoc (rungs_for q shown) adds.more (session_rungs_from q.judging adds.after more))
        ∙ ap (λ (rs : List SessionRung). rs ++ session_rungs_from q.judging adds.after more) (sym rungs_more))));
  }

  -- was heard, and its text told, or a part of it
  pub packet_heard : (o r : Side) (how : Result Heard HearHalt) → TellsText now.text.items o r how → Hears (flow_text q) (StandsAfter q now) (λ packets last. ⊥) shown p o r how
  packet_heard o r how tells = hears_told (flow_text q) (StandsAfter q now) (λ packets last. ⊥) shown p o r now.text.items how (ap (flow_as q.form q.within q.number) rungs_more ∙ adds.text) stands_more tells

-- ---- what is drawn when all is read

abbrev rest_of : Request → List SessionRung → List ℕ
rest_of q rs = last_as q.form q.within (left_out q.within (rungs_of_session q.number rs)) (session_at q.number (sessions_drawn rs)) (kept_in q.form q.within q.number rs)

flow_and_rest : (f : LadderForm) (t : DrawnTime) (n : ℕ) (rs : List SessionRung) → flow_as f t n rs ++ last_as f t (left_out t (rungs_of_session n rs)) (session_at n (sessions_drawn rs)) (kept_in f t n rs) ≡ session_as f t n rs
flow_and_rest Text t n rs = refl
flow_and_rest Picture t n rs = refl

found_is : (found : Option SessionEnds) (n : ℕ) (known : List SessionEnds) (rs : List SessionRung) → SeeksBy found n known rs → found ≡ session_at n (sessions_drawn rs)
found_is None n known rs seeks = sym seeks.0
found_is (Some e) n known rs seeks = sym seeks

whole_text : (q : Request) (d : Drawer) (packets : List CapturePacket) → StandsAfter q d packets → flow_text q packets ++ last_text d ≡ drawn_text q packets
whole_text q d packets h =
    let rs = rungs_for q packets in
    let f = h.follows in
    let found = found_is d.search.found d.search.number d.search.known rs f.seeks in
    let last : last_text d ≡ rest_of q rs = rw (f.form, f.within, f.left, f.kept, found, f.number) refl in
    ap (λ (xs : List ℕ). flow_text q packets ++ xs) last ∙ flow_and_rest q.form q.within q.number rs

-- nothing is drawn of a session that isn't there
no_session_drawn : (f : LadderForm) (t : DrawnTime) (n : ℕ) (rs : List SessionRung) → session_at n (sessions_drawn rs) ≡ None → session_as f t n rs ≡ []
no_session_drawn Text t n rs none = ap (λ s. ladder_between t s rs ++ left_text t (left_out t (rungs_between s rs))) none
no_session_drawn Picture t n rs none = ap (λ s. picture_within t s (rungs_of_session n rs)) none

-- ---- each end

written_none : (q : Request) (out : Side) → WasWritten (flow_text q []) out out
written_none q out = subst (λ (t : List ℕ). WasWritten t out out) (sym (no_text q)) (took_none out)

-- memory ran out before the first part
pub ends_none : (q : Request) (source out : Side) → Writes q [] source source out out (Err (halt.Walk walk_halt.Memory))
ends_none q source out = record {
  gave = gave_none source;
  bytes = all_none;
  ends = record { read = []; later = []; one = omega arith; has_read = read_now new_reading [] [] shown_none; wrote = written_none q out };
}

-- the whole capture was read
ends_told : (q : Request) (given : List ℕ) (a c o r : Side) (result : Result (Unit {0}) LadderHalt) → IsAtEnd c → (capture_of given).fault ≡ None
    → Tells q.number (rungs_for q (capture_of given).packets) result → WasWritten (drawn_text q (capture_of given).packets) o r → Ends q given a c o r result
ends_told q given a c o r (Ok done) at_end faultless tells wrote = record { at_end = at_end; faultless = faultless; has = tells; wrote = wrote }
ends_told q given a c o r (Err (halt.NoSession many)) at_end faultless tells wrote = record {
  at_end = at_end;
  faultless = faultless;
  none = tells.0;
  all = tells.1;
  wrote = subst (λ (t : List ℕ). WasWritten t o r) (no_session_drawn q.form q.within q.number (rungs_for q (capture_of given).packets) tells.0) wrote;
}
ends_told q given a c o r (Err (halt.Walk why)) at_end faultless tells wrote = absurd tells

-- a write failed of what is drawn of these packets, behind what is drawn of the first of them before all is read
breaks_at : (q : Request) (given : List ℕ) (o r : Side) (read later : List CapturePacket) (text more : List ℕ) (n : ℕ) → length later ≤ 1 → HasRead given (read ++ later)
    → (flow_text q read ++ text) ++ more ≡ drawn_text q (read ++ later) → n < length text → WasWritten (flow_text q read ++ take n text) o r → Rose o r → Breaks q given o r
breaks_at q given o r read later text more n one has_read is low wrote rose =
    let front = flow_text q read in
    let size = length-append front text in
    let all : length ((front ++ text) ++ more) ≡ length (front ++ text) + length more = length-append (front ++ text) more in
    let within : length front + n ≤ length (front ++ text) = omega arith in
    let cut : take (length front + n) ((front ++ text) ++ more) ≡ front ++ take n text =
    take-append-le (length front + n) (front ++ text) more within ∙ take-append-add front text n in
    let long : length front + n < length ((front ++ text) ++ more) = omega arith in
    record {
      read = read;
      later = later;
      one = one;
      n = length front + n;
      has_read = has_read;
      at_least = omega arith;
      not_all = subst (λ (t : List ℕ). length front + n < length t) is long;
      wrote = subst (λ (t : List ℕ). WasWritten (take (length front + n) t) o r) is (subst (λ (t : List ℕ). WasWritten t o r) (sym cut) wrote);
      rose = rose;
    }

-- all that was read was heard
module _ (q : Request) (d : Drawer) (given : List ℕ) (a c o p r : Side) (read : List CapturePacket) (after result : Result (Unit {0}) LadderHalt) (has_read : HasRead given read) (heard : StandsAfter q d read) (wrote : WasWritten (flow_text q read) o p)
    (ends : WasWritten (drawn_text q read) o r → Ends q given a c o r after) where
  abbrev ends_so : Result (Unit {0}) LadderHalt → Type 0
  ends_so result = Ends q given a c o r result

  read_all : HasRead given (read ++ [])
  read_all = subst (λ (ps : List CapturePacket). HasRead given ps) (sym (append-nil read)) has_read

  ends_last : WritesLast (last_text d) p r after result → Ends q given a c o r result
  ends_last (inl whole) =
      subst ends_so (sym whole.1) (ends (subst (λ (t : List ℕ). WasWritten t o r) (whole_text q d read heard) (took_more (flow_text q read) (last_text d) o p r wrote whole.0)))
  ends_last (inr (inl lacks)) =
      subst ends_so (sym lacks.1) (record { read = read; later = []; one = omega arith; has_read = read_all; wrote = took_and_none (flow_text q read) o p r wrote lacks.0 })
  ends_last (inr (inr breaks)) =
      let text = last_text d in
      let whole : (flow_text q read ++ text) ++ [] ≡ drawn_text q (read ++ []) =
      append-nil (flow_text q read ++ text) ∙ (whole_text q d read heard ∙ ap (drawn_text q) (sym (append-nil read))) in
      subst ends_so (sym breaks.1)
      (breaks_at q given o r read [] text [] breaks.0.n (omega arith) read_all whole breaks.0.not_all (took_more (flow_text q read) (take breaks.0.n text) o p r wrote breaks.0.wrote)
      (rose_after (length (flow_text q read)) o p r wrote.counts breaks.0.rose))

module _ (q : Request) (d : Drawer) (reader : Reading) (given : List ℕ) (a c o p r : Side) (result : Result (Unit {0}) LadderHalt) where
  ends_by : (walked : Result WalkEnd WalkHalt) → walks.Ends (flow_text q) (StandsAfter q d) (λ packets last. ⊥) reader given a c o p walked → EndsBy d p r walked result → Ends q given a c o r result
  ends_by (Ok end.End) w by =
      let packets = (capture_of given).packets in
      let f = w.heard.follows in
      let tells : Tells q.number (rungs_for q packets) by.0 = subst (λ (n : ℕ). Tells n (rungs_for q packets) by.0) f.number (by.1 (rungs_for q packets) f.seeks) in
      ends_last q d given a c o p r packets by.0 result w.has_read w.heard w.wrote (ends_told q given a c o r by.0 w.at_end w.faultless tells) by.2
  ends_by (Ok end.Done) w by = absurd w.here
  ends_by (Err (walk_halt.Broken fault)) w by =
      ends_last q d given a c o p r (capture_of given).packets (Err (halt.Walk (walk_halt.Broken fault))) result w.has_read w.heard w.wrote (λ wrote. record { has_read = w.has_read; fault_is = w.fault_is; all = w.all; wrote = wrote }) by
  ends_by (Err walk_halt.TooLong) w by =
      ends_last q d given a c o p r w.1.read (Err (halt.Walk walk_halt.TooLong)) result w.1.has_read w.1.heard w.1.wrote (λ wrote. (w.0, record { read = w.1.read; has_read = w.1.has_read; wrote = wrote })) by
  ends_by (Err walk_halt.Read) w by =
      ends_last q d given a c o p r w.1.read (Err (halt.Walk walk_halt.Read)) result w.1.has_read w.1.heard w.1.wrote (λ wrote. (w.0, record { read = w.1.read; has_read = w.1.has_read; wrote = wrote })) by
  ends_by (Err walk_halt.Write) w by =
      let read = w.read ++ w.last ∷ [] in
      let whole : (flow_text q w.read ++ w.text) ++ rest_of q (rungs_for q read) ≡ drawn_text q read =
      ap (λ (xs : List ℕ). xs ++ rest_of q (rungs_for q read)) (sym w.adds) ∙ flow_and_rest q.form q.within q.number (rungs_for q read) in
      rw (by.0, by.1) (breaks_at q given o p w.read (w.last ∷ []) w.text (rest_of q (rungs_for q read)) w.n (omega arith) w.has_read whole w.not_all w.wrote w.rose)
  ends_by (Err walk_halt.Memory) w by = rw (by.0, by.1) (record { read = w.read; later = w.later; one = w.one; has_read = w.has_read; wrote = w.wrote })

  -- what was drawn of a capture that was heard
  pub writes_by : (walked : Result WalkEnd WalkHalt) → walks.Walks (flow_text q) (StandsAfter q d) (λ packets last. ⊥) reader given a c o p walked → EndsBy d p r walked result → Writes q given a c o r result
  writes_by walked w by = record { gave = w.gave; bytes = w.bytes; ends = ends_by walked w.ends by }
