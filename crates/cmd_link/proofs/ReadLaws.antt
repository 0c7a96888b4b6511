-- Reading a piece of a stream.
use Rattle.std.proofs.Common.{◌≡◌, ◌⊎◌, inl, inr, ℕ, ◌+◌, ◌-◌, ◌<◌, ◌≤◌, true, false, List, [], ◌∷◌, ◌++◌, length, take, drop, codes, decimal, length-drop, Option, Some, None, refl, sym, ap, ◌∙◌, subst, arith, append_assoc, append-nil, length-append}
use Rattle.std.proofs.lemmas.Bool.{cases_lt}
use Rattle.std.proofs.lemmas.List.{take-append-le, take-append-drop, take_all}
use Rattle.std.specs.Prelude.{IfSome, IsSome}
use Rattle.book_lines.specs.Texts.{end_text, numbered_text}
use Rattle.book_bgp.specs.declared.bgp_fault.BgpFault.{BgpFault}
use Rattle.book_base.specs.Fronts.{Front, Ends, Faulted, Leads}
use Rattle.book_bgp.specs.Messages.{Message, message_front, message_length, messages, place_of as place_in, behind, fault_in}
use Rattle.book_bgp.proofs.Fronts.{faulty, front_faulty}
use Rattle.book_bgp.proofs.Streams.{faulty_more, none_after, behind_none, split_of, messages_append, behind_append, fault_of, fault_behind, fault_ends, fault_messages, fault_stays}
use Rattle.bgp_messages.specs.declared.reader.Fed.{Fed}
use Rattle.bgp_messages.specs.declared.reader.Found.TheVariants as found
use Rattle.bgp_messages.specs.Readers.{Reading, StandsFor, Reads, IsUsed, listed, greatest_place, fed_by, fed_after, fed as fed_of}
use Rattle.book_cmd_link.specs.BgpRuns.{Place as BookPlace, bgp_fault_text, message_line, message_lines, fault_line, taken_lines, is_faulty}
use Rattle.cmd_link.specs.declared.lines.Place.{Place}
use Rattle.cmd_link.specs.Places.{place_of}
use Rattle.cmd_link.specs.Reads.{IsRead}

-- ---- what a feed found

-- a message was completed: no fault before and after
pub record Completed (before : Option BgpFault) (now : Reading) : Type 0 where
  pub sound_before : before ≡ None
  pub sound : now.fault ≡ None

completed_by : (r : Reading) (piece : List ℕ) (f : Front Message BgpFault) (x : Fed × Reading) → x ≡ fed_by r piece f → x.0.found ≡ found.Message → x.1.fault ≡ None
completed_by r piece Ends x is m = absurd (let e = ap (λ (y : Fed × Reading). y.0.found) is in cc)
completed_by r piece (Faulted fault) x is m = absurd (let e = ap (λ (y : Fed × Reading). y.0.found) is in cc)
completed_by r piece (Leads message rest) x is m = ap (λ (y : Fed × Reading). y.1.fault) is

completed_after : (r : Reading) (piece : List ℕ) (o : Option BgpFault) (x : Fed × Reading) → x ≡ fed_after o r piece → x.0.found ≡ found.Message → Completed o x.1
completed_after r piece None x is m = record { sound_before = refl; sound = completed_by r piece (message_front (r.unfinished ++ piece)) x is m }
completed_after r piece (Some fault) x is m = absurd (let e = ap (λ (y : Fed × Reading). y.0.found) is in cc)

pub completed : (r : Reading) (piece : List ℕ) (fed : Fed) (now : Reading) → (fed, now) ≡ fed_of r piece → fed.found ≡ found.Message → Completed r.fault now
completed r piece fed now is m = completed_after r piece r.fault (fed, now) is m

-- the whole piece was used, and ends nothing
pub record Continued (before : Option BgpFault) (now : Reading) : Type 0 where
  pub sound_before : before ≡ None
  pub sound : now.fault ≡ None
  pub none : now.message ≡ None

continued_by : (r : Reading) (piece : List ℕ) (f : Front Message BgpFault) (x : Fed × Reading) → x ≡ fed_by r piece f → x.0.found ≡ found.More → (x.1.fault ≡ None) × (x.1.message ≡ None)
continued_by r piece Ends x is m = (ap (λ (y : Fed × Reading). y.1.fault) is, ap (λ (y : Fed × Reading). y.1.message) is)
continued_by r piece (Faulted fault) x is m = absurd (let e = ap (λ (y : Fed × Reading). y.0.found) is in cc)
continued_by r piece (Leads message rest) x is m = absurd (let e = ap (λ (y : Fed × Reading). y.0.found) is in cc)

continued_after : (r : Reading) (piece : List ℕ) (o : Option BgpFault) (x : Fed × Reading) → x ≡ fed_after o r piece → x.0.found ≡ found.More → Continued o x.1
continued_after r piece None x is m =
    let h = continued_by r piece (message_front (r.unfinished ++ piece)) x is m in record { sound_before = refl; sound = h.0; none = h.1 }
continued_after r piece (Some fault) x is m = absurd (let e = ap (λ (y : Fed × Reading). y.0.found) is in cc)

pub continued : (r : Reading) (piece : List ℕ) (fed : Fed) (now : Reading) → (fed, now) ≡ fed_of r piece → fed.found ≡ found.More → Continued r.fault now
continued r piece fed now is m = continued_after r piece r.fault (fed, now) is m

-- a fault was there before and nothing was used, or a faulty header was reached
pub record Stopped (r : Reading) (piece : List ℕ) (before : Option BgpFault) (used : ℕ) (fault : BgpFault) (now : Reading) : Type 0 where
  pub is : now.fault ≡ Some fault
  pub none : now.message ≡ None
  pub how : ((before ≡ Some fault) × (used ≡ 0)) ⊎ ((before ≡ None) × (message_front (r.unfinished ++ piece) ≡ Faulted fault) × (used ≡ 19 - length r.unfinished))

the_fault : (f g : BgpFault) → found.Fault f ≡ found.Fault g → f ≡ g
the_fault f g e = cc

stopped_by : (r : Reading) (piece : List ℕ) (f : Front Message BgpFault) (fault : BgpFault) (x : Fed × Reading) → message_front (r.unfinished ++ piece) ≡ f → x ≡ fed_by r piece f → x.0.found ≡ found.Fault fault
    → Stopped r piece None x.0.used fault x.1
stopped_by r piece Ends fault x at is m = absurd (let e = ap (λ (y : Fed × Reading). y.0.found) is in cc)
stopped_by r piece (Faulted found_now) fault x at is m =
    let same : found_now ≡ fault = the_fault found_now fault (sym (ap (λ (y : Fed × Reading). y.0.found) is) ∙ m) in
    record {
      is = ap (λ (y : Fed × Reading). y.1.fault) is ∙ ap (λ (g : BgpFault). Some g) same;
      none = ap (λ (y : Fed × Reading). y.1.message) is;
      how = inr (refl, at ∙ ap (λ (g : BgpFault). Faulted g) same, ap (λ (y : Fed × Reading). y.0.used) is);
    }
stopped_by r piece (Leads message rest) fault x at is m = absurd (let e = ap (λ (y : Fed × Reading). y.0.found) is in cc)

stopped_after : (r : Reading) (piece : List ℕ) (o : Option BgpFault) (fault : BgpFault) (x : Fed × Reading) → r.fault ≡ o → x ≡ fed_after o r piece → x.0.found ≡ found.Fault fault
    → Stopped r piece o x.0.used fault x.1
stopped_after r piece None fault x before is m = stopped_by r piece (message_front (r.unfinished ++ piece)) fault x refl is m
stopped_after r piece (Some old) fault x before is m =
    let same : old ≡ fault = the_fault old fault (sym (ap (λ (y : Fed × Reading). y.0.found) is) ∙ m) in
    record {
      is = ap (λ (y : Fed × Reading). y.1.fault) is ∙ before ∙ ap (λ (g : BgpFault). Some g) same;
      none = ap (λ (y : Fed × Reading). y.1.message) is;
      how = inl (ap (λ (g : BgpFault). Some g) same, ap (λ (y : Fed × Reading). y.0.used) is);
    }

pub stopped : (r : Reading) (piece : List ℕ) (fed : Fed) (now : Reading) (fault : BgpFault) → (fed, now) ≡ fed_of r piece → fed.found ≡ found.Fault fault
    → Stopped r piece r.fault fed.used fault now
stopped r piece fed now fault is m = stopped_after r piece r.fault fault (fed, now) refl is m

-- ---- a reader with a fault

pub place_stays : (bytes more : List ℕ) (fault : BgpFault) → fault_in bytes ≡ Some fault → place_in (bytes ++ more) ≡ place_in bytes
unfolding place_in
place_stays bytes more fault is = rw (fault_messages bytes more fault is) refl

-- it stands for whatever more comes
pub stands_more : (r : Reading) (bytes more : List ℕ) (fault : BgpFault) → StandsFor r bytes → fault_in bytes ≡ Some fault → StandsFor r (bytes ++ more)
stands_more r bytes more fault h is =
    let here : message_front (behind bytes) ≡ Faulted fault = fault_ends bytes fault is in
    let f = faulty (behind bytes) fault here in
    let later = fault_stays bytes more fault is in
    let kept : behind (bytes ++ more) ≡ behind bytes ++ more =
    behind_append bytes more ∙ behind_none (behind bytes ++ more) (none_after (behind bytes ++ more) fault (faulty_more (behind bytes) more fault here)) in
    let old : r.unfinished ≡ take 19 (behind bytes) = rw is at h.unfinished in
    let same : take 19 (behind bytes ++ more) ≡ take 19 (behind bytes) = take-append-le 19 (behind bytes) more f.enough in
    record {
      place = rw (place_stays bytes more fault is) h.place;
      unfinished = rw (later, kept, same) old;
      fault = h.fault ∙ is ∙ sym later;
    }

-- what a sound reader keeps is shorter than a header that proves faulty with more
short_kept : (r : Reading) (bytes piece : List ℕ) (fault : BgpFault) → StandsFor r bytes → r.fault ≡ None → message_front (r.unfinished ++ piece) ≡ Faulted fault → length r.unfinished < 19
short_kept r bytes piece fault h none is =
    let sound : fault_in bytes ≡ None = sym h.fault ∙ none in
    let kept : r.unfinished ≡ behind bytes = rw sound at h.unfinished in
    let f = faulty (r.unfinished ++ piece) fault is in
    elim (cases_lt (length r.unfinished) 19) [
      | inl lt ↦ lt
      | inr le ↦
          let same = take-append-le 19 r.unfinished piece le in
          let bad = front_faulty r.unfinished fault le (rw same at f.bad) in
          let found = ap fault_of (ap message_front (sym kept) ∙ bad) in
          absurd (let both = sym sound ∙ (fault_behind bytes ∙ found) in cc)
    ]

-- ---- lines

lines_append : (p : BookPlace) (one two : List Message) → message_lines p (one ++ two) ≡ message_lines p one ++ message_lines p two
lines_append p [] two = refl
lines_append p (m ∷ ms) two = ap (λ t. message_line p m ++ t) (lines_append p ms two) ∙ sym (append_assoc (message_line p m) (message_lines p ms) (message_lines p two))

no_fault_line : (p : BookPlace) (bytes : List ℕ) (o : Option BgpFault) → fault_line p bytes o o ≡ []
no_fault_line p bytes None = refl
no_fault_line p bytes (Some f) = refl

drop_all_of : (xs : List Message) → drop (length xs) xs ≡ []
drop_all_of [] = refl
drop_all_of (x ∷ xs) = drop_all_of xs

drop_front : (xs ys : List Message) → drop (length xs) (xs ++ ys) ≡ ys
drop_front [] ys = refl
drop_front (x ∷ xs) ys = drop_front xs ys

-- the messages that a stream has more than its beginning
abbrev pub further : List ℕ → List ℕ → List Message
further bytes more = drop (length (messages bytes)) (messages (bytes ++ more))

pub further_is : (bytes more : List ℕ) → messages (bytes ++ more) ≡ messages bytes ++ further bytes more
further_is bytes more =
    let e = messages_append bytes more in
    let rest = messages (behind bytes ++ more) in
    e ∙ ap (λ (l : List Message). messages bytes ++ l) (sym (ap (drop (length (messages bytes))) e ∙ drop_front (messages bytes) rest))

further_then : (bytes one two : List ℕ) (ms : List Message) → messages ((bytes ++ one) ++ two) ≡ messages (bytes ++ one) ++ ms → further bytes (one ++ two) ≡ further bytes one ++ ms
further_then bytes one two ms e =
    let all : messages (bytes ++ (one ++ two)) ≡ messages bytes ++ (further bytes one ++ ms) =
    ap messages (sym (append_assoc bytes one two)) ∙ e ∙ ap (λ (l : List Message). l ++ ms) (further_is bytes one) ∙ append_assoc (messages bytes) (further bytes one) ms in
    ap (drop (length (messages bytes))) all ∙ drop_front (messages bytes) (further bytes one ++ ms)

-- ---- the pieces of a piece

-- a part of the piece was read: its messages are written, and no fault was reached
pub record Goes (p : Place) (bytes part before after : List ℕ) (r : Reading) : Type 0 where
  pub stands : StandsFor r (bytes ++ part)
  pub text : after ≡ before ++ message_lines (place_of p) (further bytes part)
  pub same : fault_in (bytes ++ part) ≡ fault_in bytes

-- of whatever bytes the reader stood for before; so much of the piece is left
pub record Within (p : Place) (piece rest before after : List ℕ) (old now : Reading) : Type 0 where
  pub part : List ℕ
  pub split : piece ≡ part ++ rest
  pub goes : (bytes : List ℕ) → StandsFor old bytes → Goes p bytes part before after now

-- nothing is read yet
pub begins : (p : Place) (piece text : List ℕ) (r : Reading) → Within p piece piece text text r r
begins p piece text r =
    let goes : (bytes : List ℕ) → StandsFor r bytes → Goes p bytes [] text text r = λ bytes h.
    let nil : bytes ++ [] ≡ bytes = append-nil bytes in
    let none : further bytes [] ≡ [] = ap (λ (l : List ℕ). drop (length (messages bytes)) (messages l)) nil ∙ drop_all_of (messages bytes) in
    record {
      stands = subst (StandsFor r) (sym nil) h;
      text = sym (ap (λ (l : List Message). text ++ message_lines (place_of p) l) none ∙ append-nil text);
      same = ap fault_in nil;
    } in
    record { part = []; split = refl; goes = goes }

-- more of it is read, without a fault before or after
goes_more : (p : Place) (bytes part more before after text : List ℕ) (r now : Reading) (ms : List Message) → Goes p bytes part before after r → StandsFor now ((bytes ++ part) ++ more)
    → messages ((bytes ++ part) ++ more) ≡ messages (bytes ++ part) ++ ms → fault_in ((bytes ++ part) ++ more) ≡ fault_in (bytes ++ part)
    → text ≡ after ++ message_lines (place_of p) ms → Goes p bytes (part ++ more) before text now
goes_more p bytes part more before after text r now ms g stands told same is =
    let P = place_of p in
    let joined : (bytes ++ part) ++ more ≡ bytes ++ (part ++ more) = append_assoc bytes part more in
    let all : further bytes (part ++ more) ≡ further bytes part ++ ms = further_then bytes part more ms told in
    record {
      stands = subst (StandsFor now) joined stands;
      text =
          is ∙ ap (λ (l : List ℕ). l ++ message_lines P ms) g.text ∙ append_assoc before (message_lines P (further bytes part)) (message_lines P ms)
          ∙ ap (λ (l : List ℕ). before ++ l) (sym (lines_append P (further bytes part) ms) ∙ ap (message_lines P) (sym all));
      same = sym (ap fault_in joined) ∙ same ∙ g.same;
    }

-- no fault, before and after
sound_same : (one two : List ℕ) (r now : Reading) → StandsFor r one → StandsFor now two → r.fault ≡ None → now.fault ≡ None → fault_in two ≡ fault_in one
sound_same one two r now h g before after = sym g.fault ∙ after ∙ sym before ∙ h.fault

one_line : (p : BookPlace) (m : Message) (text : List ℕ) → text ++ message_line p m ≡ text ++ message_lines p (m ∷ [])
one_line p m text = ap (λ (l : List ℕ). text ++ l) (sym (append-nil (message_line p m)))

-- a message was completed, and its line written
pub goes_on : (p : Place) (piece rest before after text : List ℕ) (old r now : Reading) (fed : Fed) (m : Message) → Within p piece rest before after old r
    → (fed, now) ≡ fed_of r rest → fed.found ≡ found.Message → ((bytes : List ℕ) → StandsFor r bytes → Reads bytes (take fed.used rest) now)
    → now.message ≡ Some m → text ≡ after ++ message_line (place_of p) m → Within p piece (drop fed.used rest) before text old now
goes_on p piece rest before after text old r now fed m w exact is reads there told =
    let used = fed.used in
    let c = completed r rest fed now exact is in
    let t = take used rest in
    let goes : (bytes : List ℕ) → StandsFor old bytes → Goes p bytes (w.part ++ t) before text now = λ bytes h.
    let g = w.goes bytes h in
    let x = reads (bytes ++ w.part) g.stands in
    goes_more p bytes w.part t before after text r now (m ∷ []) g x.stands (x.messages_more ∙ ap (λ (o : Option Message). messages (bytes ++ w.part) ++ listed o) there)
    (sound_same (bytes ++ w.part) ((bytes ++ w.part) ++ t) r now g.stands x.stands c.sound_before c.sound) (told ∙ one_line (place_of p) m after) in
    record {
      part = w.part ++ t;
      split = w.split ∙ ap (λ (l : List ℕ). w.part ++ l) (sym (take-append-drop used rest)) ∙ sym (append_assoc w.part t (drop used rest));
      goes = goes;
    }

-- the whole piece is read, and no fault was reached in it
closes : (p : Place) (bytes piece before after : List ℕ) (now : Reading) → Goes p bytes piece before after now → IsRead p bytes piece before after now false
closes p bytes piece before after now g =
    let P = place_of p in
    let none : fault_line P (bytes ++ piece) (fault_in bytes) (fault_in (bytes ++ piece)) ≡ [] =
    ap (fault_line P (bytes ++ piece) (fault_in bytes)) g.same ∙ no_fault_line P (bytes ++ piece) (fault_in bytes) in
    let lines = message_lines P (further bytes piece) in
    let count : is_faulty (fault_in (bytes ++ piece)) ≡ is_faulty (fault_in bytes) = ap is_faulty g.same in
    record {
      stands = g.stands;
      text = g.text ∙ ap (λ (l : List ℕ). before ++ l) (sym (ap (λ (l : List ℕ). lines ++ l) none ∙ append-nil lines));
      faults = omega (arith, count);
    }

goes_as : (p : Place) (bytes part piece before after : List ℕ) (now : Reading) → piece ≡ part → Goes p bytes part before after now → Goes p bytes piece before after now
goes_as p bytes part piece before after now e g = subst (λ (l : List ℕ). Goes p bytes l before after now) (sym e) g

-- nothing is left of the piece
pub reads_all : (p : Place) (piece before after : List ℕ) (old now : Reading) (bytes : List ℕ) → Within p piece [] before after old now → StandsFor old bytes
    → IsRead p bytes piece before after now false
reads_all p piece before after old now bytes w h =
    closes p bytes piece before after now (goes_as p bytes w.part piece before after now (w.split ∙ append-nil w.part) (w.goes bytes h))

take_whole : (xs : List ℕ) (n : ℕ) → n ≡ length xs → take n xs ≡ xs
take_whole xs n e = take_all n xs (omega (arith, e))

-- the rest ends neither a message nor a faulty header
pub reads_rest : (p : Place) (piece rest before after : List ℕ) (old r now : Reading) (fed : Fed) (bytes : List ℕ) → Within p piece rest before after old r → StandsFor old bytes
    → (fed, now) ≡ fed_of r rest → fed.found ≡ found.More → fed.used ≡ length rest → ((x : List ℕ) → StandsFor r x → Reads x (take fed.used rest) now)
    → IsRead p bytes piece before after now false
reads_rest p piece rest before after old r now fed bytes w h exact is all reads =
    let c = continued r rest fed now exact is in
    let g = w.goes bytes h in
    let whole : take fed.used rest ≡ rest = take_whole rest fed.used all in
    let x : Reads (bytes ++ w.part) rest now = subst (λ (l : List ℕ). Reads (bytes ++ w.part) l now) whole (reads (bytes ++ w.part) g.stands) in
    closes p bytes piece before after now (goes_as p bytes (w.part ++ rest) piece before after now w.split
    (goes_more p bytes w.part rest before after after r now [] g x.stands (x.messages_more ∙ ap (λ (o : Option Message). messages (bytes ++ w.part) ++ listed o) c.none)
    (sound_same (bytes ++ w.part) ((bytes ++ w.part) ++ rest) r now g.stands x.stands c.sound_before c.sound) (sym (append-nil after))))

-- the fault was there before
had_fault : (p : Place) (piece rest before after : List ℕ) (old r now : Reading) (bytes : List ℕ) (fault : BgpFault) (w : Within p piece rest before after old r) → StandsFor old bytes
    → fault_in (bytes ++ w.part) ≡ Some fault → StandsFor now (bytes ++ w.part) → IsRead p bytes piece before after now false
had_fault p piece rest before after old r now bytes fault w h was stands =
    let g = w.goes bytes h in
    let x = bytes ++ w.part in
    closes p bytes piece before after now (goes_as p bytes (w.part ++ rest) piece before after now w.split
    (goes_more p bytes w.part rest before after after r now [] g (stands_more now x rest fault stands was)
    (fault_messages x rest fault was ∙ sym (append-nil (messages x))) (fault_stays x rest fault was ∙ sym was) (sym (append-nil after))))

how_before : (r : Reading) (rest x : List ℕ) (used : ℕ) (fault : BgpFault) → StandsFor r x → used ≡ 0
    → ((r.fault ≡ Some fault) × (used ≡ 0)) ⊎ ((r.fault ≡ None) × (message_front (r.unfinished ++ rest) ≡ Faulted fault) × (used ≡ 19 - length r.unfinished)) → r.fault ≡ Some fault
how_before r rest x used fault h zero_used (inl (was, nothing)) = was
how_before r rest x used fault h zero_used (inr (none, here, is)) =
    let short = short_kept r x rest fault h none here in absurd (omega (arith, short, is, zero_used))

-- nothing of the rest was used: the fault was there before
pub reads_fault_again : (p : Place) (piece rest before after : List ℕ) (old r now : Reading) (fed : Fed) (bytes : List ℕ) (fault : BgpFault) → Within p piece rest before after old r → StandsFor old bytes
    → (fed, now) ≡ fed_of r rest → fed.found ≡ found.Fault fault → fed.used ≡ 0 → ((x : List ℕ) → StandsFor r x → Reads x (take fed.used rest) now)
    → IsRead p bytes piece before after now false
reads_fault_again p piece rest before after old r now fed bytes fault w h exact is zero_used reads =
    let s = stopped r rest fed now fault exact is in
    let g = w.goes bytes h in
    let x = bytes ++ w.part in
    let was : r.fault ≡ Some fault = how_before r rest x fed.used fault g.stands zero_used s.how in
    let none : x ++ take fed.used rest ≡ x = ap (λ (k : ℕ). x ++ take k rest) zero_used ∙ append-nil x in
    let stands : StandsFor now x = subst (StandsFor now) none (reads x g.stands).stands in
    had_fault p piece rest before after old r now bytes fault w h (sym g.stands.fault ∙ was) stands

how_after : (r : Reading) (rest : List ℕ) (used : ℕ) (fault : BgpFault) → 0 < used
    → ((r.fault ≡ Some fault) × (used ≡ 0)) ⊎ ((r.fault ≡ None) × (message_front (r.unfinished ++ rest) ≡ Faulted fault) × (used ≡ 19 - length r.unfinished)) → r.fault ≡ None
how_after r rest used fault some_used (inl (was, nothing)) = absurd (omega (arith, nothing, some_used))
how_after r rest used fault some_used (inr (none, here, is)) = none

-- the line of a fault that is reached
abbrev pub fault_text : Place → BgpFault → ℕ → List ℕ
fault_text p fault at =
    numbered_text p.number (codes "bgp-fault" ∷ end_text p.end ∷ decimal p.session ∷ bgp_fault_text fault ∷ codes "at" ∷ decimal at ∷ [])

reached_text : (p : Place) (bytes piece before after text : List ℕ) (fault : BgpFault) (at : ℕ) → at ≡ place_in (bytes ++ piece) → fault_in bytes ≡ None → fault_in (bytes ++ piece) ≡ Some fault
    → after ≡ before ++ message_lines (place_of p) (further bytes piece) → text ≡ after ++ fault_text p fault at → text ≡ before ++ taken_lines (place_of p) bytes (bytes ++ piece)
reached_text p bytes piece before after text fault at place none is old told =
    let P = place_of p in
    let lines = message_lines P (further bytes piece) in
    let line : fault_line P (bytes ++ piece) (fault_in bytes) (fault_in (bytes ++ piece)) ≡ fault_text p fault at =
    ap (λ (o : Option BgpFault). fault_line P (bytes ++ piece) o (fault_in (bytes ++ piece))) none
    ∙ ap (λ (o : Option BgpFault). fault_line P (bytes ++ piece) None o) is ∙ ap (fault_text p fault) (sym place) in
    told ∙ ap (λ (l : List ℕ). l ++ fault_text p fault at) old ∙ append_assoc before lines (fault_text p fault at)
    ∙ ap (λ (l : List ℕ). before ++ (lines ++ l)) (sym line)

-- the fault is reached in the rest
pub reads_fault_first : (p : Place) (piece rest before after text : List ℕ) (old r now : Reading) (fed : Fed) (bytes : List ℕ) (fault : BgpFault) → Within p piece rest before after old r
    → StandsFor old bytes → length bytes + length piece ≤ greatest_place → (fed, now) ≡ fed_of r rest → fed.found ≡ found.Fault fault → 0 < fed.used
    → ((x : List ℕ) → StandsFor r x → Reads x (take fed.used rest) now) → text ≡ after ++ fault_text p fault now.place → IsRead p bytes piece before text now true
reads_fault_first p piece rest before after text old r now fed bytes fault w h small exact is some_used reads told =
    let s = stopped r rest fed now fault exact is in
    let g = w.goes bytes h in
    let x = bytes ++ w.part in
    let t = take fed.used rest in
    let u = drop fed.used rest in
    let sound : r.fault ≡ None = how_after r rest fed.used fault some_used s.how in
    let y = reads x g.stands in
    let bad : fault_in (x ++ t) ≡ Some fault = sym y.stands.fault ∙ s.is in
    let whole : (x ++ t) ++ u ≡ bytes ++ piece =
    append_assoc x t u ∙ ap (λ (l : List ℕ). x ++ l) (take-append-drop fed.used rest) ∙ append_assoc bytes w.part rest ∙ ap (λ (l : List ℕ). bytes ++ l) (sym w.split) in
    let stands : StandsFor now (bytes ++ piece) = subst (StandsFor now) whole (stands_more now (x ++ t) u fault y.stands bad) in
    let later : fault_in (bytes ++ piece) ≡ Some fault = sym (ap fault_in whole) ∙ fault_stays (x ++ t) u fault bad in
    let none : fault_in bytes ≡ None = sym g.same ∙ sym g.stands.fault ∙ sound in
    let told_messages : messages (x ++ rest) ≡ messages x ++ [] =
    ap messages (sym (append_assoc x t u ∙ ap (λ (l : List ℕ). x ++ l) (take-append-drop fed.used rest))) ∙ fault_messages (x ++ t) u fault bad
    ∙ y.messages_more ∙ ap (λ (o : Option Message). messages x ++ listed o) s.none in
    let all : further bytes piece ≡ further bytes w.part =
    ap (further bytes) w.split ∙ further_then bytes w.part rest [] told_messages ∙ append-nil (further bytes w.part) in
    let inside = (split_of (bytes ++ piece)).within in
    let size = length-append bytes piece in
    let place = stands.place in
    let at : now.place ≡ place_in (bytes ++ piece) = omega (arith, inside, size, small, place) in
    let counts : (o : Option BgpFault) (n : Option BgpFault) → o ≡ None → n ≡ Some fault → is_faulty n ≡ 1 + is_faulty o = λ o n a b. rw (a, b) refl in
    record {
      stands = stands;
      text = reached_text p bytes piece before after text fault now.place at none later (g.text ∙ ap (λ (l : List Message). before ++ message_lines (place_of p) l) (sym all)) told;
      faults = counts (fault_in bytes) (fault_in (bytes ++ piece)) none later;
    }

-- ---- the loop

message_on : (p : Place) (piece rest before after text : List ℕ) (old r now : Reading) (fed : Fed) (kind : ℕ) (body : List ℕ) (o : Option Message) → now.message ≡ o → Within p piece rest before after old r
    → (fed, now) ≡ fed_of r rest → fed.found ≡ found.Message → ((x : List ℕ) → StandsFor r x → Reads x (take fed.used rest) now)
    → IsSome o → IfSome o (λ m. m.kind ≡ kind) → IfSome o (λ m. m.body ≡ body)
    → ((m : Message) → m.kind ≡ kind → message_length m ≡ 19 + length body → text ≡ after ++ message_line (place_of p) m) → Within p piece (drop fed.used rest) before text old now
message_on p piece rest before after text old r now fed kind body None is w exact found_is reads there k b told = absurd (cc)
message_on p piece rest before after text old r now fed kind body (Some m) is w exact found_is reads there k b told =
    goes_on p piece rest before after text old r now fed m w exact found_is reads is (told m k (ap (λ (l : List ℕ). 19 + length l) b))

used_some : (fed : Fed) (rest : List ℕ) (now : Reading) → fed.found ≡ found.Message → IsUsed fed.found fed.used rest now → (0 < fed.used) × IsSome now.message
used_some fed rest now is h = rw is at h

-- one more message, and what is left behind it
pub loop_on : (p : Place) (piece rest before after text : List ℕ) (old r now : Reading) (fed : Fed) (kind i : ℕ) (body : List ℕ) → Within p piece rest before after old r → length rest + i ≤ length piece
    → (fed, now) ≡ fed_of r rest → fed.found ≡ found.Message → ((x : List ℕ) → StandsFor r x → Reads x (take fed.used rest) now) → fed.used ≤ length rest
    → IsUsed fed.found fed.used rest now → IfSome now.message (λ m. m.kind ≡ kind) → IfSome now.message (λ m. m.body ≡ body)
    → ((m : Message) → m.kind ≡ kind → message_length m ≡ 19 + length body → text ≡ after ++ message_line (place_of p) m)
    → Within p piece (take (length rest - fed.used) (drop fed.used rest)) before text old now × (length (take (length rest - fed.used) (drop fed.used rest)) + (i + 1) ≤ length piece)
loop_on p piece rest before after text old r now fed kind i body w few exact is reads within taken k b told =
    let u = used_some fed rest now is taken in
    let some = u.0 in
    let left = drop fed.used rest in
    let size : length left ≡ length rest - fed.used = length-drop fed.used rest in
    let whole : take (length rest - fed.used) left ≡ left = take_all (length rest - fed.used) left (omega (arith, size)) in
    let next = message_on p piece rest before after text old r now fed kind body now.message refl w exact is reads u.1 k b told in
    let same = ap length whole in
    (subst (λ (l : List ℕ). Within p piece l before text old now) (sym whole) next, omega (arith, same, size, some, within, few))
