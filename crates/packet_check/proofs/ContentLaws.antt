-- What is said of what a packet has, and what it counts as.
use Rattle.std.proofs.Common.{◌≡◌, ℕ, Bool, false, List, [], ◌∷◌, ◌++◌, append_assoc, codes, decimal, Option, Some, None, Result, Ok, Err, IfOk, IfSome, refl, sym, ap, subst, ◌∙◌}
use Rattle.book_base.specs.declared.address.Pair.{Pair}
use Rattle.book_segments.specs.declared.fault.DatagramFault.{DatagramFault}
use Rattle.book_segments.specs.Segments.{Segment, Reading, Read, Bad, reading}
use Rattle.book_keys.specs.Rows.{Table}
use Rattle.book_lines.specs.Texts.{spaced}
use Rattle.book_captures.specs.Captures.{CapturePacket}
use Rattle.book_cmd_check.specs.Captures.{Connection, Saying, Stored, Unreadable, hear, hear_read, is_pass, saying_texts}
use Rattle.book_sessions.specs.declared.outcome.PassedOver.{PassedOver}
use Rattle.book_sessions.specs.declared.outcome.PassedOver.TheVariants.{Faulty}
use Rattle.book_sessions.specs.AsSent.{lacks_checksum, mended, told_fault}
use Rattle.book_sessions.specs.CutOff.{cut_segment}
use Rattle.book_sessions.specs.OutcomeTexts.{passed_text}
use Rattle.book_sessions.specs.Sessions.{captured_of_packet, judged_of, stored_of_packet}
use Rattle.book_sessions.specs.declared.class.PacketClass.{PacketClass}
use Rattle.book_sessions.specs.CheckedLines.{content_texts, dash_texts, seen_time_text, segment_texts}
use Rattle.book_sessions.specs.CheckedPackets.{OfNothing, OfSegment, checked_content, checked_fault, checked_reading, class_by, class_without, is_foreign_segment}
use Rattle.capture_check.specs.declared.answer.CheckLine.{CheckLine}
use Rattle.capture_check.specs.declared.answer.CheckLine.TheVariants as line
use Rattle.capture_check.specs.declared.flows.Flows.{Flows}
use Rattle.capture_check.specs.Answers.{Says}
use Rattle.capture_check.specs.Checkers.{Hears, StandsFor}
use Rattle.packet_check.specs.Checking.{ChecksAs, ChecksPacket, SaysContent}

-- texts with spaces in front of them, one after another
pub spaced_append : (xs ys : List (List ℕ)) → spaced (xs ++ ys) ≡ spaced xs ++ spaced ys
spaced_append [] ys = refl
spaced_append (x ∷ xs) ys = ap (λ (t : List ℕ). 32 ∷ x ++ t) (spaced_append xs ys) ∙ sym (append_assoc (32 ∷ x) (spaced xs) (spaced ys))

-- texts, and then other texts and a newline
pub then_words : (before mid now : List ℕ) (front words : List (List ℕ)) → mid ≡ before ++ spaced front → now ≡ mid ++ (spaced words ++ 10 ∷ []) → now ≡ before ++ (spaced (front ++ words) ++ 10 ∷ [])
then_words before mid now front words first more =
    more ∙ (ap (λ (t : List ℕ). t ++ (spaced words ++ 10 ∷ [])) first
    ∙ (append_assoc before (spaced front) (spaced words ++ 10 ∷ [])
    ∙ ap (λ (t : List ℕ). before ++ t) (sym (append_assoc (spaced front) (spaced words) (10 ∷ [])) ∙ ap (λ (t : List ℕ). t ++ 10 ∷ []) (sym (spaced_append front words)))))

-- stored bytes that are read so were checked
checked_read : (tables : List Table) (held : List Connection) (s : Stored) (r : Reading) (entries : List (Pair × Flows)) (before now : List ℕ) (class : PacketClass) → reading s.bytes ≡ r
    → StandsFor entries (hear_read tables held s.time r).connections → SaysContent tables (checked_reading s r (hear_read tables held s.time r).saying) before now class → ChecksAs tables held (Ok s) entries before now class
unfolding hear
checked_read tables held s r entries before now class is stands says = record {
  stands = subst (λ (r : Reading). StandsFor entries (hear_read tables held s.time r).connections) (sym is) stands;
  says = subst (λ (r : Reading). SaysContent tables (checked_reading s r (hear_read tables held s.time r).saying) before now class) (sym is) says;
}

-- a segment was checked
pub segment_checked : (tables : List Table) (held : List Connection) (s : Stored) (d : Segment) (time : ℕ) (entries : List (Pair × Flows)) (answer : CheckLine) (before mid now : List ℕ) (foreign passes : Bool) (class : PacketClass)
    → reading s.bytes ≡ Read d → s.time ≡ time → Hears entries answer (hear_read tables held time (Read d)) → mid ≡ before ++ spaced (segment_texts d [])
    → ((w : Saying) → Says answer w → now ≡ mid ++ (spaced (saying_texts w) ++ 10 ∷ [])) → foreign ≡ is_foreign_segment tables d → ((w : Saying) → Says answer w → passes ≡ is_pass w)
    → class ≡ class_by foreign passes → ChecksAs tables held (Ok s) entries before now class
segment_checked tables held s d time entries answer before mid now foreign passes class read time_is hears front words foreign_is passing class_is =
    let w = (hear_read tables held time (Read d)).saying in
    let says : SaysContent tables (OfSegment d w) before now class = record {
      text = then_words before mid now (segment_texts d []) (saying_texts w) front (words w hears.says);
      class_is = class_is ∙ (ap (λ (f : Bool). class_by f passes) foreign_is ∙ ap (class_by (is_foreign_segment tables d)) (passing w hears.says));
    } in
    checked_read tables held s (Read d) entries before now class read
    (subst (λ (t : ℕ). StandsFor entries (hear_read tables held t (Read d)).connections) (sym time_is) hears.stands)
    (subst (λ (t : ℕ). SaysContent tables (OfSegment d (hear_read tables held t (Read d)).saying) before now class) (sym time_is) says)

-- bytes are said to be no segment
pub bad_said : (tables : List Table) (s : Stored) (fault told : DatagramFault) (bytes before mid now : List ℕ) (class : PacketClass) → s.bytes ≡ bytes → told ≡ told_fault bytes fault → mid ≡ before ++ spaced (dash_texts [])
    → ((w : Saying) → Says (line.Bad fault) w → now ≡ mid ++ (spaced (saying_texts w) ++ 10 ∷ [])) → class ≡ class_without (Faulty told) → SaysContent tables (checked_fault s fault None) before now class
bad_said tables s fault told bytes before mid now class is told_is front words class_is = record {
  text = then_words before mid now (dash_texts []) (saying_texts (Unreadable fault)) front (words (Unreadable fault) refl);
  class_is = class_is ∙ ap (λ (f : DatagramFault). class_without (Faulty f)) (told_is ∙ ap (λ (b : List ℕ). told_fault b fault) (sym is));
}

-- a segment is said to be cut off
pub cut_said : (tables : List Table) (s : Stored) (d : Segment) (fault : DatagramFault) (before mid now : List ℕ) (foreign : Bool) (class : PacketClass) → mid ≡ before ++ spaced (segment_texts d [])
    → ((w : Saying) → Says (line.Bad fault) w → now ≡ mid ++ (spaced (saying_texts w) ++ 10 ∷ [])) → foreign ≡ is_foreign_segment tables d → class ≡ class_by foreign false → SaysContent tables (checked_fault s fault (Some d)) before now class
cut_said tables s d fault before mid now foreign class front words foreign_is class_is = record {
  text = then_words before mid now (segment_texts d []) (saying_texts (Unreadable fault)) front (words (Unreadable fault) refl);
  class_is = class_is ∙ ap (λ (f : Bool). class_by f false) foreign_is;
}

-- nothing is said to be judged
pub other_said : (tables : List Table) (why : PassedOver) (before mid now : List ℕ) (class : PacketClass) → mid ≡ before ++ spaced (dash_texts []) → now ≡ mid ++ (spaced (codes "other" ∷ passed_text why ∷ []) ++ 10 ∷ [])
    → class ≡ class_without why → SaysContent tables (OfNothing why) before now class
other_said tables why before mid now class front words class_is =
    record { text = then_words before mid now (dash_texts []) (codes "other" ∷ passed_text why ∷ []) front words; class_is = class_is }

-- bytes with a fault were checked
pub fault_checked : (tables : List Table) (held : List Connection) (s : Stored) (fault : DatagramFault) (entries : List (Pair × Flows)) (before now : List ℕ) (class : PacketClass)
    → reading s.bytes ≡ Bad fault → StandsFor entries held → SaysContent tables (checked_fault s fault (cut_segment s.bytes)) before now class → ChecksAs tables held (Ok s) entries before now class
fault_checked tables held s fault entries before now class bad stands says = checked_read tables held s (Bad fault) entries before now class bad stands says

pub fault_found : {E : Type 0} (r : Result PacketClass E) (tables : List Table) (held : List Connection) (s : Stored) (fault : DatagramFault) (entries : List (Pair × Flows)) (before now : List ℕ)
    → reading s.bytes ≡ Bad fault → StandsFor entries held → IfOk r (λ class. SaysContent tables (checked_fault s fault (cut_segment s.bytes)) before now class) → IfOk r (λ class. ChecksAs tables held (Ok s) entries before now class)
fault_found (Ok class) tables held s fault entries before now bad stands says = fault_checked tables held s fault entries before now class bad stands says
fault_found (Err e) tables held s fault entries before now bad stands says = tt

-- nothing was judged of a packet
pub other_found : {E : Type 0} (r : Result PacketClass E) (tables : List Table) (held : List Connection) (why : PassedOver) (entries : List (Pair × Flows)) (before now : List ℕ)
    → StandsFor entries held → IfOk r (λ class. SaysContent tables (OfNothing why) before now class) → IfOk r (λ class. ChecksAs tables held (Err why) entries before now class)
other_found (Ok class) tables held why entries before now stands says = record { stands = stands; says = says }
other_found (Err e) tables held why entries before now stands says = tt

-- what was cut off, or wasn't
pub cut_found : {E : Type 0} (r : Result PacketClass E) (tables : List Table) (s : Stored) (fault : DatagramFault) (bytes before now : List ℕ) (cut : Option Segment) → s.bytes ≡ bytes → cut_segment bytes ≡ cut
    → IfOk r (λ class. SaysContent tables (checked_fault s fault cut) before now class) → IfOk r (λ class. SaysContent tables (checked_fault s fault (cut_segment s.bytes)) before now class)
cut_found r tables s fault bytes before now cut is cut_is says =
    subst (λ (o : Option Segment). IfOk r (λ class. SaysContent tables (checked_fault s fault o) before now class)) (sym (ap cut_segment is ∙ cut_is)) says

-- bytes whose header checksum is set
pub whole_is : (bytes : List ℕ) → lacks_checksum bytes ≡ false → bytes ≡ mended bytes
unfolding mended
whole_is bytes free = rw free refl

-- bytes with their header checksum were checked
pub mended_checked : {E : Type 0} (r : Result PacketClass E) (tables : List Table) (held : List Connection) (entries : List (Pair × Flows)) (before now : List ℕ) (number time : ℕ) (bytes whole : List ℕ) → whole ≡ mended bytes
    → IfOk r (λ class. ChecksAs tables held (Ok (record { number = number; time = time; bytes = whole })) entries before now class)
    → IfOk r (λ class. ChecksAs tables held (Ok (record { number = number; time = time; bytes = mended bytes })) entries before now class)
mended_checked r tables held entries before now number time bytes whole is checks = rw is at checks

packet_done : (tables : List Table) (held : List Connection) (p : CapturePacket) (number : ℕ) (time : Option ℕ) (captured : Result Stored PassedOver) (entries : List (Pair × Flows)) (front line : List ℕ) (class : PacketClass)
    → number ≡ p.number → time ≡ p.frame.time → front ≡ decimal number ++ 32 ∷ seen_time_text time → captured ≡ captured_of_packet p → ChecksAs tables held (judged_of captured) entries front line class
    → ChecksPacket tables held p entries line class
packet_done tables held p number time captured entries front line class number_is time_is front_is captured_is checks =
    let judged : judged_of captured ≡ stored_of_packet p = ap judged_of captured_is in
    let c : ChecksAs tables held (stored_of_packet p) entries front line class = subst (λ (r : Result Stored PassedOver). ChecksAs tables held r entries front line class) judged checks in
    let words = content_texts (checked_content tables held (stored_of_packet p)) in
    let start : front ≡ decimal p.number ++ 32 ∷ seen_time_text p.frame.time = front_is ∙ (ap (λ (n : ℕ). decimal n ++ 32 ∷ seen_time_text time) number_is ∙ ap (λ (t : Option ℕ). decimal p.number ++ 32 ∷ seen_time_text t) time_is) in
    record {
      stands = c.stands;
      line_is = c.says.text ∙ (ap (λ (t : List ℕ). t ++ (spaced words ++ 10 ∷ [])) start
          ∙ (append_assoc (decimal p.number) (32 ∷ seen_time_text p.frame.time) (spaced words ++ 10 ∷ [])
          ∙ ap (λ (t : List ℕ). decimal p.number ++ t) (sym (append_assoc (32 ∷ seen_time_text p.frame.time) (spaced words) (10 ∷ [])))));
      class_is = c.says.class_is;
    }

-- the packet that is shown was checked
pub packet_checked : {E : Type 0} (r : Result PacketClass E) (tables : List Table) (held : List Connection) (packet : Option CapturePacket) (p : CapturePacket) (number : ℕ) (time : Option ℕ) (captured : Result Stored PassedOver)
    (entries : List (Pair × Flows)) (front line : List ℕ) → packet ≡ Some p → IfSome packet (λ p. number ≡ p.number) → IfSome packet (λ p. time ≡ p.frame.time) → front ≡ decimal number ++ 32 ∷ seen_time_text time → captured ≡ captured_of_packet p
    → IfOk r (λ class. ChecksAs tables held (judged_of captured) entries front line class) → IfOk r (λ class. ChecksPacket tables held p entries line class)
packet_checked (Ok class) tables held packet p number time captured entries front line is number_is time_is front_is captured_is checks =
    packet_done tables held p number time captured entries front line class (rw is at number_is) (rw is at time_is) front_is captured_is checks
packet_checked (Err e) tables held packet p number time captured entries front line is number_is time_is front_is captured_is checks = tt

one_read : (a b : Segment) → Read a ≡ Read b → a ≡ b
one_read a b same = cc

-- the segment that was read is the one that was cut off
pub cut_read : (bytes : List ℕ) (d other : Segment) → cut_segment bytes ≡ Some d → Read other ≡ Read d → cut_segment bytes ≡ Some other
cut_read bytes d other is same = let e = one_read other d same in rw e is
