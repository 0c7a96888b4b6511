-- What stands at the front of a stream of BGP messages.
use Rattle.std.proofs.Common.{◌≡◌, ℕ, ◌<◌, ◌≤◌, List, length, take, drop, Option, Some, None, refl, sym, ◌∙◌, inl, inr}
use Rattle.std.proofs.lemmas.Bool.{cases_lt, lt-ltb, le-ltb}
use Rattle.std.specs.Prelude.{slice_range}
use Rattle.book_bgp.specs.declared.bgp_fault.BgpFault.{BgpFault}
use Rattle.book_base.specs.Fronts.{Ends, Faulted, Leads}
use Rattle.book_bgp.specs.Messages.{Message, front_by, front_behind, message_front, header_fault, kind_in, length_in}

-- too few bytes for a header
pub front_short : (bytes : List ℕ) → length bytes < 19 → message_front bytes ≡ Ends
unfolding message_front
front_short bytes lt = rw (lt-ltb (length bytes) 19 lt) refl

pub front_long : (bytes : List ℕ) → 19 ≤ length bytes → message_front bytes ≡ front_behind (take 19 bytes) bytes
unfolding message_front
front_long bytes le = rw (le-ltb (length bytes) 19 le) refl

-- a header that is sound, and fewer bytes than it says
pub front_part : (bytes : List ℕ) → 19 ≤ length bytes → header_fault (take 19 bytes) ≡ None → length bytes < length_in (take 19 bytes) → message_front bytes ≡ Ends
front_part bytes le sound lt = rw (front_long bytes le, sound, lt-ltb (length bytes) (length_in (take 19 bytes)) lt) refl

pub front_faulty : (bytes : List ℕ) (fault : BgpFault) → 19 ≤ length bytes → header_fault (take 19 bytes) ≡ Some fault → message_front bytes ≡ Faulted fault
front_faulty bytes fault le bad = rw (front_long bytes le, bad) refl

-- the message of a header, with the bytes that the header asks for
abbrev pub message_at : List ℕ → List ℕ → Message
message_at header bytes = record { kind = kind_in header; body = slice_range bytes 19 (length_in header) }

pub front_whole : (bytes : List ℕ) → 19 ≤ length bytes → header_fault (take 19 bytes) ≡ None → length_in (take 19 bytes) ≤ length bytes →
    message_front bytes ≡ Leads (message_at (take 19 bytes) bytes) (drop (length_in (take 19 bytes)) bytes)
front_whole bytes le sound whole = rw (front_long bytes le, sound, le-ltb (length bytes) (length_in (take 19 bytes)) whole) refl

-- the front is a message
pub record IsLeading (bytes : List ℕ) (message : Message) (rest : List ℕ) : Type 0 where
  pub enough : 19 ≤ length bytes
  pub sound : header_fault (take 19 bytes) ≡ None
  pub whole : length_in (take 19 bytes) ≤ length bytes
  pub is : message ≡ message_at (take 19 bytes) bytes
  pub behind : rest ≡ drop (length_in (take 19 bytes)) bytes

-- the front is a faulty header
pub record IsFaulty (bytes : List ℕ) (fault : BgpFault) : Type 0 where
  pub enough : 19 ≤ length bytes
  pub bad : header_fault (take 19 bytes) ≡ Some fault

-- the front ends no message yet
pub record IsUnfinished (bytes : List ℕ) : Type 0 where
  pub sound : 19 ≤ length bytes → header_fault (take 19 bytes) ≡ None
  pub part : 19 ≤ length bytes → length bytes < length_in (take 19 bytes)

leading_by : (found : Option BgpFault) (kind len : ℕ) (bytes : List ℕ) (m : Message) (rest : List ℕ) → front_by found kind len bytes ≡ Leads m rest →
    (found ≡ None) × (len ≤ length bytes) × (m ≡ record { kind = kind; body = slice_range bytes 19 len }) × (rest ≡ drop len bytes)
leading_by (Some fault) kind len bytes m rest is = absurd (cc)
leading_by None kind len bytes m rest is =
    elim (cases_lt (length bytes) len) [
      | inl lt ↦ let none = rw (lt-ltb (length bytes) len lt) at is in absurd (cc)
      | inr le ↦ let same = rw (le-ltb (length bytes) len le) at is in (refl, le, cc, cc)
    ]

pub leading : (bytes : List ℕ) (m : Message) (rest : List ℕ) → message_front bytes ≡ Leads m rest → IsLeading bytes m rest
leading bytes m rest is =
    elim (cases_lt (length bytes) 19) [
      | inl lt ↦ let none = sym (front_short bytes lt) ∙ is in absurd (cc)
      | inr le ↦
          let parts = leading_by (header_fault (take 19 bytes)) (kind_in (take 19 bytes)) (length_in (take 19 bytes)) bytes m rest (sym (front_long bytes le) ∙ is) in
          record { enough = le; sound = parts.0; whole = parts.1; is = parts.2; behind = parts.3 }
    ]

faulty_by : (found : Option BgpFault) (kind len : ℕ) (bytes : List ℕ) (fault : BgpFault) → front_by found kind len bytes ≡ Faulted fault → found ≡ Some fault
faulty_by (Some one) kind len bytes fault is = cc
faulty_by None kind len bytes fault is =
    elim (cases_lt (length bytes) len) [
      | inl lt ↦ let none = rw (lt-ltb (length bytes) len lt) at is in absurd (cc)
      | inr le ↦ let none = rw (le-ltb (length bytes) len le) at is in absurd (cc)
    ]

pub faulty : (bytes : List ℕ) (fault : BgpFault) → message_front bytes ≡ Faulted fault → IsFaulty bytes fault
faulty bytes fault is =
    elim (cases_lt (length bytes) 19) [
      | inl lt ↦ let none = sym (front_short bytes lt) ∙ is in absurd (cc)
      | inr le ↦ record { enough = le; bad = faulty_by (header_fault (take 19 bytes)) (kind_in (take 19 bytes)) (length_in (take 19 bytes)) bytes fault (sym (front_long bytes le) ∙ is) }
    ]

unfinished_by : (found : Option BgpFault) (kind len : ℕ) (bytes : List ℕ) → front_by found kind len bytes ≡ Ends → (found ≡ None) × (length bytes < len)
unfinished_by (Some fault) kind len bytes is = absurd (cc)
unfinished_by None kind len bytes is =
    elim (cases_lt (length bytes) len) [
      | inl lt ↦ (refl, lt)
      | inr le ↦ let none = rw (le-ltb (length bytes) len le) at is in absurd (cc)
    ]

pub unfinished : (bytes : List ℕ) → message_front bytes ≡ Ends → IsUnfinished bytes
unfinished bytes is =
    let parts = λ (le : 19 ≤ length bytes). unfinished_by (header_fault (take 19 bytes)) (kind_in (take 19 bytes)) (length_in (take 19 bytes)) bytes (sym (front_long bytes le) ∙ is) in
    record { sound = λ le. (parts le).0; part = λ le. (parts le).1 }
