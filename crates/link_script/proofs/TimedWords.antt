-- A line whose first word is `wait`, and one whose first word isn't.
use Rattle.std.proofs.Common.{◌≡◌, ℕ, cond, Bool, true, false, List, [], ◌∷◌, codes, Some, None, Result, Ok, Err, refl, sym, ap}
use Rattle.std.specs.Str.{bytes_eq}
use Rattle.book_lines.specs.declared.line_kind.LineKind.{LineKind}
use Rattle.book_lines.specs.declared.line_kind.LineKind.TheVariants.{Word}
use Rattle.book_lines.specs.Words.{Taken, literal_in, word_in}
use Rattle.book_base.specs.Results.{◌>>=◌, or_fault}
use Rattle.book_cmd_link.specs.declared.timed.TimedEvent.{TimedEvent}
use Rattle.book_cmd_link.specs.LinkEvents.{link_event_of}
use Rattle.book_cmd_link.specs.TimedRuns.{plain_named, timed_event_of, wait_of}
use Rattle.law_scripts.specs.Timed.{plain_of}

-- what a literal says by whether the word is it
abbrev said : Bool → List (List ℕ) → Result (Taken (Unit {0})) LineKind
said b ws = or_fault (cond b (Some tt) None) Word >>= λ x. Ok (record { value = x; rest = ws })

same_taken : (a b : Taken (Unit {0})) → (let x : Result (Taken (Unit {0})) LineKind = Ok a in x ≡ Ok b) → a ≡ b
same_taken a b h = cc h

chosen : (b : Bool) (ws rest : List (List ℕ)) (x y : List (List ℕ) → Result TimedEvent LineKind) → Ok (record { value = tt; rest = rest }) ≡ said b ws
    → cond b (x ws) (y ws) ≡ x rest
chosen true ws rest x y h = ap (λ (t : Taken (Unit {0})). x t.rest) (sym (same_taken (record { value = tt; rest = rest }) (record { value = tt; rest = ws }) h))
chosen false ws rest x y h = absurd (cc h)

other : (b : Bool) (ws : List (List ℕ)) (e : LineKind) (x y : Result TimedEvent LineKind) → Err e ≡ said b ws → cond b x y ≡ y
other true ws e x y h = absurd (cc h)
other false ws e x y h = refl

-- a line that begins with `wait`
pub is_wait : (ws rest : List (List ℕ)) → Ok (record { value = tt; rest = rest }) ≡ literal_in (codes "wait") ws → timed_event_of ws ≡ wait_of rest
unfolding literal_in word_in timed_event_of
is_wait [] rest h = absurd (cc h)
is_wait (w ∷ ws) rest h = chosen (bytes_eq w (codes "wait")) ws rest wait_of (λ vs. plain_named w vs) h

-- a line that doesn't
pub isnt_wait : (ws : List (List ℕ)) (e : LineKind) → Err e ≡ literal_in (codes "wait") ws → timed_event_of ws ≡ plain_of ws
unfolding literal_in word_in timed_event_of link_event_of
isnt_wait [] e h = refl
isnt_wait (w ∷ ws) e h = other (bytes_eq w (codes "wait")) ws e (wait_of ws) (plain_named w ws) h
