-- What it does to a live session that a piece is offered, or bytes are taken.
use Rattle.std.proofs.Common.{◌≡◌, ℕ, Bool, true, false, ◌||◌, List, Option, None, if◌then◌else◌, refl, sym, ap, ◌∙◌}
use Rattle.std.specs.Prelude.{◌++◌, drop, length, nat_lt, not, take}
use Rattle.std.proofs.Math.Seq.{take-append_seam}
use Rattle.book_endpoint.specs.States.{EndState, at_end, give, gives, room, take_out, taking}
use Rattle.book_link.specs.Outcomes as book
use Rattle.book_link.specs.Steps.{Act, given, quietly, took}
use Rattle.link_report.specs.declared.sessions.Live.{Live}
use Rattle.link_report.specs.SideOutcomes.{answer_given, outcome_of}
use Rattle.link_report.proofs.ActLaws.{Acts}
use Rattle.tcp_endpoint.specs.declared.send.GiveAnswer.{GiveAnswer}
use Rattle.tcp_endpoint.specs.declared.send.GiveAnswer.TheVariants as given_as
use Rattle.tcp_endpoint.specs.Answers.{give_answer, offered}
use Rattle.tcp_endpoint.specs.Ends.{Stands}

pub not_shown : (shown : Bool) → shown ≡ (shown || false)
not_shown true = refl
not_shown false = refl

-- by whether bytes may be given, and whether the piece has room
given_if : (shut long : Bool) (piece : List ℕ) (s : EndState) (l l' : Live) (r : GiveAnswer)
    → r ≡ (if shut then given_as.Closed else (if long then given_as.Full else given_as.Ok))
    → Stands l'.endpoint (if shut then s else (if long then s else give piece s)) → l'.end_shown ≡ l.end_shown
    → Acts (if shut then quietly s book.HasClosed else (if long then quietly s book.Full else quietly (give piece s) book.Done)) l l'
    (outcome_of (answer_given r))
given_if true long piece s l l' r is stands same =
    rw is (record { state = s; shown = false; is = refl; stands = stands; marked = same ∙ not_shown l.end_shown })
given_if false true piece s l l' r is stands same =
    rw is (record { state = s; shown = false; is = refl; stands = stands; marked = same ∙ not_shown l.end_shown })
given_if false false piece s l l' r is stands same =
    rw is (record { state = give piece s; shown = false; is = refl; stands = stands; marked = same ∙ not_shown l.end_shown })

-- a piece is offered
pub given_acts : (piece : List ℕ) (s : EndState) (l l' : Live) (r : GiveAnswer) → r ≡ give_answer s piece → Stands l'.endpoint (offered piece s)
    → l'.end_shown ≡ l.end_shown → Acts (given piece s) l l' (outcome_of (answer_given r))
given_acts piece s l l' r is stands same = given_if (not (gives s)) (nat_lt (room s) (length piece)) piece s l l' r is stands same

-- a buffer of this length whose bytes were written anew
pub written : (size : ℕ) (out rest : List ℕ) → length out ≡ size → take size (out ++ rest) ≡ out
written size out rest long = ap (λ k. take k (out ++ rest)) (sym long) ∙ take-append_seam out rest

-- what is left of the buffer are the bytes that were taken
pub taken_bytes : (count n size : ℕ) (s : EndState) (old out rest cut bytes : List ℕ) → length out ≡ size → n ≡ length (taking count s)
    → out ≡ taking count s ++ drop n old → cut ≡ take n (take size (out ++ rest)) → bytes ≡ cut → bytes ≡ taking count s
taken_bytes count n size s old out rest cut bytes whole long taken left are =
    let seam : take (length (taking count s)) (taking count s ++ drop n old) ≡ taking count s = take-append_seam (taking count s) (drop n old) in
    are ∙ left ∙ ap (take n) (written size out rest whole) ∙ ap (take n) taken ∙ ap (λ k. take k (taking count s ++ drop n old)) long ∙ seam

-- bytes are taken
pub took_acts : (count : ℕ) (s : EndState) (l l' : Live) (bytes : List ℕ) (shown : Bool) → bytes ≡ taking count s → shown ≡ at_end (take_out count s)
    → Stands l'.endpoint (take_out count s) → l'.end_shown ≡ (l.end_shown || shown) → Acts (took count s) l l' (book.Took bytes shown)
took_acts count s l l' bytes shown are is stands marked =
    rw (are, is) (record {
      state = take_out count s;
      shown = at_end (take_out count s);
      is = refl;
      stands = stands;
      marked = marked ∙ ap (λ b. l.end_shown || b) is;
    })
