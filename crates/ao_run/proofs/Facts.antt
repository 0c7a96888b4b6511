-- What an end of a command that writes as it reads tells of the command's answer.
use Rattle.std.proofs.Common.{◌≡◌, ◌≢◌, ℕ, ◌<◌, ◌≤◌, Bool, true, false, List, length, Option, Some, None, if◌then◌else◌, refl, sym, ap, arith}
use Rattle.std.specs.Io.KnownBytes.{Consumes}
use Rattle.ao_base.specs.Outside.{Counts, IsAtEnd, Rose, Side, WasWritten}
use Rattle.book_keys.specs.Rows.{Table}
use Rattle.book_answer.specs.declared.command.Command.{Command}
use Rattle.book_answer.specs.Answers.{Answer, done, judged, refusal}
use Rattle.book_cmd_check.specs.Captures.{Stored, capture_run, has_refusal}
use Rattle.ao_run.specs.Gathered.{answer_in}

-- fewer bytes were written than these
pub record Fewer (bytes : List ℕ) (before now : Side) : Type 0 where
  pub n : ℕ
  pub few : n ≤ length bytes
  pub counts : Counts n before now

-- of the answer over these tables, where the input gave these bytes and more may be told behind them
pub record Facts (c : Command) (tables : List Table) (i : List ℕ) (i0 i1 o0 o1 : Side) (status : ℕ) : Type 0 where
  pub high : status < 8
  pub plain : (status ≢ 2) × (status ≢ 3)
  pub known : status < 5 → status ≡ (answer_in c tables i).status
  pub at_end : status < 2 → IsAtEnd i1
  pub whole : status < 2 → WasWritten (answer_in c tables i).output o0 o1
  pub read : status ≡ 5 → Rose i0 i1
  pub write : status ≡ 6 → Rose o0 o1
  pub refused : status ≡ 4 → (input : List ℕ) → i0.bytes ≡ Some input → Consumes i0.bytes i1.bytes i → (answer_in c tables input).status ≡ 4
  pub broken : status ≡ 6 → (input : List ℕ) → i0.bytes ≡ Some input → Consumes i0.bytes i1.bytes i → (answer_in c tables input).status < 2 →
      Fewer (answer_in c tables input).output o0 o1

module _ (c : Command) (tables : List Table) (i : List ℕ) (i0 i1 o0 o1 : Side) where
  finished : (status : ℕ) (output : List ℕ) → status < 2 → status ≡ (answer_in c tables i).status → output ≡ (answer_in c tables i).output →
      IsAtEnd i1 → WasWritten output o0 o1 → Facts c tables i i0 i1 o0 o1 status
  finished status output small known same end took = record {
    high = omega (arith, small);
    plain = (λ h. omega (arith, small, h), λ h. omega (arith, small, h));
    known = λ _. known;
    at_end = λ _. end;
    whole = λ _. rw same at took;
    read = λ h. absurd (omega (arith, small, h));
    write = λ h. absurd (omega (arith, small, h));
    refused = λ h. absurd (omega (arith, small, h));
    broken = λ h. absurd (omega (arith, small, h));
  }

  by_amiss : (amiss : Bool) (output : List ℕ) → answer_in c tables i ≡ done amiss output → IsAtEnd i1 → WasWritten output o0 o1 → Facts c tables i i0 i1 o0 o1 (if amiss then 1 else 0)
  by_amiss true output is end took = finished 1 output (omega arith) (ap (λ (a : Answer). a.status) (sym is)) (ap (λ (a : Answer). a.output) (sym is)) end took
  by_amiss false output is end took = finished 0 output (omega arith) (ap (λ (a : Answer). a.status) (sym is)) (ap (λ (a : Answer). a.output) (sym is)) end took

  -- all was read and written
  pub done_facts : (amiss : Bool) (output : List ℕ) → answer_in c tables i ≡ done amiss output → IsAtEnd i1 → WasWritten output o0 o1 → Facts c tables i i0 i1 o0 o1 (if amiss then 1 else 0)
  done_facts amiss output is end took = by_amiss amiss output is end took

  -- the input is refused, and would be with all that is told behind it
  pub refused_facts : (answer_in c tables i).status ≡ 4 →
      ((input : List ℕ) → i0.bytes ≡ Some input → Consumes i0.bytes i1.bytes i → (answer_in c tables input).status ≡ 4) → Facts c tables i i0 i1 o0 o1 4
  refused_facts four all = record {
    high = omega arith;
    plain = (λ h. omega (arith, h), λ h. omega (arith, h));
    known = λ _. sym four;
    at_end = λ h. absurd (omega (arith, h));
    whole = λ h. absurd (omega (arith, h));
    read = λ h. absurd (omega (arith, h));
    write = λ h. absurd (omega (arith, h));
    refused = λ _. all;
    broken = λ h. absurd (omega (arith, h));
  }

  -- a read failed
  pub read_facts : Rose i0 i1 → Facts c tables i i0 i1 o0 o1 5
  read_facts rose = record {
    high = omega arith;
    plain = (λ h. omega (arith, h), λ h. omega (arith, h));
    known = λ h. absurd (omega (arith, h));
    at_end = λ h. absurd (omega (arith, h));
    whole = λ h. absurd (omega (arith, h));
    read = λ _. rose;
    write = λ h. absurd (omega (arith, h));
    refused = λ h. absurd (omega (arith, h));
    broken = λ h. absurd (omega (arith, h));
  }

  -- a write failed
  pub write_facts : Rose o0 o1 →
      ((input : List ℕ) → i0.bytes ≡ Some input → Consumes i0.bytes i1.bytes i → (answer_in c tables input).status < 2 → Fewer (answer_in c tables input).output o0 o1) →
      Facts c tables i i0 i1 o0 o1 6
  write_facts rose fewer = record {
    high = omega arith;
    plain = (λ h. omega (arith, h), λ h. omega (arith, h));
    known = λ h. absurd (omega (arith, h));
    at_end = λ h. absurd (omega (arith, h));
    whole = λ h. absurd (omega (arith, h));
    read = λ h. absurd (omega (arith, h));
    write = λ _. rose;
    refused = λ h. absurd (omega (arith, h));
    broken = λ _. fewer;
  }

  -- memory ran out
  pub memory_facts : Facts c tables i i0 i1 o0 o1 7
  memory_facts = record {
    high = omega arith;
    plain = (λ h. omega (arith, h), λ h. omega (arith, h));
    known = λ h. absurd (omega (arith, h));
    at_end = λ h. absurd (omega (arith, h));
    whole = λ h. absurd (omega (arith, h));
    read = λ h. absurd (omega (arith, h));
    write = λ h. absurd (omega (arith, h));
    refused = λ h. absurd (omega (arith, h));
    broken = λ h. absurd (omega (arith, h));
  }

-- the answer of a check where nothing is faulty
pub judged_whole : (tables : List Table) (stored : List Stored) (fault : Option (List ℕ)) → fault ≡ None → judged tables stored fault ≡ done (has_refusal tables stored) (capture_run tables stored)
judged_whole tables stored None none = refl
judged_whole tables stored (Some text) none = absurd (cc)

-- that where something is
pub judged_refused : (tables : List Table) (stored : List Stored) (text : List ℕ) (fault : Option (List ℕ)) → fault ≡ Some text → (judged tables stored fault).status ≡ 4
judged_refused tables stored text None some = absurd (cc)
judged_refused tables stored text (Some other) some = refl

judged_output : (tables : List Table) (stored : List Stored) (fault : Option (List ℕ)) → (judged tables stored fault).output ≡ capture_run tables stored
judged_output tables stored None = refl
judged_output tables stored (Some text) = refl

-- an input that is refused is so past the limit too
pub past_refused : (past : Bool) (text : List ℕ) (a : Answer) → a.status ≡ 4 → (if past then refusal 4 text else a).status ≡ 4
past_refused true text a four = refl
past_refused false text a four = four

-- an output is that of the segments
pub past_output : (past : Bool) (text : List ℕ) (tables : List Table) (stored : List Stored) (fault : Option (List ℕ)) → (if past then refusal 4 text else judged tables stored fault).status < 2 →
    (if past then refusal 4 text else judged tables stored fault).output ≡ capture_run tables stored
past_output true text tables stored fault small = absurd (omega (arith, small))
past_output false text tables stored fault small = judged_output tables stored fault
