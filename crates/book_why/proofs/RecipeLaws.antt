-- The right recipe makes the MAC that the check computes.
use Rattle.std.proofs.Common.{◌≡◌, ℕ, ◌+◌, ◌*◌, ◌/◌, Bool, true, false, not, List, ◌∷◌, ◌++◌, length, replicate, Option, Some, None, Result, Ok, Err, refl, sym, ap, subst, ◌∙◌, arith}
use Rattle.std.specs.Prelude.{◌≢◌, take, is_some, ◌||◌, ◌==◌, nat_le}
use Rattle.book_base.specs.Results.{◌>>=◌, or_fault}
use Rattle.book_base.specs.declared.address.Pair.{Pair}
use Rattle.book_base.specs.declared.algorithm.Algorithm.{Algorithm}
use Rattle.book_base.specs.declared.algorithm.Algorithm.TheVariants.{HmacSha1, AesCmac, HmacSha256}
use Rattle.book_segments.specs.Bytes.{put4, ring, same_bytes}
use Rattle.book_segments.specs.Options.{Ao, find_ao}
use Rattle.book_segments.specs.Segments.{Segment, has, SYN, segment_length, pseudo, header}
use Rattle.book_segments.proofs.Fields.{same_bytes_tells}
use Rattle.book_macs.specs.Contexts.{context, context_of}
use Rattle.book_macs.specs.Keys.{derivation_input, key_length, mac, traffic_key}
use Rattle.book_macs.specs.MacInput.{covered, mac_input}
use Rattle.book_keys.specs.Rows.{Row}
use Rattle.book_keys.specs.Choices.{Numbered, accept_row, has_id}
use Rattle.book_endpoint.specs.declared.refusal.Refusal.TheVariants.{NoTuple, Expired, MacLength, NoContext, Range, BadMac}
use Rattle.book_endpoint.specs.States.{number_limit}
use Rattle.book_endpoint.specs.Verdicts.{Finding, Judgement, Known, found_with, judge, mac_of, one_ao, require, row_taking, segment_number}
use Rattle.book_base.specs.Algorithms.{mac_length_of}
use Rattle.book_segments.proofs.SocketLaws.{same_bytes-refl}
use Rattle.book_why.specs.Judging.{ComesToItsMac, row_as, suspect_context, suspect_finding}
use Rattle.book_why.specs.Recipes.{Suspect, covered_with, key_made, mac_made, recipe_of}

key_same : (a : Algorithm) (master context : List ℕ) → key_made a master (derivation_input context (8 * key_length a)) ≡ traffic_key a master context
unfolding traffic_key
key_same HmacSha1 master context = refl
key_same AesCmac master context = refl
key_same HmacSha256 master context = refl

covered_same : (b : Bool) (area : List ℕ) (ao : Ao) → covered_with b area ao (replicate (length ao.mac) 0) ≡ covered b area ao
covered_same true area ao = refl
covered_same false area ao = refl

pub mac_same : (n : ℕ) (s : Suspect) → mac_made (recipe_of s) ≡ mac_of (suspect_finding n s)
unfolding mac_made mac mac_input
mac_same n s =
    rw (key_same s.row.algorithm s.row.master (suspect_context s), covered_same s.row.with_options s.segment.area s.ao) refl

-- what the check answers where it comes to the MAC
judged : (b : Bool) (p : Finding) → Judgement
judged true p = Ok p
judged false p = Err BadMac

last : (b : Bool) (p : Finding) → (require b BadMac >>= λ right. Ok p) ≡ judged b p
unfolding judged
last true p = refl
last false p = refl

comes : (rows : List Row) (pair : Pair) (known : Known) (now n : ℕ) (s : Suspect) → ComesToItsMac rows pair known now n s
    → judge rows pair known now s.segment ≡ judged (same_bytes s.ao.mac (mac_of (suspect_finding n s))) (suspect_finding n s)
unfolding judge
comes rows pair known now n s c =
    rw (c.option, c.row, c.mac_length, c.known_context, c.numbered, c.number, c.in_range) (last (same_bytes s.ao.mac (mac_of (suspect_finding n s))) (suspect_finding n s))

pub check_passes : (rows : List Row) (pair : Pair) (known : Known) (now n : ℕ) (s : Suspect) → ComesToItsMac rows pair known now n s
    → s.ao.mac ≡ mac_made (recipe_of s) → judge rows pair known now s.segment ≡ Ok (suspect_finding n s)
unfolding judged
check_passes rows pair known now n s c e =
    let right : s.ao.mac ≡ mac_of (suspect_finding n s) = e ∙ mac_same n s in
    let same : same_bytes s.ao.mac (mac_of (suspect_finding n s)) ≡ true = subst (λ m. same_bytes s.ao.mac m ≡ true) right (same_bytes-refl s.ao.mac) in
    comes rows pair known now n s c ∙ ap (λ b. judged b (suspect_finding n s)) same

pub check_refuses : (rows : List Row) (pair : Pair) (known : Known) (now n : ℕ) (s : Suspect) → ComesToItsMac rows pair known now n s
    → s.ao.mac ≢ mac_made (recipe_of s) → judge rows pair known now s.segment ≡ Err BadMac
unfolding judged
check_refuses rows pair known now n s c differ =
    comes rows pair known now n s c ∙ ap (λ b. judged b (suspect_finding n s)) (at (same_bytes s.ao.mac (mac_of (suspect_finding n s))) refl)
  where
    at : (b : Bool) → same_bytes s.ao.mac (mac_of (suspect_finding n s)) ≡ b → b ≡ false
    at true e = absurd (differ (same_bytes_tells s.ao.mac (mac_of (suspect_finding n s)) e ∙ sym (mac_same n s)))
    at false e = refl
