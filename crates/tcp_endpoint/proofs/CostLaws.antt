-- The work of an arrival.
use Rattle.std.proofs.Common.{◌≡◌, ◌≤◌, ◌<◌, ◌+◌, ℕ, Bool, true, false, length, List, Option, Some, None, Err, refl, sym, subst, arith}
use Rattle.book_base.specs.declared.address.Pair.{Pair}
use Rattle.book_segments.specs.Options.{find_ao}
use Rattle.book_segments.specs.Segments.{Segment, Reading, Read, has, SYN}
use Rattle.book_keys.specs.Rows.{Row}
use Rattle.book_endpoint.specs.declared.refusal.Refusal.{Refusal}
use Rattle.book_endpoint.specs.declared.arrival.Arrival.{Arrival}
use Rattle.book_endpoint.specs.declared.arrival.Arrival.TheVariants as answers
use Rattle.ao_kdf.specs.Cache.{Cache}
use Rattle.ao_kdf.specs.declared.way.Way.TheVariants.{Inbound}
use Rattle.ao_check.specs.Bonds.{Counted}
use Rattle.ao_check.specs.declared.passing.Passing.{Passing}
use Rattle.ao_check.specs.Verdicts.{is_judged, judging}
use Rattle.tcp_endpoint.specs.declared.arrival.Arrived.{Arrived}
use Rattle.tcp_endpoint.specs.declared.endpoint.Endpoint.{Endpoint}
use Rattle.tcp_endpoint.specs.Arrivals.{Costs, IsBeforeCheck, LeavesAll, is_computed}

-- an answer after which more than the kept keys may have changed comes behind the MAC
pub moved_on : (a : Arrival) → (LeavesAll a → ⊥) → is_computed a ≡ true
moved_on (answers.Bad fault) h = absurd (h tt)
moved_on answers.Foreign h = absurd (h tt)
moved_on answers.Checksum h = absurd (h tt)
moved_on answers.Closed h = absurd (h tt)
moved_on (answers.Refused why) h = absurd (h tt)
moved_on answers.Unexpected h = absurd (h tt)
moved_on answers.Window h = refl
moved_on answers.Challenge h = refl
moved_on answers.NoAck h = refl
moved_on answers.BadAck h = refl
moved_on answers.TooManyRuns h = refl
moved_on answers.Reset h = refl
moved_on answers.Taken h = refl

pub none_before : (a : Arrival) → is_computed a ≡ true → IsBeforeCheck a → ⊥
none_before (answers.Bad fault) h b = absurd (cc)
none_before answers.Foreign h b = absurd (cc)
none_before answers.Checksum h b = absurd (cc)
none_before answers.Closed h b = absurd (cc)
none_before (answers.Refused why) h b = b
none_before answers.Unexpected h b = b
none_before answers.Window h b = b
none_before answers.Challenge h b = b
none_before answers.NoAck h b = b
none_before answers.BadAck h b = b
none_before answers.TooManyRuns h b = b
none_before answers.Reset h b = b
none_before answers.Taken h b = b

pub read_same : (d x : Segment) → Read d ≡ Read x → d ≡ x
read_same d x e = cc

-- nothing is done
still : (before : Cache) (row : Option ℕ) (computed syn : Bool) (old : ℕ) → Counted before before row computed Inbound syn old old
still before row computed syn old = record {
  room = refl;
  least = omega arith;
  most = omega arith;
  idle = λ _. (refl, refl);
  none = λ n k s r h. refl;
  derived = λ n s r more. absurd (omega arith);
  stays = λ n w k h. h;
}

pub early_costs : (rows : List Row) (now : ℕ) (e : Endpoint) (d : Segment) (a : Arrival) (told : Arrived) (old : ℕ)
    → told ≡ record { arrival = a; passed = None } → Costs rows now d e e told old old
early_costs rows now e d a told old q =
    let at : Costs rows now d e e (record { arrival = a; passed = None }) old old = record {
      checked = old;
      counted = still e.association.keys (judging rows e.pair now (find_ao d.area)) (is_computed a) (has SYN d) old;
      links = omega arith;
      refused = λ _. refl;
      bare = λ _. refl;
    } in
    subst (λ (z : Arrived). Costs rows now d e e z old old) (sym q) at

-- a refusal is told of what the check says, and its work is the check's
pub refused_costs : {after : Endpoint} (rows : List Row) (now : ℕ) (e : Endpoint) (d : Segment) (w : Refusal) (told : Arrived) (pair : Pair) (old new : ℕ)
    → told ≡ record { arrival = answers.Refused w; passed = None } → pair ≡ e.pair
    → Counted e.association.keys after.association.keys (judging rows pair now (find_ao d.area)) (is_judged (Err w)) Inbound (has SYN d) old new
    → Costs rows now d e after told old new
refused_costs {after} rows now e d w told pair old new q p k =
    let at : Costs rows now d e after (record { arrival = answers.Refused w; passed = None }) old new = record {
      checked = new;
      counted = subst (λ (z : Pair). Counted e.association.keys after.association.keys (judging rows z now (find_ao d.area)) (is_judged (Err w)) Inbound (has SYN d) old new) p k;
      links = omega arith;
      refused = λ _. refl;
      bare = λ _. refl;
    } in
    subst (λ (z : Arrived). Costs rows now d e after z old new) (sym q) at

pub untold : (w : Refusal) (told : Arrived) → told ≡ record { arrival = answers.Refused w; passed = None } → IsBeforeCheck told.arrival → ⊥
untold w told q b = subst (λ (z : Arrived). IsBeforeCheck z.arrival) q b

no_pass : (p : Passing) → Some p ≡ None → ⊥
no_pass p e = absurd (cc)

-- a segment that passed costs what the check does, and the links that its payload walks
pub passed_costs : {after : Endpoint} (rows : List Row) (now : ℕ) (e : Endpoint) (d : Segment) (p : Passing) (a : Arrival) (pair : Pair) (keys : Cache) (old checked new : ℕ)
    → pair ≡ e.pair → is_computed a ≡ true → after.association.keys ≡ keys → new ≤ checked + 65 → (length d.payload ≡ 0 → new ≡ checked)
    → Counted e.association.keys keys (judging rows pair now (find_ao d.area)) true Inbound (has SYN d) old checked
    → Costs rows now d e after (record { arrival = a; passed = Some p }) old new
passed_costs {after} rows now e d p a pair keys old checked new q come same links bare k =
    let one = subst (λ (z : Pair). Counted e.association.keys keys (judging rows z now (find_ao d.area)) true Inbound (has SYN d) old checked) q k in
    let two = subst (λ (z : Cache). Counted e.association.keys z (judging rows e.pair now (find_ao d.area)) true Inbound (has SYN d) old checked) (sym same) one in
    let three = subst (λ (z : Bool). Counted e.association.keys after.association.keys (judging rows e.pair now (find_ao d.area)) z Inbound (has SYN d) old checked) (sym come) two in
    record {
      checked = checked;
      counted = three;
      links = links;
      refused = λ h. absurd (no_pass p h);
      bare = bare;
    }
