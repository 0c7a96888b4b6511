use Rattle.std.proofs.Common.{◌≡◌, ℕ, ◌+◌, ◌-◌, ◌≤◌, true, false, nat_le, List, ◌++◌, length, Option, Some, None, ap, sym, subst, ◌∙◌, arith}
use Rattle.std.specs.Prelude.{option_map}
use Rattle.std.specs.List.{list_any}
use Rattle.std.proofs.lemmas.List.{length-replicate}
use Rattle.book_base.specs.Algorithms.{mac_length_of}
use Rattle.book_segments.specs.Options.{plains, listed, options_of}
use Rattle.book_segments.specs.Segments.{segment_length}
use Rattle.book_macs.specs.declared.context.Context.{Context}
use Rattle.book_macs.specs.Contexts.{context_of, bytes_of}
use Rattle.book_keys.specs.Coordination.{choose}
use Rattle.book_endpoint.specs.States.{number_limit}
use Rattle.book_endpoint.specs.Verdicts.{segment_number}
use Rattle.book_endpoint.specs.Emissions.{ao_length, written_ao, no_mac}
use Rattle.book_shim.specs.declared.kept.Kept.{Kept}
use Rattle.book_shim.specs.Keeping.{own_isn, peer_isn}
use Rattle.book_shim.specs.Relaying.{fitted, length_in_header, with_area}
use Rattle.book_shim.specs.Leaving.{signs, entered, kept_for, with_ao}
use Rattle.ao_check.specs.declared.choice.Sending.{Sending as Answer}
use Rattle.ao_check.specs.Sendings.{told}
use Rattle.ao_shim.proofs.LaidLaws.{relaid_told}
use Rattle.ao_shim.specs.Plans.{ao_after}
use Rattle.ao_shim.proofs.OutLaws.{signed_is, no_context, no_number, late, no_key, no_room, too_long, within}
use Rattle.ao_shim.proofs.PlanLaws.{none_of, is_chosen, le_told, gt_told, told_le, mac_twenty}
use Rattle.ao_shim.proofs.SealLaws.{read_fits, beside, blank_is}
use Rattle.ao_shim.proofs.plan.planned.Goals as goal

pub returns-then-is_signed-clause-refused : goal.returns-then-is_signed-clause-refused
returns-then-is_signed-clause-refused c =
    λ mtu.
    let opt : c.options-options.result ≡ c.args.datagram.now.area = c.options-options.ensures.value in
    let plain : list_any signs (plains (listed (options_of c.args.datagram.now.area))) ≡ true = ap (λ (a : List ℕ). list_any signs (plains (listed (options_of a)))) (sym opt) ∙ (sym c.is_signed.ensures ∙ c.if-is_signed.true) in
    signed_is (record { rows = c.args.table.now.rows; now = c.args.now; mtu = mtu }) c.args.pair.now (entered c.args.before.now c.args.datagram.now) c.args.datagram.now c.requires.keyed plain

pub returns-in-None-clause-refused : goal.returns-in-None-clause-refused
returns-in-None-clause-refused c =
    λ mtu.
    let opt : c.options-options.result ≡ c.args.datagram.now.area = c.options-options.ensures.value in
    let plain : list_any signs (plains (listed (options_of c.args.datagram.now.area))) ≡ false = ap (λ (a : List ℕ). list_any signs (plains (listed (options_of a)))) (sym opt) ∙ (sym c.is_signed.ensures ∙ c.if-is_signed.false) in
    let kept-is : c.entered-kept.result ≡ entered c.args.before.now c.args.datagram.now = c.entered-kept.ensures in
    let under-is : c.kept_for-under.result ≡ kept_for (entered c.args.before.now c.args.datagram.now) c.args.datagram.now = c.kept_for-under.ensures.kept ∙ ap (λ (k : Kept). kept_for k c.args.datagram.now) kept-is in
    let context : option_map bytes_of c.context_for.result ≡ context_of c.args.datagram.now (own_isn (kept_for (entered c.args.before.now c.args.datagram.now) c.args.datagram.now)) (peer_isn (kept_for (entered c.args.before.now c.args.datagram.now) c.args.datagram.now)) = c.context_for.ensures ∙ (ap (λ (o : Option ℕ). context_of c.args.datagram.now o c.peer_isn.result) (c.own_isn.ensures ∙ ap own_isn under-is) ∙ ap (λ (o : Option ℕ). context_of c.args.datagram.now (own_isn (kept_for (entered c.args.before.now c.args.datagram.now) c.args.datagram.now)) o) (c.peer_isn.ensures ∙ ap peer_isn under-is)) in
    let context-is : context_of c.args.datagram.now (own_isn (kept_for (entered c.args.before.now c.args.datagram.now) c.args.datagram.now)) (peer_isn (kept_for (entered c.args.before.now c.args.datagram.now) c.args.datagram.now)) ≡ None = sym context ∙ ap (λ (o : Option Context). option_map bytes_of o) c.in-None.is in
    no_context (record { rows = c.args.table.now.rows; now = c.args.now; mtu = mtu }) c.args.pair.now (entered c.args.before.now c.args.datagram.now) c.args.datagram.now c.requires.keyed plain context-is

pub returns-in-None-number_of-clause-refused : goal.returns-in-None-number_of-clause-refused
returns-in-None-number_of-clause-refused c =
    λ mtu.
    let opt : c.options-options.result ≡ c.args.datagram.now.area = c.options-options.ensures.value in
    let plain : list_any signs (plains (listed (options_of c.args.datagram.now.area))) ≡ false = ap (λ (a : List ℕ). list_any signs (plains (listed (options_of a)))) (sym opt) ∙ (sym c.is_signed.ensures ∙ c.if-is_signed.false) in
    let kept-is : c.entered-kept.result ≡ entered c.args.before.now c.args.datagram.now = c.entered-kept.ensures in
    let under-is : c.kept_for-under.result ≡ kept_for (entered c.args.before.now c.args.datagram.now) c.args.datagram.now = c.kept_for-under.ensures.kept ∙ ap (λ (k : Kept). kept_for k c.args.datagram.now) kept-is in
    let context : option_map bytes_of c.context_for.result ≡ context_of c.args.datagram.now (own_isn (kept_for (entered c.args.before.now c.args.datagram.now) c.args.datagram.now)) (peer_isn (kept_for (entered c.args.before.now c.args.datagram.now) c.args.datagram.now)) = c.context_for.ensures ∙ (ap (λ (o : Option ℕ). context_of c.args.datagram.now o c.peer_isn.result) (c.own_isn.ensures ∙ ap own_isn under-is) ∙ ap (λ (o : Option ℕ). context_of c.args.datagram.now (own_isn (kept_for (entered c.args.before.now c.args.datagram.now) c.args.datagram.now)) o) (c.peer_isn.ensures ∙ ap peer_isn under-is)) in
    let context-is : context_of c.args.datagram.now (own_isn (kept_for (entered c.args.before.now c.args.datagram.now) c.args.datagram.now)) (peer_isn (kept_for (entered c.args.before.now c.args.datagram.now) c.args.datagram.now)) ≡ Some (bytes_of c.in-Some.context) = sym context ∙ ap (λ (o : Option Context). option_map bytes_of o) c.in-Some.is in
    let number : c.number_of.result ≡ segment_number c.args.datagram.now (Some (kept_for (entered c.args.before.now c.args.datagram.now) c.args.datagram.now).sent) = c.number_of.ensures.number ∙ ap (λ (k : Kept). segment_number c.args.datagram.now (Some k.sent)) under-is in
    let number-is : segment_number c.args.datagram.now (Some (kept_for (entered c.args.before.now c.args.datagram.now) c.args.datagram.now).sent) ≡ None = sym number ∙ c.in-None-number_of.is in
    no_number (record { rows = c.args.table.now.rows; now = c.args.now; mtu = mtu }) c.args.pair.now (entered c.args.before.now c.args.datagram.now) c.args.datagram.now (bytes_of c.in-Some.context) c.requires.keyed plain context-is number-is

pub returns-then-not-ends_in_time-clause-refused : goal.returns-then-not-ends_in_time-clause-refused
returns-then-not-ends_in_time-clause-refused c =
    λ mtu.
    let opt : c.options-options.result ≡ c.args.datagram.now.area = c.options-options.ensures.value in
    let plain : list_any signs (plains (listed (options_of c.args.datagram.now.area))) ≡ false = ap (λ (a : List ℕ). list_any signs (plains (listed (options_of a)))) (sym opt) ∙ (sym c.is_signed.ensures ∙ c.if-is_signed.false) in
    let kept-is : c.entered-kept.result ≡ entered c.args.before.now c.args.datagram.now = c.entered-kept.ensures in
    let under-is : c.kept_for-under.result ≡ kept_for (entered c.args.before.now c.args.datagram.now) c.args.datagram.now = c.kept_for-under.ensures.kept ∙ ap (λ (k : Kept). kept_for k c.args.datagram.now) kept-is in
    let context : option_map bytes_of c.context_for.result ≡ context_of c.args.datagram.now (own_isn (kept_for (entered c.args.before.now c.args.datagram.now) c.args.datagram.now)) (peer_isn (kept_for (entered c.args.before.now c.args.datagram.now) c.args.datagram.now)) = c.context_for.ensures ∙ (ap (λ (o : Option ℕ). context_of c.args.datagram.now o c.peer_isn.result) (c.own_isn.ensures ∙ ap own_isn under-is) ∙ ap (λ (o : Option ℕ). context_of c.args.datagram.now (own_isn (kept_for (entered c.args.before.now c.args.datagram.now) c.args.datagram.now)) o) (c.peer_isn.ensures ∙ ap peer_isn under-is)) in
    let context-is : context_of c.args.datagram.now (own_isn (kept_for (entered c.args.before.now c.args.datagram.now) c.args.datagram.now)) (peer_isn (kept_for (entered c.args.before.now c.args.datagram.now) c.args.datagram.now)) ≡ Some (bytes_of c.in-Some.context) = sym context ∙ ap (λ (o : Option Context). option_map bytes_of o) c.in-Some.is in
    let number : c.number_of.result ≡ segment_number c.args.datagram.now (Some (kept_for (entered c.args.before.now c.args.datagram.now) c.args.datagram.now).sent) = c.number_of.ensures.number ∙ ap (λ (k : Kept). segment_number c.args.datagram.now (Some k.sent)) under-is in
    let number-is : segment_number c.args.datagram.now (Some (kept_for (entered c.args.before.now c.args.datagram.now) c.args.datagram.now).sent) ≡ Some c.in-Some-number_of.number = sym number ∙ c.in-Some-number_of.is in
    let ends : nat_le (c.in-Some-number_of.number + segment_length c.args.datagram.now) number_limit ≡ false = sym c.ends_in_time.ensures ∙ c.if-not-ends_in_time.true in
    late (record { rows = c.args.table.now.rows; now = c.args.now; mtu = mtu }) c.args.pair.now (entered c.args.before.now c.args.datagram.now) c.args.datagram.now (bytes_of c.in-Some.context) c.in-Some-number_of.number c.requires.keyed plain context-is number-is ends

pub returns-in-None-chosen-clause-refused : goal.returns-in-None-chosen-clause-refused
returns-in-None-chosen-clause-refused c =
    λ mtu.
    let opt : c.options-options.result ≡ c.args.datagram.now.area = c.options-options.ensures.value in
    let plain : list_any signs (plains (listed (options_of c.args.datagram.now.area))) ≡ false = ap (λ (a : List ℕ). list_any signs (plains (listed (options_of a)))) (sym opt) ∙ (sym c.is_signed.ensures ∙ c.if-is_signed.false) in
    let kept-is : c.entered-kept.result ≡ entered c.args.before.now c.args.datagram.now = c.entered-kept.ensures in
    let under-is : c.kept_for-under.result ≡ kept_for (entered c.args.before.now c.args.datagram.now) c.args.datagram.now = c.kept_for-under.ensures.kept ∙ ap (λ (k : Kept). kept_for k c.args.datagram.now) kept-is in
    let context : option_map bytes_of c.context_for.result ≡ context_of c.args.datagram.now (own_isn (kept_for (entered c.args.before.now c.args.datagram.now) c.args.datagram.now)) (peer_isn (kept_for (entered c.args.before.now c.args.datagram.now) c.args.datagram.now)) = c.context_for.ensures ∙ (ap (λ (o : Option ℕ). context_of c.args.datagram.now o c.peer_isn.result) (c.own_isn.ensures ∙ ap own_isn under-is) ∙ ap (λ (o : Option ℕ). context_of c.args.datagram.now (own_isn (kept_for (entered c.args.before.now c.args.datagram.now) c.args.datagram.now)) o) (c.peer_isn.ensures ∙ ap peer_isn under-is)) in
    let context-is : context_of c.args.datagram.now (own_isn (kept_for (entered c.args.before.now c.args.datagram.now) c.args.datagram.now)) (peer_isn (kept_for (entered c.args.before.now c.args.datagram.now) c.args.datagram.now)) ≡ Some (bytes_of c.in-Some.context) = sym context ∙ ap (λ (o : Option Context). option_map bytes_of o) c.in-Some.is in
    let number : c.number_of.result ≡ segment_number c.args.datagram.now (Some (kept_for (entered c.args.before.now c.args.datagram.now) c.args.datagram.now).sent) = c.number_of.ensures.number ∙ ap (λ (k : Kept). segment_number c.args.datagram.now (Some k.sent)) under-is in
    let number-is : segment_number c.args.datagram.now (Some (kept_for (entered c.args.before.now c.args.datagram.now) c.args.datagram.now).sent) ≡ Some c.in-Some-number_of.number = sym number ∙ c.in-Some-number_of.is in
    let ends : nat_le (c.in-Some-number_of.number + segment_length c.args.datagram.now) number_limit ≡ true = sym c.ends_in_time.ensures ∙ c.if-not-ends_in_time.false in
    let choice : c.chosen.result ≡ option_map told (choose (entered c.args.before.now c.args.datagram.now).current c.args.table.now.rows c.args.pair.now c.args.now) = c.chosen.ensures.sending ∙ ap (λ (k : Kept). option_map told (choose k.current c.args.table.now.rows c.args.pair.now c.args.now)) kept-is in
    no_key (record { rows = c.args.table.now.rows; now = c.args.now; mtu = mtu }) c.args.pair.now (entered c.args.before.now c.args.datagram.now) c.args.datagram.now (bytes_of c.in-Some.context) c.in-Some-number_of.number c.requires.keyed plain context-is number-is ends (none_of c.chosen.result (choose (entered c.args.before.now c.args.datagram.now).current c.args.table.now.rows c.args.pair.now c.args.now) choice c.in-None-chosen.is)

pub overflow_add-mac_length : goal.overflow_add-mac_length
overflow_add-mac_length c =
    let kept-is : c.entered-kept.result ≡ entered c.args.before.now c.args.datagram.now = c.entered-kept.ensures in
    let choice : c.chosen.result ≡ option_map told (choose (entered c.args.before.now c.args.datagram.now).current c.args.table.now.rows c.args.pair.now c.args.now) = c.chosen.ensures.sending ∙ ap (λ (k : Kept). option_map told (choose k.current c.args.table.now.rows c.args.pair.now c.args.now)) kept-is in
    let s = is_chosen c.args.table.now.rows (entered c.args.before.now c.args.datagram.now).current c.args.pair.now c.args.now c.chosen.result c.in-Some-chosen.sending choice c.in-Some-chosen.is in
    let mac-length : c.mac_length_of-mac_length.result ≡ mac_length_of s.s.row.algorithm = c.mac_length_of-mac_length.ensures s.s.row s.row_is in
    omega (arith, mac_twenty s.s c.mac_length_of-mac_length.result mac-length)

pub overflow_sub-mac_length : goal.overflow_sub-mac_length
overflow_sub-mac_length c =
    let kept-is : c.entered-kept.result ≡ entered c.args.before.now c.args.datagram.now = c.entered-kept.ensures in
    let choice : c.chosen.result ≡ option_map told (choose (entered c.args.before.now c.args.datagram.now).current c.args.table.now.rows c.args.pair.now c.args.now) = c.chosen.ensures.sending ∙ ap (λ (k : Kept). option_map told (choose k.current c.args.table.now.rows c.args.pair.now c.args.now)) kept-is in
    let s = is_chosen c.args.table.now.rows (entered c.args.before.now c.args.datagram.now).current c.args.pair.now c.args.now c.chosen.result c.in-Some-chosen.sending choice c.in-Some-chosen.is in
    let mac-length : c.mac_length_of-mac_length.result ≡ mac_length_of s.s.row.algorithm = c.mac_length_of-mac_length.ensures s.s.row s.row_is in
    omega (arith, mac_twenty s.s c.mac_length_of-mac_length.result mac-length)

pub returns-in-None-fitted-clause-refused : goal.returns-in-None-fitted-clause-refused
returns-in-None-fitted-clause-refused c =
    λ mtu.
    let opt : c.options-options.result ≡ c.args.datagram.now.area = c.options-options.ensures.value in
    let plain : list_any signs (plains (listed (options_of c.args.datagram.now.area))) ≡ false = ap (λ (a : List ℕ). list_any signs (plains (listed (options_of a)))) (sym opt) ∙ (sym c.is_signed.ensures ∙ c.if-is_signed.false) in
    let kept-is : c.entered-kept.result ≡ entered c.args.before.now c.args.datagram.now = c.entered-kept.ensures in
    let under-is : c.kept_for-under.result ≡ kept_for (entered c.args.before.now c.args.datagram.now) c.args.datagram.now = c.kept_for-under.ensures.kept ∙ ap (λ (k : Kept). kept_for k c.args.datagram.now) kept-is in
    let context : option_map bytes_of c.context_for.result ≡ context_of c.args.datagram.now (own_isn (kept_for (entered c.args.before.now c.args.datagram.now) c.args.datagram.now)) (peer_isn (kept_for (entered c.args.before.now c.args.datagram.now) c.args.datagram.now)) = c.context_for.ensures ∙ (ap (λ (o : Option ℕ). context_of c.args.datagram.now o c.peer_isn.result) (c.own_isn.ensures ∙ ap own_isn under-is) ∙ ap (λ (o : Option ℕ). context_of c.args.datagram.now (own_isn (kept_for (entered c.args.before.now c.args.datagram.now) c.args.datagram.now)) o) (c.peer_isn.ensures ∙ ap peer_isn under-is)) in
    let context-is : context_of c.args.datagram.now (own_isn (kept_for (entered c.args.before.now c.args.datagram.now) c.args.datagram.now)) (peer_isn (kept_for (entered c.args.before.now c.args.datagram.now) c.args.datagram.now)) ≡ Some (bytes_of c.in-Some.context) = sym context ∙ ap (λ (o : Option Context). option_map bytes_of o) c.in-Some.is in
    let number : c.number_of.result ≡ segment_number c.args.datagram.now (Some (kept_for (entered c.args.before.now c.args.datagram.now) c.args.datagram.now).sent) = c.number_of.ensures.number ∙ ap (λ (k : Kept). segment_number c.args.datagram.now (Some k.sent)) under-is in
    let number-is : segment_number c.args.datagram.now (Some (kept_for (entered c.args.before.now c.args.datagram.now) c.args.datagram.now).sent) ≡ Some c.in-Some-number_of.number = sym number ∙ c.in-Some-number_of.is in
    let ends : nat_le (c.in-Some-number_of.number + segment_length c.args.datagram.now) number_limit ≡ true = sym c.ends_in_time.ensures ∙ c.if-not-ends_in_time.false in
    let choice : c.chosen.result ≡ option_map told (choose (entered c.args.before.now c.args.datagram.now).current c.args.table.now.rows c.args.pair.now c.args.now) = c.chosen.ensures.sending ∙ ap (λ (k : Kept). option_map told (choose k.current c.args.table.now.rows c.args.pair.now c.args.now)) kept-is in
    let s = is_chosen c.args.table.now.rows (entered c.args.before.now c.args.datagram.now).current c.args.pair.now c.args.now c.chosen.result c.in-Some-chosen.sending choice c.in-Some-chosen.is in
    let mac-length : c.mac_length_of-mac_length.result ≡ mac_length_of s.s.row.algorithm = c.mac_length_of-mac_length.ensures s.s.row s.row_is in
    let fit : c.fitted.result ≡ fitted (40 - ao_length s.s) c.args.datagram.now.area = c.fitted.ensures ∙ (ap (λ (n : ℕ). fitted (40 - (4 + n)) c.options-options.result) mac-length ∙ ap (fitted (40 - ao_length s.s)) opt) in
    let fit-is : fitted (40 - ao_length s.s) c.args.datagram.now.area ≡ None = sym fit ∙ c.in-None-fitted.is in
    no_room (record { rows = c.args.table.now.rows; now = c.args.now; mtu = mtu }) c.args.pair.now (entered c.args.before.now c.args.datagram.now) c.args.datagram.now (bytes_of c.in-Some.context) c.in-Some-number_of.number s.s c.requires.keyed plain context-is number-is ends s.is fit-is

pub zeros-requires : goal.zeros-requires
zeros-requires c =
    let kept-is : c.entered-kept.result ≡ entered c.args.before.now c.args.datagram.now = c.entered-kept.ensures in
    let choice : c.chosen.result ≡ option_map told (choose (entered c.args.before.now c.args.datagram.now).current c.args.table.now.rows c.args.pair.now c.args.now) = c.chosen.ensures.sending ∙ ap (λ (k : Kept). option_map told (choose k.current c.args.table.now.rows c.args.pair.now c.args.now)) kept-is in
    let s = is_chosen c.args.table.now.rows (entered c.args.before.now c.args.datagram.now).current c.args.pair.now c.args.now c.chosen.result c.in-Some-chosen.sending choice c.in-Some-chosen.is in
    let mac-length : c.mac_length_of-mac_length.result ≡ mac_length_of s.s.row.algorithm = c.mac_length_of-mac_length.ensures s.s.row s.row_is in
    omega (arith, mac_twenty s.s c.mac_length_of-mac_length.result mac-length)

pub with_ao-blank-requires : goal.with_ao-blank-requires
with_ao-blank-requires c =
    let opt : c.options-options.result ≡ c.args.datagram.now.area = c.options-options.ensures.value in
    let plain : list_any signs (plains (listed (options_of c.args.datagram.now.area))) ≡ false = ap (λ (a : List ℕ). list_any signs (plains (listed (options_of a)))) (sym opt) ∙ (sym c.is_signed.ensures ∙ c.if-is_signed.false) in
    let kept-is : c.entered-kept.result ≡ entered c.args.before.now c.args.datagram.now = c.entered-kept.ensures in
    let choice : c.chosen.result ≡ option_map told (choose (entered c.args.before.now c.args.datagram.now).current c.args.table.now.rows c.args.pair.now c.args.now) = c.chosen.ensures.sending ∙ ap (λ (k : Kept). option_map told (choose k.current c.args.table.now.rows c.args.pair.now c.args.now)) kept-is in
    let s = is_chosen c.args.table.now.rows (entered c.args.before.now c.args.datagram.now).current c.args.pair.now c.args.now c.chosen.result c.in-Some-chosen.sending choice c.in-Some-chosen.is in
    let mac-length : c.mac_length_of-mac_length.result ≡ mac_length_of s.s.row.algorithm = c.mac_length_of-mac_length.ensures s.s.row s.row_is in
    let fit : c.fitted.result ≡ fitted (40 - ao_length s.s) c.args.datagram.now.area = c.fitted.ensures ∙ (ap (λ (n : ℕ). fitted (40 - (4 + n)) c.options-options.result) mac-length ∙ ap (fitted (40 - ao_length s.s)) opt) in
    let fit-is : fitted (40 - ao_length s.s) c.args.datagram.now.area ≡ Some c.in-Some-fitted.fitted = sym fit ∙ c.in-Some-fitted.is in
    let f = read_fits c.args.bytes.now c.args.datagram.now (λ i. omega (arith, c.type_inv.bytes i)) c.requires.read in
    let b = beside c.args.datagram.now c.in-Some-fitted.fitted s.s f plain fit-is in
    omega (arith, b.room, mac-length, ap (λ (l : List ℕ). length l) c.zeros.ensures, length-replicate {A = ℕ} c.mac_length_of-mac_length.result 0)

pub returns-then-length_told-gt-MOST-clause-refused : goal.returns-then-length_told-gt-MOST-clause-refused
returns-then-length_told-gt-MOST-clause-refused c =
    λ mtu.
    let opt : c.options-options.result ≡ c.args.datagram.now.area = c.options-options.ensures.value in
    let plain : list_any signs (plains (listed (options_of c.args.datagram.now.area))) ≡ false = ap (λ (a : List ℕ). list_any signs (plains (listed (options_of a)))) (sym opt) ∙ (sym c.is_signed.ensures ∙ c.if-is_signed.false) in
    let kept-is : c.entered-kept.result ≡ entered c.args.before.now c.args.datagram.now = c.entered-kept.ensures in
    let under-is : c.kept_for-under.result ≡ kept_for (entered c.args.before.now c.args.datagram.now) c.args.datagram.now = c.kept_for-under.ensures.kept ∙ ap (λ (k : Kept). kept_for k c.args.datagram.now) kept-is in
    let context : option_map bytes_of c.context_for.result ≡ context_of c.args.datagram.now (own_isn (kept_for (entered c.args.before.now c.args.datagram.now) c.args.datagram.now)) (peer_isn (kept_for (entered c.args.before.now c.args.datagram.now) c.args.datagram.now)) = c.context_for.ensures ∙ (ap (λ (o : Option ℕ). context_of c.args.datagram.now o c.peer_isn.result) (c.own_isn.ensures ∙ ap own_isn under-is) ∙ ap (λ (o : Option ℕ). context_of c.args.datagram.now (own_isn (kept_for (entered c.args.before.now c.args.datagram.now) c.args.datagram.now)) o) (c.peer_isn.ensures ∙ ap peer_isn under-is)) in
    let context-is : context_of c.args.datagram.now (own_isn (kept_for (entered c.args.before.now c.args.datagram.now) c.args.datagram.now)) (peer_isn (kept_for (entered c.args.before.now c.args.datagram.now) c.args.datagram.now)) ≡ Some (bytes_of c.in-Some.context) = sym context ∙ ap (λ (o : Option Context). option_map bytes_of o) c.in-Some.is in
    let number : c.number_of.result ≡ segment_number c.args.datagram.now (Some (kept_for (entered c.args.before.now c.args.datagram.now) c.args.datagram.now).sent) = c.number_of.ensures.number ∙ ap (λ (k : Kept). segment_number c.args.datagram.now (Some k.sent)) under-is in
    let number-is : segment_number c.args.datagram.now (Some (kept_for (entered c.args.before.now c.args.datagram.now) c.args.datagram.now).sent) ≡ Some c.in-Some-number_of.number = sym number ∙ c.in-Some-number_of.is in
    let ends : nat_le (c.in-Some-number_of.number + segment_length c.args.datagram.now) number_limit ≡ true = sym c.ends_in_time.ensures ∙ c.if-not-ends_in_time.false in
    let choice : c.chosen.result ≡ option_map told (choose (entered c.args.before.now c.args.datagram.now).current c.args.table.now.rows c.args.pair.now c.args.now) = c.chosen.ensures.sending ∙ ap (λ (k : Kept). option_map told (choose k.current c.args.table.now.rows c.args.pair.now c.args.now)) kept-is in
    let s = is_chosen c.args.table.now.rows (entered c.args.before.now c.args.datagram.now).current c.args.pair.now c.args.now c.chosen.result c.in-Some-chosen.sending choice c.in-Some-chosen.is in
    let mac-length : c.mac_length_of-mac_length.result ≡ mac_length_of s.s.row.algorithm = c.mac_length_of-mac_length.ensures s.s.row s.row_is in
    let fit : c.fitted.result ≡ fitted (40 - ao_length s.s) c.args.datagram.now.area = c.fitted.ensures ∙ (ap (λ (n : ℕ). fitted (40 - (4 + n)) c.options-options.result) mac-length ∙ ap (fitted (40 - ao_length s.s)) opt) in
    let fit-is : fitted (40 - ao_length s.s) c.args.datagram.now.area ≡ Some c.in-Some-fitted.fitted = sym fit ∙ c.in-Some-fitted.is in
    let blank : c.as_slice.result.now ≡ c.in-Some-fitted.fitted ++ written_ao s.s (no_mac s.s) = c.as_slice.ensures.bytes ∙ (c.with_ao-blank.ensures ∙ (ap (λ (l : List ℕ). c.in-Some-fitted.fitted ++ ao_after c.in-Some-chosen.sending.key_id c.in-Some-chosen.sending.rnext l) c.zeros.ensures ∙ blank_is c.in-Some-fitted.fitted s.s c.in-Some-chosen.sending.key_id c.in-Some-chosen.sending.rnext c.mac_length_of-mac_length.result (ap (λ (x : Answer). x.key_id) s.told_is) (ap (λ (x : Answer). x.rnext) s.told_is) mac-length)) in
    let whole : c.length_told.result ≡ length_in_header c.args.datagram.now.ip (with_ao c.args.datagram.now c.in-Some-fitted.fitted s.s (no_mac s.s)) = c.length_told.ensures ∙ (ap (λ (l : List ℕ). length_in_header c.args.datagram.now.ip (with_area c.args.datagram.now l)) blank ∙ sym (relaid_told c.args.datagram.now.ip c.args.datagram.now (c.in-Some-fitted.fitted ++ written_ao s.s (no_mac s.s)))) in
    let more = c.if-length_told-gt-MOST.true in
    too_long (record { rows = c.args.table.now.rows; now = c.args.now; mtu = mtu }) c.args.pair.now (entered c.args.before.now c.args.datagram.now) c.args.datagram.now (bytes_of c.in-Some.context) c.in-Some-number_of.number s.s c.in-Some-fitted.fitted c.requires.keyed plain context-is number-is ends s.is fit-is (ap (λ (n : ℕ). nat_le n 65535) (sym whole) ∙ gt_told c.length_told.result 65535 (omega arith))

pub returns-clause-planned : goal.returns-clause-planned
returns-clause-planned c =
    let opt : c.options-options.result ≡ c.args.datagram.now.area = c.options-options.ensures.value in
    let plain : list_any signs (plains (listed (options_of c.args.datagram.now.area))) ≡ false = ap (λ (a : List ℕ). list_any signs (plains (listed (options_of a)))) (sym opt) ∙ (sym c.is_signed.ensures ∙ c.if-is_signed.false) in
    let kept-is : c.entered-kept.result ≡ entered c.args.before.now c.args.datagram.now = c.entered-kept.ensures in
    let under-is : c.kept_for-under.result ≡ kept_for (entered c.args.before.now c.args.datagram.now) c.args.datagram.now = c.kept_for-under.ensures.kept ∙ ap (λ (k : Kept). kept_for k c.args.datagram.now) kept-is in
    let context : option_map bytes_of c.context_for.result ≡ context_of c.args.datagram.now (own_isn (kept_for (entered c.args.before.now c.args.datagram.now) c.args.datagram.now)) (peer_isn (kept_for (entered c.args.before.now c.args.datagram.now) c.args.datagram.now)) = c.context_for.ensures ∙ (ap (λ (o : Option ℕ). context_of c.args.datagram.now o c.peer_isn.result) (c.own_isn.ensures ∙ ap own_isn under-is) ∙ ap (λ (o : Option ℕ). context_of c.args.datagram.now (own_isn (kept_for (entered c.args.before.now c.args.datagram.now) c.args.datagram.now)) o) (c.peer_isn.ensures ∙ ap peer_isn under-is)) in
    let context-is : context_of c.args.datagram.now (own_isn (kept_for (entered c.args.before.now c.args.datagram.now) c.args.datagram.now)) (peer_isn (kept_for (entered c.args.before.now c.args.datagram.now) c.args.datagram.now)) ≡ Some (bytes_of c.in-Some.context) = sym context ∙ ap (λ (o : Option Context). option_map bytes_of o) c.in-Some.is in
    let number : c.number_of.result ≡ segment_number c.args.datagram.now (Some (kept_for (entered c.args.before.now c.args.datagram.now) c.args.datagram.now).sent) = c.number_of.ensures.number ∙ ap (λ (k : Kept). segment_number c.args.datagram.now (Some k.sent)) under-is in
    let number-is : segment_number c.args.datagram.now (Some (kept_for (entered c.args.before.now c.args.datagram.now) c.args.datagram.now).sent) ≡ Some c.in-Some-number_of.number = sym number ∙ c.in-Some-number_of.is in
    let ends : nat_le (c.in-Some-number_of.number + segment_length c.args.datagram.now) number_limit ≡ true = sym c.ends_in_time.ensures ∙ c.if-not-ends_in_time.false in
    let choice : c.chosen.result ≡ option_map told (choose (entered c.args.before.now c.args.datagram.now).current c.args.table.now.rows c.args.pair.now c.args.now) = c.chosen.ensures.sending ∙ ap (λ (k : Kept). option_map told (choose k.current c.args.table.now.rows c.args.pair.now c.args.now)) kept-is in
    let s = is_chosen c.args.table.now.rows (entered c.args.before.now c.args.datagram.now).current c.args.pair.now c.args.now c.chosen.result c.in-Some-chosen.sending choice c.in-Some-chosen.is in
    let mac-length : c.mac_length_of-mac_length.result ≡ mac_length_of s.s.row.algorithm = c.mac_length_of-mac_length.ensures s.s.row s.row_is in
    let fit : c.fitted.result ≡ fitted (40 - ao_length s.s) c.args.datagram.now.area = c.fitted.ensures ∙ (ap (λ (n : ℕ). fitted (40 - (4 + n)) c.options-options.result) mac-length ∙ ap (fitted (40 - ao_length s.s)) opt) in
    let fit-is : fitted (40 - ao_length s.s) c.args.datagram.now.area ≡ Some c.in-Some-fitted.fitted = sym fit ∙ c.in-Some-fitted.is in
    let blank : c.as_slice.result.now ≡ c.in-Some-fitted.fitted ++ written_ao s.s (no_mac s.s) = c.as_slice.ensures.bytes ∙ (c.with_ao-blank.ensures ∙ (ap (λ (l : List ℕ). c.in-Some-fitted.fitted ++ ao_after c.in-Some-chosen.sending.key_id c.in-Some-chosen.sending.rnext l) c.zeros.ensures ∙ blank_is c.in-Some-fitted.fitted s.s c.in-Some-chosen.sending.key_id c.in-Some-chosen.sending.rnext c.mac_length_of-mac_length.result (ap (λ (x : Answer). x.key_id) s.told_is) (ap (λ (x : Answer). x.rnext) s.told_is) mac-length)) in
    let whole : c.length_told.result ≡ length_in_header c.args.datagram.now.ip (with_ao c.args.datagram.now c.in-Some-fitted.fitted s.s (no_mac s.s)) = c.length_told.ensures ∙ (ap (λ (l : List ℕ). length_in_header c.args.datagram.now.ip (with_area c.args.datagram.now l)) blank ∙ sym (relaid_told c.args.datagram.now.ip c.args.datagram.now (c.in-Some-fitted.fitted ++ written_ao s.s (no_mac s.s)))) in
    let less = c.if-length_told-gt-MOST.false in
    record {
      ready = record {
        s = s.s;
        sending_is = s.told_is;
        low = c.in-Some-chosen.ensures.low;
        high = c.in-Some-chosen.ensures.high;
        row_is = s.row_is;
        mac_length_is = mac-length;
        plain = plain;
        fitted_is = fit-is;
        whole = subst (λ (n : ℕ). n ≤ 65535) whole (omega arith);
      };
      kept_is = kept-is;
      context_is = ap (λ (k : Kept). context_of c.args.datagram.now (own_isn (kept_for k c.args.datagram.now)) (peer_isn (kept_for k c.args.datagram.now))) kept-is ∙ context-is;
      ends = told_le (c.in-Some-number_of.number + segment_length c.args.datagram.now) number_limit ends;
      sent_is = λ mtu. within (record { rows = c.args.table.now.rows; now = c.args.now; mtu = mtu }) c.args.pair.now (entered c.args.before.now c.args.datagram.now) c.args.datagram.now (bytes_of c.in-Some.context) c.in-Some-number_of.number s.s c.in-Some-fitted.fitted c.requires.keyed plain context-is number-is ends s.is fit-is (ap (λ (n : ℕ). nat_le n 65535) (sym whole) ∙ le_told c.length_told.result 65535 (omega arith));
    }
