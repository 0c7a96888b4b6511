use Rattle.std.proofs.Common.{◌≡◌, ◌++◌, ℕ, true, arith, ◌==◌, List, [], ◌∷◌, subst, sym, ap, ◌∙◌}
use Rattle.std.specs.Prelude.{⊤}
use Rattle.std.specs.List.{AllByRecursion}
use Rattle.std.proofs.lemmas.Bool.Decides.{nat_tests}
use Rattle.book_segments.specs.Options.{One, find_ao}
use Rattle.book_segments.proofs.Fields.{and_tells}
use Rattle.book_keys.specs.Rows.{Row, acceptable}
use Rattle.book_keys.proofs.SendingLaws.{chosen}
use Rattle.book_endpoint.specs.Passing.{Passes}
use Rattle.book_endpoint.proofs.Passing.{meets}
use Rattle.book_shim.specs.Leaving.{Sealed, ao_last, code_for, entered, input_for}
use Rattle.book_shim.specs.Arriving.{Opened, known_for}
use Rattle.book_shim.specs.Relaying.{coming_area, most_mss}
use Rattle.law_shim.proofs.Returning.{fitted_found}
use Rattle.law_shim.proofs.Running.{one_found}
use Rattle.law_shim.proofs.Sealing.{is_fitted, relaid_keeps, sends, takes}
use Rattle.law_shim.specs.Closed.{IsSigned}
use Rattle.law_shim.proofs.Comings.{none_comes}
use Rattle.law_shim.proofs.relayed.fails_closed.Goals as goal
use Rattle.book_endpoint.specs.Emissions.{written_ao}

all_rows : (rows : List Row) → AllByRecursion (λ (r : Row). ⊤) rows
all_rows [] = tt
all_rows (r ∷ rows) = (tt, all_rows rows)

pub returns-clause-leaving : goal.returns-clause-leaving
returns-clause-leaving c = λ here pair kept d m fits is.
    let s = sends here pair kept d m is in
    let u = m.sending in
    let code = code_for u m.context (input_for d s.area u m.number) in
    let Goal : Sealed → Type 0 = λ x. IsSigned here pair x in
    let k = relaid_keeps d (s.area ++ written_ao u code) in
    let by = chosen (λ (r : Row). ⊤) (entered kept d).current here.rows pair here.now u (all_rows here.rows) s.chosen in
    subst Goal (sym s.sent_is) (record {
      ao = ao_last s.area u code;
      one = subst (λ (a : List ℕ). find_ao a ≡ One (ao_last s.area u code)) (sym k.area_is) (fitted_found d s.area u code fits s.plain (is_fitted _ d.area s.area s.fits));
      key_id_is = by.key_id;
      may_send = by.may;
    })

pub returns-clause-arriving : goal.returns-clause-arriving
returns-clause-arriving c = λ here pair kept d t fits is.
    let o = takes here pair kept d t is in
    let h : Passes here.rows pair (known_for kept d) here.now d t.passed = meets here.rows pair (known_for kept d) here.now d t.passed o.judgement in
    let row = h.row.row in
    let both = and_tells (acceptable pair here.now row) (row.recv_id == h.ao.key_id) h.acceptable_row.qualifies in
    let most = most_mss here.mtu d in
    record {
      ao = h.ao;
      one = one_found d h;
      row = h.row;
      first = h.acceptable_row;
      key_id_is = sym (eq_is row.recv_id h.ao.key_id both.1);
      may_accept = both.0;
      found = h.finding;
      long = h.mac_length;
      right = h.right_mac;
      none_left = ap (λ (x : Opened). find_ao x.segment.area) o.taken_is ∙ ap find_ao (relaid_keeps d (coming_area most d.area)).area_is ∙ none_comes most d.area fits.listed;
    }
  where
    eq_is : (x y : ℕ) → (x == y) ≡ true → x ≡ y
    eq_is x y e = grind (arith, nat_tests)
