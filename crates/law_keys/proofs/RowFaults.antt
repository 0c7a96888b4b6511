-- The fault of a row is that of the first finding of it.
use Rattle.std.proofs.Common.{◌≡◌, ℕ, ◌+◌, ◌&&◌, cond, not, ltb, leb, Bool, true, false, List, [], ◌∷◌, ◌++◌, codes, Option, Some, None, option_and_then, Ok, Err, refl, ap}
use Rattle.std.specs.Prelude.{is_some, is_ok}
use Rattle.toml.specs.Data.{Data, string, integer, float, boolean, datetime, array, table, Items, no_items, item, Members, get_member, as_str}
use Rattle.book_base.specs.Hexadecimal.{bytes_of_hex}
use Rattle.book_base.specs.declared.algorithm.Algorithm.{Algorithm}
use Rattle.book_base.specs.Algorithms.{name_of}
use Rattle.book_base.specs.Results.{◌>>=◌, or_fault}
use Rattle.book_keys.specs.declared.fault.Column.{Column}
use Rattle.book_keys.specs.declared.fault.Column.TheVariants as column
use Rattle.book_keys.specs.declared.fault.TableFault.{TableFault}
use Rattle.book_keys.specs.declared.fault.TableFault.TheVariants as fault
use Rattle.book_keys.specs.declared.lifetime.Lifetime.{Lifetime}
use Rattle.book_keys.specs.Rows.{Row, peer_limit}
use Rattle.book_keys.specs.Reading.{must, each}
use Rattle.book_keys.specs.Columns.{count, row_keys, text_of, is_word, ids_of, peer_at, peers_of, protocol_of, algorithm_at, master_of, sized, lifetime_of, TimeCell, sending_start, sending_end, accepting_start, accepting_end, terms_of, ports_of, columns_of, row_of}
use Rattle.book_scope_texts.specs.FieldTexts.{field_said, finding_at, finding_unless}
use Rattle.book_scope_texts.specs.RowFindings.{KeyField, field_at, field_unless, id_findings, name_findings, peer_finding, each_peer_finding, peers_findings, protocol_findings, alg_id_findings, algorithm_findings, secret_findings, time_findings, order_findings, lifetime_findings, term_findings, port_findings, column_findings, row_findings}
use Rattle.book_scope_texts.specs.FileFindings.{key_place}
use Rattle.law_keys.specs.FirstFindings.{column_field, value_keys, other_field}
use Rattle.law_keys.proofs.Agreeing.{Agrees, Telling, TellsField, bind, found_at, keys_agree, last, must_agree, read, refused, some_agree, tested}

pub field_must : (P : Telling) (good : Bool) (e : TableFault) (f : KeyField) (hint wanted : List ℕ) →
    P e (finding_at f.place f.key (field_said f.value hint wanted)) → Agrees P (must good e) (field_unless good f hint wanted)
unfolding field_unless
field_must P good e f hint wanted h = must_agree P good e f.place f.key _ h

pub field_some : {A : Type 0} (P : Telling) (o : Option A) (e : TableFault) (f : KeyField) (hint wanted : List ℕ) →
    P e (finding_at f.place f.key (field_said f.value hint wanted)) → Agrees P (or_fault o e) (field_unless (is_some o) f hint wanted)
unfolding field_unless
field_some P o e f hint wanted h = some_agree P o e f.place f.key _ h

pub some_of : {A : Type 0} (o : Option A) (e : TableFault) (x : A) → or_fault o e ≡ Ok x → o ≡ Some x
some_of {A} (Some y) e x h = let same : y ≡ x = cc in ap (λ (z : A). Some z) same
some_of None e x h = absurd (cc)

pub tells : (n r : ℕ) (name other : List ℕ) (c : Column) (said : List ℕ) → TellsField n r other (fault.Field n r c) (finding_at (key_place n r name) (column_field other c) said)
tells n r name other c said = record { column = c; fault = refl; is = found_at (key_place n r name) (column_field other c) said }

module _ (n r : ℕ) (name other : List ℕ) (ms : Members) where
  told : (c : Column) (said : List ℕ) → TellsField n r other (fault.Field n r c) (finding_at (key_place n r name) (column_field other c) said)
  told c said = tells n r name other c said

  ids_fit : Agrees (TellsField n r other) (ids_of n r ms) (name_findings (key_place n r name) ms)
  unfolding ids_of name_findings id_findings
  ids_fit =
      bind _ _ _ _ _ (field_must _ _ _ _ _ _ (told column.AdminKeyName _)) (λ u e.
      bind _ _ _ _ _ (field_some _ _ _ _ _ _ (told column.LocalKeyName _)) (λ x f.
      last _ _ _ _ (field_some _ _ _ _ _ _ (told column.PeerKeyName _)) (λ y. (_, refl))))

  each_peer_fit : (i : ℕ) (ds : Items) → Agrees (TellsField n r other) (each (peer_at n r) i ds) (each_peer_finding (key_place n r name) ds)
  unfolding each peer_finding
  each_peer_fit i no_items = read _ []
  each_peer_fit i (item d ds) =
      bind _ _ _ _ _ (some_agree _ _ _ _ _ _ (told column.Peers _)) (λ x e. last _ _ _ _ (each_peer_fit (i + 1) ds) (λ xs. (_, refl)))

  peers_fit : (o : Option Data) → Agrees (TellsField n r other) (peers_of n r o) (peers_findings (key_place n r name) o)
  unfolding peers_of peers_findings
  peers_fit None = refused _ _ _ [] (told column.Peers _)
  peers_fit (Some (string s)) = refused _ _ _ [] (told column.Peers _)
  peers_fit (Some (integer z)) = refused _ _ _ [] (told column.Peers _)
  peers_fit (Some (float x)) = refused _ _ _ [] (told column.Peers _)
  peers_fit (Some (boolean b)) = refused _ _ _ [] (told column.Peers _)
  peers_fit (Some (datetime d)) = refused _ _ _ [] (told column.Peers _)
  peers_fit (Some (table t)) = refused _ _ _ [] (told column.Peers _)
  peers_fit (Some (array ds)) =
      tested _ (leb 1 (count ds) && leb (count ds) peer_limit) _ _ _ _ (each_peer_fit 1 ds) (told column.Peers _)

  protocol_fit : Agrees (TellsField n r other) (protocol_of n r ms) (protocol_findings (key_place n r name) ms)
  unfolding protocol_of protocol_findings
  protocol_fit =
      bind _ _ _ _ _ (field_must _ _ _ _ _ _ (told column.Interfaces _)) (λ u e.
      bind _ _ _ _ _ (field_must _ _ _ _ _ _ (told column.Protocol _)) (λ v f.
      field_some _ _ _ _ _ _ (told column.ProtocolSpecificInfo _)))

  alg_id_fit : (kdf : Option Algorithm) (k : Algorithm) → kdf ≡ Some k →
      Agrees (TellsField n r other) (must (is_word (name_of k) (text_of (codes "AlgID") ms)) (fault.Field n r column.AlgId) >>= λ u. Ok k) (alg_id_findings (key_place n r name) kdf ms)
  unfolding alg_id_findings
  alg_id_fit kdf k e = rw e (last _ _ _ _ (field_must _ _ _ _ _ _ (told column.AlgId _)) (λ u. (_, refl)))

  algorithm_fit : Agrees (TellsField n r other) (algorithm_at n r ms) (algorithm_findings (key_place n r name) ms)
  unfolding algorithm_at algorithm_findings
  algorithm_fit =
      bind _ _ _ _ _ (field_some _ _ _ _ _ _ (told column.Kdf _)) (λ k e. alg_id_fit _ k (some_of _ _ k e))

  secret_by : (o : Option (List ℕ)) (said : List ℕ) →
      Agrees (TellsField n r other) (or_fault o (fault.Field n r column.Key)) (finding_unless (is_ok (or_fault o (fault.Field 0 0 column.Key))) (key_place n r name) (codes "Key") said)
  secret_by (Some m) said = read _ m
  secret_by None said = refused _ _ _ [] (told column.Key said)

  secret_fit : (o : Option Data) → Agrees (TellsField n r other) (master_of n r (option_and_then as_str o)) (secret_findings (key_place n r name) o)
  unfolding master_of secret_findings
  secret_fit None = refused _ _ _ [] (told column.Key _)
  secret_fit (Some (string s)) = secret_by (sized (bytes_of_hex s)) _
  secret_fit (Some (integer z)) = refused _ _ _ [] (told column.Key _)
  secret_fit (Some (float x)) = refused _ _ _ [] (told column.Key _)
  secret_fit (Some (boolean b)) = refused _ _ _ [] (told column.Key _)
  secret_fit (Some (datetime d)) = refused _ _ _ [] (told column.Key _)
  secret_fit (Some (array ds)) = refused _ _ _ [] (told column.Key _)
  secret_fit (Some (table t)) = refused _ _ _ [] (told column.Key _)

  in_order : (b : Bool) (l : Lifetime) (e : TableFault) (end : KeyField) (hint wanted : List ℕ) → TellsField n r other e (finding_at end.place end.key (field_said end.value hint wanted)) →
      Agrees (TellsField n r other) (cond b (Err e) (Ok l)) (field_unless (not b) end hint wanted)
  unfolding field_unless
  in_order true l e end hint wanted h = refused _ _ _ [] h
  in_order false l e end hint wanted h = read _ l

  order_fit : (end : TimeCell) (start : List ℕ) (one two : Option ℕ) (first final : ℕ) → ((said : List ℕ) → TellsField n r other (fault.Field n r end.column) (finding_at (key_place n r name) end.name said)) →
      one ≡ Some first → two ≡ Some final →
      Agrees {A = Lifetime} (TellsField n r other) (cond (ltb final first) (Err (fault.Field n r end.column)) (Ok (record { first = first; last = final }))) (order_findings (field_at (key_place n r name) end.name ms) start one two)
  unfolding order_findings
  order_fit end start one two first final cell e f = rw (e, f) (in_order (ltb final first) _ _ _ _ _ (cell _))

  lifetime_fit : (start end : TimeCell) → ((said : List ℕ) → TellsField n r other (fault.Field n r start.column) (finding_at (key_place n r name) start.name said)) →
      ((said : List ℕ) → TellsField n r other (fault.Field n r end.column) (finding_at (key_place n r name) end.name said)) →
      Agrees (TellsField n r other) (lifetime_of n r start end ms) (lifetime_findings (key_place n r name) start.name end.name ms)
  unfolding lifetime_of lifetime_findings time_findings
  lifetime_fit start end one two =
      bind _ _ _ _ _ (field_some _ _ _ _ _ _ (one _)) (λ x e.
      bind _ _ _ _ _ (field_some _ _ _ _ _ _ (two _)) (λ y f.
      order_fit end start.name _ _ x y two (some_of _ _ x e) (some_of _ _ y f)))

  terms_fit : Agrees (TellsField n r other) (terms_of n r ms) (term_findings (key_place n r name) ms)
  unfolding terms_of term_findings
  terms_fit =
      bind _ _ _ _ _ (field_some _ _ _ _ _ _ (told column.Direction _)) (λ x e.
      bind _ _ _ _ _ (lifetime_fit sending_start sending_end (told column.SendLifetimeStart) (told column.SendLifetimeEnd)) (λ y f.
      last _ _ _ _ (lifetime_fit accepting_start accepting_end (told column.AcceptLifetimeStart) (told column.AcceptLifetimeEnd)) (λ z. (_, refl))))

  ports_fit : Agrees (TellsField n r other) (ports_of n r ms) (port_findings (key_place n r name) (codes "LocalPort") ms ++ port_findings (key_place n r name) (codes "PeerPort") ms)
  unfolding ports_of port_findings
  ports_fit =
      bind _ _ _ _ _ (field_some _ _ _ _ _ _ (told column.LocalPort _)) (λ x e.
      last _ _ _ _ (field_some _ _ _ _ _ _ (told column.PeerPort _)) (λ y. (_, refl)))

  columns_fit : Agrees (TellsField n r other) (columns_of n r ms) (column_findings (key_place n r name) ms)
  unfolding columns_of column_findings
  columns_fit =
      bind _ _ _ _ _ ids_fit (λ a e.
      bind _ _ _ _ _ (peers_fit (get_member (codes "Peers") ms)) (λ b f.
      bind _ _ _ _ _ protocol_fit (λ c g.
      bind _ _ _ _ _ algorithm_fit (λ d h.
      bind _ _ _ _ _ (secret_fit (get_member (codes "Key") ms)) (λ m i.
      bind _ _ _ _ _ terms_fit (λ t j.
      last _ _ _ _ ports_fit (λ u. (_, refl))))))))

-- the field of a row that Other stands for
abbrev pub row_other : Data → List ℕ
row_other d = other_field row_keys (codes "key") (value_keys (Some d))

no_row : (n r : ℕ) (name said : List ℕ) → Agrees {A = Row} (TellsField n r (codes "key")) (Err (fault.Field n r column.Other)) (finding_at (key_place n r name) (codes "key") said ∷ [])
no_row n r name said = refused _ _ _ [] (tells n r name (codes "key") column.Other said)

pub row_fit : (n r : ℕ) (name : List ℕ) (d : Data) → Agrees (TellsField n r (row_other d)) (row_of n r d) (row_findings (key_place n r name) d)
unfolding row_of row_findings
row_fit n r name (table ms) =
    keys_agree _ row_keys (codes "key") (key_place n r name) ms _ _ _ (λ f is. record { column = column.Other; fault = refl; is = is }) (λ known. columns_fit n r name (row_other (table ms)) ms)
row_fit n r name (string s) = no_row n r name _
row_fit n r name (integer z) = no_row n r name _
row_fit n r name (float x) = no_row n r name _
row_fit n r name (boolean b) = no_row n r name _
row_fit n r name (datetime d) = no_row n r name _
row_fit n r name (array ds) = no_row n r name _
