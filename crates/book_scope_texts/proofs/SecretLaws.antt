-- What is found in a row tells no master key.
use Rattle.std.proofs.Common.{◌≡◌, ℕ, Bool, true, false, List, [], ◌∷◌, ◌++◌, codes, Option, Some, None, refl, ap, sym, ◌∙◌, length, option_and_then}
use Rattle.std.specs.Prelude.{is_ok, decimal}
use Rattle.std.specs.Str.{bytes_eq}
use Rattle.toml.specs.Data.{Data, string, integer, float, boolean, datetime, array, table, Members, get_member}
use Rattle.book_keys.specs.Columns.{master_of, text_of, kdf_of, row_keys}
use Rattle.book_scope_texts.specs.declared.finding.KeyFinding.{KeyFinding}
use Rattle.book_scope_texts.specs.declared.finding.KeyPlace.{KeyPlace}
use Rattle.book_scope_texts.specs.declared.finding.SecretFault.{SecretFault}
use Rattle.book_scope_texts.specs.FieldTexts.{finding_at, finding_unless, hidden_said, type_shown}
use Rattle.book_scope_texts.specs.Hints.{fault_hint, secret_fault, shown_secret}
use Rattle.book_scope_texts.specs.RowFindings.{AlikeButKey, SecretLook, alg_id_findings, algorithm_findings, column_findings, field_at, id_findings, keys_in, lifetime_findings, name_findings, order_findings, peers_findings, port_findings, protocol_findings, row_findings, secret_findings, secret_look, secret_said, secret_wanted, term_findings, time_findings, unknown_findings}

-- what is found in a Key of a look
of_look : KeyPlace → SecretLook → List KeyFinding
of_look p l = look_by l.is_there (bytes_eq l.type_text (codes "a text"))
  where
    look_by : Bool → Bool → List KeyFinding
    look_by false text = finding_at p (codes "Key") (codes "missing; wanted: " ++ secret_wanted) ∷ []
    look_by true true = finding_unless l.is_good p (codes "Key") ((codes "a text of " ++ (decimal l.size ++ (codes " bytes" ++ fault_hint l.fault))) ++ (codes "; wanted: " ++ secret_wanted))
    look_by true false = finding_at p (codes "Key") (l.type_text ++ (codes "; wanted: " ++ secret_wanted)) ∷ []

by_look : (p : KeyPlace) (d : Option Data) → secret_findings p d ≡ of_look p (secret_look d)
unfolding secret_findings secret_look secret_said shown_secret hidden_said type_shown of_look
by_look p None = refl
by_look p (Some (string s)) = refl
by_look p (Some (integer z)) = refl
by_look p (Some (float x)) = refl
by_look p (Some (boolean b)) = refl
by_look p (Some (datetime dt)) = refl
by_look p (Some (array ds)) = refl
by_look p (Some (table ms)) = refl

same_secret : (p : KeyPlace) (d e : Option Data) → secret_look d ≡ secret_look e → secret_findings p d ≡ secret_findings p e
same_secret p d e h = by_look p d ∙ (ap (of_look p) h ∙ sym (by_look p e))

module _ (p : KeyPlace) (one other : Members) (alike : AlikeButKey one other) where
  of_key : {A : Type 0} (f : Option Data → A) (key : List ℕ) → bytes_eq key (codes "Key") ≡ false → f (get_member key one) ≡ f (get_member key other)
  of_key f key h = ap f (alike.values key h)

  both : (a b c d : List KeyFinding) → a ≡ c → b ≡ d → a ++ b ≡ c ++ d
  both a b c d x y = rw (x, y) refl

  pub same_columns : column_findings p one ≡ column_findings p other
  unfolding column_findings name_findings id_findings protocol_findings algorithm_findings alg_id_findings term_findings lifetime_findings time_findings order_findings port_findings
  same_columns =
      rw (
        alike.values (codes "AdminKeyName") refl,
        alike.values (codes "LocalKeyName") refl,
        alike.values (codes "PeerKeyName") refl,
        alike.values (codes "Peers") refl,
        alike.values (codes "Interfaces") refl,
        alike.values (codes "Protocol") refl,
        alike.values (codes "ProtocolSpecificInfo") refl,
        alike.values (codes "KDF") refl,
        alike.values (codes "AlgID") refl,
        alike.values (codes "Direction") refl,
        alike.values (codes "SendLifetimeStart") refl,
        alike.values (codes "SendLifetimeEnd") refl,
        alike.values (codes "AcceptLifetimeStart") refl,
        alike.values (codes "AcceptLifetimeEnd") refl,
        alike.values (codes "LocalPort") refl,
        alike.values (codes "PeerPort") refl,
        same_secret p (get_member (codes "Key") one) (get_member (codes "Key") other) alike.looks,
      ) refl

  pub same_row : row_findings p (table one) ≡ row_findings p (table other)
  unfolding row_findings
  same_row = rw (alike.keys, same_columns) refl

pub row_alike : (p : KeyPlace) (one other : Members) → AlikeButKey one other → row_findings p (table one) ≡ row_findings p (table other)
row_alike p one other alike = same_row p one other alike
