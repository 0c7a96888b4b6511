-- What is found in a key file by what its text is.
use Rattle.std.proofs.Common.{◌≡◌, ℕ, List, [], ◌∷◌, codes, Option, Some, None, Result, Ok, Err, refl, sym, ◌∙◌}
use Rattle.std.specs.Prelude.{IsOk}
use Rattle.toml.specs.Data.{Members}
use Rattle.book_keys.specs.declared.fault.TableFault.{TableFault}
use Rattle.book_keys.specs.Nodes.{document_of, tables_of}
use Rattle.book_keys.specs.Rows.{Table}
use Rattle.book_scope_texts.specs.declared.finding.KeyFinding.{KeyFinding}
use Rattle.book_scope_texts.specs.FieldTexts.{finding_at}
use Rattle.book_scope_texts.specs.FileFindings.{field_findings, file_place, first_or_further, key_findings, refused_findings}
use Rattle.book_scope_texts.proofs.WalkLaws.{findings_exact}

-- a text that is no document
pub found_no_toml : (text : List ℕ) (found : List KeyFinding) → document_of text ≡ None → found ≡ finding_at file_place (codes "file") (codes "no TOML") ∷ [] → found ≡ key_findings text
unfolding key_findings
found_no_toml text found is h = rw is h

-- a text that is read
pub found_none : (text : List ℕ) (tables : List Table) (found : List KeyFinding) → found ≡ [] → tables_of text ≡ Ok tables → found ≡ key_findings text
found_none text tables found none is = let ok : IsOk (tables_of text) = rw is refl in none ∙ sym ((findings_exact text).1 ok)

-- a document with this fault
pub found_faulty : (text : List ℕ) (ms : Members) (e : TableFault) (found : List KeyFinding) → document_of text ≡ Some ms → tables_of text ≡ Err e →
    found ≡ first_or_further (field_findings ms) (refused_findings ms (Err e)) → found ≡ key_findings text
unfolding key_findings
found_faulty text ms e found is refused h = rw (is, refused) h
