-- What an answer has of what a command line says: each field the text of its own name (own).
use Rattle.std.specs.Prelude.{◌≡◌, ℕ, List, [], codes, Option, Some, None, option_map}
use Rattle.scope_run.specs.declared.asked.Asked.{Asked}
use Rattle.scope_run.specs.declared.asked.Asked.TheVariants as asked
use Rattle.scope_run.specs.declared.asked.PlanAsked.{PlanAsked}
use Rattle.scope_run.specs.declared.asked.SessionsAsked.{SessionsAsked}
use Rattle.scope_run.specs.declared.line.CommandLine.{CommandLine}
use Rattle.scope_run.specs.declared.line.CommandLine.TheVariants as line
use Rattle.scope_run.specs.declared.line.Files.{Files}
use Rattle.scope_run.specs.declared.line.Request.{Request}
use Rattle.scope_run.specs.declared.word.Word.{Word}
use Rattle.scope_run.specs.declared.word.Word.TheVariants as word
use Rattle.scope_run.specs.Lines.{Meant, nothing_meant, help_meant, version_meant}
use Rattle.scope_run.specs.Lines.{refusal_meant, word_meant}
use Rattle.scope_run.specs.Meanings.{Given, has, text_of}

-- a text, empty where it isn't given (own)
abbrev pub word_or_none : Option (List ℕ) → List ℕ
word_or_none None = []
word_or_none (Some text) = text

-- the text of an argument (own)
abbrev pub argument : List ℕ → Given → List ℕ
argument name given = word_or_none (text_of name given)

-- what `sessions` is asked for (own)
pub record SessionsAskedBy (given : Given) (s : SessionsAsked) : Type 0 where
  pub has_isns : s.has_isns ≡ has (codes "--isn") given
  pub all : s.all ≡ has (codes "--all") given
  pub json : s.json ≡ has (codes "--json") given
  pub svg : s.svg ≡ has (codes "--svg") given
  pub every : option_map (λ t. t.now) s.every ≡ text_of (codes "--every") given
  pub laps : option_map (λ t. t.now) s.laps ≡ text_of (codes "--laps") given
  pub retire : option_map (λ t. t.now) s.retire ≡ text_of (codes "--retire") given
  pub draw : option_map (λ t. t.now) s.draw ≡ text_of (codes "--draw") given
  pub from : option_map (λ t. t.now) s.from ≡ text_of (codes "--from") given
  pub to : option_map (λ t. t.now) s.to ≡ text_of (codes "--to") given

-- what `plan` is asked for (own)
pub record PlanAskedBy (given : Given) (p : PlanAsked) : Type 0 where
  pub draw : p.draw ≡ has (codes "--draw") given
  pub svg : p.svg ≡ has (codes "--svg") given
  pub lead : p.lead.now ≡ argument (codes "LEAD") given
  pub lag : p.lag.now ≡ argument (codes "LAG") given
  pub from : p.from.now ≡ argument (codes "FROM") given
  pub to : p.to.now ≡ argument (codes "TO") given

-- what a word is asked for (own)
abbrev pub AsksAs : Word → Given → Asked → Type 0
AsksAs word.Lines given a = a ≡ asked.Lines
AsksAs word.Check given (asked.Check c) =
    (c.has_isns ≡ has (codes "--isn") given) × (c.all ≡ has (codes "--all") given)
AsksAs word.Sessions given (asked.Sessions s) = SessionsAskedBy given s
AsksAs word.Why given (asked.Why p) =
    (p.has_isns ≡ has (codes "--isn") given)
    × (p.with_key ≡ has (codes "--keys") given)
    × (p.number.now ≡ argument (codes "N") given)
AsksAs word.Keys given a = a ≡ asked.Keys
AsksAs word.Plan given (asked.Plan p) = PlanAskedBy given p
AsksAs word.Draw given (asked.Draw d) =
    (d.has_keys ≡ has (codes "KEYS") given) × (d.svg ≡ has (codes "--svg") given)
AsksAs word.Echo given (asked.Echo e) = e.has_keys ≡ has (codes "KEYS") given
AsksAs word given other = ⊥

-- the files that are named (own)
pub record FilesOf (given : Given) (f : Files) : Type 0 where
  pub keys : option_map (λ t. t.now) f.keys ≡ text_of (codes "KEYS") given
  pub isns : option_map (λ t. t.now) f.isns ≡ text_of (codes "--isn") given
  pub input : option_map (λ t. t.now) f.input ≡ text_of (codes "-r") given

-- a request for what is given (own)
pub record Asks (request : Request) (given : Given) : Type 0 where
  pub asked : AsksAs request.word given request.asked
  pub files : FilesOf given request.files

-- an answer is what a command line says (own)
abbrev pub Answers : CommandLine → Meant → Type 0
Answers line.Nothing said = said ≡ nothing_meant
Answers (line.Help page) said = said ≡ help_meant page
Answers line.Version said = said ≡ version_meant
Answers (line.Refused u) said = said ≡ refusal_meant u.page u.cause u.text.now
Answers (line.Asks r) said = (given : Given) × (said ≡ word_meant r.word given) × Asks r given
