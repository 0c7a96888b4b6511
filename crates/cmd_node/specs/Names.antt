-- The words that name events. Our own format.
use Rattle.std.specs.Prelude.{ℕ, List, codes}
use Rattle.cmd_node.specs.declared.name.Name.{Name}
use Rattle.cmd_node.specs.declared.name.Name.TheVariants as name

-- the word of a name
abbrev pub name_text : Name → List ℕ
name_text name.Clock = codes "clock"
name_text name.Inject = codes "inject"
name_text name.Open = codes "open"
name_text name.Listen = codes "listen"
name_text name.Start = codes "start"
name_text name.Give = codes "give"
name_text name.Take = codes "take"
name_text name.Send = codes "send"
name_text name.Resend = codes "resend"
name_text name.Close = codes "close"
name_text name.Abort = codes "abort"
name_text name.Remove = codes "remove"
