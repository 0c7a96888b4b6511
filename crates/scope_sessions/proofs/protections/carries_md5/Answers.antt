use Rattle.std.proofs.Common.{sym, ap, ◌∙◌}
use Rattle.std.proofs.lemmas.Bool.{eq-eqb, ne_eqb}
use Rattle.std.specs.List.{list_any}
use Rattle.book_sessions.specs.Sessions.{is_md5}
use Rattle.scope_sessions.proofs.Options.{md5_at, md5_past}
use Rattle.scope_sessions.proofs.protections.carries_md5.Goals as goal

pub returns-then-option-eq-MD5_KIND : goal.returns-then-option-eq-MD5_KIND
returns-then-option-eq-MD5_KIND c = md5_at _ _ _ c.in-Some.ensures.steps (eq-eqb _ _ c.if-option-eq-MD5_KIND.true) ∙ c.loop-option.invariant.2

pub loop-option-preserved : goal.loop-option-preserved
loop-option-preserved c = (tt, tt, md5_past _ _ _ c.in-Some.ensures.steps (ne_eqb _ _ c.if-option-eq-MD5_KIND.false) ∙ c.loop-option.invariant.2)

pub returns : goal.returns
returns c = sym (ap (list_any is_md5) c.in-None.ensures.steps.0) ∙ c.loop-option.invariant.2
