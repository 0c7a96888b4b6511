use Rattle.law_keys.proofs.Reconfigured.{back_aligned, there_aligned}
use Rattle.law_keys.proofs.plan_laws.reconfigured_ends_are_aligned.Goals as goal

pub returns-clause-there : goal.returns-clause-there
returns-clause-there c f e n m time r o s low less end is got_n got_m one two =
    there_aligned f e n m time r o s low less end is got_n got_m one two

pub returns-clause-back : goal.returns-clause-back
returns-clause-back c f e n m time r o s low less end is got_n got_m one two =
    back_aligned f e n m time r o s low less end is got_n got_m one two
