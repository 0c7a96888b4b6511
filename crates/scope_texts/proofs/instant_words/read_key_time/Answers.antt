use Rattle.scope_texts.proofs.ReadingLaws.{no_time}
use Rattle.scope_texts.proofs.instant_words.read_key_time.Goals as goal

pub returns-in-Err : goal.returns-in-Err
returns-in-Err c = no_time c.args.text.now c.in-Err.ensures.cases.0
