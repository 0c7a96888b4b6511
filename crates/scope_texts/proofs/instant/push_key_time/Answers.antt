use Rattle.scope_texts.proofs.InstantLaws.{key_time_put}
use Rattle.scope_texts.proofs.instant.push_key_time.Goals as goal

pub returns : goal.returns
returns c =
    key_time_put c.args.seconds c.args.out.now.items c.push_day.new.out.items c.push_clock.new.out.items _
    c.if-seconds-gt-LATEST.false c.in_ok-push_day.ensures c.in_ok-push_clock.ensures c.in_ok-push.ensures.items
