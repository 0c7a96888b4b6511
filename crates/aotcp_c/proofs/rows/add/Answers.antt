use Rattle.aotcp_c.proofs.RowLaws.{added_does, added_stays, number_kept}
use Rattle.aotcp_c.proofs.rows.add.Goals as goal

pub returns-in-Ok-clause-adds : goal.returns-in-Ok-clause-adds
returns-in-Ok-clause-adds c = λ s n stands. let a = c.add-added.ensures s n stands in record {
  faulty = λ no. absurd (cc (no, c.is_row-stands_so.ensures, c.if-not-stands_so.false));
  stays = λ same. added_stays c.add-added.new.self c.in-Ok.new s n c.add-added.result c.added_code.result c.added_code.ensures a same;
  adds = λ _ differ. record {
    new = c.in-Ok.new;
    is = c.in-Ok.ensures.row;
    follows = added_does c.add-added.new.self c.in-Ok.new s n c.add-added.result c.args.number.now c.number_in.result c.added_code.result c.added_code.ensures c.number_in.ensures a differ;
  };
}

pub returns-in-Ok-clause-kept : goal.returns-in-Ok-clause-kept
returns-in-Ok-clause-kept c = number_kept c.add-added.result c.args.number.now c.number_in.result c.added_code.result c.added_code.ensures c.number_in.ensures
