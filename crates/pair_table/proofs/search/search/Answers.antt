use Rattle.pair_table.proofs.SearchLaws.{searched}
use Rattle.pair_table.proofs.search.search.Goals as goal

pub returns-clause-place : goal.returns-clause-place
returns-clause-place c = (searched c.args.pair.now c.args.pairs.now c.binary_search.result c.requires c.binary_search.ensures.bound c.binary_search.ensures.position).place

pub returns-clause-gap : goal.returns-clause-gap
returns-clause-gap c = (searched c.args.pair.now c.args.pairs.now c.binary_search.result c.requires c.binary_search.ensures.bound c.binary_search.ensures.position).gap

pub returns-clause-absent : goal.returns-clause-absent
returns-clause-absent c = (searched c.args.pair.now c.args.pairs.now c.binary_search.result c.requires c.binary_search.ensures.bound c.binary_search.ensures.position).absent
