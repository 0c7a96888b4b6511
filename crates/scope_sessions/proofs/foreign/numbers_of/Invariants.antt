use Rattle.std.proofs.Common.{◌≡◌, ◌||◌, not}
use Rattle.book_sessions.specs.Foreign.{is_foreign, numbers_where}
use Rattle.scope_sessions.proofs.foreign.numbers_of.Given as goal

abbrev pub invariant-loop-i : goal.invariant-loop-i
invariant-loop-i l = record {
  listed : l.listed.items ≡ numbers_where (λ n. l.all || not (is_foreign l.tables l.index.uses n)) l.i;
  own : l.own.items ≡ numbers_where (λ n. not (is_foreign l.tables l.index.uses n)) l.i;
  foreign : l.foreign.items ≡ numbers_where (is_foreign l.tables l.index.uses) l.i;
}
