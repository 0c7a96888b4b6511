use Rattle.ao_kdf.proofs.TableTest.{entry_at}
use Rattle.ao_kdf.proofs.table.products.Goals as goal

pub returns : goal.returns
returns c = entry_at c.args.byte c.ranges.byte.fits
