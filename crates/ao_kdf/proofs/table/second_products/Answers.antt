use Rattle.ao_kdf.proofs.TableTest.{second_entry_at}
use Rattle.ao_kdf.proofs.table.second_products.Goals as goal

pub returns : goal.returns
returns c = second_entry_at c.args.byte c.ranges.byte.fits
