use Rattle.ao_kdf.proofs.TableTest.{fourth_entry_at}
use Rattle.ao_kdf.proofs.table.fourth_products.Goals as goal

pub returns : goal.returns
returns c = fourth_entry_at c.args.byte c.ranges.byte.fits
