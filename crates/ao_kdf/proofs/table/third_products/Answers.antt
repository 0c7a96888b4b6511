use Rattle.ao_kdf.proofs.TableTest.{third_entry_at}
use Rattle.ao_kdf.proofs.table.third_products.Goals as goal

pub returns : goal.returns
returns c = third_entry_at c.args.byte c.ranges.byte.fits
