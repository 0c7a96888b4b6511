-- What is left of a CMAC.
use Rattle.std.specs.Prelude.{ℕ, ◌-◌, ◌/◌, List, length}
use Rattle.book_macs.specs.Ciphers.{cmac_from}

-- the CMAC of what is left of a message, from a state of the chain on (RFC 4493, 2.4)
unfoldable pub goes_on : List ℕ → List ℕ → List ℕ → List ℕ
goes_on key state left = cmac_from key state left ((length left - 1) / 16)
