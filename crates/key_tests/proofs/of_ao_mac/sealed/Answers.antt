use Rattle.std.proofs.Common.{◌≡◌, ℕ, refl, subst, sym, arith}
use Rattle.std.specs.Prelude.{◌⊎◌}
use Rattle.book_segments.specs.Bytes.{put2}
use Rattle.book_macs.proofs.LengthLaws.{twelve_or_sixteen}
use Rattle.key_tests.proofs.of_ao_mac.sealed.Goals as goal

pub send-requires-clause-head : goal.send-requires-clause-head
unfolding put2
send-requires-clause-head g c =
    let mac = subst (λ (n : ℕ). (n ≡ 12) ⊎ (n ≡ 16)) (sym c.mac_length.ensures) (twelve_or_sixteen c.args.alg) in
    record { family = refl; mac = mac; payload = omega arith; most = omega arith }
