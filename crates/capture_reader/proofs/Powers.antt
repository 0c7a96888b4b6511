-- A number divided by a power, one factor after another.
use Rattle.std.proofs.Common.{◌≡◌, ℕ, suc, ◌+◌, ◌*◌, ◌/◌, ◌^◌, sym, ap, ◌∙◌, arith}
use Rattle.std.proofs.Math.Nat.{div-one, div-div-eq-div-mul, pow-zero, pow-suc}

pub divide_none : (n base : ℕ) → n ≡ n / base ^ 0
divide_none n base = sym (ap (λ (m : ℕ). n / m) (pow-zero base) ∙ div-one n)

pub divide_more : (n base i : ℕ) → n / base ^ i / base ≡ n / base ^ (i + 1)
divide_more n base i =
    let next : i + 1 ≡ suc i = omega arith in
    div-div-eq-div-mul n (base ^ i) base
    ∙ ap (λ (m : ℕ). n / m) (sym (pow-suc base i) ∙ ap (λ (k : ℕ). base ^ k) (sym next))
