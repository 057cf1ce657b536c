-- The series, term by term. Assumes nothing.
use Rattle.std.proofs.Common.{◌≡◌, ℕ, zero, suc, ◌-◌, ◌<◌, ◌≤◌, pos, ap, lt_irrefl, arith}
use lib.Arith.{le-zero}
use lib.Ieee.{Float, binary64, of_int}
use Rattle.number_exp_tanh.specs.Exp.{term, series}

pub series-step : (r : Float) (i : ℕ) (p : Float) → 0 < i → series r (i - 1) (term r p (of_int binary64 (pos i))) ≡ series r i p
unfolding series
series-step r zero p h = absurd (lt_irrefl 0 h)
series-step r (suc i) p h = let e : suc i - 1 ≡ i = omega arith in ap (λ (n : ℕ). series r n (term r p (of_int binary64 (pos (suc i))))) e

pub series-end : (r p : Float) (i : ℕ) → i ≤ 0 → series r i p ≡ p
unfolding series
series-end r p i h = ap (λ (n : ℕ). series r n p) (le-zero h)
