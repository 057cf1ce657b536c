-- Any two results that satisfy the contract of a public function are equal. Assumes nothing.
use Rattle.std.proofs.Common.{◌≡◌, ℕ}
use lib.Ieee.{Float}
use Rattle.number_exp_tanh.specs.Exp.{E, exp_bits}
use Rattle.number_exp_tanh.specs.Tanh as Tanh
use Rattle.number_exp_tanh.specs.Tanh.{tanh_bits}
use Rattle.number_floats.proofs.Unique.{one}

pub exp-f32-unique : (x : Float) (r r' : Float) → r ≡ E x → r' ≡ E x → r ≡ r'
exp-f32-unique x r r' = one _

pub exp-unique : (x : ℕ) (r r' : ℕ) → r ≡ exp_bits x → r' ≡ exp_bits x → r ≡ r'
exp-unique x r r' = one _

pub tanh-f32-unique : (y : Float) (r r' : Float) → r ≡ Tanh.T y → r' ≡ Tanh.T y → r ≡ r'
tanh-f32-unique y r r' = one _

pub tanh-unique : (y : ℕ) (r r' : ℕ) → r ≡ tanh_bits y → r' ≡ tanh_bits y → r ≡ r'
tanh-unique y r r' = one _
