-- Any two results that satisfy the contract of a public function are equal. Assumes nothing.
use mathlib.Core.Path.{◌≡◌}
use mathlib.Core.List.{List}
use lib.ListN.{get_or}
use lib.Ieee.{Float, nan}
use Rattle.buffers.specs.Rows.{tab}
use Rattle.number_exp_tanh.specs.Exp.{E}
use Rattle.number_floats.proofs.Unique.{one}

pub exp-sixteen-unique : (x : List Float) (r r' : List Float) → r ≡ tab 16 (λ l. E (get_or x l nan)) → r' ≡ tab 16 (λ l. E (get_or x l nan)) → r ≡ r'
exp-sixteen-unique x r r' = one _
