-- The floats of the first tensors together. Assumes nothing.
use Rattle.std.specs.Prelude.{List, ℕ, zero, suc, ◌+◌}
use Rattle.tensor_header.specs.Tensors.{Tensor, count_at}

-- of the first n
unfoldable pub sum_to : List Tensor → ℕ → ℕ
sum_to ts zero = 0
sum_to ts (suc n) = sum_to ts n + count_at ts n
