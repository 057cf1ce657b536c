-- The lengths of what the norm leaves. Assumes nothing.
use mathlib.Core.Path.{◌≡◌}
use mathlib.Core.List.{List}
use Prim.Native.Nat.{ℕ, ◌*◌}
use lib.ListN.{length}
use lib.Ieee.{Float}
use Rattle.buffers.specs.Region.{region}
use Rattle.buffers.proofs.Lists.{length-tab, length-rows}
use Rattle.encoder_kernels.specs.Kernels.{norm_row, norm_of}

pub length-norm-row : (dim : ℕ) (w x : List Float) → length (norm_row dim w x) ≡ dim
unfolding norm_row
length-norm-row dim w x = simp length-tab

pub length-norm : (n dim : ℕ) (w x : List Float) → length (norm_of n dim w x) ≡ n * dim
unfolding norm_of
length-norm n dim w x = length-rows (λ i. norm_row dim w (region x (i * dim) dim)) dim (λ i. length-norm-row dim w (region x (i * dim) dim)) n
