-- `picture_tiles::padding::zero_pixel` meets its contract. Assumes nothing.
use mathlib.Core.Path.{◌≡◌, ap, ◌∙◌}
use Prim.Native.Nat.{ℕ, ◌+◌, ◌*◌}
use native.Mathlib.Omega.{arith}
use lib.ListN.{get_or}
use lib.Ieee.{nan, binary32, to_bits}
use Rattle.buffers.specs.Rows.{all}
use Rattle.picture_tiles.proofs.padding.zero_pixel.Goals as goal

pub returns : goal.returns
unfolding all
returns c =
    let i₀ : c.args.from ≡ c.args.from + 0 * c.args.n = omega arith in
    let i₁ : c.args.from + c.args.n ≡ c.args.from + 1 * c.args.n = omega arith in
    let bits : ℕ → ℕ = λ i. to_bits binary32 (get_or c.args.patches.now i nan) in
    rw (c.bits_of_f32.ensures ∙ ap bits i₀, c.bits_of_f32-2.ensures ∙ ap bits i₁, c.bits_of_f32-3.ensures)
