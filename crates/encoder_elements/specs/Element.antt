-- What is done to one value after another: bf16, the residual, silu and gelu, in the source's expressions and its
-- association. Assumes nothing.
use Rattle.std.specs.Prelude.{List, ℕ, Float}
use Rattle.std.specs.Float.{nan, binary32}
use Rattle.std.specs.Float.Ieee.{add, mul, div, neg, of_bits}
use Rattle.number_bf16_half_root.specs.Bf16.{bf16_of}
use Rattle.number_exp_tanh.specs.Exp.{E}
use Rattle.number_exp_tanh.specs.Tanh.{T}
use Rattle.number_floats.specs.Constants.{one32}
use Rattle.buffers.specs.Each.{each, both}

abbrev pub half32 : Float
half32 = of_bits binary32 0x3F000000

-- the root of 2 / π, each rounded to an f32 (`proofs/Constants.antt`), and 0.044715
abbrev pub root_two_over_pi : Float
root_two_over_pi = of_bits binary32 0x3F4C4229

abbrev pub cubic : Float
cubic = of_bits binary32 0x3D372713

-- x / (1 + E(-x))
unfoldable pub silu_of : Float → Float
silu_of x = div binary32 x (add binary32 one32 (E (neg x)))

-- 0.5 * x * (1 + T(root_two_over_pi * (x + 0.044715 * x * x * x))), left to right
unfoldable pub gelu_of : Float → Float
gelu_of x =
    mul binary32 (mul binary32 half32 x)
    (add binary32 one32 (T (mul binary32 root_two_over_pi (add binary32 x (mul binary32 (mul binary32 (mul binary32 cubic x) x) x)))))

unfoldable pub rounded : ℕ → List Float → List Float
rounded n x = each nan n bf16_of x

unfoldable pub added : ℕ → List Float → List Float → List Float
added n x y = both nan n (λ a b. add binary32 a b) x y

-- silu of the gate, times up
unfoldable pub gated : ℕ → List Float → List Float → List Float
gated n g u = both nan n (λ a b. mul binary32 (silu_of a) b) g u

unfoldable pub gelued : ℕ → List Float → List Float
gelued n x = each nan n gelu_of x
