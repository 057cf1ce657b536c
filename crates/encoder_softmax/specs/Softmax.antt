-- A row of scores becomes a row of weights: E of each less the largest, by one over their sum. Assumes nothing.
use Rattle.std.specs.Prelude.{true, cond, List, ℕ, zero, suc, length, get_or, Float}
use Rattle.std.specs.Float.{nan, inf, binary32}
use Rattle.std.specs.Float.Ieee.{mul, sub, div, lt}
use Rattle.number_exp_tanh.specs.Exp.{E}
use Rattle.number_floats.specs.Constants.{one32, zero32}
use Rattle.buffers.specs.Each.{each}
use Rattle.encoder_linear.specs.Linear.{sum_of}

-- the largest of f 0, .., f (n - 1), from minus infinity on
unfoldable pub largest : ℕ → (ℕ → Float) → Float
largest zero f = inf true
largest (suc n) f = cond (lt (largest n f) (f n)) (f n) (largest n f)

abbrev pub max_of : List Float → Float
max_of l = largest (length l) (λ i. get_or l i nan)

abbrev pub total_of : List Float → Float
total_of l = sum_of (length l) (λ i. get_or l i nan)

abbrev pub inverse_of : Float → Float
inverse_of x = cond (lt zero32 x) (div binary32 one32 x) zero32

-- E of each of the n values less m, and each times m
unfoldable pub exp_less : ℕ → Float → List Float → List Float
exp_less n m l = each nan n (λ a. E (sub binary32 a m)) l

unfoldable pub scaled : ℕ → Float → List Float → List Float
scaled n m l = each nan n (λ a. mul binary32 a m) l

-- E of each score less the row's largest
unfoldable pub softened : ℕ → List Float → List Float
softened t l = exp_less t (max_of l) l

-- and each of these by one over their sum
unfoldable pub softmax_of : ℕ → List Float → List Float
softmax_of t l = scaled t (inverse_of (total_of (softened t l))) (softened t l)
