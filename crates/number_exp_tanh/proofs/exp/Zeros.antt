-- E of either zero is the same, one: so the sign of a zero that the softmax takes off a score cannot be seen. Assumes nothing.
use Rattle.std.proofs.Common.{◌≡◌, refl}
use lib.Ieee.{neg, add, sub, mul, div, le, ne, of_int, of_bits, to_bits, to_unsigned, round, size}
use Rattle.number_floats.specs.Constants.{zero32}
use Rattle.number_floats.specs.Narrow.{narrow}
use Rattle.number_exp_tanh.specs.Exp.{series, E}

pub zeros-same : E (neg zero32) ≡ E zero32
unfolding E series narrow add sub mul div le ne of_int of_bits to_bits to_unsigned neg round size
zeros-same = refl
