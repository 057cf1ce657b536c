-- `counts::tensor_count` meets its contract. Assumes nothing.
use mathlib.Core.Path.{sym}
use native.Mathlib.Omega.{arith}
use Rattle.encoder_settings.proofs.Bounds.{allowed-says}
use Rattle.weights.proofs.Sums.{how-many}
use Rattle.weights.proofs.counts.tensor_count.Goals as goal

pub overflow_mul-result : goal.overflow_mul-result
overflow_mul-result c = let r = (allowed-says c.args.s c.requires).ranges in omega (arith, r.layers)

pub overflow_add-result : goal.overflow_add-result
overflow_add-result c = let r = (allowed-says c.args.s c.requires).ranges in omega (arith, r.layers)

pub overflow_mul-result-2 : goal.overflow_mul-result-2
overflow_mul-result-2 c = let r = (allowed-says c.args.s c.requires).ranges in omega (arith, r.bias)

pub overflow_add-result-2 : goal.overflow_add-result-2
overflow_add-result-2 c = let r = (allowed-says c.args.s c.requires).ranges in omega (arith, r.layers, r.bias)

pub returns : goal.returns
returns c = let r = (allowed-says c.args.s c.requires).ranges in record {
  value = sym (how-many c.args.s r.bias);
  upper_bound = omega (arith, r.layers, r.bias);
}
