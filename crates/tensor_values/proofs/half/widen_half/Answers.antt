-- `tensor_values::half::widen_half` meets its contract. Assumes nothing.
use native.Mathlib.Omega.{arith}
use Rattle.tensor_values.proofs.half.Sizes.{size_is, signed}
use Rattle.tensor_values.proofs.half.widen_half.Goals as goal

pub widen_size-requires : goal.widen_size-requires
widen_size-requires c = let e = size_is c.args.w c.ranges.w.fits in (omega (arith, e), omega (arith, e))

pub overflow_add-result : goal.overflow_add-result
overflow_add-result c = record { fits = (signed c.args.w c.ranges.w.fits _ c.widen_size.result (size_is c.args.w c.ranges.w.fits) c.widen_size.ensures).0 }

pub returns : goal.returns
returns c = (signed c.args.w c.ranges.w.fits _ c.widen_size.result (size_is c.args.w c.ranges.w.fits) c.widen_size.ensures).1
