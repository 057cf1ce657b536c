-- `encoder_kernels::norm::inv_rms` meets its contract. Assumes nothing.
use denote.Floats.{passes}
use borrow.Author.Tests.{le-leb}
use native.Mathlib.Omega.{arith}
use lib.Ieee.{in_float}
use Rattle.encoder_kernels.specs.Kernels.{inv_rms}
use Rattle.encoder_kernels.proofs.norm.inv_rms.Goals as goal

pub int_to_float-mean : goal.int_to_float-mean
unfolding in_float
int_to_float-mean c = passes _ (le-leb c.args.dim 16777216 (omega arith))

pub returns : goal.returns
unfolding inv_rms
returns c = cc
