-- `picture_patches::rows::sample_of` meets its contract: a clean table has no NaN's pattern. Assumes nothing.
use native.Mathlib.Omega.{arith}
use Rattle.picture_patches.proofs.rows.sample_of.Goals as goal

pub float_from_bits-result : goal.float_from_bits-result
float_from_bits-result c = c.requires.1.clean c.args.c c.args.b c.requires.0 (omega arith)
