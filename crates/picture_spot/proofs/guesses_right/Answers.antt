-- `picture_spot::guesses_right` meets its contract. Assumes nothing.
use mathlib.Core.Path.{refl}
use Prim.Native.Nat.{◌/◌, ◌%◌}
use native.Mathlib.Omega.{arith}
use lib.Dec.{eqb}
use lib.ListN.{get_or}
use lib.Ieee.{nan, binary32, of_bits}
use Rattle.buffers.specs.Rows.{all}
use Rattle.buffers.proofs.Lists.{all_more, all_end}
use Rattle.picture_spot.specs.inner.Spot.{guessed, guesses}
use Rattle.picture_spot.proofs.guesses_right.Goals as goal

pub loop-i-init : goal.loop-i-init
unfolding all
loop-i-init c = (omega arith, refl)

pub loop-i-preserved : goal.loop-i-preserved
loop-i-preserved c =
    (omega arith, all_more c.loop-i.i (λ j. eqb (guessed (get_or c.args.slope (j / 256) nan) (get_or c.args.shift (j / 256) nan) (of_bits binary32 (get_or c.args.t.now j 0))) (j % 256)) c.loop-i.ok _ c.loop-i.invariant.1 (cc (c.guess.ensures, c.f32_of_bits-v.ensures)))

pub returns : goal.returns
unfolding guesses
returns c =
    all_end 768 c.loop-i.i (λ j. eqb (guessed (get_or c.args.slope (j / 256) nan) (get_or c.args.shift (j / 256) nan) (of_bits binary32 (get_or c.args.t.now j 0))) (j % 256)) c.loop-i.ok c.loop-i.invariant.0 (omega arith) c.loop-i.invariant.1
