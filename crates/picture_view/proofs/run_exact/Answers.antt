-- `picture_view::run_exact` meets its contract. The invariant: the answer is that of the samples passed. Assumes nothing.
use mathlib.Core.Path.{◌≡◌, refl}
use Prim.Native.Nat.{ℕ, ◌+◌, ◌<◌}
use native.Mathlib.Omega.{arith}
use lib.ListN.{get_or}
use lib.Ieee.{Float, nan}
use Rattle.buffers.specs.Rows.{all}
use Rattle.buffers.proofs.Lists.{all_more, all_end}
use Rattle.picture_spot.specs.inner.Spot.{guessed}
use Rattle.picture_spot.proofs.Spots.{guessed-lt}
use Rattle.picture_view.specs.inner.Known.{exact_at}
use Rattle.picture_view.proofs.run_exact.Goals as goal

-- what is guessed is a byte
byte : (slope shift v : Float) (r : ℕ) → r ≡ guessed slope shift v → r < 256
byte slope shift v r e = rw e (guessed-lt slope shift v)

pub loop-k-init : goal.loop-k-init
unfolding all
loop-k-init c = (omega arith, refl)

pub overflow_cast-b : goal.overflow_cast-b
overflow_cast-b c = omega (arith, byte _ _ _ _ c.guess-b.ensures)

pub loop-k-preserved : goal.loop-k-preserved
unfolding exact_at
loop-k-preserved c =
    (omega arith, all_more c.loop-k.k (λ i. exact_at c.args.slope c.args.shift c.args.mean c.args.deviation (get_or c.args.patches.now (c.args.at + i) nan)) c.loop-k.ok _ c.loop-k.invariant.1 (cc (c.bits_of_f32.ensures, c.pattern_of.ensures, c.guess-b.ensures)))

pub returns : goal.returns
returns c =
    all_end c.args.n c.loop-k.k (λ i. exact_at c.args.slope c.args.shift c.args.mean c.args.deviation (get_or c.args.patches.now (c.args.at + i) nan)) c.loop-k.ok c.loop-k.invariant.0 (omega arith) c.loop-k.invariant.1
