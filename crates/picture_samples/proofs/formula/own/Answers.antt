-- `picture_samples::formula::own` meets its contract: six equal numbers give one table. Assumes nothing.
use mathlib.Core.Path.{◌≡◌}
use mathlib.Core.Bool.{◌&&◌}
use Prim.Native.Nat.{ℕ}
use lib.ListN.{get_or}
use lib.Ieee.{nan}
use Rattle.buffers.proofs.Lists.{and_left, and_right}
use Rattle.picture_samples.specs.Samples.{own_means, own_deviations}
use Rattle.picture_samples.proofs.Channels.{three, table_same}
use Rattle.picture_samples.proofs.formula.own.Goals as goal

pub returns : goal.returns
returns c = λ e.
    let m = and_left (c.has_bits.result && c.has_bits-2.result && c.has_bits-3.result) (c.has_bits-4.result && c.has_bits-5.result && c.has_bits-6.result) e in
    let d = and_right (c.has_bits.result && c.has_bits-2.result && c.has_bits-3.result) (c.has_bits-4.result && c.has_bits-5.result && c.has_bits-6.result) e in
    let f = and_left (c.has_bits.result && c.has_bits-2.result) c.has_bits-3.result m in
    let g = and_left (c.has_bits-4.result && c.has_bits-5.result) c.has_bits-6.result d in
    table_same c.args.mean c.args.deviation own_means own_deviations
    (three (λ (k : ℕ). (get_or c.args.mean k nan ≡ get_or own_means k nan) × (get_or c.args.deviation k nan ≡ get_or own_deviations k nan))
    (c.has_bits.ensures (and_left c.has_bits.result c.has_bits-2.result f), c.has_bits-4.ensures (and_left c.has_bits-4.result c.has_bits-5.result g))
    (c.has_bits-2.ensures (and_right c.has_bits.result c.has_bits-2.result f), c.has_bits-5.ensures (and_right c.has_bits-4.result c.has_bits-5.result g))
    (c.has_bits-3.ensures (and_right (c.has_bits.result && c.has_bits-2.result) c.has_bits-3.result m), c.has_bits-6.ensures (and_right (c.has_bits-4.result && c.has_bits-5.result) c.has_bits-6.result d)))
