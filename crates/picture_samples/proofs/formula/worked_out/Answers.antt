-- `picture_samples::formula::worked_out` meets its contract. Assumes nothing.
use mathlib.Core.Path.{refl, ap, ◌∙◌}
use Prim.Native.Nat.{ℕ, ◌/◌, ◌%◌}
use native.Mathlib.Omega.{arith}
use lib.ListN.{replicate, length-set, length-replicate}
use lib.Ieee.{binary32, to_bits}
use Rattle.buffers.specs.Rows.{tab}
use Rattle.buffers.specs.Region.{put}
use Rattle.buffers.proofs.Lists.{tab-step-0, tab-all}
use Rattle.picture_samples.specs.Samples.{sample_bits, sample_table}
use Rattle.picture_samples.proofs.Channels.{flat}
use Rattle.picture_samples.proofs.formula.worked_out.Goals as goal

pub loop-i-init : goal.loop-i-init
unfolding put tab
loop-i-init c = (omega arith, refl, refl)

pub loop-i-preserved : goal.loop-i-preserved
loop-i-preserved c =
    let f : ℕ → ℕ = λ k. sample_bits c.args.mean c.args.deviation (k / 256) (k % 256) in
    (omega arith, simp length-set c.loop-i.invariant.1, tab-step-0 (replicate 768 0) c.loop-i.t c.loop-i.i f c.bits_of_f32.result c.loop-i.invariant.2 (c.bits_of_f32.ensures ∙ ap (to_bits binary32) c.sample_of.ensures))

pub returns : goal.returns
unfolding sample_table
returns c =
    tab-all (replicate 768 0) c.loop-i.t 768 c.loop-i.i (λ k. sample_bits c.args.mean c.args.deviation (k / 256) (k % 256)) (length-replicate {A = ℕ} 768 0) c.loop-i.invariant.0 (omega arith) c.loop-i.invariant.2
    ∙ flat (sample_bits c.args.mean c.args.deviation)
