-- `encoder_blocks::block::attn` meets its contract. Assumes nothing.
use mathlib.Core.Path.{ap, ◌∙◌}
use native.Mathlib.Omega.{arith}
use Rattle.encoder_kernels.specs.Kernels.{all_finite}
use Rattle.encoder_blocks.specs.Tables.{cos_by, sin_by}
use Rattle.encoder_blocks.proofs.Halves.{attn-half}
use Rattle.encoder_blocks.proofs.block.attn.Goals as goal

pub rotate_by-ok-requires : goal.rotate_by-ok-requires
rotate_by-ok-requires c =
    let e = c.linear_finite-ok-3.auto.s ∙ c.linear_finite-ok-2.auto.s ∙ c.linear_finite-ok.auto.s ∙ c.norm_finite-ok.auto.s in record {
      rotation_fits = rw e c.requires.rotation_fits;
      z_in_bounds = omega (arith, e, c.requires.block_fits.scratch);
    }

pub rotate_by-ok-requires-2 : goal.rotate_by-ok-requires-2
rotate_by-ok-requires-2 c =
    let e = c.rotate_by-ok.auto.s ∙ c.linear_finite-ok-3.auto.s ∙ c.linear_finite-ok-2.auto.s ∙ c.linear_finite-ok.auto.s ∙ c.norm_finite-ok.auto.s in record {
      rotation_fits = rw e c.requires.rotation_fits;
      z_in_bounds = omega (arith, e, c.requires.block_fits.scratch);
    }

pub attend_by-scored-requires : goal.attend_by-scored-requires
attend_by-scored-requires c =
    let e = c.rotate_by-ok-2.auto.s ∙ c.rotate_by-ok.auto.s ∙ c.linear_finite-ok-3.auto.s ∙ c.linear_finite-ok-2.auto.s ∙ c.linear_finite-ok.auto.s ∙ c.norm_finite-ok.auto.s in record {
      attend_at = record { scratch = rw e c.requires.block_fits.scratch; whole = c.requires.block_fits.whole; dim_in = rw e c.requires.block_fits.dim_in };
      score_row = rw e c.requires.score_row;
    }

pub shape_of-s : goal.shape_of-s
shape_of-s c =
    c.add_finite.auto.s ∙ c.linear_finite-ok-4.auto.s ∙ c.attend_by-scored.auto.s ∙ c.rotate_by-ok-2.auto.s
    ∙ c.rotate_by-ok.auto.s ∙ c.linear_finite-ok-3.auto.s ∙ c.linear_finite-ok-2.auto.s ∙ c.linear_finite-ok.auto.s ∙ c.norm_finite-ok.auto.s

pub returns : goal.returns
returns c =
    attn-half c.args.z c.args.w.now c.args.s.now c.requires.block_fits (cos_by c.args.z c.args.tables) (sin_by c.args.z c.args.tables) c.requires.rotation_fits.fourth
    c.norm_finite-ok.new.s c.linear_finite-ok.new.s c.linear_finite-ok-2.new.s c.linear_finite-ok-3.new.s c.rotate_by-ok.new.s c.rotate_by-ok-2.new.s c.attend_by-scored.new.s c.linear_finite-ok-4.new.s c.add_finite.new.s
    c.norm_finite-ok.result c.linear_finite-ok.result c.linear_finite-ok-2.result c.linear_finite-ok-3.result c.rotate_by-ok.result c.rotate_by-ok-2.result c.attend_by-scored.result c.finite-summed.result c.linear_finite-ok-4.result c.add_finite.result
    (rw c.part.ensures at c.norm_finite-ok.ensures) c.linear_finite-ok.ensures c.linear_finite-ok-2.ensures c.linear_finite-ok-3.ensures c.rotate_by-ok.ensures c.rotate_by-ok-2.ensures c.attend_by-scored.ensures
    (c.finite-summed.ensures ∙ ap all_finite c.part-2.ensures) c.linear_finite-ok-4.ensures c.add_finite.ensures
