-- `encoder_linear::strip::Strip::piece` meets its contract. Assumes nothing.
use mathlib.Core.Path.{◌≡◌, ap, ◌∙◌}
use native.Mathlib.Omega.{arith}
use lib.ListN.{length, length-replicate, replicate}
use Rattle.buffers.specs.Region.{put}
use Rattle.number_floats.specs.Constants.{zero32}
use Rattle.buffers.proofs.Lists.{fit}
use Rattle.encoder_linear.proofs.Pieces.{piece-lanes}
use Rattle.encoder_linear.proofs.strip.Strip.piece.Goals as goal

pub pack-requires : goal.pack-requires
pack-requires c =
    record {
      rows = c.requires.block.lanes;
      tin = simp length-replicate (omega (arith, c.requires.short));
      xin = λ l h. let f = fit c.args.self.nin h in omega (arith, c.requires.block.xin, c.requires.kin);
    }

pub returns : goal.returns
returns c =
    let t : length (replicate 16384 zero32) ≡ 16384 = simp length-replicate in
    c.columns.ensures
    ∙ ap (λ l. put c.args.s.now c.args.self.y l)
    (piece-lanes c.args.self.r c.args.self.nin c.args.self.nout c.args.w.now c.args.s.now (replicate 16384 zero32) c.pack.new.xt c.args.x.now c.args.xa c.args.self.y c.args.self.k c.args.self.n c.requires.block.lanes (omega (arith, c.requires.short)) c.requires.kin c.pack.ensures)
