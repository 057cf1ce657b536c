-- `face_tiles::restore_tile` meets its contract. Assumes nothing.
use mathlib.Core.Path.{ap, ◌∙◌}
use lib.ListN.{length}
use Rattle.picture_limits.specs.declared.PictureSettings.{PictureSettings}
use Rattle.picture_tiles.specs.Answer.{untiled, bytes_out}
use Rattle.face_tiles.specs.Reports.{tile_report}
use Rattle.face_tiles.proofs.restore_tile.Goals as goal

pub returns : goal.returns
returns c =
    let e = c.into.ensures in record {
      answer = c.from.ensures ∙ ap tile_report (c.restore_tile-found.ensures.answer ∙ ap (λ (s : PictureSettings). untiled s c.args.patches.now c.args.height c.args.width c.args.index (length c.args.out.now)) e);
      output = c.restore_tile-found.ensures.output ∙ ap (λ (s : PictureSettings). bytes_out s c.args.patches.now c.args.height c.args.width c.args.index c.args.out.now) e;
    }
