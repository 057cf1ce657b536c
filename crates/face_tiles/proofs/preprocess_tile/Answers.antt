-- `face_tiles::preprocess_tile` meets its contract. Assumes nothing.
use mathlib.Core.Path.{ap, ◌∙◌}
use lib.ListN.{length}
use Rattle.picture_limits.specs.declared.PictureSettings.{PictureSettings}
use Rattle.picture_tiles.specs.Answer.{tiled, patches_out}
use Rattle.face_tiles.specs.Reports.{tile_report}
use Rattle.face_tiles.proofs.preprocess_tile.Goals as goal

pub returns : goal.returns
returns c =
    let e = c.into.ensures in record {
      answer = c.from.ensures ∙ ap tile_report (c.preprocess_tile-found.ensures.answer ∙ ap (λ (s : PictureSettings). tiled s (length c.args.rgb.now) c.args.height c.args.width c.args.index (length c.args.out.now)) e);
      output = c.preprocess_tile-found.ensures.output ∙ ap (λ (s : PictureSettings). patches_out s c.args.rgb.now c.args.height c.args.width c.args.index c.args.out.now) e;
    }
