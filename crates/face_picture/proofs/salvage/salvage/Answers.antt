-- `face_picture::salvage::salvage` meets its contract: the answer's number and sizes, and what the call left in output and list. Assumes nothing.
use mathlib.Core.Path.{ap, ◌∙◌}
use lib.ListN.{length}
use Rattle.picture_limits.specs.declared.PictureSettings.{PictureSettings}
use Rattle.picture_salvage.specs.Salvage.{salvaged, saved_out, list_out}
use Rattle.face_picture.specs.Reports.{salvage_report}
use Rattle.face_picture.proofs.salvage.salvage.Goals as goal

pub returns : goal.returns
returns c =
    let e = c.into.ensures in record {
      answer = c.from.ensures ∙ ap salvage_report (c.salvage-found.ensures.answer ∙ ap (λ (s : PictureSettings). salvaged s c.args.patches.now c.args.grid_h c.args.grid_w (length c.args.out.now) (length c.args.list.now)) e);
      output = c.salvage-found.ensures.output ∙ ap (λ (s : PictureSettings). saved_out s c.args.patches.now c.args.grid_h c.args.grid_w (length c.args.list.now) c.args.out.now) e;
      entries = c.salvage-found.ensures.entries ∙ ap (λ (s : PictureSettings). list_out s c.args.patches.now c.args.grid_h c.args.grid_w (length c.args.out.now) c.args.list.now) e;
    }
