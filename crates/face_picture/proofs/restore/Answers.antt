-- `face_picture::restore` meets its contract: the answer's number and sizes, and what the call left in the output. Assumes nothing.
use mathlib.Core.Path.{ap, ◌∙◌}
use lib.ListN.{length}
use Rattle.picture_limits.specs.declared.PictureSettings.{PictureSettings}
use Rattle.picture_restore.specs.Restore.{restored, bytes_out}
use Rattle.face_picture.specs.Reports.{restore_report}
use Rattle.face_picture.proofs.restore.Goals as goal

pub returns : goal.returns
returns c =
    let e = c.into.ensures in record {
      answer = c.from.ensures ∙ ap restore_report (c.restore-found.ensures.answer ∙ ap (λ (s : PictureSettings). restored s c.args.patches.now c.args.grid_h c.args.grid_w (length c.args.out.now)) e);
      output = c.restore-found.ensures.output ∙ ap (λ (s : PictureSettings). bytes_out s c.args.patches.now c.args.grid_h c.args.grid_w c.args.out.now) e;
    }
