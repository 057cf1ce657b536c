-- `face_picture::preprocess` meets its contract: the answer's number and sizes, and what the call left in the output. Assumes nothing.
use mathlib.Core.Path.{ap, ◌∙◌}
use lib.ListN.{length}
use Rattle.picture_limits.specs.declared.PictureSettings.{PictureSettings}
use Rattle.picture.specs.Preprocess.{preprocessed, patches_out}
use Rattle.face_picture.specs.Reports.{preprocess_report}
use Rattle.face_picture.proofs.preprocess.Goals as goal

pub returns : goal.returns
returns c =
    let e = c.into.ensures in record {
      answer = c.from.ensures ∙ ap preprocess_report (c.pixtral_preprocess-found.ensures.answer ∙ ap (λ (s : PictureSettings). preprocessed s (length c.args.rgb.now) c.args.height c.args.width (length c.args.out.now)) e);
      output = c.pixtral_preprocess-found.ensures.output ∙ ap (λ (s : PictureSettings). patches_out s c.args.rgb.now c.args.height c.args.width c.args.out.now) e;
    }
