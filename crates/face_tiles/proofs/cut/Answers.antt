-- `face_tiles::cut` meets its contract. Assumes nothing.
use mathlib.Core.Path.{ap, ◌∙◌}
use Rattle.picture_limits.specs.declared.PictureSettings.{PictureSettings}
use Rattle.picture_tiles.specs.Answer.{cut_of}
use Rattle.face_tiles.specs.Reports.{cut_report}
use Rattle.face_tiles.proofs.cut.Goals as goal

pub returns : goal.returns
returns c = c.from.ensures ∙ ap cut_report (c.cut-found.ensures ∙ ap (λ (s : PictureSettings). cut_of s c.args.height c.args.width) c.into.ensures)
