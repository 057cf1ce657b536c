-- What the C face reports of the calls on pictures. Assumes nothing.
use Rattle.std.specs.Prelude.{Result, cond, ◌&&◌, ℕ, ◌+◌, ◌*◌, leb}
use Rattle.picture_limits.specs.Settings.{within}
use Rattle.picture_limits.specs.Places.{patch_floats}
use Rattle.picture_limits.specs.declared.Refusal.{Refusal}
use Rattle.picture.specs.declared.Patches.{Patches}
use Rattle.picture.specs.Preprocess as Pre
use Rattle.picture_restore.specs.declared.Picture.{Picture}
use Rattle.picture_restore.specs.Restore as Res
use Rattle.picture_salvage.specs.declared.Salvaged.{Salvaged}
use Rattle.picture_salvage.specs.Salvage as Sal
use Rattle.face_picture.specs.declared.PreprocessReport.{PreprocessReport}
use Rattle.face_picture.specs.declared.RestoreReport.{RestoreReport}
use Rattle.face_picture.specs.declared.salvage.SalvageReport.{SalvageReport}
use Rattle.face_picture.specs.declared.PatchPlace.{PatchPlace}

-- the paper's number, and its sizes: 0 for each of a refusal
abbrev pub preprocess_report : Result Patches Refusal → PreprocessReport
preprocess_report a = record { number = Pre.number a; grid_h = Pre.grid_h a; grid_w = Pre.grid_w a; floats = Pre.floats a }

abbrev pub restore_report : Result Picture Refusal → RestoreReport
restore_report a = record { number = Res.number a; height = Res.height a; width = Res.width a }

abbrev pub salvage_report : Result Salvaged Refusal → SalvageReport
salvage_report a = record { number = Sal.number a; height = Sal.height a; width = Sal.width a; bad = Sal.bad_of a }

-- place i·3p² and length 3p² in patches of length n, where p is in 1..32 and the whole patch lies inside
unfoldable pub place_of : ℕ → ℕ → ℕ → PatchPlace
place_of n p i =
    cond (within 1 32 p && leb (i * patch_floats p + patch_floats p) n)
    (record { start = i * patch_floats p; len = patch_floats p })
    (record { start = 0; len = 0 })
