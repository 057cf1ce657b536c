-- What a log line can tell of a picture: its height and width, and nothing that depends on a pixel (2026-12). For two pictures
-- of equal height and width, with equal settings, equal lengths of RGB and equal lengths of output, each call below returns the
-- same number, the same sizes and the same places, whatever the pixels are and whatever the outputs held. A statement speaks of
-- any two results that the call may return, by its contract; proofs/Log.antt proves them. Assumes nothing.
use Rattle.std.specs.Prelude.{◌≡◌, List, ℕ, length, Float, Result}
use Rattle.picture_limits.specs.declared.PictureSettings as P
use Rattle.picture_limits.specs.declared.Refusal.{Refusal}
use Rattle.picture_limits.specs.Refusal.{number_of}
use Rattle.picture.specs.declared.Patches.{Patches}
use Rattle.picture.specs.Preprocess as Pre
use Rattle.picture_tiles.specs.declared.Tile.{Tile}
use Rattle.picture_tiles.specs.Answer.{cut_of, tiled}
use Rattle.face_settings.specs.declared.PictureSettings.{PictureSettings}
use Rattle.face_picture.specs.declared.PreprocessReport.{PreprocessReport}
use Rattle.face_tiles.specs.declared.CutReport.{CutReport}
use Rattle.face_tiles.specs.declared.TileReport.{TileReport}
use Rattle.face_picture.specs.Reports.{preprocess_report}
use Rattle.face_settings.specs.Settings.{inner}
use Rattle.face_tiles.specs.Reports.{cut_report, tile_report}

-- two pictures and two outputs that may differ in all that they hold
pub record Alike (rgb rgb' : List ℕ) (out out' : List Float) : Type 0 where
  pub bytes : length rgb ≡ length rgb'
  pub room : length out ≡ length out'

-- ---- preprocess

-- r is what the call of the C face reports
abbrev pub Reports : PictureSettings → List ℕ → ℕ → ℕ → List Float → PreprocessReport → Type 0
Reports s rgb height width out r = r ≡ preprocess_report (Pre.preprocessed (inner s) (length rgb) height width (length out))

pub record SameReport (r r' : PreprocessReport) : Type 0 where
  pub number : r.number ≡ r'.number
  pub grid-h : r.grid_h ≡ r'.grid_h
  pub grid-w : r.grid_w ≡ r'.grid_w
  pub floats : r.floats ≡ r'.floats

abbrev pub PreprocessUnseen : Type 0
PreprocessUnseen = (s : PictureSettings) (rgb rgb' : List ℕ) (height width : ℕ) (out out' : List Float) (r r' : PreprocessReport)
    → Alike rgb rgb' out out'
    → Reports s rgb height width out r
    → Reports s rgb' height width out' r'
    → SameReport r r'

-- and of the call behind it, whose answer is a Result
abbrev pub Answers : P.PictureSettings → List ℕ → ℕ → ℕ → List Float → Result Patches Refusal → Type 0
Answers s rgb height width out a = a ≡ Pre.preprocessed s (length rgb) height width (length out)

pub record SameAnswer (a a' : Result Patches Refusal) : Type 0 where
  pub number : number_of a ≡ number_of a'
  pub grid-h : Pre.grid_h a ≡ Pre.grid_h a'
  pub grid-w : Pre.grid_w a ≡ Pre.grid_w a'
  pub floats : Pre.floats a ≡ Pre.floats a'

abbrev pub AnswerUnseen : Type 0
AnswerUnseen = (s : P.PictureSettings) (rgb rgb' : List ℕ) (height width : ℕ) (out out' : List Float) (a a' : Result Patches Refusal)
    → Alike rgb rgb' out out'
    → Answers s rgb height width out a
    → Answers s rgb' height width out' a'
    → SameAnswer a a'

-- ---- a tile, at equal index

abbrev pub ReportsTile : PictureSettings → List ℕ → ℕ → ℕ → ℕ → List Float → TileReport → Type 0
ReportsTile s rgb height width index out r = r ≡ tile_report (tiled (inner s) (length rgb) height width index (length out))

pub record SameTile (r r' : TileReport) : Type 0 where
  pub number : r.number ≡ r'.number
  pub grid-h : r.grid_h ≡ r'.grid_h
  pub grid-w : r.grid_w ≡ r'.grid_w
  pub floats : r.floats ≡ r'.floats
  pub top : r.top ≡ r'.top
  pub left : r.left ≡ r'.left
  pub height : r.height ≡ r'.height
  pub width : r.width ≡ r'.width

abbrev pub TileUnseen : Type 0
TileUnseen = (s : PictureSettings) (rgb rgb' : List ℕ) (height width index : ℕ) (out out' : List Float) (r r' : TileReport)
    → Alike rgb rgb' out out'
    → ReportsTile s rgb height width index out r
    → ReportsTile s rgb' height width index out' r'
    → SameTile r r'

abbrev pub TileAnswerUnseen : Type 0
TileAnswerUnseen = (s : P.PictureSettings) (rgb rgb' : List ℕ) (height width index : ℕ) (out out' : List Float) (a a' : Result Tile Refusal)
    → Alike rgb rgb' out out'
    → a ≡ tiled s (length rgb) height width index (length out)
    → a' ≡ tiled s (length rgb') height width index (length out')
    → a ≡ a'

-- ---- the cut, which is handed no picture at all

abbrev pub ReportsCut : PictureSettings → ℕ → ℕ → CutReport → Type 0
ReportsCut s height width r = r ≡ cut_report (cut_of (inner s) height width)

pub record SameCut (r r' : CutReport) : Type 0 where
  pub number : r.number ≡ r'.number
  pub side : r.side ≡ r'.side
  pub rows : r.rows ≡ r'.rows
  pub columns : r.columns ≡ r'.columns

abbrev pub CutUnseen : Type 0
CutUnseen = (s : PictureSettings) (height width : ℕ) (r r' : CutReport) → ReportsCut s height width r → ReportsCut s height width r' → SameCut r r'
