-- What the C face reports of the calls on tiles: the paper's number, and its sizes, 0 for each of a refusal. Assumes nothing.
use Rattle.std.specs.Prelude.{Result, Ok, Err}
use Rattle.picture_limits.specs.declared.Refusal.{Refusal}
use Rattle.picture_limits.specs.Refusal as R
use Rattle.picture_tiles.specs.declared.Tiles.{Tiles}
use Rattle.picture_tiles.specs.declared.Tile.{Tile}
use Rattle.face_tiles.specs.declared.CutReport.{CutReport}
use Rattle.face_tiles.specs.declared.TileReport.{TileReport}

abbrev pub cut_report : Result Tiles Refusal → CutReport
cut_report (Ok a) = record { number = 0; side = a.side; rows = a.rows; columns = a.columns }
cut_report (Err r) = record { number = R.number r; side = 0; rows = 0; columns = 0 }

abbrev pub tile_report : Result Tile Refusal → TileReport
tile_report (Ok a) = record { number = 0; grid_h = a.grid_h; grid_w = a.grid_w; floats = a.floats; top = a.top; left = a.left; height = a.height; width = a.width }
tile_report (Err r) = record { number = R.number r; grid_h = 0; grid_w = 0; floats = 0; top = 0; left = 0; height = 0; width = 0 }
