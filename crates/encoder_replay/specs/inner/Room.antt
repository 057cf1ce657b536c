-- What a record's call asks of the buffers. Assumes nothing.
use Rattle.std.specs.Prelude.{ℕ, ◌≤◌, List, ◌≡◌}
use Rattle.encoder_replay.specs.Run.{at, cells_room, scratch_room, out_room}

-- the record's lengths fit the buffers
pub record Small (v : List ℕ) : Type 0 where
  pub patches : at v 12 ≤ 1024
  pub weights : at v 13 ≤ 6144
  pub cos : at v 14 ≤ 512
  pub sin : at v 15 ≤ 512
  pub scratch : at v 16 ≤ scratch_room
  pub out : at v 17 ≤ out_room

-- the buffers' own lengths
pub record Room (cells scratch out : ℕ) : Type 0 where
  pub cells-all : cells ≡ cells_room
  pub scratch-all : scratch ≡ scratch_room
  pub out-all : out ≡ out_room
