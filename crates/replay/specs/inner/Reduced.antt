-- What a step of the hash asks. Assumes nothing.
use Rattle.std.specs.Prelude.{◌<◌}
use Rattle.replay.specs.declared.hash.Lanes.{Lanes}

pub record Reduced (h : Lanes) : Type 0 where
  pub first-low : h.first < 4294967291
  pub second-low : h.second < 4294967279
