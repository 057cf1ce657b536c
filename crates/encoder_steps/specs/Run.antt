-- A run of stages: it stops where a stage has a value that is not finite, and else hands its result on. Assumes nothing.
use Rattle.std.specs.Prelude.{Bool, true, false, ◌&&◌, List, [], ◌∷◌, Float}
use Rattle.buffers.specs.Region.{over, cleared}
use Rattle.encoder_kernels.specs.Kernels.{all_finite}

pub data Run : Type 0 where
  stopped : Run
  went : List Float → Run

-- whether every value of every stage is finite
unfoldable pub stages_finite : Bool → List (List Float) → Bool
stages_finite ok [] = ok
stages_finite ok (l ∷ ls) = stages_finite (ok && all_finite l) ls

-- the run that the stages allow
abbrev pub answer : Bool → List Float → Run
answer true l = went l
answer false l = stopped

abbrev pub examined : List (List Float) → List Float → Run
examined stages l = answer (stages_finite true stages) l

-- one run after another
abbrev pub then_run : Run → (List Float → Run) → Run
then_run stopped f = stopped
then_run (went l) f = f l

-- whether it went
abbrev pub ran : Run → Bool
ran stopped = false
ran (went l) = true

-- what it hands on at the front of what was lent, and +0 behind it; where it stopped all of it is +0
abbrev pub handed : Run → List Float → List Float
handed stopped old = cleared old
handed (went l) old = over l (cleared old)
