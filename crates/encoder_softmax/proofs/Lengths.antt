-- The lengths of rows of scores and weights. Assumes nothing.
use mathlib.Core.Path.{◌≡◌}
use mathlib.Core.List.{List}
use Prim.Native.Nat.{ℕ}
use lib.ListN.{length}
use lib.Ieee.{Float}
use Rattle.buffers.proofs.Lists.{length-tab}
use Rattle.encoder_softmax.specs.Softmax.{exp_less, scaled, softened, softmax_of}

pub length-softened : (t : ℕ) (l : List Float) → length (softened t l) ≡ t
unfolding softened exp_less
length-softened t l = simp length-tab

pub length-scaled : (t : ℕ) (m : Float) (l : List Float) → length (scaled t m l) ≡ t
unfolding scaled
length-scaled t m l = simp length-tab

pub length-softmax : (t : ℕ) (l : List Float) → length (softmax_of t l) ≡ t
unfolding softmax_of scaled
length-softmax t l = simp length-tab
