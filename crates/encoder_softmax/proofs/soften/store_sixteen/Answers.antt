-- `encoder_softmax::soften::store_sixteen` meets its contract. Assumes nothing.
use mathlib.Core.Path.{◌≡◌, sym}
use mathlib.Core.List.{List, ◌++◌}
use Prim.Native.Nat.{ℕ, ◌+◌, ◌-◌, ◌≤◌}
use native.Mathlib.Omega.{arith}
use lib.ListN.{length, take, drop}
use lib.Seq.{drop-drop}
use lib.Ieee.{Float}
use Rattle.buffers.specs.Region.{put}
use Rattle.buffers.proofs.Regions.{put-split}
use Rattle.encoder_softmax.proofs.soften.store_sixteen.Goals as goal

-- a part of a list, written over
over_part : (s t x : List Float) (at k : ℕ) → k ≡ length x → at + length x ≤ length s → t ≡ x → take at s ++ (t ++ drop k (drop at s)) ≡ put s at x
over_part s t x at k e h g = rw (g, e, drop-drop (length x) at s) (sym (put-split s at x h))

pub returns : goal.returns
returns c = over_part c.args.s.now c.copy_from_slice.new.self c.args.x c.args.y (c.args.y + 16 - c.args.y) (omega arith) (omega (arith, c.requires)) c.copy_from_slice.ensures.after
