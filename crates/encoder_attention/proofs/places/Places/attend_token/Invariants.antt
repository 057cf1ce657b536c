-- `encoder_attention::places::Places::attend_token` meets its contract. Assumes nothing.
use mathlib.Core.Path.{◌≡◌}
use Prim.Native.Nat.{◌+◌, ◌*◌, ◌≤◌}
use lib.ListN.{length}
use Rattle.buffers.specs.Region.{put}
use Rattle.number_floats.specs.Constants.{zero32}
use Rattle.buffers.specs.Rows.{rows}
use Rattle.buffers.specs.Each.{blank}
use Rattle.encoder_kernels.specs.Kernels.{all_finite}
use Rattle.encoder_attention.proofs.Attends.{sums_at, scores_at}
use Rattle.encoder_attention.proofs.places.Places.attend_token.Given as goal

abbrev pub invariant-loop-h : goal.invariant-loop-h
invariant-loop-h l =
    (l.h ≤ l.self.heads) × (length l.s ≡ length l.initial.s) × (l.ok ≡ all_finite (rows l.h (scores_at l.initial.s l.self.q l.self.k l.self.v l.self.row l.self.out l.self.t l.self.heads l.self.hd l.self.scaling l.i)))
    × (blank zero32 l.self.row l.self.t l.s ≡ put (blank zero32 l.self.row l.self.t l.initial.s) (l.self.out + l.i * (l.self.heads * l.self.hd)) (rows l.h (sums_at l.initial.s l.self.q l.self.k l.self.v l.self.row l.self.out l.self.t l.self.heads l.self.hd l.self.scaling l.i)))
