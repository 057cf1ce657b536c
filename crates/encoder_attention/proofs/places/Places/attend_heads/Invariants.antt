-- `encoder_attention::places::Places::attend_heads` meets its contract. Assumes nothing.
use mathlib.Core.Path.{◌≡◌}
use Prim.Native.Nat.{◌+◌, ◌*◌, ◌≤◌}
use lib.ListN.{length}
use Rattle.buffers.specs.Region.{put_rows}
use Rattle.buffers.specs.Rows.{rows}
use Rattle.buffers.specs.Each.{blank}
use Rattle.number_floats.specs.Constants.{zero32}
use Rattle.encoder_kernels.specs.Kernels.{all_finite}
use Rattle.encoder_attention.proofs.Attends.{sums_at, scores_at}
use Rattle.encoder_attention.proofs.places.Places.attend_heads.Given as goal

abbrev pub invariant-loop-h : goal.invariant-loop-h
invariant-loop-h l =
    (l.h ≤ l.self.heads) × (length l.s ≡ length l.initial.s) × (l.ok ≡ all_finite (rows l.h (λ j. rows l.self.t (λ i. scores_at l.initial.s l.self.q l.self.k l.self.v l.g l.self.out l.self.t l.self.heads l.self.hd l.self.scaling i j))))
    × (blank zero32 l.g (l.self.t * (l.self.heads * l.self.hd)) l.s ≡ put_rows (blank zero32 l.g (l.self.t * (l.self.heads * l.self.hd)) l.initial.s) l.self.t (λ i. l.self.out + i * (l.self.heads * l.self.hd)) (λ i. rows l.h (sums_at l.initial.s l.self.q l.self.k l.self.v l.g l.self.out l.self.t l.self.heads l.self.hd l.self.scaling i)))
