-- `encoder_attention::places::Places::attend_queries` meets its contract. Assumes nothing.
use mathlib.Core.Path.{◌≡◌}
use Prim.Native.Nat.{◌+◌, ◌*◌}
use lib.ListN.{length}
use Rattle.buffers.specs.Region.{put_rows}
use Rattle.buffers.specs.Rows.{rows}
use Rattle.buffers.specs.Each.{blank}
use Rattle.number_floats.specs.Constants.{zero32}
use Rattle.encoder_kernels.specs.Kernels.{all_finite}
use Rattle.encoder_attention.proofs.Values.{scored, summed, goes}
use Rattle.encoder_attention.proofs.places.Places.attend_queries.Given as goal

abbrev pub invariant-loop-j : goal.invariant-loop-j
invariant-loop-j l =
    (length l.s ≡ length l.initial.s) × (l.ok ≡ all_finite (rows (l.j * 2) (scored l.initial.s l.self.q l.self.k l.self.v l.self.row l.self.out l.self.t l.self.heads l.self.hd l.h l.self.scaling)))
    × (blank zero32 l.self.row (l.self.t + l.self.t) l.s ≡ put_rows (blank zero32 l.self.row (l.self.t + l.self.t) l.initial.s) (l.j * 2) (goes l.initial.s l.self.q l.self.k l.self.v l.self.row l.self.out l.self.t l.self.heads l.self.hd l.h l.self.scaling) (summed l.initial.s l.self.q l.self.k l.self.v l.self.row l.self.out l.self.t l.self.heads l.self.hd l.h l.self.scaling))
