-- `encoder_attention::places::Places::attend_tokens` meets its contract. Assumes nothing.
use mathlib.Core.Path.{◌≡◌}
use Prim.Native.Nat.{◌*◌, ◌≤◌}
use lib.ListN.{length}
use Rattle.buffers.specs.Region.{region, put}
use Rattle.number_floats.specs.Constants.{zero32}
use Rattle.buffers.specs.Rows.{rows}
use Rattle.buffers.specs.Each.{blank}
use Rattle.encoder_attention.specs.Attention.{token_scores}
use Rattle.encoder_attention.specs.inner.Keys.{keys_of}
use Rattle.encoder_kernels.specs.Kernels.{all_finite}
use Rattle.encoder_attention.proofs.Attends.{token_at}
use Rattle.encoder_attention.proofs.places.Places.attend_tokens.Given as goal

abbrev pub invariant-loop-i : goal.invariant-loop-i
invariant-loop-i l =
    (l.i ≤ l.self.t) × (length l.s ≡ length l.initial.s) × (l.ok ≡ all_finite (rows l.i (λ j. token_scores l.self.t l.self.heads l.self.hd l.self.scaling (region l.initial.s l.self.q (l.self.t * (l.self.heads * l.self.hd))) (keys_of l.self.t (l.self.heads * l.self.hd) (region l.initial.s l.self.k (l.self.t * (l.self.heads * l.self.hd)))) j)))
    × (blank zero32 l.self.row l.self.t l.s ≡ put (blank zero32 l.self.row l.self.t l.initial.s) l.self.out (rows l.i (token_at l.initial.s l.self.q l.self.k l.self.v l.self.row l.self.out l.self.t l.self.heads l.self.hd l.self.scaling)))
