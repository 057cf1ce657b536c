-- `encoder_linear::values::Values::weigh_all` meets its contract: the sums sixteen by sixteen, and the rest behind them. Assumes nothing.
use Prim.Native.Nat.{ℕ, ◌+◌, ◌*◌, ◌-◌, ◌≤◌}
use native.Mathlib.Omega.{arith}
use mathlib.Core.Path.{◌≡◌, refl, ap, ◌∙◌}
use mathlib.Core.List.{List}
use lib.ListN.{length}
use lib.Ieee.{Float}
use Rattle.buffers.specs.Region.{region, put}
use Rattle.buffers.proofs.Regions.{put-append, region-put, apart-sub}
use Rattle.encoder_linear.specs.inner.Fits.{WeighFits}
use Rattle.encoder_linear.specs.Linear.{weighed_row}
use Rattle.encoder_linear.proofs.Sums.{length-weighed}
use Rattle.encoder_linear.proofs.Rooms.{rest-fits}
use Rattle.encoder_linear.proofs.Columns.{weighed-add}
use Rattle.encoder_linear.proofs.values.Values.weigh_all.Goals as goal

-- the first d sums, and the others behind them, read past the first
both : (s u z : List Float) (row v out t dim hd o d : ℕ) → WeighFits (length s) row v out t dim hd o → d ≤ hd
    → u ≡ put s out (weighed_row t dim d o (region s row t) (region s v (t * dim)))
    → z ≡ put u (out + d) (weighed_row t dim (hd - d) (o + d) (region u row t) (region u v (t * dim)))
    → z ≡ put s out (weighed_row t dim hd o (region s row t) (region s v (t * dim)))
both s u z row v out t dim hd o d g h eu ez =
    let p = region s row t in
    let q = region s v (t * dim) in
    let W = weighed_row t dim d o p q in
    let n = length-weighed t dim d o p q in
    let ep = ap (λ x. region x row t) eu ∙ region-put s out W row t (rw n (apart-sub g.rowout (omega arith) (omega arith) (omega arith) (omega arith))) in
    let eq = ap (λ x. region x v (t * dim)) eu ∙ region-put s out W v (t * dim) (rw n (apart-sub g.vout (omega arith) (omega arith) (omega arith) (omega arith))) in
    let k : d + (hd - d) ≡ hd = omega arith in
    ez ∙ rw (ep, eq, eu)
    (put-append s out W (weighed_row t dim (hd - d) (o + d) p q) (out + d) (rw n refl) ∙ ap (put s out) (weighed-add t dim o d (hd - d) p q ∙ ap (λ m. weighed_row t dim m o p q) k))

pub weigh_rest-requires : goal.weigh_rest-requires
weigh_rest-requires c = rw c.weigh_wide-d.auto.s (rest-fits c.weigh_wide-d.result c.requires c.weigh_wide-d.ensures.0)

pub returns : goal.returns
returns c =
    both c.args.s.now c.weigh_wide-d.new.s _ c.args.row c.args.self.v c.args.out c.args.self.t c.args.self.dim c.args.self.hd c.args.self.o c.weigh_wide-d.result c.requires c.weigh_wide-d.ensures.0 c.weigh_wide-d.ensures.1 c.weigh_rest.ensures
