-- `encoder_linear::values::Values::weigh_rest` meets its contract. Assumes nothing.
use mathlib.Core.Path.{◌≡◌, sym, ap, ◌∙◌}
use mathlib.Core.List.{List}
use Prim.Native.Nat.{ℕ, ◌+◌, ◌*◌, ◌<◌}
use native.Mathlib.Omega.{arith}
use borrow.Author.Rules.{rules}
use lib.ListN.{length, set, length-set}
use lib.Ieee.{Float}
use Rattle.buffers.proofs.Lists.{length-tab, put-tab}
use Rattle.buffers.proofs.Regions.{region-put, apart-sub, length-region}
use Rattle.buffers.specs.Region.{region, put}
use Rattle.buffers.specs.Rows.{tab}
use Rattle.encoder_linear.specs.inner.Fits.{WeighFits}
use Rattle.encoder_linear.specs.Linear.{column_of, weighed_row}
use Rattle.encoder_linear.proofs.values.Values.weigh_rest.Goals as goal

-- a store of one sum, read past the stores before it
step : (s : List Float) (row v out t dim hd o : ℕ) (d : ℕ) → WeighFits (length s) row v out t dim hd o → d < hd
    → (let u = put s out (weighed_row t dim d o (region s row t) (region s v (t * dim))) in
    set u (out + d) (column_of t dim (o + d) (region u row t) (region u v (t * dim))))
    ≡ put s out (weighed_row t dim (d + 1) o (region s row t) (region s v (t * dim)))
unfolding weighed_row
step s row v out t dim hd o d g h =
    let G : ℕ → Float = λ i. column_of t dim (o + i) (region s row t) (region s v (t * dim)) in
    let e = length-tab d G in
    rw (
      region-put s out (tab d G) row t (rw e (apart-sub g.rowout (omega arith) (omega arith) (omega arith) (omega arith))),
      region-put s out (tab d G) v (t * dim) (rw e (apart-sub g.vout (omega arith) (omega arith) (omega arith) (omega arith))),
    )
    (put-tab s out d G)

pub loop-d-init : goal.loop-d-init
unfolding put tab weighed_row
loop-d-init c = search rules

pub column-x-requires : goal.column-x-requires
column-x-requires c =
    let e : length c.part.result.now ≡ c.args.self.t = ap length c.part.ensures ∙ length-region c.loop-d.s c.args.row c.args.self.t (omega arith) in
    (ap length c.part-in-loop-d.ensures ∙ length-region c.loop-d.s c.args.self.v (c.args.self.t * c.args.self.dim) (omega arith) ∙ ap (λ m. m * c.args.self.dim) (sym e), omega arith)

pub loop-d-preserved : goal.loop-d-preserved
loop-d-preserved c =
    let e : length c.part.result.now ≡ c.args.self.t = ap length c.part.ensures ∙ length-region c.loop-d.s c.args.row c.args.self.t (omega arith) in (
      omega arith,
      simp length-set c.loop-d.invariant.1,
      cc (c.column-x.ensures, e, c.part.ensures, c.part-in-loop-d.ensures, c.loop-d.invariant.2, step c.args.s.now c.args.row c.args.self.v c.args.out c.args.self.t c.args.self.dim c.args.self.hd c.args.self.o c.loop-d.d c.requires (omega arith)),
    )

pub shape_of-s : goal.shape_of-s
shape_of-s c = c.loop-d.invariant.1

pub returns : goal.returns
returns c =
    c.loop-d.invariant.2 ∙ ap (λ n. put c.args.s.now c.args.out (weighed_row c.args.self.t c.args.self.dim n c.args.self.o (region c.args.s.now c.args.row c.args.self.t) (region c.args.s.now c.args.self.v (c.args.self.t * c.args.self.dim)))) (omega arith)
