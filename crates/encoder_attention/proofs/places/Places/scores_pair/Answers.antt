-- `encoder_attention::places::Places::scores_pair` meets its contract. Assumes nothing.
use mathlib.Core.Path.{◌∙◌}
use Prim.Native.Nat.{ℕ, ◌+◌, ◌*◌, ◌≤◌}
use native.Mathlib.Omega.{arith}
use Rattle.buffers.specs.Region.{region}
use Rattle.buffers.proofs.Rooms.{written}
use Rattle.encoder_linear.specs.Linear.{weighed_row}
use Rattle.encoder_linear.specs.inner.Weighed.{weighed_pair}
use Rattle.encoder_linear.specs.inner.Fits.{WeighPairFits}
use Rattle.encoder_linear.proofs.Sums.{length-weighed}
use Rattle.encoder_linear.proofs.Rooms.{weigh-pair-fits}
use Rattle.encoder_softmax.specs.Softmax.{scaled}
use Rattle.encoder_softmax.proofs.Lengths.{length-scaled}
use Rattle.encoder_attention.proofs.Pairs.{rows-each, rows_then}
use Rattle.encoder_attention.proofs.places.Places.scores_pair.Goals as goal

room : {len a b k row t hd : ℕ} → WeighPairFits len a b k row (row + t) hd t t 0 → row + (t + t) ≤ len
room g = omega (arith, g.second.out_in)

pub shape_of-s : goal.shape_of-s
shape_of-s c = c.scale_row-2.auto.s ∙ c.scale_row.auto.s ∙ c.weigh_pair.auto.s

pub returns : goal.returns
unfolding weighed_pair
returns c =
    let A = weighed_row c.args.self.hd c.args.self.t c.args.self.t 0 (region c.args.s.now c.args.a c.args.self.hd) (region c.args.s.now c.args.k (c.args.self.hd * c.args.self.t)) in
    let C = weighed_row c.args.self.hd c.args.self.t c.args.self.t 0 (region c.args.s.now c.args.b c.args.self.hd) (region c.args.s.now c.args.k (c.args.self.hd * c.args.self.t)) in
    rows_then c.args.self.t (scaled c.args.self.t c.args.self.scaling) (length-scaled c.args.self.t c.args.self.scaling) c.args.s.now c.weigh_pair.new.s c.scale_row-2.new.s A C c.args.self.row (room c.requires) (length-weighed _ _ _ _ _ _) (length-weighed _ _ _ _ _ _)
    (rw (weigh-pair-fits c.requires) at c.weigh_pair.ensures)
    (rows-each c.args.self.t (scaled c.args.self.t c.args.self.scaling) (length-scaled c.args.self.t c.args.self.scaling) c.weigh_pair.new.s c.scale_row.new.s c.scale_row-2.new.s c.args.self.row (written c.weigh_pair.new.s c.scale_row.new.s _ c.args.self.row c.args.self.t (omega (arith, c.weigh_pair.auto.s, c.requires.first.out_in)) c.scale_row.ensures) (written c.scale_row.new.s c.scale_row-2.new.s _ (c.args.self.row + c.args.self.t) c.args.self.t (omega (arith, c.scale_row.auto.s, c.weigh_pair.auto.s, c.requires.second.out_in)) c.scale_row-2.ensures))
