-- `encoder_attention::places::Places::scores` meets its contract. Assumes nothing.
use mathlib.Core.Path.{◌≡◌, sym, ap, ◌∙◌}
use mathlib.Core.List.{List}
use Prim.Native.Nat.{ℕ, ◌+◌, ◌*◌, ◌≤◌}
use native.Mathlib.Omega.{arith}
use lib.ListN.{length}
use lib.Ieee.{Float}
use Rattle.buffers.specs.Region.{region, put}
use Rattle.buffers.proofs.Regions.{put-put, region-put-same}
use Rattle.buffers.proofs.Lists.{length-tab}
use Rattle.buffers.proofs.Rooms.{written}
use Rattle.encoder_linear.specs.Linear.{weighed_row}
use Rattle.encoder_linear.proofs.Sums.{length-weighed}
use Rattle.encoder_linear.proofs.Rooms.{weigh-fits}
use Rattle.encoder_softmax.specs.Softmax.{scaled}
use Rattle.encoder_attention.proofs.places.Places.scores.Goals as goal

-- sums written, then scaled where they stand
both : (s u z W : List Float) (row t : ℕ) (sc : Float) → row + t ≤ length s → length W ≡ t → u ≡ put s row W
    → z ≡ put u row (scaled t sc (region u row t)) → z ≡ put s row (scaled t sc W)
unfolding scaled
both s u z W row t sc h l eu ez =
    let r : region u row t ≡ W = ap (λ x. region x row t) eu ∙ region-put-same s row W t (sym l) (rw l h) in
    ez ∙ rw (r, eu) (put-put s row W (scaled t sc W) (l ∙ sym (length-tab t _)))

pub returns : goal.returns
returns c =
    both c.args.s.now c.weigh.new.s _ (weighed_row c.args.self.hd c.args.self.t c.args.self.t 0 (region c.args.s.now c.args.q c.args.self.hd) (region c.args.s.now c.args.k (c.args.self.hd * c.args.self.t))) c.args.self.row c.args.self.t c.args.self.scaling c.requires.out_in (length-weighed _ _ _ _ _ _)
    (rw (weigh-fits c.requires) at c.weigh.ensures) (written c.weigh.new.s c.scale_row.new.s _ c.args.self.row c.args.self.t (omega (arith, c.weigh.auto.s, c.requires.out_in)) c.scale_row.ensures)
