-- `encoder_softmax::softmax::soften_row` meets its contract. Assumes nothing.
use mathlib.Core.Path.{◌≡◌, sym, ap, ◌∙◌}
use mathlib.Core.List.{List}
use Prim.Native.Nat.{ℕ, ◌+◌, ◌≤◌}
use lib.ListN.{length}
use lib.Ieee.{Float}
use Rattle.buffers.proofs.Regions.{region-put-same, put-put}
use Rattle.buffers.specs.Region.{region, put}
use Rattle.encoder_softmax.specs.Softmax.{max_of, total_of, inverse_of, exp_less, scaled, softened, softmax_of}
use Rattle.encoder_softmax.proofs.Lengths.{length-softened, length-softmax}
use Rattle.encoder_softmax.proofs.softmax.soften_row.Goals as goal

soften : (s s₁ s₂ : List Float) (row t : ℕ) (m f : Float) → row + t ≤ length s → m ≡ max_of (region s row t)
    → s₁ ≡ put s row (exp_less t m (region s row t))
    → f ≡ inverse_of (total_of (region s₁ row t))
    → s₂ ≡ put s₁ row (scaled t f (region s₁ row t))
    → s₂ ≡ put s row (softmax_of t (region s row t))
unfolding softened softmax_of
soften s s₁ s₂ row t m f h em e₁ ef e₂ =
    let l = region s row t in
    let g : s₁ ≡ put s row (softened t l) = e₁ ∙ rw em in
    let r : region s₁ row t ≡ softened t l = ap (λ u. region u row t) g ∙ region-put-same s row (softened t l) t (sym (length-softened t l)) (rw (length-softened t l) h) in
    e₂ ∙ rw (ef, r, g) (put-put s row (softened t l) (softmax_of t l) (length-softened t l ∙ sym (length-softmax t l)))

pub returns : goal.returns
returns c =
    soften c.args.s.now c.exp_row.new.s c.scale_floats.new.s c.args.row c.args.t c.row_max-m.result c.inverse-f.result c.requires
    (c.row_max-m.ensures ∙ ap max_of c.part.ensures) c.exp_row.ensures
    (c.inverse-f.ensures ∙ ap inverse_of (c.total.ensures ∙ ap total_of c.part-2.ensures)) c.scale_floats.ensures
