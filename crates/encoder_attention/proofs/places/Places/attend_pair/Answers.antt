-- `encoder_attention::places::Places::attend_pair` meets its contract. Assumes nothing.
use mathlib.Core.Path.{◌≡◌, ap, ◌∙◌}
use Prim.Native.Nat.{ℕ, ◌+◌, ◌*◌, ◌≤◌, ◌<◌}
use native.Mathlib.Omega.{arith}
use lib.ListN.{length}
use Rattle.buffers.proofs.Lists.{fit}
use Rattle.encoder_kernels.specs.Kernels.{all_finite}
use Rattle.encoder_linear.proofs.Rooms.{weigh-pair-fits}
use Rattle.encoder_attention.specs.inner.Fits.{PairAt}
use Rattle.encoder_attention.proofs.Attends.{head_rows}
use Rattle.encoder_attention.proofs.Pairs.{pair-run, scores-fit, sums-fit}
use Rattle.encoder_attention.proofs.places.Places.attend_pair.Goals as goal

-- the places that are worked out lie inside the scratch
record Places (len : ℕ) (q k out t dim hd i h : ℕ) : Type 0 where
  dim_in : dim ≤ len
  head : h * hd + hd ≤ dim
  here : i * dim + h * hd + hd ≤ t * dim
  next : (i + 1) * dim + h * hd + hd ≤ t * dim
  keys : k + h * hd * t ≤ len
  q_in : q + t * dim ≤ len
  out_in : out + t * dim ≤ len

places : {len q k v row out t heads hd i h : ℕ} → PairAt len q k v row out t heads hd i h → Places len q k out t (heads * hd) hd i h
places {len} {q} {k} {v} {row} {out} {t} {heads} {hd} {i} {h} g =
    let w = g.queries in
    let x = w.fits in
    let l : i < t = omega (arith, g.token) in
    let f = fit (heads * hd) l in
    let f₁ = fit (heads * hd) g.token in
    let f' = fit hd w.head in
    record {
      dim_in = x.dim_in;
      head = f';
      here = omega arith;
      next = omega arith;
      keys = omega (arith, head_rows t heads hd h w.head, x.k_in);
      q_in = x.q_in;
      out_in = x.out_in;
    }

pub scores_pair-requires : goal.scores_pair-requires
scores_pair-requires c = scores-fit c.requires

pub softmax_pair-requires : goal.softmax_pair-requires
softmax_pair-requires c = omega (arith, c.scores_pair.auto.s, c.requires.queries.rows_in)

pub shape_of-s : goal.shape_of-s
shape_of-s c = c.weigh_pair.auto.s ∙ c.softmax_pair.auto.s ∙ c.scores_pair.auto.s

pub returns : goal.returns
returns c =
    let g = c.requires in
    let l : length c.softmax_pair.new.s ≡ length c.args.s.now = c.softmax_pair.auto.s ∙ c.scores_pair.auto.s in
    let r = pair-run c.args.s.now c.args.self.q c.args.self.k c.args.self.v c.args.self.row c.args.self.out c.args.self.t c.args.self.heads c.args.self.hd c.args.h c.args.self.scaling c.requires.queries c.args.i c.requires.token
    c.scores_pair.new.s c.softmax_pair.new.s c.weigh_pair.new.s c.scores_pair.ensures c.softmax_pair.ensures (rw (l, weigh-pair-fits (sums-fit g)) at c.weigh_pair.ensures) in record {
      value = c.finite-ok.ensures ∙ ap all_finite (c.part.ensures ∙ r.0);
      s_after = r.1;
    }
