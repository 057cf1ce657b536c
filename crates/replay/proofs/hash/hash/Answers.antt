-- `hash::hash` meets its contract: the lanes so far and the values that are left give the lanes of the whole. Assumes nothing.
use Rattle.std.proofs.Common.{◌≡◌, ◌+◌, ◌<◌, ◌≤◌, length, drop, sym, ap, ◌∙◌, arith, rules}
use Rattle.replay.specs.declared.hash.Lanes.{Lanes}
use Rattle.replay.specs.Hash.{added, lanes, summed}
use Rattle.replay.proofs.Turns.{lanes-turn, lanes-done}
use Rattle.replay.proofs.hash.hash.Goals as goal

pub loop-x-preserved : goal.loop-x-preserved
loop-x-preserved g c = (
  c.add-h.ensures.1,
  λ f e.
      let s = c.args.s.now in
      let i = c.loop-x.x-index in
      let h : c.loop-x.x-index < length s = omega arith in
      let w : c.word.result ≡ f c.x-item.result = e _ _ c.word.ensures in
      c.loop-x.invariant.1 f e
      ∙ lanes-turn f s i c.loop-x.h c.x-item.result h
      ∙ ap (λ (k : Lanes). lanes f k (drop (i + 1) s)) (sym (c.add-h.ensures.0 ∙ ap (added c.loop-x.h) (c.from.ensures ∙ w ∙ ap f c.x-item.is))),
)

pub returns : goal.returns
returns g c = λ f e.
    let s = c.args.s.now in
    let h : length s ≤ c.loop-x.x-index = omega arith in
    c.sum.ensures ∙ ap summed (sym (c.loop-x.invariant.1 f e ∙ lanes-done f s c.loop-x.x-index c.loop-x.h h))
