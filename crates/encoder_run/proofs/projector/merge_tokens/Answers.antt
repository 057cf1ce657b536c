-- `encoder_run::projector::merge_tokens` meets its contract. Assumes nothing.
use mathlib.Core.Path.{ap, ◌∙◌}
use Prim.Native.Nat.{◌+◌, ◌*◌, ◌<◌}
use native.Mathlib.Omega.{arith}
use borrow.Author.Rules.{rules}
use lib.ListN.{length, length-set}
use Rattle.buffers.specs.Region.{region, put}
use Rattle.buffers.specs.Rows.{tab}
use Rattle.encoder_run.specs.inner.Source.{merged_first}
use Rattle.encoder_run.proofs.Merges.{source-lt, merge-turn, merge-flat}
use Rattle.encoder_run.proofs.projector.merge_tokens.Goals as goal

pub loop-p-init : goal.loop-p-init
unfolding put tab merged_first
loop-p-init c = search rules

pub source-i-requires : goal.source-i-requires
source-i-requires c = c.requires.each c.loop-p.p c.loop-p-test.true

pub overflow_add-s : goal.overflow_add-s
overflow_add-s c =
    let inside : c.args.x + c.source-i.result < length c.loop-p.s = let p = c.loop-p.p in
    omega (arith, c.source-i.ensures, source-lt p c.args.merge c.args.gh c.args.gw c.args.dim (c.requires.each p c.loop-p-test.true)) in
    omega (arith, inside)

pub offset_bounds-s-x : goal.offset_bounds-s-x
offset_bounds-s-x c =
    let inside : c.args.x + c.source-i.result < length c.loop-p.s = let p = c.loop-p.p in
    omega (arith, c.source-i.ensures, source-lt p c.args.merge c.args.gh c.args.gw c.args.dim (c.requires.each p c.loop-p-test.true)) in
    omega (arith, inside)

pub bounds-s-x : goal.bounds-s-x
bounds-s-x c =
    let inside : c.args.x + c.source-i.result < length c.loop-p.s = let p = c.loop-p.p in
    omega (arith, c.source-i.ensures, source-lt p c.args.merge c.args.gh c.args.gw c.args.dim (c.requires.each p c.loop-p-test.true)) in
    omega (arith, inside)

pub loop-p-preserved : goal.loop-p-preserved
loop-p-preserved c = (
  omega arith,
  simp length-set c.loop-p.invariant.1,
  cc (c.loop-p.invariant.2, c.source-i.ensures, merge-turn c.args.s.now c.args.x c.args.y c.args.total c.args.merge c.args.gh c.args.gw c.args.dim c.loop-p.p c.requires (omega arith)),
)

pub shape_of-s : goal.shape_of-s
shape_of-s c = c.loop-p.invariant.1

pub returns : goal.returns
returns c =
    let x = region c.args.s.now c.args.x (c.args.gh * c.args.gw * c.args.dim) in
    c.loop-p.invariant.2
    ∙ ap (λ n. put c.args.s.now c.args.y (merged_first n c.args.merge c.args.gw c.args.dim x)) (omega (arith, c.requires.total-is))
    ∙ ap (put c.args.s.now c.args.y) (merge-flat c.args.merge c.args.gw c.args.dim c.requires.some c.requires.wide c.requires.channels c.args.gh x)
