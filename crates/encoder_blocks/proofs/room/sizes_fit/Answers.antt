-- `encoder_blocks::room::sizes_fit` meets its contract. Assumes nothing.
use mathlib.Core.Path.{◌≡◌, sym, ◌∙◌}
use mathlib.Core.Bool.{true}
use Prim.Native.Nat.{◌+◌, ◌*◌, ◌≤◌}
use native.Mathlib.Nat.{mul-le-mul}
use native.Mathlib.Omega.{arith}
use borrow.Author.Tests.{le-leb, lt-leb, leb-true}
use Rattle.buffers.specs.inner.Room.{inside}
use Rattle.encoder_blocks.specs.inner.Room.{sizes_fit}
use Rattle.encoder_blocks.proofs.room.sizes_fit.Goals as goal

pub returns-then-z-gt256 : goal.returns-then-z-gt256
unfolding sizes_fit
returns-then-z-gt256 c = simp (lt-leb c.args.z.head_dim 256 c.if-z-gt256.true)

pub returns-then-z-gt2048 : goal.returns-then-z-gt2048
unfolding sizes_fit
returns-then-z-gt2048 c = simp (le-leb c.args.z.head_dim 256 c.if-z-gt256.false, lt-leb c.args.z.side 2048 c.if-z-gt2048.true)

pub returns-then-z : goal.returns-then-z
unfolding sizes_fit
returns-then-z c = simp (le-leb c.args.z.head_dim 256 c.if-z-gt256.false, le-leb c.args.z.side 2048 c.if-z-gt2048.false, lt-leb c.args.z.grid_w c.args.z.side c.if-z.true)

pub returns-then-not-rows_inside : goal.returns-then-not-rows_inside
unfolding sizes_fit
returns-then-not-rows_inside c =
    let e = sym c.rows_inside.ensures ∙ c.if-not-rows_inside.true in
    rw (le-leb c.args.z.head_dim 256 c.if-z-gt256.false, le-leb c.args.z.side 2048 c.if-z-gt2048.false, le-leb c.args.z.grid_w c.args.z.side c.if-z.false, e)

pub overflow_mul-whole : goal.overflow_mul-whole
overflow_mul-whole c =
    let held : let z = c.args.z in inside 2048 0 (c.args.z.heads * c.args.z.head_dim) ≡ true = sym c.rows_inside.ensures ∙ c.if-not-rows_inside.false in
    let z = c.args.z in
    let p : 0 + c.args.z.heads * c.args.z.head_dim ≤ 2048 = leb-true (0 + c.args.z.heads * c.args.z.head_dim) 2048 (held) in
    omega (arith, p)

pub overflow_mul-few : goal.overflow_mul-few
overflow_mul-few c =
    let s : c.args.z.side ≤ 2048 = c.if-z-gt2048.false in
    let g : c.args.z.grid_w ≤ 2048 = omega (arith, s, c.if-z.false) in
    let p : c.args.z.side * c.args.z.grid_w ≤ 4194304 = mul-le-mul s g in
    omega (arith, p)

pub returns : goal.returns
unfolding sizes_fit
returns c =
    let held : let z = c.args.z in inside 2048 0 (c.args.z.heads * c.args.z.head_dim) ≡ true = sym c.rows_inside.ensures ∙ c.if-not-rows_inside.false in
    let z = c.args.z in
    rw (
      le-leb c.args.z.head_dim 256 c.if-z-gt256.false,
      le-leb c.args.z.side 2048 c.if-z-gt2048.false,
      le-leb c.args.z.grid_w c.args.z.side c.if-z.false,
      held,
    )
