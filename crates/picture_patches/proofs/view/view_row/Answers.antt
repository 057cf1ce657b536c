-- `picture_patches::view::view_row` meets its contract. Assumes nothing.
use mathlib.Core.Path.{ap, ◌∙◌}
use Prim.Native.Nat.{ℕ, ◌+◌, ◌*◌, ◌-◌, ◌≤◌}
use native.Mathlib.Omega.{arith}
use Rattle.buffers.specs.Rows.{tab}
use Rattle.buffers.specs.Region.{put}
use Rattle.picture_samples.specs.Samples.{value, entry}
use Rattle.picture_limits.proofs.Places.{times}
use Rattle.picture_patches.proofs.Views.{own-le, view_in, view-wrote}
use Rattle.picture_patches.proofs.view.view_row.Goals as goal

-- what the row is read from lies below these
record Sizes (top left r x w : ℕ) : Type 0 where
  row : top + r ≤ 10240
  column : left + x ≤ 10240
  place : (top + r) * w ≤ 83886080

pub overflow_add-from : goal.overflow_add-from
overflow_add-from c =
    let sizes : let f = c.args.f in Sizes c.args.v.top c.args.v.left c.args.r c.args.x c.args.f.w = let f = c.args.f in
    let i = c.requires.2 in
    let u : c.args.v.top + c.args.r ≤ 10240 = omega (arith, i.0, c.requires.0.tall-high, c.requires.0.target-tall, c.requires.3) in
    let v : c.args.v.left + c.args.x ≤ 10240 = omega (arith, i.1, c.requires.0.wide_high, c.requires.0.target-wide, c.requires.4) in
    record {
      row = u;
      column = v;
      place = times (c.args.v.top + c.args.r) c.args.f.w 10240 8192 u c.requires.0.wide_high;
    } in
    let z = sizes in omega (arith, z.row)

pub overflow_mul-from : goal.overflow_mul-from
overflow_mul-from c =
    let sizes : let f = c.args.f in Sizes c.args.v.top c.args.v.left c.args.r c.args.x c.args.f.w = let f = c.args.f in
    let i = c.requires.2 in
    let u : c.args.v.top + c.args.r ≤ 10240 = omega (arith, i.0, c.requires.0.tall-high, c.requires.0.target-tall, c.requires.3) in
    let v : c.args.v.left + c.args.x ≤ 10240 = omega (arith, i.1, c.requires.0.wide_high, c.requires.0.target-wide, c.requires.4) in
    record {
      row = u;
      column = v;
      place = times (c.args.v.top + c.args.r) c.args.f.w 10240 8192 u c.requires.0.wide_high;
    } in
    let z = sizes in omega (arith, z.place)

pub overflow_add-from-2 : goal.overflow_add-from-2
overflow_add-from-2 c =
    let sizes : let f = c.args.f in Sizes c.args.v.top c.args.v.left c.args.r c.args.x c.args.f.w = let f = c.args.f in
    let i = c.requires.2 in
    let u : c.args.v.top + c.args.r ≤ 10240 = omega (arith, i.0, c.requires.0.tall-high, c.requires.0.target-tall, c.requires.3) in
    let v : c.args.v.left + c.args.x ≤ 10240 = omega (arith, i.1, c.requires.0.wide_high, c.requires.0.target-wide, c.requires.4) in
    record {
      row = u;
      column = v;
      place = times (c.args.v.top + c.args.r) c.args.f.w 10240 8192 u c.requires.0.wide_high;
    } in
    let z = sizes in omega (arith, z.column)

pub overflow_add-from-3 : goal.overflow_add-from-3
overflow_add-from-3 c =
    let sizes : let f = c.args.f in Sizes c.args.v.top c.args.v.left c.args.r c.args.x c.args.f.w = let f = c.args.f in
    let i = c.requires.2 in
    let u : c.args.v.top + c.args.r ≤ 10240 = omega (arith, i.0, c.requires.0.tall-high, c.requires.0.target-tall, c.requires.3) in
    let v : c.args.v.left + c.args.x ≤ 10240 = omega (arith, i.1, c.requires.0.wide_high, c.requires.0.target-wide, c.requires.4) in
    record {
      row = u;
      column = v;
      place = times (c.args.v.top + c.args.r) c.args.f.w 10240 8192 u c.requires.0.wide_high;
    } in
    let z = sizes in omega (arith, z.place, z.column)

pub overflow_mul-from-2 : goal.overflow_mul-from-2
overflow_mul-from-2 c =
    let sizes : let f = c.args.f in Sizes c.args.v.top c.args.v.left c.args.r c.args.x c.args.f.w = let f = c.args.f in
    let i = c.requires.2 in
    let u : c.args.v.top + c.args.r ≤ 10240 = omega (arith, i.0, c.requires.0.tall-high, c.requires.0.target-tall, c.requires.3) in
    let v : c.args.v.left + c.args.x ≤ 10240 = omega (arith, i.1, c.requires.0.wide_high, c.requires.0.target-wide, c.requires.4) in
    record {
      row = u;
      column = v;
      place = times (c.args.v.top + c.args.r) c.args.f.w 10240 8192 u c.requires.0.wide_high;
    } in
    let z = sizes in omega (arith, z.place, z.column)

pub overflow_add-from-4 : goal.overflow_add-from-4
overflow_add-from-4 c =
    let sizes : let f = c.args.f in Sizes c.args.v.top c.args.v.left c.args.r c.args.x c.args.f.w = let f = c.args.f in
    let i = c.requires.2 in
    let u : c.args.v.top + c.args.r ≤ 10240 = omega (arith, i.0, c.requires.0.tall-high, c.requires.0.target-tall, c.requires.3) in
    let v : c.args.v.left + c.args.x ≤ 10240 = omega (arith, i.1, c.requires.0.wide_high, c.requires.0.target-wide, c.requires.4) in
    record {
      row = u;
      column = v;
      place = times (c.args.v.top + c.args.r) c.args.f.w 10240 8192 u c.requires.0.wide_high;
    } in
    let z = sizes in omega (arith, z.place, z.column, c.requires.5)

pub plain_row-requires : goal.plain_row-requires
plain_row-requires c =
    let i = c.requires.2 in
    let e = c.own_columns-n.ensures in (
      view_in c.args.rgb.now c.args.f.w c.args.v c.args.f.p c.args.r c.args.x c.args.c _ e c.args.f.h c.requires.0.bytes i.0 i.1 c.requires.5,
      omega (arith, c.requires.6, e, own-le c.args.v c.args.f.p c.args.r c.args.x),
      c.requires.5,
      c.requires.1,
    )

pub overflow_sub-p : goal.overflow_sub-p
overflow_sub-p c =
    omega (arith, c.own_columns-n.ensures, own-le c.args.v c.args.f.p c.args.r c.args.x)

pub overflow_add-at : goal.overflow_add-at
overflow_add-at c =
    omega (arith, c.requires.6, c.well_formed, c.own_columns-n.ensures, own-le c.args.v c.args.f.p c.args.r c.args.x)

pub zero_row-requires : goal.zero_row-requires
zero_row-requires c = (
  omega (arith, c.requires.6, c.own_columns-n.ensures, own-le c.args.v c.args.f.p c.args.r c.args.x, c.plain_row.auto.out),
  c.requires.5,
  c.requires.1,
)

pub returns : goal.returns
returns c =
    let k = entry c.args.t.now in
    c.zero_row.ensures
    ∙ ap (λ l. put l (c.args.at + c.own_columns-n.result) (tab (c.args.f.p - c.own_columns-n.result) (λ _. value k c.args.c 0))) c.plain_row.ensures
    ∙ view-wrote c.args.rgb.now c.args.f.w c.args.v c.args.f.p c.args.r c.args.x c.args.c c.own_columns-n.result c.own_columns-n.ensures k c.args.out.now c.args.at
