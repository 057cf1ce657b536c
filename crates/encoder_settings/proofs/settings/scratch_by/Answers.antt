-- `encoder_settings::settings::scratch_by` meets its contract. Assumes nothing.
use Prim.Native.Nat.{ℕ, zero, suc, ◌*◌, ◌≤◌}
use native.Mathlib.Nat.{mul-le-mul, suc-mul}
use native.Mathlib.Omega.{arith}
use borrow.Author.Tests.{leb-true}
use Rattle.encoder_settings.proofs.settings.scratch_by.Goals as goal

-- a square is not below its side
square_le : (t : ℕ) → t ≤ t * t
square_le zero = omega arith
square_le (suc t) = omega (arith, suc-mul t (suc t))

pub scratch_needed-n-requires : goal.scratch_needed-n-requires
scratch_needed-n-requires c = c.requires.counted

pub overflow_mul-result : goal.overflow_mul-result
overflow_mul-result c =
    let few : (let t = c.args.t in (t * t ≤ 4096) × (t ≤ t * t)) = let t = c.args.t in
    let l : t ≤ 64 = leb-true t 64 (rw c.in-Plain.is at c.requires.t_value) in
    (mul-le-mul l l, square_le t) in
    omega (arith, few)

pub overflow_sub-result : goal.overflow_sub-result
overflow_sub-result c =
    let few : (let t = c.args.t in (t * t ≤ 4096) × (t ≤ t * t)) = let t = c.args.t in
    let l : t ≤ 64 = leb-true t 64 (rw c.in-Plain.is at c.requires.t_value) in
    (mul-le-mul l l, square_le t) in
    omega (arith, few)

pub overflow_add-result : goal.overflow_add-result
overflow_add-result c =
    let few : (let t = c.args.t in (t * t ≤ 4096) × (t ≤ t * t)) = let t = c.args.t in
    let l : t ≤ 64 = leb-true t 64 (rw c.in-Plain.is at c.requires.t_value) in
    (mul-le-mul l l, square_le t) in
    omega (arith, few, c.scratch_needed-n.ensures, c.requires.counted)

pub returns-in-Plain : goal.returns-in-Plain
returns-in-Plain c = rw (c.in-Plain.is, c.scratch_needed-n.ensures)

pub returns-in-RowWise : goal.returns-in-RowWise
returns-in-RowWise c = rw (c.in-RowWise.is, c.scratch_needed-n.ensures)
