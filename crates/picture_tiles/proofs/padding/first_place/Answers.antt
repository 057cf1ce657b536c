-- `picture_tiles::padding::first_place` meets its contract. Assumes nothing.
use Prim.Native.Nat.{ℕ, ◌+◌, ◌*◌, ◌/◌, ◌%◌, ◌≤◌, ◌<◌}
use native.Mathlib.Nat.{div-mul-le_self, mul-le-mul_left}
use native.Mathlib.Omega.{arith}
use Rattle.picture_limits.proofs.Places.{times, square, place-in-patch}
use Rattle.picture_tiles.proofs.padding.first_place.Goals as goal

-- a quotient is no larger than what is divided
quotient_le : (n p : ℕ) → 0 < p → n / p ≤ n
quotient_le n p h = omega (arith, div-mul-le_self n p, mul-le-mul_left (n / p) h)

record Sizes (p gw y x : ℕ) : Type 0 where
  patch : p * p ≤ 1024
  line : y / p * gw ≤ 134217728
  column : x / p ≤ 65536
  floats : (y / p * gw + x / p) * (3 * (p * p)) ≤ 412518187008
  place : y % p * p + x % p < p * p

pub overflow_mul-result : goal.overflow_mul-result
overflow_mul-result c =
    let sizes : let a = c.args in Sizes c.args.p c.args.gw c.args.y c.args.x = let a = c.args in
    let q = square c.args.p c.requires.1 in
    let m = times (c.args.y / c.args.p) c.args.gw 65536 2048 (omega (arith, quotient_le c.args.y c.args.p c.requires.0, c.requires.3)) c.requires.2 in
    let n : c.args.x / c.args.p ≤ 65536 = omega (arith, quotient_le c.args.x c.args.p c.requires.0, c.requires.4) in
    record {
      patch = q;
      line = m;
      column = n;
      floats = times (c.args.y / c.args.p * c.args.gw + c.args.x / c.args.p) (3 * (c.args.p * c.args.p)) 134283264 3072 (omega (arith, m, n)) (omega (arith, q));
      place = place-in-patch c.args.p c.args.y c.args.x c.requires.0;
    } in
    let z = sizes in omega (arith, z.line)

pub overflow_add-result : goal.overflow_add-result
overflow_add-result c =
    let sizes : let a = c.args in Sizes c.args.p c.args.gw c.args.y c.args.x = let a = c.args in
    let q = square c.args.p c.requires.1 in
    let m = times (c.args.y / c.args.p) c.args.gw 65536 2048 (omega (arith, quotient_le c.args.y c.args.p c.requires.0, c.requires.3)) c.requires.2 in
    let n : c.args.x / c.args.p ≤ 65536 = omega (arith, quotient_le c.args.x c.args.p c.requires.0, c.requires.4) in
    record {
      patch = q;
      line = m;
      column = n;
      floats = times (c.args.y / c.args.p * c.args.gw + c.args.x / c.args.p) (3 * (c.args.p * c.args.p)) 134283264 3072 (omega (arith, m, n)) (omega (arith, q));
      place = place-in-patch c.args.p c.args.y c.args.x c.requires.0;
    } in
    let z = sizes in omega (arith, z.line, z.column)

pub overflow_mul-result-2 : goal.overflow_mul-result-2
overflow_mul-result-2 c =
    let sizes : let a = c.args in Sizes c.args.p c.args.gw c.args.y c.args.x = let a = c.args in
    let q = square c.args.p c.requires.1 in
    let m = times (c.args.y / c.args.p) c.args.gw 65536 2048 (omega (arith, quotient_le c.args.y c.args.p c.requires.0, c.requires.3)) c.requires.2 in
    let n : c.args.x / c.args.p ≤ 65536 = omega (arith, quotient_le c.args.x c.args.p c.requires.0, c.requires.4) in
    record {
      patch = q;
      line = m;
      column = n;
      floats = times (c.args.y / c.args.p * c.args.gw + c.args.x / c.args.p) (3 * (c.args.p * c.args.p)) 134283264 3072 (omega (arith, m, n)) (omega (arith, q));
      place = place-in-patch c.args.p c.args.y c.args.x c.requires.0;
    } in
    let z = sizes in omega (arith, z.patch)

pub overflow_mul-result-3 : goal.overflow_mul-result-3
overflow_mul-result-3 c =
    let sizes : let a = c.args in Sizes c.args.p c.args.gw c.args.y c.args.x = let a = c.args in
    let q = square c.args.p c.requires.1 in
    let m = times (c.args.y / c.args.p) c.args.gw 65536 2048 (omega (arith, quotient_le c.args.y c.args.p c.requires.0, c.requires.3)) c.requires.2 in
    let n : c.args.x / c.args.p ≤ 65536 = omega (arith, quotient_le c.args.x c.args.p c.requires.0, c.requires.4) in
    record {
      patch = q;
      line = m;
      column = n;
      floats = times (c.args.y / c.args.p * c.args.gw + c.args.x / c.args.p) (3 * (c.args.p * c.args.p)) 134283264 3072 (omega (arith, m, n)) (omega (arith, q));
      place = place-in-patch c.args.p c.args.y c.args.x c.requires.0;
    } in
    let z = sizes in omega (arith, z.patch)

pub overflow_mul-result-4 : goal.overflow_mul-result-4
overflow_mul-result-4 c =
    let sizes : let a = c.args in Sizes c.args.p c.args.gw c.args.y c.args.x = let a = c.args in
    let q = square c.args.p c.requires.1 in
    let m = times (c.args.y / c.args.p) c.args.gw 65536 2048 (omega (arith, quotient_le c.args.y c.args.p c.requires.0, c.requires.3)) c.requires.2 in
    let n : c.args.x / c.args.p ≤ 65536 = omega (arith, quotient_le c.args.x c.args.p c.requires.0, c.requires.4) in
    record {
      patch = q;
      line = m;
      column = n;
      floats = times (c.args.y / c.args.p * c.args.gw + c.args.x / c.args.p) (3 * (c.args.p * c.args.p)) 134283264 3072 (omega (arith, m, n)) (omega (arith, q));
      place = place-in-patch c.args.p c.args.y c.args.x c.requires.0;
    } in
    let z = sizes in omega (arith, z.floats)

pub overflow_mul-result-5 : goal.overflow_mul-result-5
overflow_mul-result-5 c =
    let sizes : let a = c.args in Sizes c.args.p c.args.gw c.args.y c.args.x = let a = c.args in
    let q = square c.args.p c.requires.1 in
    let m = times (c.args.y / c.args.p) c.args.gw 65536 2048 (omega (arith, quotient_le c.args.y c.args.p c.requires.0, c.requires.3)) c.requires.2 in
    let n : c.args.x / c.args.p ≤ 65536 = omega (arith, quotient_le c.args.x c.args.p c.requires.0, c.requires.4) in
    record {
      patch = q;
      line = m;
      column = n;
      floats = times (c.args.y / c.args.p * c.args.gw + c.args.x / c.args.p) (3 * (c.args.p * c.args.p)) 134283264 3072 (omega (arith, m, n)) (omega (arith, q));
      place = place-in-patch c.args.p c.args.y c.args.x c.requires.0;
    } in
    let z = sizes in omega (arith, z.place, z.patch)

pub overflow_add-result-2 : goal.overflow_add-result-2
overflow_add-result-2 c =
    let sizes : let a = c.args in Sizes c.args.p c.args.gw c.args.y c.args.x = let a = c.args in
    let q = square c.args.p c.requires.1 in
    let m = times (c.args.y / c.args.p) c.args.gw 65536 2048 (omega (arith, quotient_le c.args.y c.args.p c.requires.0, c.requires.3)) c.requires.2 in
    let n : c.args.x / c.args.p ≤ 65536 = omega (arith, quotient_le c.args.x c.args.p c.requires.0, c.requires.4) in
    record {
      patch = q;
      line = m;
      column = n;
      floats = times (c.args.y / c.args.p * c.args.gw + c.args.x / c.args.p) (3 * (c.args.p * c.args.p)) 134283264 3072 (omega (arith, m, n)) (omega (arith, q));
      place = place-in-patch c.args.p c.args.y c.args.x c.requires.0;
    } in
    let z = sizes in omega (arith, z.place, z.patch)

pub overflow_add-result-3 : goal.overflow_add-result-3
overflow_add-result-3 c =
    let sizes : let a = c.args in Sizes c.args.p c.args.gw c.args.y c.args.x = let a = c.args in
    let q = square c.args.p c.requires.1 in
    let m = times (c.args.y / c.args.p) c.args.gw 65536 2048 (omega (arith, quotient_le c.args.y c.args.p c.requires.0, c.requires.3)) c.requires.2 in
    let n : c.args.x / c.args.p ≤ 65536 = omega (arith, quotient_le c.args.x c.args.p c.requires.0, c.requires.4) in
    record {
      patch = q;
      line = m;
      column = n;
      floats = times (c.args.y / c.args.p * c.args.gw + c.args.x / c.args.p) (3 * (c.args.p * c.args.p)) 134283264 3072 (omega (arith, m, n)) (omega (arith, q));
      place = place-in-patch c.args.p c.args.y c.args.x c.requires.0;
    } in
    let z = sizes in omega (arith, z.floats, z.place, z.patch)

pub returns : goal.returns
returns c = omega arith
