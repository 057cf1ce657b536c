-- `pool::add_new` meets its contract: each test is one of the definition's, and the slide is where its room does not suffice. Assumes nothing.
use mathlib.Core.Path.{◌≡◌, refl, ap, ◌∙◌}
use Prim.Native.Nat.{◌+◌, ◌≤◌, ◌<◌}
use native.Mathlib.Omega.{arith}
use lib.ListN.{length}
use Rattle.std.proofs.Common.{rules}
use Rattle.picture_limits.specs.declared.Refusal as F
use Rattle.pool_books.specs.declared.Pool.{Pool}
use Rattle.pool_books.specs.Book.{entries}
use Rattle.pool_books.proofs.Orders.{Made, made-says, order-end, order-floats, length-entries, length-laid}
use Rattle.pool.proofs.Adds.{add-refused, add_none, add-full, add_done, full-says, room_says, room-is, done-behind, done-slid}
use Rattle.pool.proofs.add_new.Goals as goal

pub returns-then-n-eq0 : goal.returns-then-n-eq0
returns-then-n-eq0 c = record {
  answer = (add-refused c.args.p.now c.args.s.now c.args.key c.args.vectors.now F.Refusal.NoVectors _ refl
      (add_none c.args.p.now c.args.s.now c.args.key c.args.vectors.now c.requires.0 c.requires.3 c.if-n-eq0.true)).0;
  output = (add-refused c.args.p.now c.args.s.now c.args.key c.args.vectors.now F.Refusal.NoVectors _ refl
      (add_none c.args.p.now c.args.s.now c.args.key c.args.vectors.now c.requires.0 c.requires.3 c.if-n-eq0.true)).1;
}

pub overflow_sub-s : goal.overflow_sub-s
overflow_sub-s c =
    let made : Made c.args.p.now (length c.args.s.now) = made-says c.args.p.now (length c.args.s.now) c.requires.0 in
    let ends : (c.args.end ≤ length c.args.s.now) × (c.args.sum ≤ c.args.end) = let m = made in
    let es = entries c.args.p.now in
    let n = length c.args.s.now in
    (omega (arith, c.requires.2, order-end 0 n es m.order), omega (arith, c.requires.1, c.requires.2, order-floats 0 n es m.order)) in
    omega (arith, ends)

pub returns-then-p-s : goal.returns-then-p-s
returns-then-p-s c =
    let made : Made c.args.p.now (length c.args.s.now) = made-says c.args.p.now (length c.args.s.now) c.requires.0 in
    let ends : (c.args.end ≤ length c.args.s.now) × (c.args.sum ≤ c.args.end) = let m = made in
    let es = entries c.args.p.now in
    let n = length c.args.s.now in
    (omega (arith, c.requires.2, order-end 0 n es m.order), omega (arith, c.requires.1, c.requires.2, order-floats 0 n es m.order)) in record {
      answer = (add-refused c.args.p.now c.args.s.now c.args.key c.args.vectors.now F.Refusal.PoolFull _ refl
          (add-full c.args.p.now c.args.s.now c.args.key c.args.vectors.now c.requires.0 c.requires.3 c.if-n-eq0.false
          (rw c.requires.1 at (full-says c.args.p.now.count c.args.sum (length c.args.s.now) (length c.args.vectors.now) (omega (arith, ends)) c.if-p-s.true)))).0;
      output = (add-refused c.args.p.now c.args.s.now c.args.key c.args.vectors.now F.Refusal.PoolFull _ refl
          (add-full c.args.p.now c.args.s.now c.args.key c.args.vectors.now c.requires.0 c.requires.3 c.if-n-eq0.false
          (rw c.requires.1 at (full-says c.args.p.now.count c.args.sum (length c.args.s.now) (length c.args.vectors.now) (omega (arith, ends)) c.if-p-s.true)))).1;
    }

pub overflow_sub-s-2 : goal.overflow_sub-s-2
overflow_sub-s-2 c =
    let made : Made c.args.p.now (length c.args.s.now) = made-says c.args.p.now (length c.args.s.now) c.requires.0 in
    let ends : (c.args.end ≤ length c.args.s.now) × (c.args.sum ≤ c.args.end) = let m = made in
    let es = entries c.args.p.now in
    let n = length c.args.s.now in
    (omega (arith, c.requires.2, order-end 0 n es m.order), omega (arith, c.requires.1, c.requires.2, order-floats 0 n es m.order)) in
    omega (arith, ends)

pub store-requires : goal.store-requires
store-requires c =
    let made : Made c.args.p.now (length c.args.s.now) = made-says c.args.p.now (length c.args.s.now) c.requires.0 in
    let ends : (c.args.end ≤ length c.args.s.now) × (c.args.sum ≤ c.args.end) = let m = made in
    let es = entries c.args.p.now in
    let n = length c.args.s.now in
    (omega (arith, c.requires.2, order-end 0 n es m.order), omega (arith, c.requires.1, c.requires.2, order-floats 0 n es m.order)) in
    let fits : (c.args.p.now.count < 64) × (c.args.sum + length c.args.vectors.now ≤ length c.args.s.now) = room_says c.args.p.now.count c.args.sum (length c.args.s.now) (length c.args.vectors.now) (omega (arith, ends)) c.if-p-s.false in
    (fits.0, omega (arith, ends, c.if-n-s.true))

pub returns-then-n-s : goal.returns-then-n-s
returns-then-n-s c =
    let made : Made c.args.p.now (length c.args.s.now) = made-says c.args.p.now (length c.args.s.now) c.requires.0 in
    let ends : (c.args.end ≤ length c.args.s.now) × (c.args.sum ≤ c.args.end) = let m = made in
    let es = entries c.args.p.now in
    let n = length c.args.s.now in
    (omega (arith, c.requires.2, order-end 0 n es m.order), omega (arith, c.requires.1, c.requires.2, order-floats 0 n es m.order)) in
    let fits : let a = c.args in (c.args.p.now.count < 64) × (c.args.sum + length c.args.vectors.now ≤ length c.args.s.now) = let k = c.before.before.before.before.before.before.before.before.before.before in
    room_says c.args.p.now.count c.args.sum (length c.args.s.now) (length c.args.vectors.now) (omega (arith, ends)) c.if-p-s.false in
    let a = c.args in record {
      answer = (done-behind c.args.p.now c.args.s.now c.args.key c.args.vectors.now c.args.end c.store.new.p c.store.new.s c.requires.2 (omega (arith, ends, c.if-n-s.true)) c.store.ensures.answer c.store.ensures.output
          (add_done c.args.p.now c.args.s.now c.args.key c.args.vectors.now c.requires.0 c.requires.3 c.if-n-eq0.false
          (rw c.requires.1 at (room-is c.args.p.now.count c.args.sum (length c.args.s.now) (length c.args.vectors.now) fits.0 fits.1)))).0;
      output = (done-behind c.args.p.now c.args.s.now c.args.key c.args.vectors.now c.args.end c.store.new.p c.store.new.s c.requires.2 (omega (arith, ends, c.if-n-s.true)) c.store.ensures.answer c.store.ensures.output
          (add_done c.args.p.now c.args.s.now c.args.key c.args.vectors.now c.requires.0 c.requires.3 c.if-n-eq0.false
          (rw c.requires.1 at (room-is c.args.p.now.count c.args.sum (length c.args.s.now) (length c.args.vectors.now) fits.0 fits.1)))).1;
    }

pub store-requires-2 : goal.store-requires-2
store-requires-2 c =
    let made : Made c.args.p.now (length c.args.s.now) = made-says c.args.p.now (length c.args.s.now) c.requires.0 in
    let room : c.args.p.now.count ≤ length c.args.p.now.held = omega (arith, made.few, c.requires.4) in
    let ends : (c.args.end ≤ length c.args.s.now) × (c.args.sum ≤ c.args.end) = let m = made in
    let es = entries c.args.p.now in
    let n = length c.args.s.now in
    (omega (arith, c.requires.2, order-end 0 n es m.order), omega (arith, c.requires.1, c.requires.2, order-floats 0 n es m.order)) in
    let fits : let a = c.args in (c.args.p.now.count < 64) × (c.args.sum + length c.args.vectors.now ≤ length c.args.s.now) = let k = c.before.before.before.before.before.before.before.before.before.before.before in
    room_says c.args.p.now.count c.args.sum (length c.args.s.now) (length c.args.vectors.now) (omega (arith, ends)) c.if-p-s.false in
    let a = c.args in
    let n : c.slide.new.p.count ≡ c.args.p.now.count = ap (λ (q : Pool). q.count) c.slide.ensures.answer ∙ length-laid 0 (entries c.args.p.now) ∙ length-entries c.args.p.now (room) in
    (omega (arith, n, fits.0), omega (arith, c.slide.auto.s, fits.1))

pub returns : goal.returns
returns c =
    let made : Made c.args.p.now (length c.args.s.now) = made-says c.args.p.now (length c.args.s.now) c.requires.0 in
    let room : c.args.p.now.count ≤ length c.args.p.now.held = omega (arith, made.few, c.requires.4) in
    let ends : (c.args.end ≤ length c.args.s.now) × (c.args.sum ≤ c.args.end) = let m = made in
    let es = entries c.args.p.now in
    let n = length c.args.s.now in
    (omega (arith, c.requires.2, order-end 0 n es m.order), omega (arith, c.requires.1, c.requires.2, order-floats 0 n es m.order)) in
    let fits : let a = c.args in (c.args.p.now.count < 64) × (c.args.sum + length c.args.vectors.now ≤ length c.args.s.now) = let k = c.before.before.before.before.before.before.before.before.before.before.before.before.before.before in
    room_says c.args.p.now.count c.args.sum (length c.args.s.now) (length c.args.vectors.now) (omega (arith, ends)) c.if-p-s.false in
    let a = c.args in record {
      answer = (done-slid c.args.p.now c.args.s.now c.args.key c.args.vectors.now c.args.sum c.slide.new.p c.store-2.new.p c.slide.new.s c.store-2.new.s c.requires.1
          (omega (arith, length-entries c.args.p.now (room), room)) (omega (arith, ends, c.requires.2, c.if-n-s.false)) c.slide.ensures.answer c.slide.ensures.output c.store-2.ensures.answer c.store-2.ensures.output
          (add_done c.args.p.now c.args.s.now c.args.key c.args.vectors.now c.requires.0 c.requires.3 c.if-n-eq0.false
          (rw c.requires.1 at (room-is c.args.p.now.count c.args.sum (length c.args.s.now) (length c.args.vectors.now) fits.0 fits.1)))).0;
      output = (done-slid c.args.p.now c.args.s.now c.args.key c.args.vectors.now c.args.sum c.slide.new.p c.store-2.new.p c.slide.new.s c.store-2.new.s c.requires.1
          (omega (arith, length-entries c.args.p.now (room), room)) (omega (arith, ends, c.requires.2, c.if-n-s.false)) c.slide.ensures.answer c.slide.ensures.output c.store-2.ensures.answer c.store-2.ensures.output
          (add_done c.args.p.now c.args.s.now c.args.key c.args.vectors.now c.requires.0 c.requires.3 c.if-n-eq0.false
          (rw c.requires.1 at (room-is c.args.p.now.count c.args.sum (length c.args.s.now) (length c.args.vectors.now) fits.0 fits.1)))).1;
    }
