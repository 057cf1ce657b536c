-- `pool::slice::slide` meets its contract: what is to be moved still, written over what was, is all of it moved. Assumes nothing.
use mathlib.Core.Path.{◌≡◌, refl, sym, ap, ◌∙◌}
use mathlib.Core.Bool.{true}
use mathlib.Core.List.{List, ◌∷◌}
use Prim.Native.Nat.{ℕ, suc, ◌+◌, ◌≤◌, ◌<◌}
use native.Mathlib.Numerals.{add-one}
use native.Mathlib.Omega.{arith}
use Rattle.std.proofs.Common.{rules}
use lib.ListN.{length, drop, get_or, set, length-set}
use lib.Seq.{get_or-set_other}
use lib.Ieee.{Float}
use Rattle.buffers.specs.Region.{region, put}
use Rattle.buffers.specs.inner.Apart.{after}
use Rattle.buffers.proofs.Regions.{put-append, put-nil, length-put, length-region, region-put}
use Rattle.pool_books.specs.declared.Held.{Held}
use Rattle.pool_books.specs.declared.Pool.{Pool}
use Rattle.pool_books.specs.Book.{held, entries, with, in_order, well_made, laid, joined}
use Rattle.pool_books.proofs.Orders.{made-says, length-entries, entry_at, entries-end, order-low, order-rest, order-at, order-down, length-laid}
use Rattle.pool.proofs.slice.slide.Invariants.{Slid}
use Rattle.pool.proofs.slice.slide.Goals as goal

slid-none : (p : Pool) (s : List Float) → well_made p (length s) ≡ true → Slid p p s s 0 0
slid-none p s m =
    record {
      passed = omega arith;
      same_len = refl;
      same_count = refl;
      long = refl;
      as_long = refl;
      ahead = λ k d l. refl;
      behind = λ x k l. refl;
      order = (made-says p (length s) m).order;
      books = refl;
      vectors = refl;
    }

module _ (p q : Pool) (s t : List Float) (at i : ℕ) (d : Held) (w : p.count ≤ length p.held) (l : i < p.count) (j : Slid p q s t at i) where
  next : drop i (entries p) ≡ get_or q.held i d ∷ drop (i + 1) (entries p)
  next =
      entry_at p i d w l ∙ ap (λ (h : Held). h ∷ drop (suc i) (entries p)) (sym (j.ahead i d (omega arith)))
      ∙ ap (λ (k : ℕ). get_or q.held i d ∷ drop k (entries p)) (sym (add-one i))

  ordered : in_order at (length s) (get_or q.held i d ∷ drop (i + 1) (entries p)) ≡ true
  ordered = ap (in_order at (length s)) (sym next) ∙ j.order

  -- the next one starts behind those moved, and ends inside
  low : at ≤ (get_or q.held i d).start
  low = order-low at (length s) (get_or q.held i d) (drop (i + 1) (entries p)) ordered

  high : (get_or q.held i d).start + (get_or q.held i d).len ≤ length s
  high = order-at _ (length s) (drop (i + 1) (entries p)) (order-rest at (length s) (get_or q.held i d) (drop (i + 1) (entries p)) ordered)

  slid-more : (u : List Float) → u ≡ put t at (region t (get_or q.held i d).start (get_or q.held i d).len)
      → Slid p (record { len = q.len; count = q.count; held = set q.held i (held (get_or q.held i d).key at (get_or q.held i d).len) }) s u (at + (get_or q.held i d).len) (i + 1)
  unfolding put laid joined
  slid-more u e =
      let h = get_or q.held i d in
      let new = held h.key at h.len in
      let rest = drop (i + 1) (entries p) in
      let r : region t h.start h.len ≡ region s h.start h.len = j.behind h.start h.len low in
      let n : length (region s h.start h.len) ≡ h.len = length-region s h.start h.len high in
      let v : u ≡ put t at (region s h.start h.len) = e ∙ ap (put t at) r in
      record {
        passed = omega arith;
        same_len = j.same_len;
        same_count = j.same_count;
        long = length-set q.held i new ∙ j.long;
        as_long = ap length v ∙ length-put t at (region s h.start h.len) ∙ j.as_long;
        ahead = λ k f m. get_or-set_other q.held i k new f (λ z. omega arith) ∙ j.ahead k f (omega arith);
        behind = λ x k m. ap (λ (y : List Float). region y x k) v ∙ region-put t at (region s h.start h.len) x k (after (omega arith)) ∙ j.behind x k (omega arith);
        order = order-down (at + h.len) (h.start + h.len) (length s) rest (omega (arith, low)) (order-rest at (length s) h rest ordered);
        books = ap (λ (k : ℕ). put (set q.held i new) k (laid (at + h.len) rest)) (add-one i) ∙ ap (λ (es : List Held). put q.held i (laid at es)) (sym next) ∙ j.books;
        vectors =
            ap (λ (y : List Float). put y (at + h.len) (joined s rest)) v
            ∙ put-append t at (region s h.start h.len) (joined s rest) (at + h.len) (ap (λ (k : ℕ). at + k) (sym n))
            ∙ ap (λ (es : List Held). put t at (joined s es)) (sym next) ∙ j.vectors;
      }

slid-all : (p q : Pool) (s t : List Float) (at i : ℕ) → p.count ≤ length p.held → p.count ≤ i → Slid p q s t at i
    → (q ≡ with p (laid 0 (entries p))) × (t ≡ put s 0 (joined s (entries p)))
unfolding laid joined
slid-all p q s t at i w m j =
    let e = entries-end p i w j.passed m in
    let b : q.held ≡ put p.held 0 (laid 0 (entries p)) = sym (put-nil q.held i) ∙ ap (λ (es : List Held). put q.held i (laid at es)) (sym e) ∙ j.books in
    let n : q.count ≡ length (laid 0 (entries p)) = j.same_count ∙ sym (length-laid 0 (entries p) ∙ length-entries p w) in
    let k = j.same_len in
    (same q (with p (laid 0 (entries p))) k n b, sym (put-nil t at) ∙ ap (λ (es : List Held). put t at (joined s es)) (sym e) ∙ j.vectors)
  where
    same : (a b : Pool) → a.len ≡ b.len → a.count ≡ b.count → a.held ≡ b.held → a ≡ b
    same a b x y z = λ i. record { len = x i; count = y i; held = z i }

pub loop-i-init : goal.loop-i-init
loop-i-init c = slid-none c.args.p.now c.args.s.now c.requires.0

pub offset_bounds-p-i : goal.offset_bounds-p-i
offset_bounds-p-i c =
    let few : c.args.p.now.count ≤ 64 = (made-says c.args.p.now (length c.args.s.now) c.requires.0).few in
    omega (arith, few)

pub bounds-p-i : goal.bounds-p-i
bounds-p-i c =
    let few : c.args.p.now.count ≤ 64 = (made-says c.args.p.now (length c.args.s.now) c.requires.0).few in
    omega (arith, few)

pub move_down-requires : goal.move_down-requires
move_down-requires c =
    let few : c.args.p.now.count ≤ 64 = (made-says c.args.p.now (length c.args.s.now) c.requires.0).few in
    let room : c.args.p.now.count ≤ length c.args.p.now.held = omega (arith, few, c.requires.1) in
    let t = c.loop-i-test.true in
    let h = high c.args.p.now c.loop-i.p c.args.s.now c.loop-i.s c.loop-i.to c.loop-i.i (held 0 0 0) (room) t c.loop-i.invariant in
    (low c.args.p.now c.loop-i.p c.args.s.now c.loop-i.s c.loop-i.to c.loop-i.i (held 0 0 0) (room) t c.loop-i.invariant, rw c.loop-i.invariant.as_long h)

pub offset_bounds-p-i-in-loop-i : goal.offset_bounds-p-i-in-loop-i
offset_bounds-p-i-in-loop-i c =
    let few : c.args.p.now.count ≤ 64 = (made-says c.args.p.now (length c.args.s.now) c.requires.0).few in
    omega (arith, few, c.loop-i-test.true)

pub bounds-p-i-in-loop-i : goal.bounds-p-i-in-loop-i
bounds-p-i-in-loop-i c =
    let few : c.args.p.now.count ≤ 64 = (made-says c.args.p.now (length c.args.s.now) c.requires.0).few in
    omega (arith, few, c.loop-i-test.true)

pub overflow_add-to : goal.overflow_add-to
overflow_add-to c =
    let few : c.args.p.now.count ≤ 64 = (made-says c.args.p.now (length c.args.s.now) c.requires.0).few in
    let room : c.args.p.now.count ≤ length c.args.p.now.held = omega (arith, few, c.requires.1) in
    let t = c.loop-i-test.true in
    omega (arith, low c.args.p.now c.loop-i.p c.args.s.now c.loop-i.s c.loop-i.to c.loop-i.i (held 0 0 0) (room) t c.loop-i.invariant, high c.args.p.now c.loop-i.p c.args.s.now c.loop-i.s c.loop-i.to c.loop-i.i (held 0 0 0) (room) t c.loop-i.invariant, c.well_formed.1.0.0)

pub loop-i-preserved : goal.loop-i-preserved
loop-i-preserved c =
    let few : c.args.p.now.count ≤ 64 = (made-says c.args.p.now (length c.args.s.now) c.requires.0).few in
    let room : c.args.p.now.count ≤ length c.args.p.now.held = omega (arith, few, c.requires.1) in
    slid-more c.args.p.now c.loop-i.p c.args.s.now c.loop-i.s c.loop-i.to c.loop-i.i (held 0 0 0) (room) c.loop-i-test.true c.loop-i.invariant c.move_down.new.s c.move_down.ensures

pub shape_of-s : goal.shape_of-s
shape_of-s c = c.loop-i.invariant.as_long

pub returns : goal.returns
returns c =
    let few : c.args.p.now.count ≤ 64 = (made-says c.args.p.now (length c.args.s.now) c.requires.0).few in
    let room : c.args.p.now.count ≤ length c.args.p.now.held = omega (arith, few, c.requires.1) in record {
      answer = (slid-all c.args.p.now c.loop-i.p c.args.s.now c.loop-i.s c.loop-i.to c.loop-i.i (room) c.loop-i-test.false c.loop-i.invariant).0;
      output = (slid-all c.args.p.now c.loop-i.p c.args.s.now c.loop-i.s c.loop-i.to c.loop-i.i (room) c.loop-i-test.false c.loop-i.invariant).1;
    }
