-- `pool::keys::leave_out` meets its contract: what is still to be moved, written over what was, is what is left. Assumes nothing.
use mathlib.Core.Path.{◌≡◌, refl, sym, ap, ◌∙◌}
use mathlib.Core.List.{List, [], ◌∷◌}
use Prim.Native.Nat.{ℕ, suc, ◌+◌, ◌-◌, ◌≤◌, ◌<◌}
use native.Mathlib.Nat.{zero-add}
use native.Mathlib.Numerals.{add-one}
use native.Mathlib.Omega.{arith}
use Rattle.std.proofs.Common.{rules}
use lib.ListN.{length, take, drop, get_or, set, length-set, length-append, length-drop}
use lib.Seq.{take-take, length-take-le, get_or-set_other}
use Rattle.buffers.specs.Region.{put}
use Rattle.buffers.proofs.Regions.{put-append, put-nil}
use Rattle.pool_books.specs.declared.Held.{Held}
use Rattle.pool_books.specs.declared.Pool.{Pool}
use Rattle.pool_books.specs.Book.{entries, with}
use Rattle.pool_books.specs.inner.Place.{left_out}
use Rattle.pool_books.proofs.Orders.{length-entries, entry_at, entries-end, put-take}
use Rattle.pool.proofs.keys.leave_out.Invariants.{Left}
use Rattle.pool.proofs.keys.leave_out.Goals as goal

left-none : (p : Pool) (i last : ℕ) → p.count ≤ length p.held → i < p.count → last ≡ p.count - 1 → Left p p i i last
left-none p i last w l e =
    let es = entries p in
    let a : take i es ≡ take i p.held = take-take i p.count p.held (omega arith) in
    let b : put p.held 0 (take i es) ≡ p.held = ap (put p.held 0) a ∙ put-take p.held i (omega arith) in
    let m : i ≡ 0 + length (take i es) = sym (zero-add (length (take i es)) ∙ length-take-le i es (omega (arith, length-entries p w))) in
    record {
      low = omega arith;
      high = omega arith;
      same_len = refl;
      long = refl;
      ahead = λ k d h. refl;
      left = ap (λ (h : List Held). put h i (drop (suc i) es)) (sym b) ∙ put-append p.held 0 (take i es) (drop (suc i) es) i m;
    }

left-more : (p q : Pool) (i j last : ℕ) (d : Held) → p.count ≤ length p.held → last ≡ p.count - 1 → j < last → Left p q i j last
    → Left p (record { len = q.len; count = q.count; held = set q.held j (get_or q.held (j + 1) d) }) i (j + 1) last
unfolding put
left-more p q i j last d w e l r =
    let x = get_or q.held (j + 1) d in
    let a : x ≡ get_or p.held (suc j) d = r.ahead (j + 1) d (omega arith) ∙ ap (λ (k : ℕ). get_or p.held k d) (add-one j) in
    let b : drop (suc j) (entries p) ≡ x ∷ drop (suc (j + 1)) (entries p) =
    entry_at p (suc j) d w (omega arith)
    ∙ ap (λ (h : Held). h ∷ drop (suc (suc j)) (entries p)) (sym a)
    ∙ ap (λ (k : ℕ). x ∷ drop (suc k) (entries p)) (sym (add-one j)) in
    record {
      low = omega (arith, r.low);
      high = omega arith;
      same_len = r.same_len;
      long = length-set q.held j x ∙ r.long;
      ahead = λ k f h. get_or-set_other q.held j k x f (λ z. omega arith) ∙ r.ahead k f (omega arith);
      left = ap (λ (k : ℕ). put (set q.held j x) k (drop (suc (j + 1)) (entries p))) (add-one j) ∙ ap (put q.held j) (sym b) ∙ r.left;
    }

left-all : (p q : Pool) (i j last : ℕ) → p.count ≤ length p.held → i < p.count → last ≡ p.count - 1 → last ≤ j → Left p q i j last
    → record { len = q.len; count = last; held = q.held } ≡ with p (left_out i (entries p))
left-all p q i j last w l e m r =
    let es = entries p in
    let n = length-entries p w in
    let a : drop (suc j) es ≡ [] = entries-end p (suc j) w (omega (arith, r.high)) (omega arith) in
    let b : q.held ≡ put p.held 0 (left_out i es) = sym (put-nil q.held j) ∙ ap (put q.held j) (sym a) ∙ r.left in
    let c : last ≡ length (left_out i es) =
    sym (length-append (take i es) (drop (suc i) es) ∙ omega (arith, length-take-le i es (omega arith), length-drop (suc i) es, n, e)) in
    let s = r.same_len in
    cc

pub loop-j-init : goal.loop-j-init
loop-j-init c =
    let room : c.args.p.now.count ≤ length c.args.p.now.held = omega (arith, c.requires.0, c.requires.2) in
    left-none c.args.p.now c.args.i (c.args.p.now.count - 1) (room) c.requires.1 refl

pub loop-j-preserved : goal.loop-j-preserved
loop-j-preserved c =
    let room : c.args.p.now.count ≤ length c.args.p.now.held = omega (arith, c.requires.0, c.requires.2) in
    left-more c.args.p.now c.loop-j.p c.args.i c.loop-j.j (c.args.p.now.count - 1) _ (room) refl c.loop-j-test.true c.loop-j.invariant

pub returns : goal.returns
returns c =
    let room : c.args.p.now.count ≤ length c.args.p.now.held = omega (arith, c.requires.0, c.requires.2) in
    left-all c.args.p.now c.loop-j.p c.args.i c.loop-j.j (c.args.p.now.count - 1) (room) c.requires.1 refl c.loop-j-test.false c.loop-j.invariant
