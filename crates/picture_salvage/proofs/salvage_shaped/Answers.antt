-- `picture_salvage::salvage_shaped` meets its contract: the room and then the list decide, and nothing is written before. Assumes nothing.
use mathlib.Core.Path.{◌≡◌, refl, sym, ap, ◌∙◌}
use mathlib.Core.Bool.{cond}
use mathlib.Core.List.{[]}
use Prim.Native.Nat.{ℕ, ◌*◌, ◌≤◌}
use native.Mathlib.Nat.{mul_assoc, mul_comm}
use native.Mathlib.Omega.{arith}
use borrow.Author.Tests.{le-leb, lt-leb}
use lib.ListN.{length}
use Rattle.buffers.specs.Rows.{count, rows}
use Rattle.buffers.specs.Region.{put}
use Rattle.buffers.proofs.Regions.{put-over}
use Rattle.picture_limits.specs.Places.{patch_floats}
use Rattle.picture_limits.proofs.Places.{length-picture}
use Rattle.picture_limits.proofs.Shapes.{Accepted, shaped-says}
use Rattle.picture_samples.specs.Samples.{entry, pattern_of}
use Rattle.picture_samples.proofs.Channels.{entry-of, allowed_of}
use Rattle.picture_samples.proofs.Finds.{Same}
use Rattle.picture_spot.specs.inner.Spot.{spotted, Spots}
use Rattle.picture_spot.proofs.Spots.{spots-of}
use Rattle.picture_salvage.specs.Salvage.{bad, bad_samples, entry_of, listed, saved_from, salvaged}
use Rattle.picture_salvage.specs.inner.Loops.{all_entries}
use Rattle.picture_salvage.proofs.Salvages.{runs-are, entries-are, rows_are, length-all, count_same, listed_same, saved-same, decided, agreed}
use Rattle.picture_salvage.proofs.salvage_shaped.Goals as goal

pub overflow_mul-grid_h : goal.overflow_mul-grid_h
overflow_mul-grid_h c =
    let accepted : let a = c.args in Accepted c.args.s c.args.grid_h c.args.grid_w (length c.args.bits.now) c.args.tokens = let a = c.args in shaped-says c.args.s c.args.grid_h c.args.grid_w (length c.args.bits.now) c.args.tokens c.requires.bits_value in
    let k = accepted in omega arith

pub overflow_mul-grid_w : goal.overflow_mul-grid_w
overflow_mul-grid_w c =
    let accepted : let a = c.args in Accepted c.args.s c.args.grid_h c.args.grid_w (length c.args.bits.now) c.args.tokens = let a = c.args in shaped-says c.args.s c.args.grid_h c.args.grid_w (length c.args.bits.now) c.args.tokens c.requires.bits_value in
    let k = accepted in omega arith

pub overflow_mul-grid_h-2 : goal.overflow_mul-grid_h-2
overflow_mul-grid_h-2 c =
    let accepted : let a = c.args in Accepted c.args.s c.args.grid_h c.args.grid_w (length c.args.bits.now) c.args.tokens = let a = c.args in shaped-says c.args.s c.args.grid_h c.args.grid_w (length c.args.bits.now) c.args.tokens c.requires.bits_value in
    let k = accepted in omega arith

pub overflow_mul-grid_h-3 : goal.overflow_mul-grid_h-3
overflow_mul-grid_h-3 c =
    let accepted : let a = c.args in Accepted c.args.s c.args.grid_h c.args.grid_w (length c.args.bits.now) c.args.tokens = let a = c.args in shaped-says c.args.s c.args.grid_h c.args.grid_w (length c.args.bits.now) c.args.tokens c.requires.bits_value in
    let k = accepted in omega arith

pub returns-then-out-grid_h : goal.returns-then-out-grid_h
returns-then-out-grid_h c =
    let decision : let a = c.args in salvaged c.args.s c.args.bits.now c.args.grid_h c.args.grid_w (length c.args.out.now) (length c.args.list.now) ≡ decided c.args.s c.args.bits.now c.args.grid_h c.args.grid_w (length c.args.out.now) (length c.args.list.now) = let a = c.args in
    let s = c.args.s in
    agreed s c.args.bits.now c.args.grid_h c.args.grid_w (length c.args.out.now) (length c.args.list.now) c.args.tokens c.requires.bits_value
    (sym (allowed_of c.args.s.mean c.args.s.deviation c.args.t.now c.requires.t_value.0) ∙ c.requires.t_value.1) in
    let d = decision in let e = lt-leb _ _ c.if-out-grid_h.true in record {
      answer = rw (d, e);
      output = rw (d, e);
      entries = rw (d, e);
    }

pub overflow_mul-tokens : goal.overflow_mul-tokens
overflow_mul-tokens c =
    let accepted : let a = c.args in Accepted c.args.s c.args.grid_h c.args.grid_w (length c.args.bits.now) c.args.tokens = let a = c.args in shaped-says c.args.s c.args.grid_h c.args.grid_w (length c.args.bits.now) c.args.tokens c.requires.bits_value in
    let few : 3 * c.args.tokens ≤ 12582912 = let k = accepted in omega (arith, k.tokens, k.grids.tokens) in
    omega (arith, few)

pub count_runs-bad-requires : goal.count_runs-bad-requires
count_runs-bad-requires c =
    let accepted : let a = c.args in Accepted c.args.s c.args.grid_h c.args.grid_w (length c.args.bits.now) c.args.tokens = let a = c.args in shaped-says c.args.s c.args.grid_h c.args.grid_w (length c.args.bits.now) c.args.tokens c.requires.bits_value in
    let runs : let a = c.args in 3 * c.args.tokens * (c.args.s.patch_size * c.args.s.patch_size) ≡ length c.args.bits.now = let a = c.args in
    let k = accepted in
    let n = c.args.s.patch_size * c.args.s.patch_size in
    sym (k.samples ∙ ap (λ (x : ℕ). x * patch_floats c.args.s.patch_size) (sym k.tokens) ∙ sym (mul_assoc c.args.tokens 3 n) ∙ ap (λ (x : ℕ). x * n) (mul_comm c.args.tokens 3)) in
    let spots : let a = c.args in Spots c.args.t.now (spotted c.way_of-w.result (entry c.args.t.now)) = spots-of _ c.args.t.now _ _ c.way_of-w.ensures c.requires.t_value.1 in
    (accepted.grids.settings.patch-high, omega (arith, runs), spots)

pub returns-then-list-bad : goal.returns-then-list-bad
returns-then-list-bad c =
    let decision : let a = c.args in salvaged c.args.s c.args.bits.now c.args.grid_h c.args.grid_w (length c.args.out.now) (length c.args.list.now) ≡ decided c.args.s c.args.bits.now c.args.grid_h c.args.grid_w (length c.args.out.now) (length c.args.list.now) = let a = c.args in
    let s = c.args.s in
    agreed s c.args.bits.now c.args.grid_h c.args.grid_w (length c.args.out.now) (length c.args.list.now) c.args.tokens c.requires.bits_value
    (sym (allowed_of c.args.s.mean c.args.s.deviation c.args.t.now c.requires.t_value.0) ∙ c.requires.t_value.1) in
    let accepted : let a = c.args in Accepted c.args.s c.args.grid_h c.args.grid_w (length c.args.bits.now) c.args.tokens = let a = c.args in shaped-says c.args.s c.args.grid_h c.args.grid_w (length c.args.bits.now) c.args.tokens c.requires.bits_value in
    let same : Same (entry c.args.t.now) (pattern_of c.args.s) = let a = c.args in entry-of c.args.s.mean c.args.s.deviation c.args.t.now c.requires.t_value.0 in
    let runs : let a = c.args in 3 * c.args.tokens * (c.args.s.patch_size * c.args.s.patch_size) ≡ length c.args.bits.now = let a = c.args in
    let k = accepted in
    let n = c.args.s.patch_size * c.args.s.patch_size in
    sym (k.samples ∙ ap (λ (x : ℕ). x * patch_floats c.args.s.patch_size) (sym k.tokens) ∙ sym (mul_assoc c.args.tokens 3 n) ∙ ap (λ (x : ℕ). x * n) (mul_comm c.args.tokens 3)) in
    let told : let a = c.args in c.count_runs-bad.result ≡ bad_samples (pattern_of c.args.s) c.args.s.patch_size c.args.bits.now = let a = c.args in
    let p = c.args.s.patch_size in
    let k = entry c.args.t.now in
    c.count_runs-bad.ensures
    ∙ runs-are k p accepted.grids.settings.patch-low c.args.bits.now (3 * c.args.tokens)
    ∙ ap (λ (n : ℕ). count n (bad k p c.args.bits.now)) (runs)
    ∙ count_same k (pattern_of c.args.s) (same) p c.args.bits.now in
    let d = decision in
    let e = le-leb _ _ c.if-out-grid_h.false in
    let g = lt-leb _ _ (rw (told) at c.if-list-bad.true) in record {
      answer = rw (d, e, g);
      output = rw (d, e, g);
      entries = rw (d, e, g);
    }

pub overflow_mul-tokens-2 : goal.overflow_mul-tokens-2
overflow_mul-tokens-2 c =
    let accepted : let a = c.args in Accepted c.args.s c.args.grid_h c.args.grid_w (length c.args.bits.now) c.args.tokens = let a = c.args in shaped-says c.args.s c.args.grid_h c.args.grid_w (length c.args.bits.now) c.args.tokens c.requires.bits_value in
    let few : 3 * c.args.tokens ≤ 12582912 = let k = accepted in omega (arith, k.tokens, k.grids.tokens) in
    omega (arith, few)

pub list_bad-requires : goal.list_bad-requires
list_bad-requires c =
    let accepted : let a = c.args in Accepted c.args.s c.args.grid_h c.args.grid_w (length c.args.bits.now) c.args.tokens = let a = c.args in shaped-says c.args.s c.args.grid_h c.args.grid_w (length c.args.bits.now) c.args.tokens c.requires.bits_value in
    let runs : let a = c.args in 3 * c.args.tokens * (c.args.s.patch_size * c.args.s.patch_size) ≡ length c.args.bits.now = let a = c.args in
    let k = accepted in
    let n = c.args.s.patch_size * c.args.s.patch_size in
    sym (k.samples ∙ ap (λ (x : ℕ). x * patch_floats c.args.s.patch_size) (sym k.tokens) ∙ sym (mul_assoc c.args.tokens 3 n) ∙ ap (λ (x : ℕ). x * n) (mul_comm c.args.tokens 3)) in
    let spots : let a = c.args in Spots c.args.t.now (spotted c.way_of-w.result (entry c.args.t.now)) = spots-of _ c.args.t.now _ _ c.way_of-w.ensures c.requires.t_value.1 in
    let few : 3 * c.args.tokens ≤ 12582912 = let k = accepted in omega (arith, k.tokens, k.grids.tokens) in (
      accepted.grids.settings.patch-high,
      few,
      omega (arith, runs),
      c.count_runs-bad.ensures,
      omega (arith, c.if-list-bad.false),
      spots,
    )

pub salvage_rows-requires : goal.salvage_rows-requires
salvage_rows-requires c =
    let accepted : let a = c.args in Accepted c.args.s c.args.grid_h c.args.grid_w (length c.args.bits.now) c.args.tokens = let a = c.args in shaped-says c.args.s c.args.grid_h c.args.grid_w (length c.args.bits.now) c.args.tokens c.requires.bits_value in
    let spots : let a = c.args in Spots c.args.t.now (spotted c.way_of-w.result (entry c.args.t.now)) = spots-of _ c.args.t.now _ _ c.way_of-w.ensures c.requires.t_value.1 in
    let a = c.args in
    let p = c.args.s.patch_size in
    let k = accepted in
    let f = c.if-out-grid_h.false in (
      k.grids.settings.patch-low,
      k.grids.settings.patch-high,
      omega (arith, k.grids.tall.few, k.grids.settings.image-high),
      omega (arith, k.grids.wide.few, k.grids.settings.image-high),
      k.samples,
      omega (arith, f, mul_assoc (c.args.grid_h * p) (c.args.grid_w * p) 3, ap (λ (x : ℕ). c.args.grid_h * p * x) (mul_assoc c.args.grid_w p 3)),
      spots,
    )

pub overflow_mul-result : goal.overflow_mul-result
overflow_mul-result c =
    let accepted : let a = c.args in Accepted c.args.s c.args.grid_h c.args.grid_w (length c.args.bits.now) c.args.tokens = let a = c.args in shaped-says c.args.s c.args.grid_h c.args.grid_w (length c.args.bits.now) c.args.tokens c.requires.bits_value in
    let k = accepted in omega (arith, k.grids)

pub overflow_mul-result-2 : goal.overflow_mul-result-2
overflow_mul-result-2 c =
    let accepted : let a = c.args in Accepted c.args.s c.args.grid_h c.args.grid_w (length c.args.bits.now) c.args.tokens = let a = c.args in shaped-says c.args.s c.args.grid_h c.args.grid_w (length c.args.bits.now) c.args.tokens c.requires.bits_value in
    let k = accepted in omega (arith, k.grids)

pub returns : goal.returns
returns c =
    let accepted : let a = c.args in Accepted c.args.s c.args.grid_h c.args.grid_w (length c.args.bits.now) c.args.tokens = let a = c.args in shaped-says c.args.s c.args.grid_h c.args.grid_w (length c.args.bits.now) c.args.tokens c.requires.bits_value in
    let decision : let a = c.args in salvaged c.args.s c.args.bits.now c.args.grid_h c.args.grid_w (length c.args.out.now) (length c.args.list.now) ≡ decided c.args.s c.args.bits.now c.args.grid_h c.args.grid_w (length c.args.out.now) (length c.args.list.now) = let a = c.args in
    let s = c.args.s in
    agreed s c.args.bits.now c.args.grid_h c.args.grid_w (length c.args.out.now) (length c.args.list.now) c.args.tokens c.requires.bits_value
    (sym (allowed_of c.args.s.mean c.args.s.deviation c.args.t.now c.requires.t_value.0) ∙ c.requires.t_value.1) in
    let same : Same (entry c.args.t.now) (pattern_of c.args.s) = let a = c.args in entry-of c.args.s.mean c.args.s.deviation c.args.t.now c.requires.t_value.0 in
    let runs : let a = c.args in 3 * c.args.tokens * (c.args.s.patch_size * c.args.s.patch_size) ≡ length c.args.bits.now = let a = c.args in
    let k = accepted in
    let n = c.args.s.patch_size * c.args.s.patch_size in
    sym (k.samples ∙ ap (λ (x : ℕ). x * patch_floats c.args.s.patch_size) (sym k.tokens) ∙ sym (mul_assoc c.args.tokens 3 n) ∙ ap (λ (x : ℕ). x * n) (mul_comm c.args.tokens 3)) in
    let told : let a = c.args in c.count_runs-bad.result ≡ bad_samples (pattern_of c.args.s) c.args.s.patch_size c.args.bits.now = let r = c.before.before.before.before.before.before.before.before.before.before.before.before.before.before.before.before.before in
    let a = c.args in
    let p = c.args.s.patch_size in
    let k = entry c.args.t.now in
    c.count_runs-bad.ensures
    ∙ runs-are k p accepted.grids.settings.patch-low c.args.bits.now (3 * c.args.tokens)
    ∙ ap (λ (n : ℕ). count n (bad k p c.args.bits.now)) (runs)
    ∙ count_same k (pattern_of c.args.s) (same) p c.args.bits.now in
    let r = c.before.before.before.before.before.before.before.before.before.before.before.before.before.before.before.before.before in
    let a = c.args in
    let p = c.args.s.patch_size in
    let t = entry c.args.t.now in
    let m = pattern_of c.args.s in
    let l = c.args.bits.now in
    let k = accepted in
    let d = decision in
    let f = c.if-out-grid_h.false in
    let e = le-leb _ _ f in
    let n = told in
    let u = rw n at c.if-list-bad.false in
    let g = le-leb _ _ u in
    let q = k.grids.settings.patch-low in
    let ys = saved_from m p l c.args.grid_h c.args.grid_w in
    let zs = listed m p l in
    let y : length ys ≤ length c.args.out.now = rw (length-picture (c.args.grid_h * p) (c.args.grid_w * p) _) (omega (arith, f, mul_assoc (c.args.grid_h * p) (c.args.grid_w * p) 3)) in
    let listed-is : all_entries t p l (3 * c.args.tokens) ≡ zs = entries-are t p q l (3 * c.args.tokens) ∙ ap (λ (x : ℕ). rows x (λ i. cond (bad t p l i) (entry_of p l i) [])) (runs) ∙ listed_same t m (same) p l in
    let z : length zs ≤ length c.args.list.now = omega (arith, sym (ap length listed-is), length-all t p l (3 * c.args.tokens), c.count_runs-bad.ensures, n, u) in record {
      answer = rw (d, e, g, n) refl;
      output = rw (d, e, g) (c.salvage_rows.ensures ∙ ap (put c.args.out.now 0) (rows_are t p q l c.args.grid_h c.args.grid_w ∙ saved-same t m (same) p l c.args.grid_h c.args.grid_w) ∙ put-over c.args.out.now ys y);
      entries = rw (d, e, g) (c.list_bad.ensures ∙ ap (put c.args.list.now 0) listed-is ∙ put-over c.args.list.now zs z);
    }
