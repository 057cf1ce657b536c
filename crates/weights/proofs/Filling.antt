-- Tensors written one behind the other. Assumes nothing.
use Rattle.std.specs.Prelude.{Option, None, Some, Ok}
use mathlib.Core.Path.{◌≡◌, refl, sym, ap, ◌∙◌}
use mathlib.Core.Bool.{true, false, ◌&&◌, false≢true}
use mathlib.Core.List.{List, ◌++◌, append-nil}
use Prim.Native.Nat.{ℕ, zero, suc, ◌+◌, ◌-◌, ◌*◌, ◌/◌, ◌≤◌, ◌<◌}
use native.Mathlib.Numerals.{add-one}
use native.Mathlib.Nat.{zero-add}
use native.Mathlib.Omega.{arith}
use lib.Dec.{eqb, leb}
use lib.ListN.{length, take, drop, length-append, drop_of_length-le}
use lib.Seq.{drop-drop}
use borrow.Author.Tests.{le-leb, leb-true, eqb-true, not-false}
use Rattle.buffers.specs.Rows.{rows}
use Rattle.buffers.specs.Region.{region, put, over, copied}
use Rattle.buffers.proofs.Lists.{and_left, and_right}
use Rattle.buffers.proofs.Regions.{put-append, put-split, put-over, length-region}
use Rattle.json_members.specs.Names.{Entry}
use Rattle.json_lists.specs.Lists.{product, held}
use Rattle.encoder_settings.specs.declared.EncoderSettings.{EncoderSettings}
use Rattle.encoder_settings.specs.Settings.{allowed, weight_floats}
use Rattle.tensor_values.specs.declared.Kind.{Kind}
use Rattle.tensor_values.specs.declared.Kind.TheVariants.{F32, BF16, F16}
use Rattle.tensor_values.specs.Values.{size_of, values_of}
use Rattle.tensor_values.proofs.Laws.{length-values}
use Rattle.tensor_header.specs.Tensors.{tensors, entry_at, count_at}
use Rattle.weights.specs.File.{Found, missing, damaged, described, found_in, kind_of, other_count, misplaced_by, floats_in, weights_in}
use Rattle.weights.specs.inner.Described.{Kept, summary}
use Rattle.weights.specs.inner.Sums.{sum_to}
use Rattle.weights.specs.inner.Filled.{PutsOne, Good, AllGood}
use Rattle.weights.proofs.Sums.{sum_is}
use Rattle.weights.specs.declared.entry.Described.{Described}

-- ---- one

copied_all : (new old : List ℕ) → length new ≡ length old → copied new old ≡ new
unfolding copied
copied_all new old e = rw (le-leb (length new) (length old) (omega arith), drop_of_length-le old {i = length new} (omega arith)) (append-nil new)

pub put-part : (at n k : ℕ) (s ys new : List ℕ) → k ≡ n → at + n ≤ length s → length new ≡ n → ys ≡ copied new (region s at k) → take at s ++ (ys ++ drop k (drop at s)) ≡ put s at new
put-part at n k s ys new g b l h =
    let e : ys ≡ new = h ∙ copied_all new (region s at k) (l ∙ sym (ap (λ (j : ℕ). length (region s at j)) g ∙ length-region s at n b)) in
    rw (e, g, drop-drop n at s) (sym (put-split s at new (rw l b) ∙ ap (λ (m : ℕ). take at s ++ (new ++ drop (at + m) s)) l))

-- ---- a tensor that passes every test

record Stored (bytes count : ℕ) (f : Found) : Type 0 where
  dtype : List ℕ
  shape : List ℕ
  begin : ℕ
  end : ℕ
  kind : Kind
  is : f ≡ described dtype shape begin end
  kind-is : kind_of dtype ≡ Some kind
  long : end - begin ≡ count * size_of kind
  inside : begin + count * size_of kind ≤ bytes

stored-by : (bytes count : ℕ) (dtype shape : List ℕ) (begin end : ℕ) (k : Option Kind) → kind_of dtype ≡ k → other_count count shape k ≡ false → misplaced_by bytes count begin end k ≡ false → Stored bytes count (described dtype shape begin end)
stored-by bytes count dtype shape begin end None e x y = absurd (false≢true (sym x))
stored-by bytes count dtype shape begin end (Some k) e x y =
    let z = not-false (leb begin end && (leb end bytes && eqb (end - begin) (count * size_of k))) y in
    let u = and_right (leb begin end) (leb end bytes && eqb (end - begin) (count * size_of k)) z in
    let l : end - begin ≡ count * size_of k = eqb-true (end - begin) (count * size_of k) (and_right (leb end bytes) (eqb (end - begin) (count * size_of k)) u) in
    let b = leb-true begin end (and_left (leb begin end) (leb end bytes && eqb (end - begin) (count * size_of k)) z) in
    let v = leb-true end bytes (and_left (leb end bytes) (eqb (end - begin) (count * size_of k)) u) in
    record { dtype = dtype; shape = shape; begin = begin; end = end; kind = k; is = refl; kind-is = e; long = l; inside = omega (arith, l, b, v) }

stored : (bytes count : ℕ) (f : Found) → Good bytes count f → Stored bytes count f
stored bytes count missing g = absurd (false≢true (sym g.other))
stored bytes count damaged g = absurd (false≢true (sym g.damaged))
stored bytes count (described dtype shape begin end) g = stored-by bytes count dtype shape begin end (kind_of dtype) refl g.other g.misplaced

whole : (count : ℕ) (k : Kind) → count * size_of k / size_of k ≡ count
whole count F32 = omega arith
whole count BF16 = omega arith
whole count F16 = omega arith

floats-of : (bytes : List ℕ) (f : Found) (dtype shape : List ℕ) (begin end : ℕ) (k : Kind) (n : ℕ) → f ≡ described dtype shape begin end → kind_of dtype ≡ Some k → end - begin ≡ n → floats_in bytes f ≡ values_of k (region bytes begin n)
floats-of bytes f dtype shape begin end k n e q l = rw (e, q, l) refl

summary-of : (f : Found) (dtype shape : List ℕ) (begin end : ℕ) (k : Kind) → f ≡ described dtype shape begin end → kind_of dtype ≡ Some k → summary f ≡ Ok (record { kind = k; count = held (product shape); begin = begin; end = end })
summary-of f dtype shape begin end k e q = rw (e, q) refl

known : {v w : Described} → ◌≡◌ {A = Kept} (Ok v) (Ok w) → (v.kind ≡ w.kind) × (v.begin ≡ w.begin)
known e = (cc, cc)

values-long : (bytes : List ℕ) (begin count : ℕ) (k : Kind) → begin + count * size_of k ≤ length bytes → length (values_of k (region bytes begin (count * size_of k))) ≡ count
values-long bytes begin count k h = length-values k (region bytes begin (count * size_of k)) ∙ rw (length-region bytes begin (count * size_of k) h) (whole count k)

-- what its bytes are, and that they have as many values
module _ (bytes : List ℕ) (count : ℕ) (f : Found) (g : Good (length bytes) count f) where
  pub floats-long : length (floats_in bytes f) ≡ count
  floats-long =
      let o = stored (length bytes) count f g in
      ap length (floats-of bytes f o.dtype o.shape o.begin o.end o.kind (count * size_of o.kind) o.is o.kind-is o.long) ∙ values-long bytes o.begin count o.kind o.inside

  pub kept_by : (d : Kept) → d ≡ summary f → (v : Described) → d ≡ Ok v → floats_in bytes f ≡ values_of v.kind (region bytes v.begin (count * size_of v.kind))
  kept_by d e v h =
      let o = stored (length bytes) count f g in
      let z = known (sym h ∙ e ∙ summary-of f o.dtype o.shape o.begin o.end o.kind o.is o.kind-is) in
      floats-of bytes f o.dtype o.shape o.begin o.end o.kind (count * size_of o.kind) o.is o.kind-is o.long ∙ rw (z.0, z.1) refl

  pub not_known : (d : Kept) → d ≡ summary f → ((v : Described) → d ≡ Ok v → ⊥) → ⊥
  not_known d e h = let o = stored (length bytes) count f g in h _ (e ∙ summary-of f o.dtype o.shape o.begin o.end o.kind o.is o.kind-is)

-- no count of bytes wraps
pub few : (n r : ℕ) (k : Kind) → r ≡ size_of k → n ≤ 67108864 → n * r ≤ 268435456
few n r F32 e h = rw e (omega arith)
few n r BF16 e h = rw e (omega arith)
few n r F16 e h = rw e (omega arith)

-- its bytes as the code takes them
pub known-part :
    (bytes : List ℕ) (count : ℕ) (f : Found) (g : Good (length bytes) count f) (d : Kept) → d ≡ summary f →
    (t : Described) → d ≡ Ok t →
    (at : ℕ) (before after : List ℕ) → at + count ≤ length before →
    (size : ℕ) → size ≡ size_of t.kind → (own : List ℕ) → own ≡ region bytes t.begin (count * size) → PutsOne t.kind own at count before after →
    after ≡ put before at (floats_in bytes f)
known-part bytes count f g d e t q at before after h size z own o p =
    let v : floats_in bytes f ≡ values_of t.kind own = kept_by bytes count f g d e t q ∙ sym (ap (values_of t.kind) (o ∙ ap (λ (m : ℕ). region bytes t.begin (count * m)) z)) in
    p.is (sym (ap length v) ∙ floats-long bytes count f g) h ∙ ap (put before at) (sym v)

-- ---- one behind the other

module _ (s : EncoderSettings) (es : List Entry) (bytes : List ℕ) (g : AllGood s es (length bytes)) where
  abbrev pub floats_at : ℕ → List ℕ
  floats_at i = floats_in bytes (found_in (entry_at (tensors s) es i))

  pub rows_long : (n : ℕ) → n ≤ length (tensors s) → length (rows n floats_at) ≡ sum_to (tensors s) n
  unfolding rows sum_to
  rows_long zero h = refl
  rows_long (suc n) h = length-append (rows n floats_at) (floats_at n) ∙ rw (rows_long n (omega arith), floats-long bytes (count_at (tensors s) n) (found_in (entry_at (tensors s) es n)) (g n h)) refl

  pub one_more : (out now after : List ℕ) (n at : ℕ) → n < length (tensors s) → at ≡ sum_to (tensors s) n → now ≡ put out 0 (rows n floats_at) → after ≡ put now at (floats_at n) → after ≡ put out 0 (rows (n + 1) floats_at)
  unfolding rows
  one_more out now after n at h e q r =
      r ∙ ap (λ (l : List ℕ). put l at (floats_at n)) q ∙ put-append out 0 (rows n floats_at) (floats_at n) at (e ∙ sym (rows_long n (omega arith)) ∙ sym (zero-add (length (rows n floats_at)))) ∙ ap (λ (k : ℕ). put out 0 (rows k floats_at)) (sym (add-one n))

  pub weights-over : allowed s ≡ true → (out : List ℕ) → weight_floats s ≤ length out → put out 0 (weights_in s es bytes) ≡ over (weights_in s es bytes) out
  unfolding weights_in
  weights-over a out h = put-over out (rows (length (tensors s)) floats_at) (rw (rows_long (length (tensors s)) (omega arith), sum_is s a) h)
