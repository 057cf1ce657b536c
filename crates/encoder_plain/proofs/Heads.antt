-- The turn of the loop over heads. Assumes nothing.
use mathlib.Core.Bool.{Bool, ◌&&◌}
use mathlib.Core.Path.{◌≡◌, refl, sym, ap, ◌∙◌}
use mathlib.Core.List.{List}
use Prim.Native.Nat.{ℕ, ◌+◌, ◌*◌, ◌≤◌, ◌<◌}
use native.Mathlib.Nat.{mul-le-mul_right}
use native.Mathlib.Omega.{arith}
use native.Mathlib.Numerals.{add-one}
use lib.ListN.{length}
use lib.Ieee.{Float}
use Rattle.number_floats.specs.Constants.{zero32}
use Rattle.buffers.specs.Rows.{rows}
use Rattle.buffers.specs.Region.{region, put, put_rows}
use Rattle.buffers.specs.Each.{blank}
use Rattle.buffers.specs.inner.Apart.{Apart}
use Rattle.buffers.proofs.Regions.{apart-sub}
use Rattle.buffers.proofs.Lists.{fit, length-rows}
use Rattle.buffers.proofs.Puts.{puts-joined, puts-ext}
use Rattle.encoder_kernels.specs.Kernels.{all_finite}
use Rattle.encoder_kernels.proofs.Finites.{all-finite-append}
use Rattle.encoder_attention.proofs.Bands.{puts_seen, puts-more}
use Rattle.encoder_plain.specs.Plain.{floats, off, scores, soft_rows, sums, plain_of}
use Rattle.encoder_plain.specs.inner.Fits.{PlainFits}
use Rattle.encoder_plain.proofs.Loops.{length-sums}
use Rattle.encoder_plain.proofs.Same.{by-tokens}

module _ (s : List Float) (q k v m out t heads hd : ℕ) (sc : Float) (f : PlainFits (length s) q k v m out t heads hd) where
  abbrev n : ℕ
  n = floats t heads hd

  abbrev dim : ℕ
  dim = heads * hd

  -- the matrix of head h, and the sums of query i in it
  abbrev pub M : ℕ → List Float
  M = scores t heads hd sc (region s q n) (region s k n)

  abbrev pub S : ℕ → ℕ → List Float
  S i h = sums t heads hd (region s v n) (soft_rows t (M h)) h i

  length-S : (i h : ℕ) → length (S i h) ≡ hd
  length-S i h = length-sums t heads hd (region s v n) (soft_rows t (M h)) h i

  -- the bands that are written lie inside the sums
  band : (h i x : ℕ) → h ≤ heads → i < t → Apart x n out n → Apart x n (out + i * dim) (length (rows h (S i)))
  band h i x l c a =
      let b : h * hd ≤ dim = mul-le-mul_right hd l in
      let g = fit dim c in
      rw (length-rows (S i) hd (length-S i) h) (apart-sub a (omega arith) (omega arith) (omega arith) (omega arith))

  pub heads-turn : (h : ℕ) → h < heads → (u u' : List Float) (ok here : Bool)
      → ok ≡ all_finite (rows h M)
      → blank zero32 m (t * t) u ≡ put_rows (blank zero32 m (t * t) s) t (λ i. out + i * dim) (λ i. rows h (S i))
      → here ≡ all_finite (scores t heads hd sc (region u q n) (region u k n) h)
      → blank zero32 m (t * t) u' ≡ put_rows (blank zero32 m (t * t) u) t (λ i. out + off t heads hd i h)
      (sums t heads hd (region u v n) (soft_rows t (scores t heads hd sc (region u q n) (region u k n) h)) h)
      → (ok && here ≡ all_finite (rows (h + 1) M))
      × (blank zero32 m (t * t) u' ≡ put_rows (blank zero32 m (t * t) s) t (λ i. out + i * dim) (λ i. rows (h + 1) (S i)))
  unfolding rows
  heads-turn h l u u' ok here a b c d =
      let seen : (x : ℕ) → Apart x n m (t * t) → Apart x n out n → region u x n ≡ region s x n =
      λ x am ao. puts_seen zero32 m (t * t) s u (λ i. out + i * dim) (λ i. rows h (S i)) t x n b am (λ i z. band h i x (omega arith) z ao) in
      let qu = seen q f.keys.qscores f.qout in
      let ku = seen k f.keys.kscores f.kout in
      let vu = seen v f.vscores f.values.vout in
      let g = fit hd l in
      let at : ℕ → ℕ = λ i. out + (i * dim + h * hd) in (
        rw (add-one, all-finite-append (rows h M) (M h), a, c, qu, ku) refl,
        d
            ∙ puts-ext (blank zero32 m (t * t) u) at at _ (λ i. S i h) t (λ _ _. refl) (λ i _. rw (qu, ku, vu) refl)
            ∙ ap (λ (x : List Float). put_rows x t at (λ i. S i h)) b
            ∙ puts-more S hd length-S (blank zero32 m (t * t) s) out dim h t g
            ∙ ap (λ j. put_rows (blank zero32 m (t * t) s) t (λ i. out + i * dim) (λ i. rows j (S i))) (sym (add-one h)),
      )

  -- and its end
  pub heads-end : (u : List Float) → blank zero32 m (t * t) u ≡ put_rows (blank zero32 m (t * t) s) t (λ i. out + i * dim) (λ i. rows heads (S i))
      → blank zero32 m (t * t) u ≡ put (blank zero32 m (t * t) s) out (plain_of t heads hd sc (region s q n) (region s k n) (region s v n))
  heads-end u e =
      e ∙ puts-joined (blank zero32 m (t * t) s) (λ i. out + i * dim) (λ i. rows heads (S i)) dim out t (λ i. length-rows (S i) hd (length-S i) heads) (λ _ _. refl)
      ∙ ap (put (blank zero32 m (t * t) s) out) (sym (by-tokens t heads hd sc (region s q n) (region s k n) (region s v n)))
