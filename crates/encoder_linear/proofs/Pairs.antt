-- Laws of weighted sums by two rows of weights. Assumes nothing.
use mathlib.Core.Path.{◌≡◌, refl, sym, ap, ◌∙◌}
use mathlib.Core.List.{List}
use Prim.Native.Nat.{ℕ, ◌+◌, ◌*◌, ◌-◌, ◌≤◌}
use native.Mathlib.Omega.{arith}
use lib.ListN.{length}
use lib.Ieee.{Float}
use Rattle.buffers.specs.Rows.{tab}
use Rattle.buffers.specs.Region.{region, put}
use Rattle.buffers.specs.inner.Apart.{Apart}
use Rattle.buffers.proofs.Regions.{put-append, put-comm, region-put, apart-sub}
use Rattle.encoder_linear.specs.inner.Fits.{WeighPairFits}
use Rattle.encoder_linear.specs.Linear.{column_of, weighed_row}
use Rattle.encoder_linear.specs.inner.Weighed.{weighed_pair}
use Rattle.encoder_linear.proofs.Sums.{length-weighed}
use Rattle.encoder_linear.proofs.Columns.{weighed-add}
use Rattle.encoder_linear.proofs.Rooms.{part_of}

pair-unfold : (s : List Float) (a b v x y t dim hd o : ℕ)
    → weighed_pair s a b v x y t dim hd o ≡ put (put s x (weighed_row t dim hd o (region s a t) (region s v (t * dim)))) y (weighed_row t dim hd o (region s b t) (region s v (t * dim)))
unfolding weighed_pair
pair-unfold s a b v x y t dim hd o = refl

module _ (s : List Float) (a b v x y t dim hd o : ℕ) (g : WeighPairFits (length s) a b v x y t dim hd o) where
  -- the first d sums of each row
  abbrev A : ℕ → List Float
  A d = weighed_row t dim d o (region s a t) (region s v (t * dim))

  abbrev B : ℕ → List Float
  B d = weighed_row t dim d o (region s b t) (region s v (t * dim))

  abbrev pub some : ℕ → List Float
  some d = weighed_pair s a b v x y t dim d o

  -- what stands apart from both is seen past them
  pub seen : (d : ℕ) → d ≤ hd → (z n : ℕ) → Apart z n x hd → Apart z n y hd → region (some d) z n ≡ region s z n
  unfolding weighed_pair
  seen d h z n ax ay =
      region-put (put s x (A d)) y (B d) z n (rw (length-weighed t dim d o (region s b t) (region s v (t * dim))) (apart-sub ay (omega arith) (omega arith) (omega arith) (omega arith)))
      ∙ region-put s x (A d) z n (rw (length-weighed t dim d o (region s a t) (region s v (t * dim))) (apart-sub ax (omega arith) (omega arith) (omega arith) (omega arith)))

  pub a-seen : (d : ℕ) → d ≤ hd → region (some d) a t ≡ region s a t
  a-seen d h = seen d h a t g.first.rowout g.ay

  pub b-seen : (d : ℕ) → d ≤ hd → region (some d) b t ≡ region s b t
  b-seen d h = seen d h b t g.bx g.second.rowout

  pub v-seen : (d : ℕ) → d ≤ hd → region (some d) v (t * dim) ≡ region s v (t * dim)
  v-seen d h = seen d h v (t * dim) g.first.vout g.second.vout

  -- m more of each row
  pub pair-add : (d m : ℕ) → d + m ≤ hd
      → put (put (some d) (x + d) (weighed_row t dim m (o + d) (region s a t) (region s v (t * dim)))) (y + d) (weighed_row t dim m (o + d) (region s b t) (region s v (t * dim)))
      ≡ some (d + m)
  unfolding weighed_pair
  pair-add d m h =
      let p = region s a t in
      let r = region s b t in
      let q = region s v (t * dim) in
      let C = weighed_row t dim m (o + d) p q in
      let D = weighed_row t dim m (o + d) r q in
      let la = length-weighed t dim d o p q in
      let lb = length-weighed t dim d o r q in
      let lc = length-weighed t dim m (o + d) p q in
      ap (λ u. put u (y + d) D)
      (put-comm (put s x (A d)) y (B d) (x + d) C (rw (lb, lc) (apart-sub g.xy (omega arith) (omega arith) (omega arith) (omega arith)))
      ∙ ap (λ u. put u y (B d)) (put-append s x (A d) C (x + d) (rw la refl) ∙ ap (put s x) (weighed-add t dim o d m p q)))
      ∙ put-append (put s x (A (d + m))) y (B d) D (y + d) (rw lb refl)
      ∙ ap (put (put s x (A (d + m))) y) (weighed-add t dim o d m r q)

  -- m more of each row, by what stands there once d are written
  pub pair-more : (d m : ℕ) → d + m ≤ hd → (u z : List Float) → u ≡ some d → z ≡ weighed_pair u a b v (x + d) (y + d) t dim m (o + d) → z ≡ some (d + m)
  pair-more d m h u z eu ez =
      let k : d ≤ hd = omega arith in
      let at : List Float → List Float = λ u. put (put u (x + d) (weighed_row t dim m (o + d) (region u a t) (region u v (t * dim)))) (y + d) (weighed_row t dim m (o + d) (region u b t) (region u v (t * dim))) in
      ez ∙ pair-unfold u a b v (x + d) (y + d) t dim m (o + d) ∙ ap at eu ∙ rw (a-seen d k, b-seen d k, v-seen d k) (pair-add d m h)

  -- and the rest of each
  pub pair-rest : (d : ℕ) → d ≤ hd → (u u₁ u₂ : List Float) → u ≡ some d
      → u₁ ≡ put u (x + d) (weighed_row t dim (hd - d) (o + d) (region u a t) (region u v (t * dim)))
      → u₂ ≡ put u₁ (y + d) (weighed_row t dim (hd - d) (o + d) (region u₁ b t) (region u₁ v (t * dim)))
      → u₂ ≡ some hd
  pair-rest d w u u₁ u₂ eu e₁ e₂ =
      let m = hd - d in
      let C = weighed_row t dim m (o + d) (region s a t) (region s v (t * dim)) in
      let lc = length-weighed t dim m (o + d) (region s a t) (region s v (t * dim)) in
      let all : d + m ≤ hd = omega arith in
      let z₁ : u₁ ≡ put (some d) (x + d) C = e₁ ∙ rw (eu, a-seen d w, v-seen d w) in
      let past : (z n : ℕ) → Apart z n x hd → Apart z n y hd → region u₁ z n ≡ region s z n =
      λ z n ax ay. ap (λ k. region k z n) z₁ ∙ region-put (some d) (x + d) C z n (rw lc (apart-sub ax (omega arith) (omega arith) (omega arith) (omega arith))) ∙ seen d w z n ax ay in
      let z₂ : u₂ ≡ some (d + m) = e₂ ∙ rw (past b t g.bx g.second.rowout, past v (t * dim) g.first.vout g.second.vout, z₁) (pair-add d m all) in
      let end : d + m ≡ hd = omega arith in
      z₂ ∙ ap some end

-- sixteen sums by the parts that were read
row_is : (n t dim o : ℕ) (p q P Q f : List Float) → n ≡ t → p ≡ P → q ≡ Q → f ≡ tab 16 (λ l. column_of n dim (o + l) p q) → f ≡ weighed_row t dim 16 o P Q
unfolding weighed_row
row_is n t dim o p q P Q f en ep eq ef =
    ef ∙ ap (λ k. tab 16 (λ l. column_of k dim (o + l) p q)) en ∙ ap (λ z. tab 16 (λ l. column_of t dim (o + l) z q)) ep ∙ ap (λ z. tab 16 (λ l. column_of t dim (o + l) P z)) eq

module _ (s p r q : List Float) (a b v x y t dim o : ℕ) (ep : p ≡ region s a t) (er : r ≡ region s b t) (eq : q ≡ region s v (t * dim)) (el : length p ≡ t) where
  -- the sums of a row of weights z, sixteen from place k on
  abbrev sums : List Float → ℕ → List Float
  sums z k = tab 16 (λ l. column_of (length p) dim (k + l) z q)

  by-a : (k : ℕ) (f : List Float) → f ≡ sums p k → f ≡ weighed_row t dim 16 k (region s a t) (region s v (t * dim))
  by-a k f e = row_is (length p) t dim k p q (region s a t) (region s v (t * dim)) f el ep eq e

  by-b : (k : ℕ) (f : List Float) → f ≡ sums r k → f ≡ weighed_row t dim 16 k (region s b t) (region s v (t * dim))
  by-b k f e = row_is (length p) t dim k r q (region s b t) (region s v (t * dim)) f el er eq e

  pub sixteen-is : (u₁ u₂ f g : List Float) → f ≡ sums p o → g ≡ sums r o → u₁ ≡ put s x f → u₂ ≡ put u₁ y g → u₂ ≡ weighed_pair s a b v x y t dim 16 o
  unfolding weighed_pair
  sixteen-is u₁ u₂ f g ef eg e₁ e₂ = e₂ ∙ rw (e₁, by-a o f ef, by-b o g eg) refl

  -- two rows of sixteen, one behind the other
  joined : (c d : ℕ) (u f g w : List Float) → f ≡ weighed_row t dim 16 o w (region s v (t * dim)) → g ≡ weighed_row t dim 16 (o + 16) w (region s v (t * dim))
      → d ≡ c + 16 → put (put u c f) d g ≡ put u c (weighed_row t dim 32 o w (region s v (t * dim)))
  joined c d u f g w ef eg ed =
      put-append u c f g d (ed ∙ ap (λ k. c + k) (sym (ap length ef ∙ length-weighed t dim 16 o w (region s v (t * dim)))))
      ∙ ap (put u c) (rw (ef, eg) (weighed-add t dim o 16 16 w (region s v (t * dim))))

  pub thirty-two-is : (u₁ u₂ u₃ u₄ f g h i : List Float) → f ≡ sums p o → g ≡ sums p (o + 16) → h ≡ sums r o → i ≡ sums r (o + 16)
      → u₁ ≡ put s x f → u₂ ≡ put u₁ (x + 16) g → u₃ ≡ put u₂ y h → u₄ ≡ put u₃ (y + 16) i → u₄ ≡ weighed_pair s a b v x y t dim 32 o
  unfolding weighed_pair
  thirty-two-is u₁ u₂ u₃ u₄ f g h i ef eg eh ei e₁ e₂ e₃ e₄ =
      let z₂ = e₂ ∙ ap (λ u. put u (x + 16) g) e₁ ∙ joined x (x + 16) s f g (region s a t) (by-a o f ef) (by-a (o + 16) g eg) refl in
      e₄ ∙ ap (λ u. put u (y + 16) i) e₃ ∙ joined y (y + 16) u₂ h i (region s b t) (by-b o h eh) (by-b (o + 16) i ei) refl
      ∙ ap (λ u. put u y (weighed_row t dim 32 o (region s b t) (region s v (t * dim)))) z₂

-- what is asked for the m places behind d of them
pub part-fits : {len a b v x y t dim hd o : ℕ} (d m : ℕ) → WeighPairFits len a b v x y t dim hd o → d + m ≤ hd → WeighPairFits len a b v (x + d) (y + d) t dim m (o + d)
part-fits d m g h = record {
  first = part_of d m g.first h;
  second = part_of d m g.second h;
  ay = apart-sub g.ay (omega arith) (omega arith) (omega arith) (omega arith);
  bx = apart-sub g.bx (omega arith) (omega arith) (omega arith) (omega arith);
  xy = apart-sub g.xy (omega arith) (omega arith) (omega arith) (omega arith);
}
