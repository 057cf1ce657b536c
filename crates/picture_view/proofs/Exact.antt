-- Where the table has the formula's patterns, a sample has a byte when it is the formula's of the byte guessed of it. Assumes nothing.
use mathlib.Core.Path.{◌≡◌, refl, sym, ap, ◌∙◌, subst}
use Rattle.std.specs.Prelude.{Option, Some, None}
use Rattle.buffers.specs.Rows.{all}
use mathlib.Core.Bool.{Bool, true, false, cond}
use mathlib.Core.List.{List}
use Prim.Native.Nat.{ℕ, ◌+◌, ◌<◌}
use borrow.Author.Tests.{eqb-true, lt-ltb}
use lib.Dec.{T, ltb}
use lib.ListN.{get_or}
use lib.Ieee.{Float, nan, binary32, fits, to_bits}
use lib.Ieee.Bits.{of_bits-to_bits}
use Rattle.buffers.proofs.Lists.{all-at, all-ext}
use Rattle.picture_samples.specs.Samples.{byte_of, entry}
use Rattle.picture_spot.specs.declared.Way.{Way}
use Rattle.picture_spot.specs.inner.Spot.{guessed_by, tried, or_none, Spots}
use Rattle.picture_spot.proofs.Spots.{tried-byte}
use Rattle.picture_view.specs.declared.Formula.{Formula}
use Rattle.picture_view.specs.inner.Known.{channel_exact, formula_of, Exact, exact_at, exact_run, known_run}

-- what was tried on the whole table holds of each pattern
pub exact-of : (f : Option Formula) (t : List ℕ) (mean deviation : List Float) → f ≡ formula_of t mean deviation → Exact t f
unfolding formula_of
exact-of f t mean deviation e = subst (Exact t) (sym e) (go (all 3 (λ c. channel_exact t c (get_or mean c nan) (get_or deviation c nan))) refl)
  where
    go : (x : Bool) → all 3 (λ c. channel_exact t c (get_or mean c nan) (get_or deviation c nan)) ≡ x → Exact t (cond x (Some (record { mean = mean; deviation = deviation })) None)
    go true x = λ c b h l. eqb-true _ _ (all-at 256 _ (all-at 3 (λ c. channel_exact t c (get_or mean c nan) (get_or deviation c nan)) x c h) b l)
    go false x = tt

module _ (t : List ℕ) (slope shift : List Float) (f : Formula) (s : Spots t (guessed_by slope shift)) (x : Exact t (Some f)) (c : ℕ) (h : c < 3) where
  abbrev at : Float → Bool
  at v = exact_at (get_or slope c nan) (get_or shift c nan) (get_or f.mean c nan) (get_or f.deviation c nan) v

  -- of one sample
  exact-byte : (v : Float) → T (fits binary32 v) → at v ≡ ltb (byte_of (entry t) c (to_bits binary32 v)) 256
  unfolding exact_at tried
  exact-byte v ok =
      let g = guessed_by slope shift in
      let b = to_bits binary32 v in
      let e = of_bits-to_bits binary32 v ok in
      let k = x c (g c v) h (s.low c v) in
      let q : at v ≡ ltb (or_none (tried (entry t) g c b)) 256 = rw (lt-ltb c 3 h, e, k) (held (at v) (g c v) (s.low c v)) in
      q ∙ ap (λ (n : ℕ). ltb n 256) (tried-byte t g s c h b)
    where
      held : (q : Bool) (r : ℕ) → r < 256 → q ≡ ltb (or_none (cond q (Some r) None)) 256
      held true r l = sym (lt-ltb r 256 l)
      held false r l = refl

  -- of a run
  pub exact-run : (n : ℕ) (l : List Float) (from : ℕ) → ((i : ℕ) → T (fits binary32 (get_or l i nan)))
      → exact_run (get_or slope c nan) (get_or shift c nan) (get_or f.mean c nan) (get_or f.deviation c nan) n l from ≡ known_run (entry t) n l from c
  exact-run n l from ok = all-ext n _ _ (λ i _. exact-byte (get_or l (from + i) nan) (ok (from + i)))
