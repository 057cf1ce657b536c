-- The answer by the first tensors at which a test passes. Assumes nothing.
use Rattle.std.specs.Prelude.{Option, None, Some}
use mathlib.Core.Path.{◌≡◌, refl, ap, ◌∙◌}
use mathlib.Core.Bool.{Bool, true, false, cond}
use mathlib.Core.List.{List}
use Prim.Native.Nat.{ℕ, zero, suc, ◌+◌, ◌-◌, ◌≤◌, ◌<◌}
use native.Mathlib.Omega.{arith}
use lib.Dec.{eqb, ltb}
use lib.ListN.{length, get_or}
use borrow.Author.Tests.{lt-ltb, le-ltb, ltb-false, ne_eqb}
use Rattle.buffers.specs.Rows.{first}
use Rattle.json_members.specs.Names.{Entry}
use Rattle.json_members.specs.inner.Turns as J
use Rattle.json_members.specs.inner.Turns.{Stands, nowhere, somewhere}
use Rattle.encoder_settings.specs.declared.EncoderSettings.{EncoderSettings}
use Rattle.encoder_settings.specs.Settings.{weight_floats}
use Rattle.picture_limits.specs.declared.Refusal.{Refusal}
use Rattle.picture_limits.specs.declared.Refusal.TheVariants.{Output, Header, Tensor, Offsets}
use Rattle.tensor_header.specs.Tensors.{tensors, entry_at, count_at}
use Rattle.tensor_header.specs.Header.{place_in}
use Rattle.weights.specs.File.{Found, found_in, is_damaged, is_other, is_misplaced, firstly, place_of, at, judged}
use Rattle.weights.specs.inner.Described.{refused_at, Holds}
use Rattle.weights.specs.inner.Filled.{AllGood}
use Rattle.weights.specs.File.{Weighed, refuse}
use Rattle.std.specs.Prelude.{Ok}

-- ---- one test behind the other

module _ (n : ℕ) (f : ℕ → Bool) (g : ℕ → Weighed) (rest : Weighed) (i : ℕ) (e : i ≡ first n f) where
  firstly-at : i < n → g i ≡ firstly n f g rest
  firstly-at h = rw (← e, lt-ltb i n h)

  firstly-past : n ≤ i → rest ≡ firstly n f g rest
  firstly-past h = rw (← e, le-ltb i n h)

-- where the answer is no refusal, no test passes
first-fails : (n : ℕ) (f : ℕ → Bool) → n ≤ first n f → (j : ℕ) → j < n → f j ≡ false
unfolding first
first-fails zero f h j x = absurd (omega arith)
first-fails (suc n) f h j x = of (f zero) refl h j x (λ k i y. first-fails n (λ i. f (suc i)) k i y)
  where
    of : (t : Bool) → f zero ≡ t → suc n ≤ cond t zero (suc (first n (λ i. f (suc i)))) → (j : ℕ) → j < suc n → (n ≤ first n (λ i. f (suc i)) → (i : ℕ) → i < n → f (suc i) ≡ false) → f j ≡ false
    of true e k i y g = absurd (omega arith)
    of false e k zero y g = e
    of false e k (suc i) y g = g (omega arith) i (omega arith)

no_floats : (why : Refusal) (i p m : ℕ) → refuse why i p ≡ Ok m → ⊥
no_floats why i p m e = let z : ◌≡◌ {A = ℕ} 0 1 = cc in omega arith

firstly-floats : (n : ℕ) (f : ℕ → Bool) (why : Refusal) (h : List ℕ) (entry : ℕ → Option Entry) (rest : Weighed) (m : ℕ) → firstly n f (at why h entry) rest ≡ Ok m → ((j : ℕ) → j < n → f j ≡ false) × (rest ≡ Ok m)
firstly-floats n f why h entry rest m e = of (ltb (first n f) n) refl e
  where
    of : (t : Bool) → ltb (first n f) n ≡ t → cond t (at why h entry (first n f)) rest ≡ Ok m → ((j : ℕ) → j < n → f j ≡ false) × (rest ≡ Ok m)
    of true k x = absurd (no_floats why _ _ m x)
    of false k x = (first-fails n f (ltb-false (first n f) n k), x)

-- ---- places

-- the place of what is found, as the file has it
place-told : (h : List ℕ) (k n : ℕ) (o : Option Entry) → Stands h k o → n ≡ J.place_of h o → cond (eqb n 0) 0 (8 + n) ≡ place_of h o
unfolding J.place_of place_in
place-told h k n o nowhere e = rw e
place-told h k n o (somewhere {e = x} a b q l) e = rw (e, ne_eqb (length h - length x.from) 0 (λ z. omega arith))

place-le : (h : List ℕ) (o : Option Entry) → J.place_of h o ≤ length h
unfolding J.place_of
place-le h None = omega arith
place-le h (Some e) = omega arith

module _ (s : EncoderSettings) (h places : List ℕ) (es : List Entry) (o : Holds s h places es) (bytes room : ℕ) where
  pub place-high : (i : ℕ) → i < length (tensors s) → get_or places i 0 ≤ length h
  place-high i x = rw (o.place i x) (place-le h (entry_at (tensors s) es i))

  refuses : (why : Refusal) (i : ℕ) → i < length (tensors s) → refused_at why (get_or places i 0) i ≡ at why h (entry_at (tensors s) es) i
  refuses why i x = ap (refuse why (suc i)) (place-told h 32 (get_or places i 0) (entry_at (tensors s) es i) (o.stands i x) (o.place i x))

  abbrev passes : (ℕ → Found → Bool) → ℕ → Bool
  passes test i = test (count_at (tensors s) i) (found_in (entry_at (tensors s) es i))

  abbrev FirstOf : (ℕ → Found → Bool) → ℕ → Type 0
  FirstOf test i = i ≡ first (length (tensors s)) (passes test)

  abbrev last : Weighed
  last = cond (ltb room (weight_floats s)) (refuse Output 0 0) (Ok (weight_floats s))

  abbrev third : Weighed
  third = firstly (length (tensors s)) (passes (is_misplaced bytes)) (at Offsets h (entry_at (tensors s) es)) last

  abbrev second : Weighed
  second = firstly (length (tensors s)) (passes is_other) (at Tensor h (entry_at (tensors s) es)) third

  all-is : firstly (length (tensors s)) (passes (λ n f. is_damaged f)) (at Header h (entry_at (tensors s) es)) second ≡ judged s h es bytes room
  unfolding judged
  all-is = refl

  pub is-16 : (i : ℕ) → FirstOf (λ n f. is_damaged f) i → i < length (tensors s) → refused_at Header (get_or places i 0) i ≡ judged s h es bytes room
  is-16 i e x = refuses Header i x ∙ firstly-at _ (passes (λ n f. is_damaged f)) (at Header h (entry_at (tensors s) es)) second i e x ∙ all-is

  module _ (i : ℕ) (e : FirstOf (λ n f. is_damaged f) i) (p : length (tensors s) ≤ i) where
    from_second : second ≡ judged s h es bytes room
    from_second = firstly-past _ (passes (λ n f. is_damaged f)) (at Header h (entry_at (tensors s) es)) second i e p ∙ all-is

    pub is-17 : (j : ℕ) → FirstOf is_other j → j < length (tensors s) → refused_at Tensor (get_or places j 0) j ≡ judged s h es bytes room
    is-17 j f x = refuses Tensor j x ∙ firstly-at _ (passes is_other) (at Tensor h (entry_at (tensors s) es)) third j f x ∙ from_second

    module _ (j : ℕ) (f : FirstOf is_other j) (q : length (tensors s) ≤ j) where
      from-third : third ≡ judged s h es bytes room
      from-third = firstly-past _ (passes is_other) (at Tensor h (entry_at (tensors s) es)) third j f q ∙ from_second

      pub is-18 : (k : ℕ) → FirstOf (is_misplaced bytes) k → k < length (tensors s) → refused_at Offsets (get_or places k 0) k ≡ judged s h es bytes room
      is-18 k g x = refuses Offsets k x ∙ firstly-at _ (passes (is_misplaced bytes)) (at Offsets h (entry_at (tensors s) es)) last k g x ∙ from-third

      module _ (k : ℕ) (g : FirstOf (is_misplaced bytes) k) (u : length (tensors s) ≤ k) where
        from_last : last ≡ judged s h es bytes room
        from_last = firstly-past _ (passes (is_misplaced bytes)) (at Offsets h (entry_at (tensors s) es)) last k g u ∙ from-third

        pub is-5 : room < weight_floats s → refuse Output 0 0 ≡ judged s h es bytes room
        is-5 x = rw (← from_last, lt-ltb room (weight_floats s) x) refl

        pub is-0 : weight_floats s ≤ room → Ok (weight_floats s) ≡ judged s h es bytes room
        is-0 x = rw (← from_last, le-ltb room (weight_floats s) x) refl

  -- every tensor passes, and there is room
  pub all-good : (m : ℕ) → judged s h es bytes room ≡ Ok m → AllGood s es bytes × (weight_floats s ≤ room)
  all-good m e =
      let n = length (tensors s) in
      let a = firstly-floats n (passes (λ n f. is_damaged f)) Header h (entry_at (tensors s) es) second m (all-is ∙ e) in
      let b = firstly-floats n (passes is_other) Tensor h (entry_at (tensors s) es) third m a.1 in
      let c = firstly-floats n (passes (is_misplaced bytes)) Offsets h (entry_at (tensors s) es) last m b.1 in
      (λ i x. record { damaged = a.0 i x; other = b.0 i x; misplaced = c.0 i x }, roomy (ltb room (weight_floats s)) refl c.1)
    where
      roomy : (t : Bool) → ltb room (weight_floats s) ≡ t → cond t (refuse Output 0 0) (Ok (weight_floats s)) ≡ Ok m → weight_floats s ≤ room
      roomy true k x = absurd (no_floats Output 0 0 m x)
      roomy false k x = ltb-false room (weight_floats s) k
