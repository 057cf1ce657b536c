-- What holds of each tensor's name and its place, member after member. Assumes nothing.
use mathlib.Core.Path.{◌≡◌, refl, sym, ap, subst, ◌∙◌}
use mathlib.Core.Bool.{Bool, cond}
use mathlib.Core.List.{List, [], ◌∷◌}
use Prim.Native.Nat.{ℕ, zero, suc, ◌<◌}
use native.Mathlib.Omega.{arith}
use lib.ListN.{length, get_or}
use Rattle.buffers.proofs.Lists.{length-tab, get_or-tab}
use Rattle.encoder_settings.specs.declared.EncoderSettings.{EncoderSettings}
use Rattle.json_members.specs.inner.Bytes.{name_is}
use Rattle.tensor_header.specs.Tensors.{tensors}
use Rattle.tensor_header.specs.inner.Named.{names, named_at, name_at}
use Rattle.tensor_header.specs.inner.Walked.{nowhere, noted, Each}
use Rattle.tensor_header.proofs.Listed.{named_past}

named-is : (ws : List (List ℕ)) (i : ℕ) (l : List ℕ) → i < length ws → named_at ws i l ≡ name_is (name_at ws i) l
named-is [] i l h = absurd (omega arith)
named-is (w ∷ ws) zero l h = refl
named-is (w ∷ ws) (suc i) l h = named-is ws i l (omega arith)

module _ {s : EncoderSettings} {A B : List ℕ → ℕ → Type 0} where
  pub each_map : {i n : ℕ} → ((w : List ℕ) (n : ℕ) → A w n → B w n) → Each s A i n → Each s B i n
  each_map f e = record { there = λ h. f _ _ (e.there h); beyond = e.beyond }

  -- a member more, whose name begins l and whose value stands at v
  pub each-note : {i n m : ℕ} (l : List ℕ) (v : ℕ) → ((w : List ℕ) (n m : ℕ) → A w n → m ≡ cond (name_is w l) v n → B w m) → m ≡ cond (named_at (names (tensors s)) i l) v n → Each s A i n → Each s B i m
  each-note {i} {n} {m} l v f q e =
      record {
        there = λ h. f (name_at (names (tensors s)) i) n m (e.there h) (q ∙ ap (λ (t : Bool). cond t v n) (named-is (names (tensors s)) i l h));
        beyond = λ h. q ∙ ap (λ (t : Bool). cond t v n) (named_past (names (tensors s)) i l h) ∙ e.beyond h;
      }

-- P holds of each of the places
abbrev pub All : EncoderSettings → (List ℕ → ℕ → Type 0) → List ℕ → Type 0
All s P places = (i : ℕ) → i < length places → Each s P i (get_or places i 0)

module _ (s : EncoderSettings) where
  pub all_none : {P : List ℕ → ℕ → Type 0} (places after : List ℕ) → after ≡ nowhere places → ((w : List ℕ) → P w 0) → All s P after
  all_none {P} places after e f i h =
      let n : length after ≡ length places = ap length e ∙ length-tab (length places) (λ i. 0) in
      let z : get_or after i 0 ≡ 0 = ap (λ (l : List ℕ). get_or l i 0) e ∙ get_or-tab (length places) i (λ i. 0) 0 (omega arith) in
      record { there = λ x. subst (P _) (sym z) (f _); beyond = λ x. z }

  -- one more of them all
  pub all-note : {A B : List ℕ → ℕ → Type 0} (l : List ℕ) (v : ℕ) (places after : List ℕ) → after ≡ noted s l v places → ((w : List ℕ) (n m : ℕ) → A w n → m ≡ cond (name_is w l) v n → B w m) → All s A places → All s B after
  unfolding noted
  all-note l v places after e f a i h =
      let g : ℕ → ℕ = λ (i : ℕ). cond (named_at (names (tensors s)) i l) v (get_or places i 0) in
      let n : length after ≡ length places = ap length e ∙ length-tab (length places) g in
      let k : i < length places = omega arith in
      each-note l v f (ap (λ (l : List ℕ). get_or l i 0) e ∙ get_or-tab (length places) i g 0 k) (a i k)

  pub long-note : (l : List ℕ) (v : ℕ) (places after : List ℕ) → after ≡ noted s l v places → length after ≡ length places
  unfolding noted
  long-note l v places after e = ap length e ∙ length-tab (length places) (λ i. cond (named_at (names (tensors s)) i l) v (get_or places i 0))
