-- What an acceptance says: the settings are allowed, and every length is what the call needs. Assumes nothing.
use mathlib.Core.Path.{◌≡◌, refl, sym, ap}
use mathlib.Core.Bool.{Bool, true}
use Prim.Native.Nat.{ℕ, ◌*◌, ◌/◌, ◌≤◌}
use native.Mathlib.Nat.{div-le_self}
use native.Mathlib.Omega.{arith}
use borrow.Author.Tests.{leb-true, eqb-true}
use lib.Dec.{leb, eqb}
use Rattle.picture_limits.specs.declared.Refusal.{Refusal}
use Rattle.picture_limits.specs.declared.Refusal.TheVariants.{Setting, Output, WeightsLength, TableLength, Scratch, Tokens}
use Rattle.std.specs.Prelude.{Result, Ok, Err}
use Rattle.picture_limits.specs.Refusal.{unless}
use Rattle.picture_limits.specs.Places.{patch_floats}
use Rattle.picture_limits.specs.Shape.{shaped}
use Rattle.picture_limits.proofs.Refusals.{passed}
use Rattle.picture_limits.proofs.Shapes as Shapes
use Rattle.picture_limits.proofs.Shapes.{shaped-says}
use Rattle.encoder_settings.specs.declared.EncoderSettings.{EncoderSettings}
use Rattle.encoder_settings.specs.declared.Attention.{Attention}
use Rattle.encoder_settings.specs.Settings.{Checked, accepted, tokens, tokens_left, merge_area, allowed, weight_floats, scratch_by, few_tokens, onward, lengths, checked_by}
use Rattle.encoder_settings.specs.inner.Bounds.{Bounded, Counted}
use Rattle.encoder_settings.proofs.Bounds.{Allowed, allowed-says, bounded, counted}

never : (r : Refusal) (t o : ℕ) → Err r ≡ accepted t o → ⊥
never r t o e = let z : ◌≡◌ {A = ℕ} 0 1 = cc in omega arith

moved : (h : Result ℕ Refusal) (f : ℕ → Checked) (t o : ℕ) → onward h f ≡ accepted t o → (u : ℕ) × (h ≡ Ok u) × (f u ≡ accepted t o)
moved (Ok u) f t o e = (u, refl, e)
moved (Err r) f t o e = let z : ◌≡◌ {A = ℕ} 0 1 = cc in (0, cc, cc)

pub record Lengths (f : Attention) (s : EncoderSettings) (t o weights : ℕ) (tables : Bool) (out scratch : ℕ) : Type 0 where
  pub weights-are : weights ≡ weight_floats s
  pub tables-are : tables ≡ true
  pub out-holds : o * s.text_hidden_size ≤ out
  pub scratch-holds : scratch_by f s t o ≤ scratch
  pub few : few_tokens f t ≡ true

pub record Ready (s : EncoderSettings) (gh gw patches t o : ℕ) : Type 0 where
  pub settings : Allowed s
  pub bounds : Bounded s
  pub grid : Shapes.Grids s.picture gh gw
  pub tokens-are : t ≡ gh * gw
  pub patches-are : patches ≡ gh * gw * patch_floats s.picture.patch_size
  pub count-is : o ≡ gh * gw / merge_area s.picture
  pub counts : Counted s t o

module _ (f : Attention) (s : EncoderSettings) (weights : ℕ) (tables : Bool) (out scratch : ℕ) where
  lengths-say : (t o u v : ℕ) → few_tokens f t ≡ true → lengths s t o weights tables out (scratch_by f s t o) scratch ≡ accepted u v
      → (Lengths f s t o weights tables out scratch) × (u ≡ t) × (v ≡ o)
  unfolding lengths
  lengths-say t o u v k e =
      let b = passed (eqb weights (weight_floats s)) _ _ (accepted u v) (never WeightsLength u v) e in
      let d = passed tables _ _ (accepted u v) (never TableLength u v) b.1 in
      let c = passed (leb (o * s.text_hidden_size) out) _ _ (accepted u v) (never Output u v) d.1 in
      let g = passed (leb (scratch_by f s t o) scratch) _ _ (accepted u v) (never Scratch u v) c.1 in
      let h = g.1 in (
        record {
          weights-are = eqb-true _ _ b.0;
          tables-are = d.0;
          out-holds = leb-true _ _ c.0;
          scratch-holds = leb-true _ _ g.0;
          few = k;
        },
        sym (ap tokens h),
        sym (ap tokens_left h),
      )

  -- the lengths for t tokens, where they are few enough
  abbrev rest : ℕ → Checked
  rest u = let v = u / merge_area s.picture in unless (few_tokens f u) (Err Tokens) (lengths s u v weights tables out (scratch_by f s u v) scratch)

  ready : (gh gw patches u t o : ℕ) → allowed s ≡ true → shaped s.picture gh gw patches ≡ Ok u → rest u ≡ accepted t o
      → Ready s gh gw patches t o × Lengths f s t o weights tables out scratch
  ready gh gw patches u t o a h e =
      let q = s.picture in
      let z = shaped-says q gh gw patches u h in
      let w = passed (few_tokens f u) _ _ (accepted t o) (never Tokens t o) e in
      let n = lengths-say u (u / merge_area q) t o w.0 w.1 in
      let p = bounded s (allowed-says s a) in
      let k : u ≤ 4194304 = omega (arith, z.grids.tokens, z.tokens) in
      rw (n.1, n.2) (
        record {
          settings = allowed-says s a;
          bounds = p;
          grid = z.grids;
          tokens-are = z.tokens;
          patches-are = z.samples;
          count-is = ap (λ (v : ℕ). v / merge_area q) z.tokens;
          counts = counted s u (u / merge_area q) p k (div-le_self u (merge_area q));
        },
        n.0,
      )

  pub accepted-says : (gh gw patches t o : ℕ) → checked_by f s gh gw patches weights tables out scratch ≡ accepted t o
      → Ready s gh gw patches t o × Lengths f s t o weights tables out scratch
  unfolding checked_by
  accepted-says gh gw patches t o e =
      let q = s.picture in
      let a = passed (allowed s) _ (onward (shaped q gh gw patches) rest) (accepted t o) (never Setting t o) e in
      let b = moved (shaped q gh gw patches) rest t o a.1 in
      ready gh gw patches b.0 t o a.0 b.1 b.2
