-- A call by tables of rows and of columns agrees with the call by the full tables that they stand for. Assumes nothing.
use mathlib.Core.Bool.{Bool, true, false, ◌&&◌}
use mathlib.Core.Path.{◌≡◌, refl, sym, ap, ◌∙◌, subst}
use mathlib.Core.List.{List}
use Prim.Native.Nat.{ℕ, ◌+◌, ◌*◌, ◌/◌}
use native.Mathlib.Nat.{mul_assoc}
use native.Mathlib.Omega.{arith}
use borrow.Author.Tests.{eqb-true, eq-eqb}
use lib.Dec.{eqb}
use lib.ListN.{length}
use lib.Ieee.{Float}
use Rattle.buffers.proofs.Rooms.{and_parts, two}
use Rattle.buffers.proofs.Lists.{length-rows, length-tab}
use Rattle.picture_limits.specs.Shape.{most}
use Rattle.encoder_settings.specs.declared.EncoderSettings.{EncoderSettings}
use Rattle.encoder_settings.specs.Settings.{Checked, accepted, allowed, axis_floats, table_floats, full_tables, axis_tables, checked_of}
use Rattle.encoder_settings.proofs.Bounds.{allowed-says}
use Rattle.encoder_rotation.specs.Axes.{expand, axis, precomputed}
use Rattle.encoder_rotation.proofs.Expanded.{length-expand, precomputed-is}
use Rattle.buffers.specs.Rows.{tab}
use Rattle.encoder_run.specs.Stages.{forward_run}
use Rattle.encoder.specs.Forward.{encoded_of, out_of, scratch_of}
use Rattle.encoder_run.specs.Answer.{Encoded, encoded_by, out_by, scratch_by}
use Rattle.encoder.specs.Axes.{full_of, encoded_axes, out_axes, scratch_axes, Agrees, ExpandedAgrees, PrecomputedAgrees}

-- a full table of two that have their length has its own
long : (s : EncoderSettings) (r c : List Float) → allowed s ≡ true → length r ≡ axis_floats s → length c ≡ axis_floats s → length (full_of s r c) ≡ table_floats s
long s r c a d e =
    let P = most s.picture in
    let q = s.head_dim / 4 in
    let h : q + q + (q + q) ≡ s.head_dim = omega (arith, (allowed-says s a).fourth) in
    length-expand P q r c d e ∙ ap (λ (k : ℕ). P * (P * k)) h ∙ sym (mul_assoc P P s.head_dim)

module _ (s : EncoderSettings) (gh gw : ℕ) (w x row_cos row_sin column_cos column_sin : List Float)
    (h : axis_tables s (length row_cos) (length row_sin) (length column_cos) (length column_sin) ≡ true) where
  abbrev C : List Float
  C = full_of s row_cos column_cos

  abbrev S : List Float
  S = full_of s row_sin column_sin

  full : allowed s ≡ true → full_tables s (length C) (length S) ≡ true
  full a =
      let n = axis_floats s in
      let b = and_parts (eqb (length row_cos) n && eqb (length row_sin) n) (eqb (length column_cos) n && eqb (length column_sin) n) h in
      let r = and_parts (eqb (length row_cos) n) (eqb (length row_sin) n) b.0 in
      let c = and_parts (eqb (length column_cos) n) (eqb (length column_sin) n) b.1 in
      two (eq-eqb (length C) (table_floats s) (long s row_cos column_cos a (eqb-true (length row_cos) n r.0) (eqb-true (length column_cos) n c.0)))
      (eq-eqb (length S) (table_floats s) (long s row_sin column_sin a (eqb-true (length row_sin) n r.1) (eqb-true (length column_sin) n c.1)))

  same : (out scratch : ℕ) → checked_of s gh gw (length x) (length w) (axis_tables s (length row_cos) (length row_sin) (length column_cos) (length column_sin)) out scratch
      ≡ checked_of s gh gw (length x) (length w) (full_tables s (length C) (length S)) out scratch
  unfolding checked_of
  same out scratch = go (allowed s) refl
    where
      go : (a : Bool) → allowed s ≡ a → checked_of s gh gw (length x) (length w) (axis_tables s (length row_cos) (length row_sin) (length column_cos) (length column_sin)) out scratch
          ≡ checked_of s gh gw (length x) (length w) (full_tables s (length C) (length S)) out scratch
      go true a = rw (h, full a) refl
      go false a = rw a refl

  pub expanded-agree : Agrees s gh gw w x row_cos row_sin column_cos column_sin C S
  unfolding encoded_axes out_axes scratch_axes encoded_of out_of scratch_of
  expanded-agree =
      let R = forward_run s gh gw w C S x in
      record {
        answers = λ out scratch. ap (λ (k : Checked). encoded_by k R) (same out scratch);
        outputs = λ scratch old. ap (λ (k : Checked). out_by k R old) (same (length old) scratch);
        scratches = λ out old. ap (λ (k : Checked). scratch_by k old) (same out (length old));
      }

pub expanded-agrees : ExpandedAgrees
expanded-agrees s gh gw w x row_cos row_sin column_cos column_sin h = expanded-agree s gh gw w x row_cos row_sin column_cos column_sin h

-- ---- tables of the form that `precompute_2d_rope` makes

axis-long : (s : EncoderSettings) (f : ℕ → ℕ → Float) → eqb (length (axis (most s.picture) (s.head_dim / 4) f)) (axis_floats s) ≡ true
axis-long s f =
    let q = s.head_dim / 4 in
    eq-eqb (length (axis (most s.picture) q f)) (axis_floats s) (length-rows (λ h. tab q (f h)) q (λ h. length-tab q (f h)) (most s.picture))

pub precomputed-agrees : PrecomputedAgrees
precomputed-agrees s gh gw w x cos_h cos_w sin_h sin_w =
    let P = most s.picture in
    let q = s.head_dim / 4 in
    rw (precomputed-is P q cos_h cos_w, precomputed-is P q sin_h sin_w)
    (expanded-agrees s gh gw w x (axis P q cos_h) (axis P q sin_h) (axis P q cos_w) (axis P q sin_w)
    (two (two (axis-long s cos_h) (axis-long s sin_h)) (two (axis-long s cos_w) (axis-long s sin_w))))
