-- What allowed settings and an allowed grid say of the sizes and their products. Assumes nothing.
use mathlib.Core.Path.{◌≡◌, ap}
use mathlib.Core.Bool.{true, ◌&&◌}
use Prim.Native.Nat.{ℕ, ◌*◌, ◌/◌, ◌%◌, ◌≤◌}
use native.Mathlib.Nat.{div-le_self}
use native.Mathlib.Omega.{arith}
use borrow.Author.Tests.{leb-true, eqb-true}
use lib.Dec.{leb, eqb}
use Rattle.buffers.proofs.Lists.{and_left}
use Rattle.buffers.proofs.Rooms.{and_parts}
use Rattle.picture_limits.specs.Settings as P
use Rattle.picture_limits.specs.Settings.{within}
use Rattle.picture_limits.specs.Places.{patch_floats}
use Rattle.picture_limits.specs.Shape.{most}
use Rattle.picture_limits.proofs.Places.{square, times}
use Rattle.picture_limits.proofs.Sides as Sides
use Rattle.picture_limits.proofs.Sides.{within-says}
use Rattle.encoder_settings.specs.declared.EncoderSettings.{EncoderSettings}
use Rattle.encoder_settings.specs.Weights.{floats, layer}
use Rattle.encoder_settings.specs.Settings.{ranged, scaling_allowed, allowed}
use Rattle.encoder_settings.specs.inner.Bounds.{Bounded, Counted}
use Rattle.encoder_settings.proofs.Weights.{layer-long, projector-long}

pub record Ranges (s : EncoderSettings) : Type 0 where
  pub hidden : (4 ≤ s.hidden_size) × (s.hidden_size ≤ 2048)
  pub heads : (1 ≤ s.num_heads) × (s.num_heads ≤ 64)
  pub width : (4 ≤ s.head_dim) × (s.head_dim ≤ 256)
  pub layers : s.num_layers ≤ 48
  pub inner : (1 ≤ s.intermediate_size) × (s.intermediate_size ≤ 8192)
  pub text : (1 ≤ s.text_hidden_size) × (s.text_hidden_size ≤ 8192)
  pub bias : s.projector_bias ≤ 1

pub ranges-say : (s : EncoderSettings) → ranged s ≡ true → Ranges s
ranges-say s e =
    let B = leb s.projector_bias 1 in
    let X = within 1 8192 s.text_hidden_size in
    let I = within 1 8192 s.intermediate_size in
    let L = leb s.num_layers 48 in
    let D = within 4 256 s.head_dim in
    let N = within 1 64 s.num_heads in
    let h = and_parts (within 4 2048 s.hidden_size) (N && (D && (L && (I && (X && B))))) e in
    let n = and_parts N (D && (L && (I && (X && B)))) h.1 in
    let d = and_parts D (L && (I && (X && B))) n.1 in
    let l = and_parts L (I && (X && B)) d.1 in
    let i = and_parts I (X && B) l.1 in
    let x = and_parts X B i.1 in
    record {
      hidden = within-says _ _ _ h.0;
      heads = within-says _ _ _ n.0;
      width = within-says _ _ _ d.0;
      layers = leb-true _ _ l.0;
      inner = within-says _ _ _ i.0;
      text = within-says _ _ _ x.0;
      bias = leb-true _ _ x.1;
    }

pub record Allowed (s : EncoderSettings) : Type 0 where
  pub picture : Sides.Allowed s.picture.patch_size s.picture.spatial_merge_size s.picture.image_size
  pub ranges : Ranges s
  pub fourth : s.head_dim % 4 ≡ 0
  pub split : s.num_heads * s.head_dim ≡ s.hidden_size

pub allowed-says : (s : EncoderSettings) → allowed s ≡ true → Allowed s
unfolding allowed
allowed-says s e =
    let F = eqb (s.head_dim % 4) 0 in
    let E = eqb (s.num_heads * s.head_dim) s.hidden_size in
    let p = and_parts (P.allowed s.picture) (ranged s && (F && (E && scaling_allowed s))) e in
    let r = and_parts (ranged s) (F && (E && scaling_allowed s)) p.1 in
    let f = and_parts F (E && scaling_allowed s) r.1 in
    record { picture = Sides.allowed-says s.picture p.0; ranges = ranges-say s r.0; fourth = eqb-true _ _ f.0; split = eqb-true _ _ (and_parts E (scaling_allowed s) f.1).0 }

pub bounded : (s : EncoderSettings) → Allowed s → Bounded s
bounded s a =
    let m = s.picture.spatial_merge_size in
    let h = s.hidden_size in
    let i = s.intermediate_size in
    let x = s.text_hidden_size in
    let r = a.ranges in
    let q = a.picture in
    let P : most s.picture ≤ 2048 = omega (arith, div-le_self s.picture.image_size s.picture.patch_size, q.image-high) in
    let pp = square s.picture.patch_size q.patch-high in
    let mm = times m m 4 4 q.merge-high q.merge-high in
    let hh = times h h 2048 2048 r.hidden.1 r.hidden.1 in
    let ih = times i h 8192 2048 r.inner.1 r.hidden.1 in
    let hm = times h (m * m) 2048 16 r.hidden.1 mm in
    let PP = times (most s.picture) (most s.picture) 2048 2048 P P in
    let f : patch_floats s.picture.patch_size ≤ 3072 = omega arith in
    let hi = times h i 2048 8192 r.hidden.1 r.inner.1 in
    let l : floats (layer h i) ≤ 67112960 = omega arith in
    let L = times s.num_layers (floats (layer h i)) 48 67112960 r.layers l in
    record {
      patch-low = q.patch-low;
      merge_low = q.merge_low;
      merge-area = mm;
      most-high = P;
      patch-area = pp;
      hidden-high = r.hidden.1;
      inner-high = r.inner.1;
      text-high = r.text.1;
      bias = r.bias;
      biases = omega (arith, times s.projector_bias x 1 8192 r.bias r.text.1);
      squares = hh;
      outer = hi;
      inner = ih;
      projection = times h (patch_floats s.picture.patch_size) 2048 3072 r.hidden.1 f;
      layers = omega (arith, L);
      layers-are = ap (λ (n : ℕ). s.num_layers * n) (layer-long h i);
      merged = hm;
      merging = times h (h * (m * m)) 2048 32768 r.hidden.1 hm;
      linear-1 = times x h 8192 2048 r.text.1 r.hidden.1;
      linear-2 = times x x 8192 8192 r.text.1 r.text.1;
      projector-is = projector-long h (h * (m * m)) x s.projector_bias r.bias;
      positions = PP;
      axis = times (most s.picture) (s.head_dim / 4) 2048 64 P (omega (arith, r.width.1));
      table = times (most s.picture * most s.picture) s.head_dim 4194304 256 PP r.width.1;
    }

pub sizes-of : (s : EncoderSettings) → allowed s ≡ true → Bounded s
sizes-of s e = bounded s (allowed-says s e)

pub counted : (s : EncoderSettings) (t o : ℕ) → Bounded s → t ≤ 4194304 → o ≤ t → Counted s t o
counted s t o b h k =
    let l : o ≤ 4194304 = omega arith in
    record {
      tokens = h;
      hiddens = times t s.hidden_size 4194304 2048 h b.hidden-high;
      inners = times t s.intermediate_size 4194304 8192 h b.inner-high;
      texts = times o s.text_hidden_size 4194304 8192 l b.text-high;
    }

-- allowed settings have allowed picture settings, so that a shape's own 1 is never reached
pub picture-allowed : (s : EncoderSettings) → allowed s ≡ true → P.allowed s.picture ≡ true
unfolding allowed
picture-allowed s e = and_left (P.allowed s.picture) (ranged s && (eqb (s.head_dim % 4) 0 && (eqb (s.num_heads * s.head_dim) s.hidden_size && scaling_allowed s))) e
