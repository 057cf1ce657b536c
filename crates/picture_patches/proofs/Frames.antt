-- The frame of patches that fit. Assumes nothing.
use Prim.Native.Nat.{ℕ, ◌/◌}
use native.Mathlib.Nat.{div-mul-le_self}
use Rattle.picture_limits.proofs.Sides.{sided-says, spans}
use Rattle.picture_patches.specs.declared.rows.Frame.{Frame}
use Rattle.picture_patches.specs.inner.Frame.{Framed}
use Rattle.picture_patches.proofs.Fits.{Fits}

abbrev pub frame : ℕ → ℕ → ℕ → ℕ → ℕ → Frame
frame h w th tw p = record { h = h; w = w; th = th; tw = tw; p = p; gh = th / p; gw = tw / p }

pub framed : (len h w th tw p room : ℕ) → Fits len h w th tw p room → Framed (frame h w th tw p) len
framed len h w th tw p room f =
    let t = sided-says h w f.sides in
    record {
      bytes = f.bytes;
      tall = t.0;
      wide = t.2;
      tall-high = t.1;
      wide_high = t.3;
      target-tall = f.tall;
      target-wide = f.wide;
      patch-low = f.patch-low;
      patch-high = f.patch-high;
      grid-tall = div-mul-le_self th p;
      grid-wide = div-mul-le_self tw p;
      grid-tall-high = (spans th p f.patch-low f.tall).low;
      grid-wide-high = (spans tw p f.patch-low f.wide).low;
    }
