-- What an acceptance says of a run: its places and sizes fit. Assumes nothing.
use mathlib.Core.Path.{◌≡◌, refl, sym, ap, ◌∙◌}
use mathlib.Core.Bool.{Bool, true, false}
use mathlib.Core.List.{List}
use Prim.Native.Nat.{ℕ, zero, suc, ◌+◌, ◌*◌, ◌-◌, ◌/◌, ◌≤◌, ◌<◌}
use native.Mathlib.Nat.{suc-mul, mul-le-mul_right, mul_comm, mul_left_comm, mul-mul-mul_comm, mul-pos, mul-div_cancel, div-le_self, div-mul_cancel, dvd_of_mod-eq-zero, le-div_iff_mul-le}
use native.Mathlib.Omega.{arith}
use lib.Ieee.{Float}
use Rattle.buffers.specs.inner.Apart.{before}
use Rattle.picture_limits.specs.Places.{patch_floats}
use Rattle.picture_limits.specs.Shape.{most}
use Rattle.encoder_settings.specs.declared.EncoderSettings.{EncoderSettings}
use Rattle.encoder_settings.specs.declared.Attention.{Attention}
use Rattle.encoder_settings.specs.declared.Attention.TheVariants.{RowWise, Plain}
use Rattle.encoder_settings.specs.declared.Tables.{Tables}
use Rattle.encoder_settings.specs.declared.Tables.TheVariants.{Full, Axes}
use Rattle.encoder_settings.specs.Settings.{merge_area, tables_fit, scratch_floats, plain_floats}
use Rattle.encoder_settings.specs.Weights.{floats}
use Rattle.encoder_settings.proofs.Weights.{layer-long}
use Rattle.encoder_settings.proofs.Accepted.{Lengths, Ready}
use Rattle.encoder_blocks.specs.declared.Sizes.{Sizes}
use Rattle.encoder_blocks.specs.Block.{parts_of}
use Rattle.encoder_run.specs.inner.Live.{regions_of, counts_of}
use Rattle.encoder_run.specs.Stages.{sizes_of, run_of, forward_run}
use Rattle.encoder_blocks.specs.inner.Room as Room
use Rattle.encoder_blocks.specs.inner.Room.{score_floats}
use Rattle.encoder_blocks.specs.inner.Fits.{RotationFits, LayersFits}
use Rattle.encoder_run.specs.inner.Fits.{CountsFit, RegionsFit, EmbedFits, SourceFits, MergeFits, ProjFits, RunFits}

-- the squares of a grid that merge divides
squares : (m gh gw : ℕ) → 0 < m * m → gh ≡ gh / m * m → gw ≡ gw / m * m → gh / m * (gw / m) ≡ gh * gw / (m * m)
squares m gh gw h e g =
    let p : gh * gw ≡ gh / m * (gw / m) * (m * m) = cc (mul-mul-mul_comm (gh / m) m (gw / m) m) in
    sym (ap (λ (k : ℕ). k / (m * m)) p ∙ mul-div_cancel (gh / m * (gw / m)) h)

-- a square is not below its side
square_le : (t : ℕ) → t ≤ t * t
square_le zero = omega arith
square_le (suc t) = omega (arith, suc-mul t (suc t))

module _ (f : Attention) (s : EncoderSettings) (gh gw lenx lenw : ℕ) (tables : Tables) (out lens t o : ℕ) (r : Ready s gh gw lenx t o)
    (l : Lengths f s t o lenw (tables_fit s tables) out lens) where
  abbrev z : Sizes
  z = sizes_of s t gw

  abbrev H : ℕ
  H = s.hidden_size

  abbrev m : ℕ
  m = s.picture.spatial_merge_size

  some-merge : 0 < m
  some-merge = r.bounds.merge_low

  some-square : 0 < m * m
  some-square = mul-pos some-merge some-merge

  tall : gh ≡ gh / m * m
  tall = sym (div-mul_cancel m (dvd_of_mod-eq-zero m r.grid.tall.even))

  wide : gw ≡ gw / m * m
  wide = sym (div-mul_cancel m (dvd_of_mod-eq-zero m r.grid.wide.even))

  count : gh / m * (gw / m) ≡ o
  count = squares m gh gw some-square tall wide ∙ sym r.count-is

  whole : o * (m * m) ≡ t
  whole = cc (count, tall, wide, r.tokens-are, mul-mul-mul_comm (gh / m) m (gw / m) m)

  few : o ≤ t
  few = omega (arith, r.count-is, r.tokens-are, div-le_self (gh * gw) (merge_area s.picture))

  some-tokens : 1 ≤ t
  some-tokens = omega (arith, r.tokens-are, mul-pos r.grid.tall.low r.grid.wide.low)

  hiddens : H ≤ t * H
  hiddens = omega (arith, mul-le-mul_right H some-tokens)

  merged : o * (H * (m * m)) ≡ t * H
  merged = mul_left_comm o H (m * m) ∙ ap (λ (k : ℕ). H * k) whole ∙ mul_comm H t

  -- the scratch has room for forward's, and for the scores of the form behind it
  both : (k : Attention) → f ≡ k → (scratch_floats s t o ≤ lens) × ((regions_of z (o * s.text_hidden_size)).row + score_floats f z ≤ lens)
  both Plain e = let h : plain_floats s t o ≤ lens = rw e at l.scratch-holds in rw e (omega (arith, h, square_le t), omega (arith, h, square_le t))
  both RowWise e = let h : scratch_floats s t o ≤ lens = rw e at l.scratch-holds in rw e (h, omega (arith, h))

  held : scratch_floats s t o ≤ lens
  held = (both f refl).0

  counts-fit : CountsFit s z
  counts-fit =
      let b = r.bounds in
      record {
        small = b.hidden-high;
        patch-area = b.patch-area;
        projection = b.projection;
        squares = b.squares;
        inner = b.inner;
        outer = b.outer;
        layers = omega (arith, b.layers, b.layers-are);
        merge-area = b.merge-area;
        merged = b.merged;
      }

  regions-fit : RegionsFit z (o * s.text_hidden_size)
  regions-fit =
      record {
        small = r.bounds.hidden-high;
        hiddens = r.counts.hiddens;
        inners = r.counts.inners;
        texts = r.counts.texts;
      }

  embed-fits : EmbedFits z lenx lens (counts_of s z).embedding (counts_of s z).patch
  embed-fits =
      record {
        small = r.bounds.hidden-high;
        xin = r.patches-are ∙ ap (λ (k : ℕ). k * patch_floats s.picture.patch_size) (sym r.tokens-are);
        room = omega (arith, held);
        weights = omega arith;
      }

  side-holds : (g : ℕ) → g * s.picture.patch_size ≤ s.picture.image_size → g ≤ most s.picture
  side-holds g h = (le-div_iff_mul-le r.bounds.patch-low).1 h

  -- the tables that the settings ask for are those that the layers ask for
  same-fit : (b : Tables) → tables_fit s b ≡ true → Room.tables_fit z b ≡ true
  same-fit (Full cos sin) e = e
  same-fit (Axes row_cos row_sin column_cos column_sin) e = e

  rotation-fits : RotationFits z lens tables
  rotation-fits =
      record {
        scratch = omega (arith, held);
        whole = r.settings.split;
        fourth = r.settings.fourth;
        small = r.bounds.hidden-high;
        narrow = r.settings.ranges.width.1;
        dim_in = omega (arith, held, hiddens);
        tables = r.bounds.most-high;
        some = r.grid.wide.low;
        wide = side-holds gw r.grid.wide.high;
        high = omega (arith, r.tokens-are, mul-le-mul_right gw (side-holds gh r.grid.tall.high));
        lengths = same-fit tables l.tables-are;
      }

  layers-fit : LayersFits f z lens (counts_of s z).layers tables (regions_of z (o * s.text_hidden_size)).row s.num_layers
  layers-fit =
      record {
        weights = let e : (counts_of s z).layers ≡ s.num_layers * floats (parts_of z) = ap (λ (n : ℕ). s.num_layers * n) (layer-long z.hidden z.inter) in omega arith;
        inner = r.settings.ranges.inner.1;
        rotation = rotation-fits;
        scores = record { behind = omega arith; inside = (both f refl).1 };
      }

  total : o * (z.hidden * (m * m)) ≡ gh / m * (gw / m) * (z.hidden * (m * m))
  total = ap (λ (k : ℕ). k * (z.hidden * (m * m))) (sym count)

  some-wide : 0 < gw / m
  some-wide = omega (arith, (le-div_iff_mul-le {k = m} {x = 1} {y = gw} some-merge).1 (least gw r.grid.wide.low wide))
    where
      least : (g : ℕ) → 1 ≤ g → g ≡ g / m * m → 1 * m ≤ g
      least g h e = few-of (g / m) g h e
        where
          few-of : (q g : ℕ) → 1 ≤ g → g ≡ q * m → 1 * m ≤ g
          few-of zero g h e = absurd (omega arith)
          few-of (suc q) g h e = omega (arith, e, suc-mul q m)

  source_fits : (p : ℕ) → p < o * (z.hidden * (m * m)) → SourceFits p m gh gw z.hidden
  source_fits p h =
      record {
        some = some-merge;
        square = some-square;
        small = r.bounds.merge-area;
        wide = some-wide;
        row = mul-pos (omega (arith, r.settings.ranges.hidden.0)) some-square;
        row_in = omega (arith, r.bounds.merged);
        gh-is = tall;
        gw-is = wide;
        tokens = r.grid.tokens;
        room = omega (arith, r.counts.hiddens, ap (λ (k : ℕ). k * H) r.tokens-are);
        inside = omega (arith, h, total);
      }

  merge-fits : MergeFits lens (t * z.hidden) (2 * (t * z.hidden)) (o * (z.hidden * (m * m))) m gh gw z.hidden
  merge-fits =
      let e : gh * gw * z.hidden ≡ t * z.hidden = ap (λ (k : ℕ). k * z.hidden) (sym r.tokens-are) in
      let f : o * (z.hidden * (m * m)) ≡ t * z.hidden = merged in
      let g : 7 * (t * z.hidden) ≤ lens = omega (arith, held) in
      record {
        each = source_fits;
        total-is = total;
        some = some-merge;
        wide = some-wide;
        channels = omega (arith, r.settings.ranges.hidden.0);
        x_in = omega (arith, e, g);
        y_in = omega (arith, f, g);
        apart = before (omega (arith, e));
      }

  project-fits : ProjFits t z.hidden o (counts_of s z).merged s.text_hidden_size s.projector_bias lens (lenw - ((counts_of s z).embedding + (counts_of s z).layers)) m gh gw (regions_of z (o * s.text_hidden_size)).linear
  project-fits =
      let f : o * (z.hidden * (m * m)) ≡ t * z.hidden = merged in
      record {
        small = r.bounds.hidden-high;
        bias = r.bounds.bias;
        weights = omega (arith, l.weights-are, r.bounds.layers-are, r.bounds.projector-is);
        same = ap (λ (k : ℕ). k * z.hidden) (sym r.tokens-are);
        count = count;
        wide_is = refl;
        wide_in = omega (arith, f);
        fold_in = mul-le-mul_right z.hidden few;
        at-is = omega arith;
        room = omega (arith, held);
        merges = merge-fits;
      }

  pub run_fits : RunFits f s gh gw t o lenx lenw tables lens
  run_fits =
      record {
        counts = counts-fit;
        regions = regions-fit;
        embedding-is = omega arith;
        layers-is = r.bounds.layers-are;
        weights-is = l.weights-are;
        embeds = embed-fits;
        layers = layers-fit;
        projects = project-fits;
      }

  -- the run of an accepted call is the call's
  pub run_is : (w cos sin x : List Float) → run_of s gh gw t o w cos sin x ≡ forward_run s gh gw w cos sin x
  run_is w cos sin x =
      ap (λ (u : ℕ). run_of s gh gw u o w cos sin x) r.tokens-are ∙ ap (λ (v : ℕ). run_of s gh gw (gh * gw) v w cos sin x) r.count-is
