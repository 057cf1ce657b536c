-- Laws of what fits: a test that passes gives what the inner functions ask, and what they ask passes the test.
-- Assumes nothing.
use mathlib.Core.Bool.{true, ◌&&◌}
use mathlib.Core.Path.{◌≡◌}
use Prim.Native.Nat.{ℕ, ◌+◌, ◌*◌, ◌/◌, ◌%◌, ◌≤◌}
use native.Mathlib.Nat.{mul-le-mul}
use native.Mathlib.Omega.{arith}
use borrow.Author.Tests.{ltb-true, leb-true, eqb-true, lt-ltb, le-leb, eq-eqb}
use lib.Dec.{leb, ltb, eqb}
use Rattle.buffers.specs.inner.Room.{inside}
use Rattle.buffers.proofs.Rooms.{and_parts, two}
use Rattle.encoder_blocks.specs.declared.Sizes.{Sizes}
use Rattle.encoder_settings.specs.declared.Tables.{Tables}
use Rattle.encoder_settings.specs.declared.Attention.{Attention}
use Rattle.encoder_settings.specs.Weights.{floats}
use Rattle.encoder_blocks.specs.Block.{n_of, m_of, parts_of}
use Rattle.encoder_blocks.specs.inner.Room.{sizes_fit, tables_fit, score_floats, lengths_fit, layers_fit}
use Rattle.encoder_blocks.specs.inner.Fits.{LayersFits, SizesFit, Products}

-- the products of small sizes
pub products : (z : Sizes) → SizesFit z → Products z
products z f =
    let g : z.side * z.side ≤ 4194304 = mul-le-mul f.tables f.tables in
    let w : z.grid_w ≤ 2048 = omega (arith, f.tables, f.wide) in
    let m : z.side * z.grid_w ≤ 4194304 = mul-le-mul f.tables w in
    let t : z.tokens ≤ 4194304 = omega (arith, m, f.high) in
    let q : z.head_dim / 4 ≤ 64 = omega (arith, f.narrow) in
    record {
      tokens = t;
      matrix = mul-le-mul t t;
      small = f.small;
      grid = g;
      axis = mul-le-mul f.tables q;
      table = mul-le-mul g f.narrow;
      hiddens = mul-le-mul t f.small;
      inners = mul-le-mul t f.inner;
      squares = mul-le-mul f.small f.small;
      inner = mul-le-mul f.inner f.small;
      outer = mul-le-mul f.small f.inner;
    }

module _ (z : Sizes) where
  pub sizes-say : sizes_fit z ≡ true → SizesFit z
  unfolding sizes_fit
  sizes-say h =
      let split = eqb (z.head_dim % 4) 0 && eqb (z.heads * z.head_dim) z.hidden in
      let few = leb z.tokens (z.side * z.grid_w) in
      let some = leb z.inter 8192 && ltb 0 z.grid_w in
      let held = inside 2048 0 (z.heads * z.head_dim) in
      let a = and_parts (leb z.head_dim 256) (leb z.side 2048 && (leb z.grid_w z.side && (held && ((split && few) && some)))) h in
      let b = and_parts (leb z.side 2048) (leb z.grid_w z.side && (held && ((split && few) && some))) a.1 in
      let c = and_parts (leb z.grid_w z.side) (held && ((split && few) && some)) b.1 in
      let d = and_parts held ((split && few) && some) c.1 in
      let e = and_parts (split && few) some d.1 in
      let g = and_parts split few e.0 in
      let f = and_parts (leb z.inter 8192) (ltb 0 z.grid_w) e.1 in
      let k = and_parts (eqb (z.head_dim % 4) 0) (eqb (z.heads * z.head_dim) z.hidden) g.0 in
      let whole = eqb-true (z.heads * z.head_dim) z.hidden k.1 in
      let small = leb-true (0 + z.heads * z.head_dim) 2048 d.0 in
      record {
        whole = whole;
        fourth = eqb-true (z.head_dim % 4) 0 k.0;
        narrow = leb-true z.head_dim 256 a.0;
        small = omega (arith, whole, small);
        tables = leb-true z.side 2048 b.0;
        some = ltb-true 0 z.grid_w f.1;
        wide = leb-true z.grid_w z.side c.0;
        high = leb-true z.tokens (z.side * z.grid_w) g.1;
        inner = leb-true z.inter 8192 f.0;
      }

  sizes-fit : SizesFit z → sizes_fit z ≡ true
  unfolding sizes_fit
  sizes-fit f =
      let small : 0 + z.heads * z.head_dim ≤ 2048 = omega (arith, f.small, f.whole) in
      two (le-leb z.head_dim 256 f.narrow) (two (le-leb z.side 2048 f.tables) (two (le-leb z.grid_w z.side f.wide) (two (le-leb (0 + z.heads * z.head_dim) 2048 small)
      (two (two (two (eq-eqb (z.head_dim % 4) 0 f.fourth) (eq-eqb (z.heads * z.head_dim) z.hidden f.whole)) (le-leb z.tokens (z.side * z.grid_w) f.high))
      (two (le-leb z.inter 8192 f.inner) (lt-ltb 0 z.grid_w f.some))))))

  module _ (f : Attention) {lens lenw : ℕ} {lent : Tables} {row count : ℕ} where
    pub layers-say : layers_fit f z lens lenw lent row count ≡ true → LayersFits f z lens lenw lent row count
    unfolding layers_fit lengths_fit
    layers-say h =
        let tables = tables_fit z lent in
        let held = leb (7 * n_of z + 2 * m_of z) row && inside lens row (score_floats f z) in
        let p = and_parts (sizes_fit z) ((tables && (held && leb z.hidden lens)) && inside lenw 0 (count * floats (parts_of z))) h in
        let a = and_parts (tables && (held && leb z.hidden lens)) (inside lenw 0 (count * floats (parts_of z))) p.1 in
        let b = and_parts tables (held && leb z.hidden lens) a.0 in
        let d = and_parts held (leb z.hidden lens) b.1 in
        let e = and_parts (leb (7 * n_of z + 2 * m_of z) row) (inside lens row (score_floats f z)) d.0 in
        let k = sizes-say p.0 in
        let behind = leb-true (7 * n_of z + 2 * m_of z) row e.0 in
        let within = leb-true (row + score_floats f z) lens e.1 in
        let all = leb-true (0 + count * floats (parts_of z)) lenw a.1 in
        record {
          weights = omega (arith, all);
          inner = k.inner;
          rotation = record {
            scratch = omega (arith, behind, within);
            whole = k.whole;
            fourth = k.fourth;
            small = k.small;
            narrow = k.narrow;
            dim_in = leb-true z.hidden lens d.1;
            tables = k.tables;
            some = k.some;
            wide = k.wide;
            high = k.high;
            lengths = b.0;
          };
          scores = record { behind = behind; inside = within };
        }

    sizes-of : LayersFits f z lens lenw lent row count → SizesFit z
    sizes-of k = let t = k.rotation in record { whole = t.whole; fourth = t.fourth; narrow = t.narrow; small = t.small; tables = t.tables; some = t.some; wide = t.wide; high = t.high; inner = k.inner }

    pub layers-products : LayersFits f z lens lenw lent row count → Products z
    layers-products k = products z (sizes-of k)

    pub layers-fit : LayersFits f z lens lenw lent row count → layers_fit f z lens lenw lent row count ≡ true
    unfolding layers_fit lengths_fit
    layers-fit k =
        let t = k.rotation in
        let all : 0 + count * floats (parts_of z) ≤ lenw = omega (arith, k.weights) in
        two (sizes-fit (sizes-of k))
        (two (two t.lengths
        (two (two (le-leb (7 * n_of z + 2 * m_of z) row k.scores.behind) (le-leb (row + score_floats f z) lens k.scores.inside)) (le-leb z.hidden lens t.dim_in)))
        (le-leb (0 + count * floats (parts_of z)) lenw all))
