-- `encoder_rotation::axes::rotate_token_axes` meets its contract. Assumes nothing.
use mathlib.Core.Path.{ap, ◌∙◌}
use mathlib.Core.List.{List}
use Prim.Native.Nat.{ℕ, ◌+◌, ◌≤◌}
use native.Mathlib.Omega.{arith}
use lib.ListN.{length, replicate, length-replicate}
use lib.Ieee.{Float}
use Rattle.number_floats.specs.Constants.{zero32}
use Rattle.encoder_rotation.proofs.Expanded.{length-twice, front}
use Rattle.encoder_rotation.proofs.axes.rotate_token_axes.Goals as goal

-- an array before anything is written
abbrev blank : List Float
blank = replicate 256 zero32

-- what was built is long enough
room : (q : ℕ) → q ≤ 64 → q + q + (q + q) ≤ length blank
room q h = simp length-replicate (omega arith)

pub rotate_token-requires : goal.rotate_token-requires
rotate_token-requires c =
    record {
      xin = c.requires.xin;
      cin = ap length (front blank c.args.row_cos.now c.args.column_cos.now c.args.q c.requires.rows-cos c.requires.columns-cos (room c.args.q c.requires.narrow) c.build.ensures c.part.ensures) ∙ length-twice c.args.q c.args.row_cos.now c.args.column_cos.now c.requires.rows-cos c.requires.columns-cos;
      sin' = ap length (front blank c.args.row_sin.now c.args.column_sin.now c.args.q c.requires.rows-sin c.requires.columns-sin (room c.args.q c.requires.narrow) c.build-2.ensures c.part-2.ensures) ∙ length-twice c.args.q c.args.row_sin.now c.args.column_sin.now c.requires.rows-sin c.requires.columns-sin;
    }

pub returns : goal.returns
returns c =
    cc (
      c.rotate_token.ensures,
      front blank c.args.row_cos.now c.args.column_cos.now c.args.q c.requires.rows-cos c.requires.columns-cos (room c.args.q c.requires.narrow) c.build.ensures c.part.ensures,
      front blank c.args.row_sin.now c.args.column_sin.now c.args.q c.requires.rows-sin c.requires.columns-sin (room c.args.q c.requires.narrow) c.build-2.ensures c.part-2.ensures,
    )
