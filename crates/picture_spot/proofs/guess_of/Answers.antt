-- `picture_spot::guess_of` meets its contract: what was guessed is held to the pattern. Assumes nothing.
use Rattle.std.proofs.Common.{◌≡◌, ℕ, ◌<◌, sym, ap, ◌∙◌, arith, cond}
use Rattle.std.specs.Prelude.{Option, Some, None, eqb}
use lib.Ieee.{binary32, of_bits}
use Rattle.picture_samples.specs.Samples.{entry}
use Rattle.picture_spot.specs.inner.Spot.{guessed_with}
use Rattle.picture_spot.proofs.Spots.{guessed-lt, tried-is, no-channel}
use Rattle.picture_spot.proofs.guess_of.Goals as goal

pub returns-then-c-ge3 : goal.returns-then-c-ge3
returns-then-c-ge3 c = no-channel (entry c.args.t.now) (guessed_with c.args.slope c.args.shift) c.args.c c.args.b c.if-c-ge3.true

pub held_to-requires : goal.held_to-requires
held_to-requires c =
    let told : c.guess-k.result ≡ (guessed_with c.args.slope c.args.shift) c.args.c (of_bits binary32 c.args.b) = c.guess-k.ensures ∙ ap ((guessed_with c.args.slope c.args.shift) c.args.c) c.f32_of_bits.ensures in
    let low : c.guess-k.result < 256 = rw told (guessed-lt c.args.slope c.args.shift (of_bits binary32 c.args.b)) in
    (omega arith, low)

pub returns : goal.returns
returns c =
    let told : c.guess-k.result ≡ (guessed_with c.args.slope c.args.shift) c.args.c (of_bits binary32 c.args.b) = c.guess-k.ensures ∙ ap ((guessed_with c.args.slope c.args.shift) c.args.c) c.f32_of_bits.ensures in
    c.held_to.ensures
    ∙ ap (λ (k : ℕ). let o : Option ℕ = cond (eqb (entry c.args.t.now c.args.c k) c.args.b) (Some k) None in o) told
    ∙ sym (tried-is (entry c.args.t.now) (guessed_with c.args.slope c.args.shift) c.args.c c.args.b (omega arith))
