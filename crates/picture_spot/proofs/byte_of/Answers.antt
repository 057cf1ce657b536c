-- `picture_spot::byte_of` meets its contract: what was spotted is held to the pattern. Assumes nothing.
use Rattle.std.proofs.Common.{◌≡◌, ℕ, ◌<◌, sym, ap, ◌∙◌, arith, cond}
use Rattle.std.specs.Prelude.{Option, Some, None, eqb}
use lib.Ieee.{binary32, of_bits}
use Rattle.picture_samples.specs.Samples.{entry}
use Rattle.picture_spot.specs.inner.Spot.{spotted}
use Rattle.picture_spot.proofs.Spots.{spotted-lt, tried-is, no-channel}
use Rattle.picture_spot.proofs.byte_of.Goals as goal

pub returns-then-c-ge3 : goal.returns-then-c-ge3
returns-then-c-ge3 c = no-channel (entry c.args.t.now) (spotted c.args.w (entry c.args.t.now)) c.args.c c.args.b c.if-c-ge3.true

pub held_to-requires : goal.held_to-requires
held_to-requires c =
    let told : c.spot-k.result ≡ (spotted c.args.w (entry c.args.t.now)) c.args.c (of_bits binary32 c.args.b) = c.spot-k.ensures ∙ ap ((spotted c.args.w (entry c.args.t.now)) c.args.c) c.f32_of_bits.ensures in
    let low : c.spot-k.result < 256 = rw told (spotted-lt c.args.w (entry c.args.t.now) c.args.c (of_bits binary32 c.args.b)) in
    (omega arith, low)

pub returns : goal.returns
returns c =
    let told : c.spot-k.result ≡ (spotted c.args.w (entry c.args.t.now)) c.args.c (of_bits binary32 c.args.b) = c.spot-k.ensures ∙ ap ((spotted c.args.w (entry c.args.t.now)) c.args.c) c.f32_of_bits.ensures in
    c.held_to.ensures
    ∙ ap (λ (k : ℕ). let o : Option ℕ = cond (eqb (entry c.args.t.now c.args.c k) c.args.b) (Some k) None in o) told
    ∙ sym (tried-is (entry c.args.t.now) (spotted c.args.w (entry c.args.t.now)) c.args.c c.args.b (omega arith))
