-- `picture_salvage::find_run` meets its contract. Assumes nothing.
use Rattle.std.proofs.Common.{◌≡◌, ℕ, ap, ◌∙◌, rules}
use Rattle.std.specs.Prelude.{get_or}
use lib.Ieee.{nan}
use Rattle.picture_samples.specs.Samples.{byte_of, entry}
use Rattle.picture_spot.specs.inner.Spot.{guessed_with, guessed_by, spotted, tried, or_none}
use Rattle.picture_spot.proofs.Spots.{by-guess, own-channel, tried-byte}
use Rattle.picture_salvage.proofs.find_run.Goals as goal

pub returns-in-Guess : goal.returns-in-Guess
returns-in-Guess c =
    let t = c.args.t.now in
    let slope = c.in-Guess.slope in
    let shift = c.in-Guess.shift in
    c.find_each.ensures (byte_of (entry t) c.args.c) (λ b r p.
    let told : r ≡ tried (entry t) (guessed_with (get_or slope c.args.c nan) (get_or shift c.args.c nan)) c.args.c b = search rules in
    ap or_none (told ∙ own-channel slope shift (entry t) c.args.c b)
    ∙ tried-byte t (guessed_by slope shift) (by-guess c.args.w slope shift t c.in-Guess.is c.requires.3) c.args.c c.requires.0 b)

pub returns-in-Halve : goal.returns-in-Halve
returns-in-Halve c =
    let t = c.args.t.now in
    c.find_each-in-Halve.ensures (byte_of (entry t) c.args.c) (λ b r p.
    let told : r ≡ tried (entry t) (spotted c.args.w (entry t)) c.args.c b = search rules in
    ap or_none told ∙ tried-byte t (spotted c.args.w (entry t)) c.requires.3 c.args.c c.requires.0 b)
