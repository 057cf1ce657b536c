-- `picture_view::run_bytes` meets its contract: where bytes are spotted by arithmetic, guesses are what is spotted. Assumes nothing.
use Rattle.std.proofs.Common.{◌≡◌, ap, ◌∙◌, rules}
use Rattle.std.specs.Prelude.{get_or}
use Rattle.std.specs.Float.{nan}
use Rattle.buffers.specs.Region.{put}
use Rattle.picture_samples.specs.Samples.{entry}
use Rattle.picture_spot.specs.inner.Spot.{guessed, guessed_by, spotted}
use Rattle.picture_spot.proofs.Spots.{guessed-lt}
use Rattle.picture_view.proofs.Written.{by-arithmetic}
use Rattle.picture_view.proofs.run_bytes.Goals as goal

pub fill_bytes-requires : goal.fill_bytes-requires
fill_bytes-requires c = record {
  room = (c.requires.1, c.requires.2);
  callable = search rules;
  small = λ v r p. let told : r ≡ guessed (get_or c.in-Guess.slope c.args.c nan) (get_or c.in-Guess.shift c.args.c nan) v = search rules in rw told (guessed-lt _ _ v);
}

pub returns-in-Guess : goal.returns-in-Guess
returns-in-Guess c =
    c.fill_bytes.ensures (guessed_by c.in-Guess.slope c.in-Guess.shift c.args.c) (λ v r p. search rules)
    ∙ ap (put c.args.bytes.now c.args.at) (by-arithmetic c.args.w c.in-Guess.slope c.in-Guess.shift (entry c.args.t.now) c.in-Guess.is c.args.c c.requires.0 c.args.n c.args.patches.now c.args.from)

pub fill_bytes-requires-in-Halve : goal.fill_bytes-requires-in-Halve
fill_bytes-requires-in-Halve c = record {
  room = (c.requires.1, c.requires.2);
  callable = search rules;
  small = λ v r p. let told : r ≡ spotted c.args.w (entry c.args.t.now) c.args.c v = search rules in rw told (c.requires.3.low c.args.c v);
}

pub returns-in-Halve : goal.returns-in-Halve
returns-in-Halve c = c.fill_bytes-in-Halve.ensures (spotted c.args.w (entry c.args.t.now) c.args.c) (λ v r p. search rules)
