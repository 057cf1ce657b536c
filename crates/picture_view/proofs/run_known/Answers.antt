-- `picture_view::run_known` meets its contract: by the formula, or one by one. Assumes nothing.
use Rattle.std.proofs.Common.{◌≡◌, ℕ, ◌+◌, Bool, refl, sym, ◌∙◌, subst, rules, tests}
use Rattle.std.proofs.lemmas.Iterator.{YieldsList-from_range}
use Rattle.std.proofs.lemmas.Iterator.Search.{all_from_yields_List}
use Rattle.std.specs.Option.{is_some}
use Rattle.std.specs.Prelude.{Some, get_or}
use lib.Ieee.{nan, binary32, to_bits}
use Rattle.buffers.proofs.Lists.{all-ext}
use Rattle.picture_samples.specs.Samples.{entry}
use Rattle.picture_samples.proofs.Ranges.{all-below}
use Rattle.picture_spot.specs.declared.Way.{Way}
use Rattle.picture_spot.specs.inner.Spot.{spotted, tried, Spots}
use Rattle.picture_spot.proofs.Spots.{by-guess, tried-known}
use Rattle.picture_view.specs.inner.Known.{Exact}
use Rattle.picture_view.proofs.Exact.{exact-run}
use Rattle.picture_view.proofs.run_known.Goals as goal
use Rattle.picture_view.proofs.run_known.Goals.{in-Guess+in_default-f, in_default}

pub run_exact-requires : goal.run_exact-requires
run_exact-requires c = c.requires.1

pub returns-in-Some : goal.returns-in-Some
returns-in-Some c =
    let x : Exact c.args.t.now (Some c.in-Some.f) = subst (Exact c.args.t.now) c.in-Some.is c.requires.3 in
    c.run_exact.ensures
    ∙ exact-run c.args.t.now c.in-Guess.slope c.in-Guess.shift c.in-Some.f (by-guess c.args.w c.in-Guess.slope c.in-Guess.shift c.args.t.now c.in-Guess.is c.requires.2) x c.args.c c.requires.0 c.args.n c.args.patches.now c.args.at
    c.shared_slice_known-1.given

pub returns : goal.returns
returns c =
    let t = entry c.args.t.now in
    let same : c.match-w.w ≡ c.args.w = elim c.match-w.branch [ in-Guess+in_default-f z ↦ z.w-is ∙ sym z.in-Guess.is | in_default z ↦ z.w-is ] in
    let g = spotted c.match-w.w t in
    let s : Spots c.args.t.now g = subst (λ (u : Way). Spots c.args.t.now (spotted u t)) (sym same) c.requires.2 in
    all_from_yields_List (λ k. is_some (tried t g c.args.c (to_bits binary32 (get_or c.args.patches.now (c.args.at + k) nan)))) _ _ _ c.all.ensures.ran (YieldsList-from_range 0 c.args.n _ refl refl) (λ x b q k. search (rules, tests))
    ∙ all-below _ c.args.n
    ∙ all-ext c.args.n _ _ (λ k _. tried-known c.args.t.now g s c.args.c c.requires.0 _)
