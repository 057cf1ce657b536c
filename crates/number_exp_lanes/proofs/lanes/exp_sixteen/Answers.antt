-- `number_exp_lanes::lanes::exp_sixteen` meets its contract. Assumes nothing.
use mathlib.Core.Path.{◌≡◌, sym, ap, ◌∙◌, subst}
use mathlib.Core.Bool.{true}
use mathlib.Core.List.{List}
use lib.ListN.{get_or}
use lib.Ieee.{Float, nan}
use Rattle.buffers.specs.Rows.{tab, all}
use Rattle.buffers.proofs.Lists.{get_or-tab, all-at}
use Rattle.number_floats.specs.Constants.{one64}
use Rattle.number_exp_tanh.specs.Exp.{series, k_of, r_of}
use Rattle.number_exp_lanes.specs.inner.Near.{inside, WholeUpTo}
use Rattle.number_exp_lanes.proofs.lanes.Series.{lanes, all-normal, ended}
use Rattle.number_exp_lanes.proofs.straight.Insides.{inside-bounded, k-whole}
use Rattle.number_exp_lanes.proofs.lanes.exp_sixteen.Goals as goal

pub k_inside-k-requires : goal.k_inside-k-requires
k_inside-k-requires c =
    let passed : all 16 (λ l. inside (get_or c.args.x l nan)) ≡ true = sym c.all_inside.ensures ∙ c.if-all_inside.true in
    passed

pub r_inside-requires : goal.r_inside-requires
r_inside-requires c =
    let passed : all 16 (λ l. inside (get_or c.args.x l nan)) ≡ true = sym c.all_inside.ensures ∙ c.if-all_inside.true in
    passed

pub scaled-requires : goal.scaled-requires
scaled-requires c =
    let passed : all 16 (λ l. inside (get_or c.args.x l nan)) ≡ true = sym c.all_inside.ensures ∙ c.if-all_inside.true in
    let x = c.args.x in
    λ l i. subst (WholeUpTo 1000) (sym (ap (λ (s : List Float). get_or s l nan) c.k_inside-k.ensures ∙ get_or-tab 16 l (λ j. k_of (get_or x j nan)) nan i))
    (k-whole (get_or x l nan) (inside-bounded (get_or x l nan) (all-at 16 (λ j. inside (get_or x j nan)) (passed) l i)))

pub narrow_lanes-requires : goal.narrow_lanes-requires
narrow_lanes-requires c =
    let passed : all 16 (λ l. inside (get_or c.args.x l nan)) ≡ true = sym c.all_inside.ensures ∙ c.if-all_inside.true in
    let x-of : List Float = c.args.x in
    let terms : c.series_lanes.result ≡ tab 16 (λ l. series (r_of (get_or (x-of) l nan)) 10 one64) = let k = c.k_inside-k in
    lanes (x-of) c.k_inside-k.result c.r_inside.result c.series_lanes.result c.k_inside-k.ensures c.r_inside.ensures c.series_lanes.ensures in
    let k = c.k_inside-k in
    all-normal (x-of) c.k_inside-k.result c.series_lanes.result c.scaled.result c.k_inside-k.ensures (terms) c.scaled.ensures (passed)

pub returns-then-all_inside : goal.returns-then-all_inside
returns-then-all_inside c =
    let passed : all 16 (λ l. inside (get_or c.args.x l nan)) ≡ true = sym c.all_inside.ensures ∙ c.if-all_inside.true in
    let x-of : List Float = c.args.x in
    let terms : c.series_lanes.result ≡ tab 16 (λ l. series (r_of (get_or (x-of) l nan)) 10 one64) = let k = c.k_inside-k in
    lanes (x-of) c.k_inside-k.result c.r_inside.result c.series_lanes.result c.k_inside-k.ensures c.r_inside.ensures c.series_lanes.ensures in
    let k = c.k_inside-k in
    ended (x-of) c.k_inside-k.result c.series_lanes.result c.scaled.result c.k_inside-k.ensures (terms) c.scaled.ensures (passed) _ c.narrow_lanes.ensures

pub returns : goal.returns
returns c = c.exp_any.ensures
