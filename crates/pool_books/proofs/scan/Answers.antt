-- `pool_books::scan` meets its contract. Assumes nothing.
use mathlib.Core.Path.{◌≡◌, ◌∙◌}
use Prim.Native.Nat.{ℕ, ◌≤◌}
use native.Mathlib.Omega.{arith}
use lib.ListN.{length, get_or}
use Rattle.picture_limits.specs.declared.Refusal as F
use Rattle.pool_books.specs.declared.Pool.{Pool}
use Rattle.pool_books.specs.declared.Place.{Place}
use Rattle.std.specs.Prelude.{Result, Ok, Err, Some}
use Rattle.std.proofs.Common.{rules}
use Rattle.pool_books.specs.declared.Books.{Books}
use Rattle.pool_books.specs.Book.{held, entries}
use Rattle.pool_books.specs.Lookup.{place, lookup, found_start, found_len}
use Rattle.pool_books.specs.inner.Place.{place_in, books_of}
use Rattle.pool_books.proofs.Scans.{Judged, judged-none, judged-more, unordered, unending, unfitting, fitting, ends_so, sums-so, sought-none, sought-here, sought-more, sought-all, unmade, unmade-early, early, made-books}
use Rattle.pool_books.proofs.scan.Goals as goal

-- behind the first loop all is known but where the key stands
found : (p : Pool) (n key floats end i at : ℕ) (f : Result Place F.Refusal) → (p.len ≡ n) × (p.count ≤ 64) → p.count ≤ length p.held → p.count ≤ i → Judged p n floats end i → end ≤ n
    → place_in key (entries p) ≡ at → lookup key (entries p) ≡ f → Some (record { floats = floats; end = end; place = at; start = found_start f; len = found_len f }) ≡ books_of p n key
found p n key floats end i at f k r m l e s g =
    made-books p n key floats end at f k.0 k.1
    (fitting p n floats end i r m l e)
    (sums-so p n floats end i r m l)
    (ends_so p n floats end i r m l) s g

pub returns-then-p-n-clause-books : goal.returns-then-p-n-clause-books
returns-then-p-n-clause-books c = unmade-early c.args.p.now c.args.n c.args.key c.if-p-n.true

pub loop-i-init : goal.loop-i-init
loop-i-init c = judged-none c.args.p.now c.args.n

pub offset_bounds-p-i : goal.offset_bounds-p-i
offset_bounds-p-i c =
    let known : (c.args.p.now.len ≡ c.args.n) × (c.args.p.now.count ≤ 64) = early c.args.p.now.len c.args.n c.args.p.now.count c.if-p-n.false in
    omega (arith, known.1)

pub bounds-p-i : goal.bounds-p-i
bounds-p-i c =
    let known : (c.args.p.now.len ≡ c.args.n) × (c.args.p.now.count ≤ 64) = early c.args.p.now.len c.args.n c.args.p.now.count c.if-p-n.false in
    omega (arith, known.1)

pub returns-then-h-end-clause-books : goal.returns-then-h-end-clause-books
returns-then-h-end-clause-books c =
    let known : (c.args.p.now.len ≡ c.args.n) × (c.args.p.now.count ≤ 64) = early c.args.p.now.len c.args.n c.args.p.now.count c.if-p-n.false in
    let room : c.args.p.now.count ≤ length c.args.p.now.held = let l : length c.args.p.now.held ≡ 64 = search rules in omega (arith, known.1, l) in
    unmade c.args.p.now c.args.n c.args.key (unordered c.args.p.now c.args.n c.loop-i.floats c.loop-i.end c.loop-i.i (held 0 0 0) (room) c.loop-i-test.true c.loop-i.invariant c.if-h-end.true)

pub returns-in_err-end-clause-books : goal.returns-in_err-end-clause-books
returns-in_err-end-clause-books c =
    let known : (c.args.p.now.len ≡ c.args.n) × (c.args.p.now.count ≤ 64) = early c.args.p.now.len c.args.n c.args.p.now.count c.if-p-n.false in
    let room : c.args.p.now.count ≤ length c.args.p.now.held = let l : length c.args.p.now.held ≡ 64 = search rules in omega (arith, known.1, l) in
    c.from_residual.ensures ∙ unmade c.args.p.now c.args.n c.args.key (unending c.args.p.now c.args.n c.loop-i.floats c.loop-i.end c.loop-i.i (held 0 0 0) (room) c.loop-i-test.true c.loop-i.invariant (omega (arith, c.ranges.n)) (omega (arith, c.in_err-end.ensures)))

pub overflow_add-floats : goal.overflow_add-floats
overflow_add-floats c = omega (arith, c.in_ok-end.ensures, c.loop-i.invariant.less, c.if-h-end.false)

pub loop-i-preserved : goal.loop-i-preserved
loop-i-preserved c =
    let known : (c.args.p.now.len ≡ c.args.n) × (c.args.p.now.count ≤ 64) = early c.args.p.now.len c.args.n c.args.p.now.count c.if-p-n.false in
    let room : c.args.p.now.count ≤ length c.args.p.now.held = let l : length c.args.p.now.held ≡ 64 = search rules in omega (arith, known.1, l) in
    rw c.in_ok-end.ensures.1 (judged-more c.args.p.now c.args.n c.loop-i.floats c.loop-i.end c.loop-i.i (held 0 0 0) (room) c.loop-i-test.true c.loop-i.invariant c.if-h-end.false (omega (arith, c.in_ok-end.ensures)))

pub returns-then-n-end-clause-books : goal.returns-then-n-end-clause-books
returns-then-n-end-clause-books c =
    let known : (c.args.p.now.len ≡ c.args.n) × (c.args.p.now.count ≤ 64) = early c.args.p.now.len c.args.n c.args.p.now.count c.if-p-n.false in
    let room : c.args.p.now.count ≤ length c.args.p.now.held = let l : length c.args.p.now.held ≡ 64 = search rules in omega (arith, known.1, l) in
    unmade c.args.p.now c.args.n c.args.key (unfitting c.args.p.now c.args.n c.loop-i.floats c.loop-i.end c.loop-i.i (room) c.loop-i-test.false c.loop-i.invariant c.if-n-end.true)

pub loop-j-init : goal.loop-j-init
loop-j-init c = sought-none c.args.p.now c.args.key

pub offset_bounds-p-j : goal.offset_bounds-p-j
offset_bounds-p-j c =
    let known : (c.args.p.now.len ≡ c.args.n) × (c.args.p.now.count ≤ 64) = early c.args.p.now.len c.args.n c.args.p.now.count c.if-p-n.false in
    omega (arith, known.1)

pub bounds-p-j : goal.bounds-p-j
bounds-p-j c =
    let known : (c.args.p.now.len ≡ c.args.n) × (c.args.p.now.count ≤ 64) = early c.args.p.now.len c.args.n c.args.p.now.count c.if-p-n.false in
    omega (arith, known.1)

pub returns-then-h-key-clause-books : goal.returns-then-h-key-clause-books
returns-then-h-key-clause-books c =
    let known : (c.args.p.now.len ≡ c.args.n) × (c.args.p.now.count ≤ 64) = early c.args.p.now.len c.args.n c.args.p.now.count c.if-p-n.false in
    let room : c.args.p.now.count ≤ length c.args.p.now.held = let l : length c.args.p.now.held ≡ 64 = search rules in omega (arith, known.1, l) in
    let j = c.loop-j.j in
    let h = get_or c.args.p.now.held j (held 0 0 0) in
    let s = sought-here c.args.p.now c.args.key j (held 0 0 0) (room) c.loop-j-test.true c.loop-j.invariant c.if-h-key.true in
    found c.args.p.now c.args.n c.args.key c.loop-i.floats c.loop-i.end c.loop-i.i j (Ok (place h.start h.len)) known room c.loop-i-test.false c.loop-i.invariant c.if-n-end.false s.0 s.1

pub loop-j-preserved : goal.loop-j-preserved
loop-j-preserved c =
    let known : (c.args.p.now.len ≡ c.args.n) × (c.args.p.now.count ≤ 64) = early c.args.p.now.len c.args.n c.args.p.now.count c.if-p-n.false in
    let room : c.args.p.now.count ≤ length c.args.p.now.held = let l : length c.args.p.now.held ≡ 64 = search rules in omega (arith, known.1, l) in
    sought-more c.args.p.now c.args.key c.loop-j.j (held 0 0 0) (room) c.loop-j-test.true c.loop-j.invariant c.if-h-key.false

pub returns-clause-books : goal.returns-clause-books
returns-clause-books c =
    let known : (c.args.p.now.len ≡ c.args.n) × (c.args.p.now.count ≤ 64) = early c.args.p.now.len c.args.n c.args.p.now.count c.if-p-n.false in
    let room : c.args.p.now.count ≤ length c.args.p.now.held = let l : length c.args.p.now.held ≡ 64 = search rules in omega (arith, known.1, l) in
    let s = sought-all c.args.p.now c.args.key c.loop-j.j (room) c.loop-j-test.false c.loop-j.invariant in
    found c.args.p.now c.args.n c.args.key c.loop-i.floats c.loop-i.end c.loop-i.i c.args.p.now.count (Err F.Refusal.KeyUnknown) known room c.loop-i-test.false c.loop-i.invariant c.if-n-end.false s.0 s.1
