-- `pool::find` meets its contract. Assumes nothing.
use mathlib.Core.Path.{◌≡◌, refl, sym, ◌∙◌}
use mathlib.Core.Bool.{true}
use Prim.Native.Nat.{ℕ, ◌≤◌}
use native.Mathlib.Omega.{arith}
use lib.ListN.{length}
use Rattle.std.proofs.Common.{rules}
use Rattle.pool_books.specs.declared.Pool.{Pool}
use Rattle.pool_books.specs.Book.{well_made}
use Rattle.pool_books.proofs.Orders.{made-says}
use Rattle.pool.proofs.Answers.{told, untold, find-unmade, find-held, find-unknown}
use Rattle.pool.proofs.find.Goals as goal

room : (p : Pool) (n : ℕ) → length p.held ≡ 64 → well_made p n ≡ true → p.count ≤ length p.held
room p n h m = omega (arith, (made-says p n m).few)

pub returns-in-None : goal.returns-in-None
returns-in-None c =
    find-unmade c.args.p.now (length c.args.s.now) c.args.key (untold c.args.p.now (length c.args.s.now) c.args.key (sym c.scan.ensures.books ∙ c.in-None.is))

pub returns-then-p-books : goal.returns-then-p-books
returns-then-p-books c =
    let t = told c.args.p.now (length c.args.s.now) c.args.key _ (sym c.scan.ensures.books ∙ c.in-Some.is) in
    find-unknown c.args.p.now (length c.args.s.now) c.args.key _ (room c.args.p.now (length c.args.s.now) (c.in-Some.ensures.whole refl) t.made) t.made t.stands c.if-p-books.true

pub returns-else-p-books : goal.returns-else-p-books
returns-else-p-books c =
    let t = told c.args.p.now (length c.args.s.now) c.args.key _ (sym c.scan.ensures.books ∙ c.in-Some.is) in
    find-held c.args.p.now (length c.args.s.now) c.args.key _ (room c.args.p.now (length c.args.s.now) (c.in-Some.ensures.whole refl) t.made) t.made t.stands _ _ t.starts t.long c.if-p-books.false
