-- `pool::drop_key` meets its contract. Assumes nothing.
use mathlib.Core.Path.{◌≡◌, refl, sym, ap, ◌∙◌}
use mathlib.Core.Bool.{true}
use Prim.Native.Nat.{ℕ, ◌≤◌}
use native.Mathlib.Omega.{arith}
use lib.ListN.{length}
use Rattle.std.proofs.Common.{rules}
use Rattle.pool_books.specs.declared.Pool.{Pool}
use Rattle.pool_books.specs.Book.{well_made}
use Rattle.pool_books.proofs.Orders.{made-says}
use Rattle.pool.specs.Pool.{done}
use Rattle.pool.proofs.Answers.{told, untold, drop-unmade, drop-held, drop-unknown}
use Rattle.pool.proofs.drop_key.Goals as goal

room : (p : Pool) (n : ℕ) → length p.held ≡ 64 → well_made p n ≡ true → p.count ≤ length p.held
room p n h m = omega (arith, (made-says p n m).few)

pub returns-in_default : goal.returns-in_default
returns-in_default c =
    drop-unmade c.args.p.now (length c.args.s.now) c.args.key (untold c.args.p.now (length c.args.s.now) c.args.key (sym c.scan.ensures.books ∙ c.in_default.is))

pub leave_out-requires : goal.leave_out-requires
leave_out-requires c =
    let t = told c.args.p.now (length c.args.s.now) c.args.key _ (sym c.scan.ensures.books ∙ c.in-Some.is) in
    ((made-says _ _ t.made).few, c.if-books-p.true, c.in-Some.ensures.whole refl)

pub returns-then-books-p : goal.returns-then-books-p
returns-then-books-p c =
    let t = told c.args.p.now (length c.args.s.now) c.args.key _ (sym c.scan.ensures.books ∙ c.in-Some.is) in
    ap done c.leave_out.ensures ∙ drop-held c.args.p.now (length c.args.s.now) c.args.key _ (room c.args.p.now (length c.args.s.now) (c.in-Some.ensures.whole refl) t.made) t.made t.stands c.if-books-p.true

pub returns : goal.returns
returns c =
    let t = told c.args.p.now (length c.args.s.now) c.args.key _ (sym c.scan.ensures.books ∙ c.in-Some.is) in
    drop-unknown c.args.p.now (length c.args.s.now) c.args.key _ (room c.args.p.now (length c.args.s.now) (c.in-Some.ensures.whole refl) t.made) t.made t.stands c.if-books-p.false
