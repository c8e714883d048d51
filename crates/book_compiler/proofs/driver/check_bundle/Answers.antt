-- `book_compiler::driver::check_bundle` meets its contract: a row of the shape's, a book twice, a book missing, and none. Assumes nothing.
use Rattle.compiler_laws.proofs.RowsBeforeWork.{front_shape, front_twice, front_missing, front_ready}
use Rattle.std.proofs.Common.{ℕ, length, replicate, refl, sym, ap, ◌∙◌}
use native.Mathlib.Nat.{sub-zero}
use Rattle.std.proofs.lemmas.Result.{err_from_is_err_and}
use Rattle.book_compiler.proofs.driver.check_bundle.Goals as goal

pub returns-in_err-check : goal.returns-in_err-check
returns-in_err-check c =
    let p = err_from_is_err_and c.from_residual.result c.from_residual.ensures.1 in
    rw (p.1, p.2) (front_shape c.args.tree.now _ _ c.check.ensures c.in_err-check.was refl)

pub returns-in-Some : goal.returns-in-Some
returns-in-Some c =
    rw c.at.ensures (front_twice c.args.tree.now c.check.ensures c.in_ok-check.was refl c.requires.0 c.requires.1 c.twice.ensures _ _ c.in-Some.is)

pub returns-in-Some-missing : goal.returns-in-Some-missing
returns-in-Some-missing c =
    rw c.at-in-Some-missing.ensures
    (front_missing c.args.tree.now c.check.ensures c.in_ok-check.was refl c.requires.0 c.requires.1 c.twice.ensures
    c.in_default.is (c.fill.ensures.after (λ y e. e) ∙ ap (λ (n : ℕ). replicate n 0) (sym (sub-zero _)))
    c.needed.ensures c.needed.auto.set
    (c.fill-2.ensures.after (λ y e. e) ∙ ap (λ (n : ℕ). replicate n 0)
    (c.needed.auto.read ∙ c.fill.auto.self ∙ c.twice.auto.present ∙ ap length c.requires.1))
    c.twice-2.ensures c.missing.ensures c.in-Some-missing.is)

pub returns : goal.returns
returns c =
    front_ready c.args.tree.now c.check.ensures c.in_ok-check.was refl c.requires.0 c.requires.1 c.twice.ensures
    c.in_default.is (c.fill.ensures.after (λ y e. e) ∙ ap (λ (n : ℕ). replicate n 0) (sym (sub-zero _)))
    c.needed.ensures c.needed.auto.set
    (c.fill-2.ensures.after (λ y e. e) ∙ ap (λ (n : ℕ). replicate n 0)
    (c.needed.auto.read ∙ c.fill.auto.self ∙ c.twice.auto.present ∙ ap length c.requires.1))
    c.twice-2.ensures c.missing.ensures c.in_default-missing.is
