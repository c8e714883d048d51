-- What is wanted of a bundle, by the kind of the order. Assumes nothing.
use Rattle.std.proofs.Common.{◌≡◌, ℕ, false, refl}
use Rattle.words.specs.declared.reply.Totals.{Totals}
use Rattle.definition.specs.Trial.{is_stale}
use Rattle.compiler_laws.specs.CallEnd.{is_trial, differs}
use Rattle.book_compiler.specs.declared.grown.Order as code
use Rattle.book_compiler.specs.declared.grown.Order.TheVariants as variants
use Rattle.book_compiler.specs.Orders.{order_of}

pub no_trial : (o : code.Order) → (o ≡ variants.Trial → ⊥) → false ≡ is_trial (order_of o)
unfolding is_trial order_of
no_trial variants.Lay n = refl
no_trial variants.Trial n = absurd (n refl)
no_trial (variants.Commit t) n = refl

pub never_stale : (o : code.Order) → ((t : Totals) → o ≡ variants.Commit t → ⊥) → (bundles : ℕ) → false ≡ is_stale (order_of o) bundles
unfolding order_of
never_stale variants.Lay n bundles = refl
never_stale variants.Trial n bundles = refl
never_stale (variants.Commit t) n bundles = absurd (n t refl)

pub never_differs : (o : code.Order) → ((t : Totals) → o ≡ variants.Commit t → ⊥) → (totals : Totals) → false ≡ differs (order_of o) totals
unfolding differs order_of
never_differs variants.Lay n totals = refl
never_differs variants.Trial n totals = refl
never_differs (variants.Commit t) n totals = absurd (n t refl)
