-- The words of the areas at the end: what they hold is the definition's tables and then zeros, and after a refusal zeros but for the errors. By the entries
-- that fill each area. Assumes nothing.
use Prim.Native.Nat.{ℕ, ◌+◌, ◌-◌}
use native.Mathlib.Omega.{arith}
use mathlib.Core.Path.{◌≡◌, ap, ◌∙◌}
use mathlib.Core.List.{List, append-nil}
use lib.ListN.{length, replicate, length-append, length-replicate}
use Rattle.words.specs.Reply.{delivery}
use Rattle.definition.specs.Uses.{Limits, Use}
use Rattle.definition.specs.Book.{Context}
use Rattle.definition.specs.Program.{Entries, flat, filled, tables_of, global_dependencies}
use Rattle.definition.specs.Program.{property_table, public_table, book_table}
use Rattle.definition.specs.Answer.{Delivery, reply_of, areas_of}
use Rattle.building.specs.RepresentsMachine.{Filled}
use Rattle.compiler_laws.specs.declared.book.Book as struct
use Rattle.compiler_laws.specs.OpenedBooks.{Resting}
use Rattle.definition.specs.Promise.{areas, lengths_of, saying}
use Rattle.compiler_laws.specs.CallEnd.{totals}

-- the zeros are as many as are left
pub filled_is : {width : ℕ} {l : List ℕ} {es : Entries} {n : ℕ} → Filled width l es n → l ≡ filled (length l) es
filled_is {l = l} {es = es} f =
    let long : length l ≡ length (flat es) + f.zeros =
    ap (λ (x : List ℕ). length x) f.is ∙ length-append (flat es) (replicate f.zeros 0) ∙ rw (length-replicate {A = ℕ} f.zeros 0) in
    let left : length l - length (flat es) ≡ f.zeros = omega arith in
    f.is ∙ rw left

module _ {κ : Limits} {s : struct.Book} {c k f m p t l u n b e o : List ℕ} {context : Context} {uses : List Use} {books globals : ℕ}
    (R : Resting κ s c k f m p t l u n b e context uses) (z : s.full ≡ 0) (books-named : o ≡ filled (length o) (book_table context))
    (many : books ≡ length (book_table context))
    (marked : globals ≡ global_dependencies context.pool.globals 0 context.pool.constants) where
  properties_are : Filled 2 p (property_table context) s.properties
  properties_are = rw (append-nil (property_table context)) at (R.ready.rest z).properties

  publics_are : Filled 3 u (public_table context) s.publics
  publics_are = rw (append-nil (public_table context)) at (R.ready.rest z).publics

  pub delivered_words : areas c k f m p t l u n b e o ≡ areas_of (lengths_of (areas c k f m p t l u n b e o)) (Delivery context)
  unfolding areas_of tables_of
  delivered_words =
      let S = R.ready.rest z in
      rw (
        ← filled_is S.code,
        ← filled_is S.constants,
        ← filled_is S.functions,
        ← filled_is S.models,
        ← filled_is properties_are,
        ← filled_is S.methods,
        ← filled_is S.locals,
        ← filled_is publics_are,
        ← filled_is S.names,
        ← filled_is S.breaks,
        ← filled_is S.errors,
        ← books-named,
      )

  pub delivered_reply : (bundles : ℕ) → saying (delivery (totals s books globals bundles)) ≡ reply_of (Delivery context)
  unfolding reply_of tables_of
  delivered_reply bundles =
      let S = R.ready.rest z in
      rw (
        S.code.count,
        S.constants.count,
        S.functions.count,
        S.models.count,
        properties_are.count,
        S.methods.count,
        S.locals.count,
        publics_are.count,
        many,
        S.entry,
        marked,
      )
