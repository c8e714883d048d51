-- A function definition on one memory: one lemma for each way. By the function made to its end, which is dropped or added. Assumes nothing.
use Rattle.std.proofs.Common.{◌≡◌, ℕ, ◌+◌, true, false, cond, eqb, List, sym, refl, ap, ◌∙◌, subst}
use mathlib.Core.Option.{Option}
use Rattle.words.specs.Ast.{Token, FunctionDefinition}
use Rattle.words.specs.Object.{constant_of, function_kind}
use Rattle.words.specs.Record.{value_at}
use Rattle.tree.specs.At.{FunctionAt, size_f}
use Rattle.definition.specs.Uses.{Limits}
use Rattle.definition.specs.Book.{Book, Placed, MaybePlaced, Made, function_count, push_book_error, add_book_constant, set_local_value, define_context_local}
use Rattle.definition.specs.Book.{compile_base, add_function, add_plain_function, compile_function_definition}
use Rattle.definition_laws.proofs.Lists.{cond_case}
use Rattle.definition_laws.proofs.StepPreserves.{same, more}
use Rattle.building.specs.declared.function_state.FunctionState.{FunctionState}
use Rattle.building.specs.Found.{Found, found_of}
use Rattle.building.proofs.Notes.{over_longer}
use Rattle.compiler_laws.specs.declared.book.Book as struct
use Rattle.compiler_laws.specs.BookSteps.{resumed_book, AddedLocal}
use Rattle.compiler_laws.specs.AddingFunctions.{Bounded, base_of}
use Rattle.compiler_laws.proofs.UnchangedByBooks.{BookUnchanged, unchanged_trans, unchanged_error, unchanged_constant, unchanged_local, unchanged_value}
use Rattle.compiler_laws.proofs.BookLeaves.{defined_added}
use Rattle.compiler_laws.proofs.BuiltFunctions.{added_fitted}
use Rattle.book_compiler.specs.Represents.{laid}
use Rattle.book_compiler.specs.RepresentsBook.{BookMemory, book_laid, RepresentsBook}
use Rattle.book_compiler.specs.BookLeaves.{DefinesContextLocal}
use Rattle.book_compiler.specs.DefinitionSteps.{CompilesFunctionDefinition}
use Rattle.book_compiler.specs.FunctionSteps.{Built, MakesFunction, DropsBookFunction, AddsPlainFunction}
use Rattle.book_compiler.proofs.BookParts.{represents_unfilled}
use Rattle.book_compiler.proofs.BookLeaves.{local_defined}
use Rattle.book_compiler.proofs.MakingFunctions.{built_kept, built_parts, built_live}

-- what is left after the base only adds to the notes
unchanged_plain : (o : Option ℕ) (m : Made) (name : ℕ) → BookUnchanged m.book (add_plain_function o m.state name m.book).book
unfolding add_plain_function
unchanged_plain o m name =
    let y = add_function m.state name m.book in
    let i = function_count m.book.context in
    let a = add_book_constant (constant_of function_kind i) y in
    let z = set_local_value o a.place a.book in
    let C : BookUnchanged m.book z = unchanged_trans {b = y} (record { uses = more same; prior = refl; assemblies = refl; filename = refl; index = refl })
    (unchanged_trans (unchanged_constant (constant_of function_kind i) y) (unchanged_value o a.place a.book)) in
    cond_case (λ (w : Book). BookUnchanged m.book w) (eqb name 1)
    (λ t. record { uses = C.uses; prior = C.prior; assemblies = C.assemblies; filename = C.filename; index = C.index }) (λ t. C)

unchanged_rest : (f : FunctionDefinition) (o : Option ℕ) (m : Made)
    → BookUnchanged m.book (cond m.state.header.is_instance (record { place = 0; book = push_book_error 8 f.name m.book })
    (add_plain_function o m.state f.name.value m.book)).book
unchanged_rest f o m =
    cond_case (λ (p : Placed). BookUnchanged m.book p.book) m.state.header.is_instance (λ t. unchanged_error 8 f.name m.book)
    (λ t. unchanged_plain o m f.name.value)

module _ {tree : List ℕ} {at end name : ℕ} {s s₁ : struct.Book} {a l l₁ l' : List ℕ} {found : Found} {r : FunctionState} (name-is : name ≡ value_at tree at)
    (D : DefinesContextLocal name found (book_laid s a l) (book_laid s₁ a l₁)) (M : MakesFunction tree at end (book_laid s₁ a l₁) (laid r a l')) where
  module _ {kind : ℕ} {f : FunctionDefinition} (h : FunctionAt kind f tree at) (q : at + size_f f ≡ end) {κ : Limits} {ps : List ℕ} {others : ℕ → List ℕ}
      {x : Book} (H : RepresentsBook κ ps others (book_laid s a l) x) where
    abbrev local : MaybePlaced
    local = define_context_local f.name.value x

    named : name ≡ f.name.value
    named = name-is ∙ sym (ap (λ (y : Token). y.value) h.headed.token)

    D' : DefinesContextLocal f.name.value found (book_laid s a l) (book_laid s₁ a l₁)
    D' = subst (λ (y : ℕ). DefinesContextLocal y found (book_laid s a l) (book_laid s₁ a l₁)) named D

    there : RepresentsBook κ ps others (book_laid s₁ a l₁) local.book
    there = (local_defined D').meets κ ps others x H

    built : Built κ ps others (book_laid s₁ a l₁) local.book f (laid r a l')
    built = M.makes kind f h q κ ps others local.book there

    flag : r.full ≡ 0 → r.is_instance ≡ (base_of f local.book).function.header.is_instance
    flag z = (built.function.held.rest z).is_instance

    same_found : r.full ≡ 0 → found ≡ found_of local.place
    same_found z = (local_defined D').sought κ ps others x H (built_live built z)

    is_below : r.full ≡ 0 → AddedLocal local.place local.book.context
    is_below z =
        defined_added f.name.value x
        (H.keeping.rest (represents_unfilled (unchanged_local f.name.value x).uses H there (built_live built z))).counted

    full_represents : (r.full ≡ 0 → ⊥) → RepresentsBook κ ps others (book_laid (resumed_book s₁ r) a l') (compile_function_definition f x).book
    unfolding compile_function_definition compile_base
    full_represents ne = record {
      fits = built.function.fits;
      preserves = built_kept built;
      behind = λ z. absurd (ne z);
      keeping = record {
        fitted = added_fitted (built_parts built) refl;
        full = over_longer κ (unchanged_rest f local.place (compile_base f local.book)).uses built.function.held.full ne;
        rest = λ z. absurd (ne z);
      };
      standing = built.book.standing;
      slots = built.function.slots;
    }

    instance_represents : r.full ≡ 0 → r.is_instance ≡ true → {m' : BookMemory} → DropsBookFunction tree at r (book_laid s₁ a l') m'
        → RepresentsBook κ ps others m' (compile_function_definition f x).book
    unfolding compile_function_definition compile_base
    instance_represents z is {m'} F =
        let set : (base_of f local.book).function.header.is_instance ≡ true = sym (flag z) ∙ is in
        rw set (subst (λ (y : Token). RepresentsBook κ ps others m' (push_book_error 8 y (compile_base f local.book).book))
        (sym h.headed.token) (F.drops f l₁ κ ps others local.book built))

    instance_placed : r.full ≡ 0 → r.is_instance ≡ true → ◌≡◌ {A = ℕ} 0 (compile_function_definition f x).place
    unfolding compile_function_definition compile_base
    instance_placed z is = let set : (base_of f local.book).function.header.is_instance ≡ true = sym (flag z) ∙ is in rw set

    module _ (z : r.full ≡ 0) (is : r.is_instance ≡ false) (bounded : Bounded f) {m' : BookMemory} {place : ℕ}
        (F : AddsPlainFunction name found r (book_laid s₁ a l') m' place) where
      plain_both : RepresentsBook κ ps others m'
          (add_plain_function local.place (compile_base f local.book).state f.name.value (compile_base f local.book).book).book
          × (m'.book.full ≡ 0 → place
          ≡ (add_plain_function local.place (compile_base f local.book).state f.name.value (compile_base f local.book).book).place)
      plain_both =
          let F' : AddsPlainFunction f.name.value found r (book_laid s₁ a l') m' place =
          subst (λ (y : ℕ). AddsPlainFunction y found r (book_laid s₁ a l') m' place) named F in
          F'.adds z f bounded l₁ κ ps others local.book local.place (same_found z) (is_below z) built

      plainly_represents : RepresentsBook κ ps others m' (compile_function_definition f x).book
      unfolding compile_function_definition compile_base
      plainly_represents = let unset : (base_of f local.book).function.header.is_instance ≡ false = sym (flag z) ∙ is in rw unset plain_both.0

      plainly_placed : m'.book.full ≡ 0 → place ≡ (compile_function_definition f x).place
      unfolding compile_function_definition compile_base
      plainly_placed y = let unset : (base_of f local.book).function.header.is_instance ≡ false = sym (flag z) ∙ is in rw unset (plain_both.1 y)

  pub function_full : {s' : struct.Book} {place : ℕ} → (r.full ≡ 0 → ⊥) → s' ≡ resumed_book s₁ r
      → CompilesFunctionDefinition tree at end place (book_laid s a l) (book_laid s' a l')
  function_full ne back = rw back (record {
    places = λ kind f h q bounded. record {
      meets = λ κ ps others x H. full_represents h q H ne;
      placed = λ κ ps others x H z. absurd (ne z);
    };
  })

  pub function_instance : {m' : BookMemory} → r.full ≡ 0 → r.is_instance ≡ true → DropsBookFunction tree at r (book_laid s₁ a l') m'
      → CompilesFunctionDefinition tree at end 0 (book_laid s a l) m'
  function_instance z is F = record {
    places = λ kind f h q bounded. record {
      meets = λ κ ps others x H. instance_represents h q H z is F;
      placed = λ κ ps others x H y. instance_placed h q H z is;
    };
  }

  pub function_plain : {m' : BookMemory} {place : ℕ} → r.full ≡ 0 → r.is_instance ≡ false
      → AddsPlainFunction name found r (book_laid s₁ a l') m' place → CompilesFunctionDefinition tree at end place (book_laid s a l) m'
  function_plain z is F = record {
    places = λ kind f h q bounded. record {
      meets = λ κ ps others x H. plainly_represents h q H z is bounded F;
      placed = λ κ ps others x H y. plainly_placed h q H z is bounded F y;
    };
  }
