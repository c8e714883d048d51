-- One lemma for each way through the search for a model and through an apply definition: what its calls ensure is the definition's. Assumes nothing.
use Rattle.std.specs.Prelude.{Some, None}
use Rattle.std.proofs.Common.{◌≡◌, ℕ, ◌+◌, ◌<◌, Bool, true, false, eqb, List, [], sym, refl, ap, ◌∙◌, arith, eqb-true}
use mathlib.Core.Option.{Option, none, some}
use borrow.Author.Tests.{eqb-false}
use Rattle.words.specs.Ast.{Token}
use Rattle.words.specs.Areas.{code_area, constants_area, functions_area, models_area, properties_area, methods_area, context_locals_area, public_names_area}
use Rattle.words.specs.Areas.{scope_names_area, breaks_area, errors_area, entry_field}
use Rattle.words.specs.Record.{token_at, value_at}
use Rattle.tree.specs.At.{DefinitionAt}
use Rattle.definition.specs.FunctionState.{Entry, find_name}
use Rattle.definition.specs.Uses.{Limits}
use Rattle.definition.specs.Book.{Book, Context, add_methods, methods_in, methods_of, model_of, get_local_value, find_model_by}
use Rattle.definition.specs.Book.{find_model_in, find_model_index_by_local_name, compile_apply_definition}
use Rattle.definition_laws.proofs.StepPreserves.{same, more}
use Rattle.building.specs.Found.{Found, found_of}
use Rattle.compiler_laws.specs.declared.book.Book as struct
use Rattle.compiler_laws.specs.ModelSteps.{FindsModel, model_at_c}
use Rattle.undo.specs.Notes.{plain_marks}
use Rattle.undo.proofs.PlainMarks.{plain_marks_kind, plain_marks_value}
use Rattle.compiler_laws.proofs.UnchangedByModels.{unchanged_methods, unchanged_find_model}
use Rattle.compiler_laws.proofs.MapEntries.{found_at, found_none}
use Rattle.compiler_laws.proofs.MethodsTogether.{methods_none, keeping_marked}
use Rattle.compiler_laws.proofs.ModelsFound as area
use Rattle.book_compiler.specs.RepresentsBook.{BookMemory, area_of, said_by, RepresentsBook}
use Rattle.book_compiler.specs.BookLeaves.{PushesBookError, FindsBookLocal, FindsLocalModel, CopiesBookMethods}
use Rattle.book_compiler.specs.DefinitionSteps.{FindsModelIndex, CompilesApplyDefinition}
use Rattle.book_compiler.proofs.Stood.{stood_nothing}
use Rattle.book_compiler.proofs.StoodBooks.{grows_same, behind_same, behind_grown}
use Rattle.book_compiler.proofs.BookParts.{area_map, area_seeks, represents_longer, represents_unfilled, represents_same}
use Rattle.book_compiler.proofs.BookLeaves.{methods_copied}

-- a search for a model changes no method
find_context : (t : Token) (w : Book) → (find_model_index_by_local_name t w).book.context ≡ w.context
unfolding find_model_index_by_local_name
find_context t w = go (find_name t.value w.compiler.locals)
  where
    by : (o : Option ℕ) → (find_model_by o t w).book.context ≡ w.context
    by none = refl
    by (some m) = refl

    go : (o : Option ℕ) → (find_model_in o t w).book.context ≡ w.context
    go none = refl
    go (some local) = by (model_of (get_local_value local w.context))

-- what is noted of a mark is not read where a model is looked for
model_said : {found : Found} (i : ℕ) (l k : List ℕ) → found ≡ found_of (model_at_c i l k) → found ≡ found_of (model_at_c i l (plain_marks k))
model_said i l k q = rw (plain_marks_kind (entry_field 4 i 3 l) k, plain_marks_value (entry_field 4 i 3 l) k) q

-- `find_model_index_by_local_name`: the laws of `compiler_laws`, on the errors
abbrev FindsIn : List ℕ → ℕ → BookMemory → List ℕ → Found → struct.Book → List ℕ → Type 0
FindsIn tree at m e found s' e' = FindsModel tree at m.book (area_of m context_locals_area) (said_by m constants_area) e found s' e'

module _ {tree : List ℕ} {at : ℕ} {m : BookMemory} where
  pub find_full : (m.book.full ≡ 0 → ⊥) → {g : Found} → FindsModelIndex tree at g m m
  find_full ne = record {
    seeks = record {
      meets = λ κ ps others w H. represents_longer (unchanged_find_model (token_at tree at) w).uses ne H;
      sought = λ κ ps others w H z. absurd (ne z);
    };
  }

  module _ (z : m.book.full ≡ 0) {name : ℕ} (value : name ≡ value_at tree at) {g : Found} (searched : FindsBookLocal name g m) where
    pub find_lost : g ≡ None → {m' : BookMemory} → PushesBookError 10 (token_at tree at) m m'
        → FindsModelIndex tree at None m m'
    find_lost lost {m'} E = record {
      seeks = area_seeks (omega arith) refl E.counts
          (area_map {R' = λ e e'. FindsIn tree at m e None m'.book e'} (λ f x r. area.find_lost z value (searched.reads.on f) lost r) E.acts)
          (λ κ ps others b H e r. stood_nothing e H.preserves.nothing.errors)
          (λ x r. r.seeks (area_of m code_area) (area_of m functions_area) (area_of m models_area) (area_of m properties_area) (said_by m methods_area)
          (area_of m public_names_area) (area_of m scope_names_area) (area_of m breaks_area))
          (λ w. grows_same (unchanged_find_model (token_at tree at) w) (find_context (token_at tree at) w));
    }

    module _ {i : ℕ} (at_i : g ≡ Some i) {r : Found} (model : FindsLocalModel i r m) where
      pub find_other : r ≡ None → {m' : BookMemory} → PushesBookError 9 (token_at tree at) m m'
          → FindsModelIndex tree at None m m'
      find_other lost {m'} E = record {
        seeks = area_seeks (omega arith) refl E.counts
            (area_map {R' = λ e e'. FindsIn tree at m e None m'.book e'}
            (λ f x r. area.find_other z value (searched.reads.on f) at_i
            (model_said i (area_of m context_locals_area) (area_of m constants_area) (model.reads.on f)) lost r) E.acts)
            (λ κ ps others b H e r. stood_nothing e H.preserves.nothing.errors)
            (λ x r. r.seeks (area_of m code_area) (area_of m functions_area) (area_of m models_area) (area_of m properties_area) (said_by m methods_area)
            (area_of m public_names_area) (area_of m scope_names_area) (area_of m breaks_area))
            (λ w. grows_same (unchanged_find_model (token_at tree at) w) (find_context (token_at tree at) w));
      }

      pub find_there : {j : ℕ} → r ≡ Some j → FindsModelIndex tree at r m m
      find_there at_j = record {
        seeks = record {
          meets = λ κ ps others w H. represents_same H (λ y. behind_same (find_context (token_at tree at) w) (H.behind y))
              (((finds κ ps others w H).seeks (area_of m code_area) (area_of m functions_area) (area_of m models_area)
              (area_of m properties_area) (said_by m methods_area) (area_of m public_names_area) (area_of m scope_names_area) (area_of m breaks_area)
              ).meets κ ps w H.keeping);
          sought = λ κ ps others w H q. ((finds κ ps others w H).seeks (area_of m code_area) (area_of m functions_area) (area_of m models_area)
              (area_of m properties_area) (said_by m methods_area) (area_of m public_names_area) (area_of m scope_names_area) (area_of m breaks_area)
              ).sought κ ps w H.keeping q;
        };
      }
        where
          finds : (κ : Limits) (ps : List ℕ) (others : ℕ → List ℕ) (w : Book) → RepresentsBook κ ps others m w
              → FindsIn tree at m (area_of m errors_area) r m.book (area_of m errors_area)
          finds κ ps others w H = area.find_there z value (searched.reads.on H.fits) at_i
              (model_said i (area_of m context_locals_area) (area_of m constants_area) (model.reads.on H.fits)) at_j

-- `compile_apply_definition`
module _ {tree : List ℕ} {at end : ℕ} {m : BookMemory} where
  pub apply_short : end < at + 3 → CompilesApplyDefinition tree at end m m
  apply_short h = record { applies = λ source target d q. absurd (omega arith) }

  module _ {m₁ m₂ : BookMemory} {from to : Found} (A : FindsModelIndex tree (at + 1) from m m₁) (B : FindsModelIndex tree (at + 2) to m₁ m₂) where
    -- what is left to do, where the models are as found, by whether the mark is set
    rest : {m' : BookMemory}
        → ((κ : Limits) (ps : List ℕ) (others : ℕ → List ℕ) (w : Book) (x y : Option ℕ) (es : List Entry)
        → m₂.book.full ≡ 0 → from ≡ found_of x → to ≡ found_of y → es ≡ methods_of x w.context
        → RepresentsBook κ ps others m₂ w → RepresentsBook κ ps others m' (add_methods y es w))
        → ((κ : Limits) (ps : List ℕ) (others : ℕ → List ℕ) (w : Book) (y : Option ℕ) (es : List Entry)
        → (m₂.book.full ≡ 0 → ⊥) → RepresentsBook κ ps others m₂ w → RepresentsBook κ ps others m' (add_methods y es w))
        → CompilesApplyDefinition tree at end m m'
    unfolding DefinitionAt compile_apply_definition
    rest {m'} C D = record {
      applies = λ source target d q. record {
        meets = λ κ ps others w H.
            let first : source ≡ token_at tree (at + 1) = d.1.token in
            let second : target ≡ token_at tree (at + 2) = d.2.token in
            let x = find_model_index_by_local_name (token_at tree (at + 1)) w in
            let y = find_model_index_by_local_name (token_at tree (at + 2)) x.book in
            let H₁ = A.seeks.meets κ ps others w H in
            let H₂ = B.seeks.meets κ ps others x.book H₁ in
            rw (first, second) (go κ ps others y.book x.place y.place (methods_of x.place x.book.context)
            (λ z. A.seeks.sought κ ps others w H (represents_unfilled (unchanged_find_model (token_at tree (at + 2)) x.book).uses H₁ H₂ z))
            (λ z. B.seeks.sought κ ps others x.book H₁ z)
            (ap (λ (v : Context). methods_of x.place v) (sym (find_context (token_at tree (at + 2)) x.book))) H₂);
      };
    }
      where
        go : (κ : Limits) (ps : List ℕ) (others : ℕ → List ℕ) (w : Book) (x y : Option ℕ) (es : List Entry)
            → (m₂.book.full ≡ 0 → from ≡ found_of x) → (m₂.book.full ≡ 0 → to ≡ found_of y) → es ≡ methods_of x w.context
            → RepresentsBook κ ps others m₂ w → RepresentsBook κ ps others m' (add_methods y es w)
        go κ ps others w x y es a b is H = by (eqb m₂.book.full 0) refl
          where
            by : (v : Bool) → eqb m₂.book.full 0 ≡ v → RepresentsBook κ ps others m' (add_methods y es w)
            by true q = let z = eqb-true m₂.book.full 0 q in C κ ps others w x y es z (a z) (b z) is H
            by false q = D κ ps others w y es (eqb-false m₂.book.full 0 q) H

    -- without a source nothing is to be copied
    pub apply_nothing : from ≡ None → CompilesApplyDefinition tree at end m m₂
    apply_nothing lost = rest go (λ κ ps others w y es ne H. represents_longer (unchanged_methods y es w).uses ne H)
      where
        go : (κ : Limits) (ps : List ℕ) (others : ℕ → List ℕ) (w : Book) (x y : Option ℕ) (es : List Entry)
            → m₂.book.full ≡ 0 → from ≡ found_of x → to ≡ found_of y → es ≡ methods_of x w.context
            → RepresentsBook κ ps others m₂ w → RepresentsBook κ ps others m₂ (add_methods y es w)
        go κ ps others w x none es z a d is H = H
        go κ ps others w x (some j) es z a d is H =
            let no_source : x ≡ none = found_none x a lost in
            let empty : es ≡ [] = is ∙ ap (λ (o : Option ℕ). methods_of o w.context) no_source in
            rw empty (represents_same H (λ y. behind_grown refl (omega arith) (omega arith) (H.behind y)) (methods_none j w H.keeping))

    -- without a target nothing is
    pub apply_nowhere : to ≡ None → CompilesApplyDefinition tree at end m m₂
    apply_nowhere lost =
        rest (λ κ ps others w x y es z a d is H. rw (found_none y d lost) H)
        (λ κ ps others w y es ne H. represents_longer (unchanged_methods y es w).uses ne H)

    pub apply_copies : {source target : ℕ} → from ≡ Some source → to ≡ Some target → {m' : BookMemory} → CopiesBookMethods source target m₂ m'
        → CompilesApplyDefinition tree at end m m'
    apply_copies {source} {target} at-s at-t {m'} M =
        rest (λ κ ps others w x y es z a d is H.
        let same-es : es ≡ methods_in source w.context.program.methods = is ∙ ap (λ (o : Option ℕ). methods_of o w.context) (found_at x a at-s) in
        rw (found_at y d at-t, same-es) ((methods_copied M).meets κ ps others w H))
        (λ κ ps others w y es ne H.
        let H' = (methods_copied M).meets κ ps others w H in
        represents_same H' (λ y. absurd (ne (represents_unfilled (more same) H H' y)))
        (keeping_marked (more same) (unchanged_methods y es w).uses ne H.keeping H'.keeping))
