-- One lemma for each way through `copy_entry` and `copy_entries`, over what their calls ensure. Assumes nothing.
use Prim.Native.Nat.{ℕ, zero, suc, ◌+◌, ◌-◌, ◌≤◌, ◌<◌}
use native.Mathlib.Nat.{zero-add}
use native.Mathlib.Omega.{arith}
use native.Mathlib.Decide.{dec_lt}
use mathlib.Core.Path.{◌≡◌, refl, sym, ap, ◌∙◌}
use mathlib.Core.Bool.{Bool, true, false}
use mathlib.Core.Option.{Option, none, some}
use mathlib.Core.List.{List, [], ◌++◌}
use lib.ListN.{length, get_or, get_or-eq_default}
use lib.Dec.{eqb}
use borrow.Author.Tests.{eqb-true, eqb-false, eq-eqb, ne_eqb}
use Rattle.words.specs.Ast.{Token}
use Rattle.words.specs.Areas.{entry_field}
use Rattle.words.specs.Record.{token_at}
use Rattle.definition.specs.FunctionState.{Entry, find_name}
use Rattle.definition.specs.Uses.{Limits}
use Rattle.definition.specs.Book.{Method, Book, Context, add_methods, insert_methods, methods_in, methods_of, model_of, get_local_value, find_model_by}
use Rattle.definition.specs.Book.{find_model_in, find_model_index_by_local_name, compile_apply_definition}
use Rattle.definition.specs.Program.{entries_from, method_entry}
use Rattle.definition_laws.proofs.StepPreserves.{same, more}
use Rattle.tree.specs.At.{DefinitionAt}
use Rattle.building.specs.Found.{Found, found_of}
use Rattle.building.specs.RepresentsMachine.{Filled}
use Rattle.compiler_laws.specs.declared.book.Book as struct
use Rattle.compiler_laws.specs.BookAreas.{book_areas, RepresentsAreas}
use Rattle.compiler_laws.specs.ModelSteps.{InsertsMethod, FindsModel, no_method, methods_from, CopiesMethod, CopiesMethods, Applies}
use Rattle.compiler_laws.proofs.UnchangedByModels.{unchanged_methods, unchanged_find_model}
use Rattle.compiler_laws.proofs.BookStepsInOrder.{unfilled, full_simulates}
use Rattle.compiler_laws.proofs.MapEntries.{filled_past, rows_count, row_word}
use Rattle.compiler_laws.proofs.InsertedMethods.{method_words}
use Rattle.compiler_laws.proofs.MethodsTogether.{inserts_grow, methods_then, methods_none, keeping_marked, methods_step, methods_all}

-- the loop over the first methods
pub record CopiesFrom (source target i count : ℕ) (s : struct.Book) (t : List ℕ) (s' : struct.Book) (t' : List ℕ) : Type 0 where
  pub meets : (c k f m p l u n b e : List ℕ) (κ : Limits) (ps : List ℕ) (w : Book) → (s.full ≡ 0 → count ≤ length w.context.program.methods)
      → RepresentsAreas κ ps (book_areas s c k f m p t l u n b e) w
      → RepresentsAreas κ ps (book_areas s' c k f m p t' l u n b e)
      (add_methods (some target) (methods_from source i (count - i) w.context.program.methods) w)

-- a method's words, also behind the methods
method_word : {t : List ℕ} {n : ℕ} (xs : List Method) → Filled 3 t (entries_from method_entry 0 xs) n → (i k : ℕ) → k < 3
    → entry_field 3 i k t ≡ get_or (method_words (get_or xs i no_method)) k 0
method_word {t} {n} xs f i k q = go (dec_lt i (length xs))
  where
    many : n ≡ 0 + length xs
    many = rows_count method_words [] xs no_method (omega arith) f

    nothing : (j : ℕ) → j < 3 → get_or (method_words no_method) j 0 ≡ 0
    nothing zero h = refl
    nothing (suc zero) h = refl
    nothing (suc (suc zero)) h = refl
    nothing (suc (suc (suc j))) h = absurd (omega arith)

    go : Dec (i < length xs) → entry_field 3 i k t ≡ get_or (method_words (get_or xs i no_method)) k 0
    go (yes h) = rw (zero-add i) at (row_word method_words [] xs no_method (omega arith) f i k h q)
    go (no h) =
        filled_past f i k (omega arith) q (omega (arith, many))
        ∙ sym (ap (λ (x : Method). get_or (method_words x) k 0) (get_or-eq_default xs no_method {n = i} (omega arith)) ∙ nothing k q)

-- `copy_method`
module _ {source target i : ℕ} {s : struct.Book} {t : List ℕ} where
  pub copy_full : (s.full ≡ 0 → ⊥) → CopiesMethod source target i s t s t
  copy_full ne = record {
    simulates = λ c k f m p l u n b e. full_simulates
        (λ w. unchanged_methods (some target) (methods_from source i 1 w.context.program.methods) w) ne;
  }

  pub copy_other : s.full ≡ 0 → {model : ℕ} → model ≡ entry_field 3 i 0 t → (model ≡ source → ⊥) → CopiesMethod source target i s t s t
  copy_other z {model} first ne = record {
    simulates = λ c k f m p l u n b e. record {
      meets = λ κ ps w H.
          let x = get_or w.context.program.methods i no_method in
          let is : model ≡ x.model = first ∙ method_word w.context.program.methods (H.rest z).methods i 0 (omega arith) in
          rw (ne_eqb x.model source (λ q. ne (is ∙ q))) (methods_none target w H);
    };
  }

  pub copy_one : s.full ≡ 0 → {model name function : ℕ} → model ≡ entry_field 3 i 0 t → model ≡ source → name ≡ entry_field 3 i 1 t
      → function ≡ entry_field 3 i 2 t → {s' : struct.Book} {t' : List ℕ} → InsertsMethod target name function s t s' t'
      → CopiesMethod source target i s t s' t'
  copy_one z {model} {name} {function} first own second third I = record {
    simulates = λ c k f m p l u n b e. record {
      meets = λ κ ps w H.
          let x = get_or w.context.program.methods i no_method in
          let filled = (H.rest z).methods in
          let is : x.model ≡ source = sym (first ∙ method_word w.context.program.methods filled i 0 (omega arith)) ∙ own in
          let name-is : name ≡ x.name = second ∙ method_word w.context.program.methods filled i 1 (omega arith) in
          let function-is : function ≡ x.function = third ∙ method_word w.context.program.methods filled i 2 (omega arith) in
          rw (eq-eqb x.model source is, ← name-is, ← function-is) ((I.simulates c k f m p l u n b e).meets κ ps w H);
    };
  }

-- the loop
module _ (source target count : ℕ) where
  pub copies_end : (i : ℕ) {s : struct.Book} {t : List ℕ} → count ≤ i → CopiesFrom source target i count s t s t
  copies_end i past = record {
    meets = λ c k f m p l u n b e κ ps w few H. let none_left : count - i ≡ 0 = omega arith in rw none_left (methods_none target w H);
  }

  pub copies_more : (i : ℕ) {s s₁ s' : struct.Book} {t t₁ t' : List ℕ} → i < count → CopiesMethod source target i s t s₁ t₁
      → CopiesFrom source target (i + 1) count s₁ t₁ s' t' → CopiesFrom source target i count s t s' t'
  copies_more i {s} {s₁} {s'} {t} {t₁} {t'} inside A B = record {
    meets = λ c k f m p l u n b e κ ps w few H.
        let ms = w.context.program.methods in
        let es = methods_from source i 1 ms in
        let w₁ = add_methods (some target) es w in
        let H₁ = (A.simulates c k f m p l u n b e).meets κ ps w H in
        let fs = methods_from source (i + 1) (count - (i + 1)) (insert_methods target es ms) in
        let few₁ : s₁.full ≡ 0 → count ≤ length (insert_methods target es ms) =
        λ z. less (few (unfilled (unchanged_methods (some target) es w).uses H H₁ z)) (inserts_grow target es ms) in
        let H₂ = B.meets c k f m p l u n b e κ ps w₁ few₁ H₁ in
        whole c k f m p l u n b e κ ps w few H (eqb s.full 0) refl (methods_then target es fs w H₂);
  }
    where
      less : {x y z : ℕ} → x ≤ y → y ≤ z → x ≤ z
      less p q = omega arith

      whole : (c k f m p l u n b e : List ℕ) (κ : Limits) (ps : List ℕ) (w : Book) → (s.full ≡ 0 → count ≤ length w.context.program.methods)
          → RepresentsAreas κ ps (book_areas s c k f m p t l u n b e) w → (x : Bool) → eqb s.full 0 ≡ x
          → RepresentsAreas κ ps (book_areas s' c k f m p t' l u n b e) (add_methods (some target) (methods_from source i 1 w.context.program.methods
          ++ methods_from source (i + 1) (count - (i + 1))
          (insert_methods target (methods_from source i 1 w.context.program.methods) w.context.program.methods)) w)
          → RepresentsAreas κ ps (book_areas s' c k f m p t' l u n b e)
          (add_methods (some target) (methods_from source i (count - i) w.context.program.methods) w)
      whole c k f m p l u n b e κ ps w few H true q H' =
          let enough = few (eqb-true s.full 0 q) in
          let left : count - i ≡ suc (count - (i + 1)) = omega arith in
          let all = methods_step source target i (count - (i + 1)) w.context.program.methods (omega arith) in
          rw (left, ← all) H'
      whole c k f m p l u n b e κ ps w few H false q H' =
          keeping_marked (more same) (more same) (eqb-false s.full 0 q) H H'

  pub copies_done : {s s' : struct.Book} {t t' : List ℕ} → count ≡ s.methods → CopiesFrom source target 0 count s t s' t'
      → CopiesMethods source target s t s' t'
  copies_done {s} {s'} {t} {t'} as_many A = record {
    simulates = λ c k f m p l u n b e. record {
      meets = λ κ ps w H. whole c k f m p l u n b e κ ps w H (eqb s.full 0) refl
          (A.meets c k f m p l u n b e κ ps w (λ z. few c k f m p l u n b e κ ps w H z) H);
    };
  }
    where
      many : (c k f m p l u n b e : List ℕ) (κ : Limits) (ps : List ℕ) (w : Book) → RepresentsAreas κ ps (book_areas s c k f m p t l u n b e) w → s.full ≡ 0
          → s.methods ≡ 0 + length w.context.program.methods
      many c k f m p l u n b e κ ps w H z = rows_count method_words [] w.context.program.methods no_method (omega arith) (H.rest z).methods

      few : (c k f m p l u n b e : List ℕ) (κ : Limits) (ps : List ℕ) (w : Book) → RepresentsAreas κ ps (book_areas s c k f m p t l u n b e) w → s.full ≡ 0
          → count ≤ length w.context.program.methods
      few c k f m p l u n b e κ ps w H z = omega (arith, many c k f m p l u n b e κ ps w H z)

      whole : (c k f m p l u n b e : List ℕ) (κ : Limits) (ps : List ℕ) (w : Book) → RepresentsAreas κ ps (book_areas s c k f m p t l u n b e) w
          → (x : Bool) → eqb s.full 0 ≡ x
          → RepresentsAreas κ ps (book_areas s' c k f m p t' l u n b e)
          (add_methods (some target) (methods_from source 0 (count - 0) w.context.program.methods) w)
          → RepresentsAreas κ ps (book_areas s' c k f m p t' l u n b e) (add_methods (some target) (methods_in source w.context.program.methods) w)
      whole c k f m p l u n b e κ ps w H true q H' =
          let left : count - 0 ≡ length w.context.program.methods = omega (arith, many c k f m p l u n b e κ ps w H (eqb-true s.full 0 q)) in
          rw (← methods_all source w.context.program.methods) (rw left at H')
      whole c k f m p l u n b e κ ps w H false q H' =
          keeping_marked (more same) (more same) (eqb-false s.full 0 q) H H'

-- a search for a model changes no method
find_context : (t : Token) (w : Book) → (find_model_index_by_local_name t w).book.context ≡ w.context
unfolding find_model_index_by_local_name
find_context t w = go (find_name t.value w.compiler.locals)
  where
    by : (o : Option ℕ) → (find_model_by o t w).book.context ≡ w.context
    by none = refl
    by (some m) = refl

    go : (o : Option ℕ) → (find_model_in o t w).book.context ≡ w.context
    go none = refl
    go (some local) = by (model_of (get_local_value local w.context))

-- `apply_definition`
module _ {tree : List ℕ} {at end : ℕ} {s : struct.Book} {l k t e : List ℕ} where
  module _ {s₁ s₂ : struct.Book} {e₁ e₂ : List ℕ} {from to : Found} (A : FindsModel tree (at + 1) s l k e from s₁ e₁)
      (B : FindsModel tree (at + 2) s₁ l k e₁ to s₂ e₂) where
    -- what is left to do, where the models are as found
    rest : {s' : struct.Book} {t' : List ℕ}
        → ((c f m p u n b : List ℕ) (κ : Limits) (ps : List ℕ) (w : Book) (x y : Option ℕ) (es : List Entry)
        → (s₂.full ≡ 0 → (from ≡ found_of x) × (to ≡ found_of y)) → es ≡ methods_of x w.context
        → RepresentsAreas κ ps (book_areas s₂ c k f m p t l u n b e₂) w → RepresentsAreas κ ps (book_areas s' c k f m p t' l u n b e₂) (add_methods y es w))
        → Applies tree at end s l k t e s' t' e₂
    unfolding DefinitionAt compile_apply_definition
    rest {s'} {t'} C = record {
      simulates = λ c f m p u n b source target d q. record {
        meets = λ κ ps w H.
            let first : source ≡ token_at tree (at + 1) = d.1.token in
            let second : target ≡ token_at tree (at + 2) = d.2.token in
            let P = A.seeks c f m p t u n b in
            let Q = B.seeks c f m p t u n b in
            let x = find_model_index_by_local_name (token_at tree (at + 1)) w in
            let y = find_model_index_by_local_name (token_at tree (at + 2)) x.book in
            let H₁ = P.meets κ ps w H in
            let H₂ = Q.meets κ ps x.book H₁ in
            rw (first, second) (C c f m p u n b κ ps y.book x.place y.place (methods_of x.place x.book.context)
            (λ z. (P.sought κ ps w H (unfilled (unchanged_find_model (token_at tree (at + 2)) x.book).uses H₁ H₂ z), Q.sought κ ps x.book H₁ z))
            (ap (λ (v : Context). methods_of x.place v) (sym (find_context (token_at tree (at + 2)) x.book))) H₂);
      };
    }
