-- What the routines of methods, models and public names promise: whatever the areas that they do not have hold, counts and areas then stand for
-- the step's book
-- Private contracts alone cite this file: whoever reads the promises need not believe it
use Rattle.std.specs.Prelude.{ℕ, zero, suc, ◌+◌, ◌≡◌, cond, List, [], ◌∷◌, get_or, eqb}
use Rattle.std.proofs.Math.Option.{Option, none, some}
use Rattle.words.specs.Ast.{Token, ApplyDefinition}
use Rattle.words.specs.Object.{constant_of, model_kind}
use Rattle.words.specs.Record.{token_at}
use Rattle.words.specs.Areas.{entry_field}
use Rattle.definition.specs.Uses.{Limits}
use Rattle.definition.specs.Book as book
use Rattle.definition.specs.Book.{Placed, add_methods, publish, model_count, property_count, add_property}
use Rattle.definition.specs.FunctionState.{Entry}
use Rattle.definition.specs.Book.{Method, find_model_index_by_local_name, methods_in, compile_apply_definition}
use Rattle.definition.specs.Book.{add_book_constant, add_model, define_context_local, set_local_value}
use Rattle.tree.specs.At.{DefinitionAt}
use Rattle.building.specs.Found.{Found}
use Rattle.compiler_laws.specs.declared.book.Book.{Book}
use Rattle.compiler_laws.specs.BookAreas.{book_areas, RepresentsAreas, SimulatesAreas, Seeks}

-- `insert_entry`: area 6
pub record InsertsMethod (model name function : ℕ) (s : Book) (t : List ℕ) (s' : Book) (t' : List ℕ) : Type 0 where
  pub simulates : (c k f m p l u n b e : List ℕ) → SimulatesAreas (book_areas s c k f m p t l u n b e) (book_areas s' c k f m p t' l u n b e)
      (add_methods (some model) (record { name = name; index = function } ∷ []))

-- `publish_entry`: area 8, of a constant whose number is the definition's where nothing is full
pub record Publishes (place name : ℕ) (s : Book) (u : List ℕ) (s' : Book) (u' : List ℕ) : Type 0 where
  pub meets : (c k f m p t l n b e : List ℕ) (κ : Limits) (ps : List ℕ) (q : Placed) → RepresentsAreas κ ps (book_areas s c k f m p t l u n b e) q.book
      → (s.full ≡ 0 → place ≡ q.place) → RepresentsAreas κ ps (book_areas s' c k f m p t l u' n b e) (publish name q)

-- `add_property`: areas 5 and 11; the properties of the model that is not there yet start at entry `first`
pub record AddsProperty (tree : List ℕ) (at first : ℕ) (s : Book) (p e : List ℕ) (s' : Book) (p' e' : List ℕ) : Type 0 where
  pub meets : (c k f m t l u n b : List ℕ) (κ : Limits) (ps : List ℕ) (w : book.Book) → (s.full ≡ 0 → first ≡ property_count w.context)
      → RepresentsAreas κ ps (book_areas s c k f m p t l u n b e) w
      → RepresentsAreas κ (add_property (token_at tree at) ps w).texts (book_areas s' c k f m p' t l u n b e') (add_property (token_at tree at) ps w).book

-- `model_of`: the model that a context local is, by areas 7 and 2: none without a value or with another constant
abbrev pub model_at_c : ℕ → List ℕ → List ℕ → Option ℕ
model_at_c i l k =
    cond (eqb (entry_field 4 i 2 l) 1)
    (cond (eqb (entry_field 3 (entry_field 4 i 3 l) 0 k) model_kind) (some (entry_field 3 (entry_field 4 i 3 l) 1 k)) none) none

-- `find_model_index_by_local_name`: areas 7, 2 and 11
pub record FindsModel (tree : List ℕ) (at : ℕ) (s : Book) (l k e : List ℕ) (found : Found) (s' : Book) (e' : List ℕ) : Type 0 where
  pub seeks : (c f m p t u n b : List ℕ) → Seeks (book_areas s c k f m p t l u n b e) (book_areas s' c k f m p t l u n b e') found
      (find_model_index_by_local_name (token_at tree at))

-- what stands for a method beyond the last
abbrev pub no_method : Method
no_method = record { model = 0; name = 0; function = 0 }

-- a model's own of the n methods from the i-th on
abbrev pub methods_from : ℕ → ℕ → ℕ → List Method → List Entry
methods_from model i zero l = []
methods_from model i (suc n) l =
    let x = get_or l i no_method in
    let rest = methods_from model (i + 1) n l in
    cond (eqb x.model model) (record { name = x.name; index = x.function } ∷ rest) rest

-- `copy_entry`: area 6, one method of the source under the target, if it is one
pub record CopiesMethod (source target i : ℕ) (s : Book) (t : List ℕ) (s' : Book) (t' : List ℕ) : Type 0 where
  pub simulates : (c k f m p l u n b e : List ℕ) → SimulatesAreas (book_areas s c k f m p t l u n b e) (book_areas s' c k f m p t' l u n b e)
      (λ w. add_methods (some target) (methods_from source i 1 w.context.program.methods) w)

-- `copy_entries`: all methods of the source
pub record CopiesMethods (source target : ℕ) (s : Book) (t : List ℕ) (s' : Book) (t' : List ℕ) : Type 0 where
  pub simulates : (c k f m p l u n b e : List ℕ) → SimulatesAreas (book_areas s c k f m p t l u n b e) (book_areas s' c k f m p t' l u n b e)
      (λ w. add_methods (some target) (methods_in source w.context.program.methods) w)

-- `compile_apply_definition`: areas 6 and 11, over areas 7 and 2
pub record Applies (tree : List ℕ) (at end : ℕ) (s : Book) (l k t e : List ℕ) (s' : Book) (t' e' : List ℕ) : Type 0 where
  pub simulates : (c f m p u n b : List ℕ) (source target : Token) → DefinitionAt (ApplyDefinition source target) tree at → at + 3 ≡ end
      → SimulatesAreas (book_areas s c k f m p t l u n b e) (book_areas s' c k f m p t' l u n b e') (compile_apply_definition source target)

-- the rest of `compile_model_definition`, after the properties
abbrev pub place_model : List ℕ → ℕ → book.Book → Placed
place_model properties name w =
    let modelIndex = model_count w.context in
    let a = add_book_constant (constant_of model_kind modelIndex) (add_model properties name w) in
    let d = define_context_local name a.book in
    record { place = a.place; book = set_local_value d.place a.place d.book }
