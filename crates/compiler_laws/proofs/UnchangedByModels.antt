-- What no step changes of a book, of models, methods and public names. By cases over each step. Assumes nothing.
use Prim.Native.Nat.{ℕ, ◌+◌}
use mathlib.Core.Path.{refl}
use mathlib.Core.Bool.{Bool, true, false, cond}
use mathlib.Core.Option.{Option, none, some}
use mathlib.Core.List.{List, [], ◌∷◌, ◌++◌}
use lib.ListN.{length}
use Rattle.words.specs.Areas.{properties_area}
use Rattle.words.specs.Ast.{Token}
use Rattle.words.specs.Object.{constant_of, model_kind}
use Rattle.definition.specs.FunctionState.{Entry, find_name}
use Rattle.definition.specs.Book.{Placed, has_text, push_book_error, add_book_constant, define_context_local, add_methods, publish, add_property}
use Rattle.definition.specs.Book.{compile_properties, add_model, compile_model_definition, model_of, get_local_value, find_model_by, find_model_in}
use Rattle.definition.specs.Book.{find_model_index_by_local_name, methods_of, compile_apply_definition, Properties, model_count, property_count, noted}
use Rattle.definition_laws.proofs.StepPreserves.{same, more}
use Rattle.compiler_laws.specs.ModelSteps.{place_model}
use Rattle.compiler_laws.proofs.UnchangedByBooks.{BookUnchanged, Unchanged, unchanged_refl, unchanged_trans, unchanged_error, unchanged_constant}
use Rattle.compiler_laws.proofs.UnchangedByBooks.{unchanged_local, unchanged_value}

pub unchanged_methods : (o : Option ℕ) (es : List Entry) → Unchanged (add_methods o es)
unchanged_methods none es b = unchanged_refl b
unchanged_methods (some m) es b = record { uses = more same; prior = refl; assemblies = refl; filename = refl; index = refl }

pub unchanged_publish : (name : ℕ) (p : Placed) → BookUnchanged p.book (publish name p)
unchanged_publish name p = record { uses = more same; prior = refl; assemblies = refl; filename = refl; index = refl }

pub unchanged_property : (t : Token) (ps : List ℕ) → Unchanged (λ b. (add_property t ps b).book)
unchanged_property t ps b = go (has_text t.value ps)
  where
    go : (x : Bool) → BookUnchanged b (cond {A = Properties} x (record { texts = ps; book = push_book_error 6 t b })
        (record { texts = ps ++ (t.value ∷ []); book = noted properties_area (property_count b.context + length ps + 1) b })).book
    go true = unchanged_error 6 t b
    go false = record { uses = more same; prior = refl; assemblies = refl; filename = refl; index = refl }

pub unchanged_properties : (ts : List Token) (ps : List ℕ) → Unchanged (λ b. (compile_properties ts ps b).book)
unfolding compile_properties
unchanged_properties [] ps b = unchanged_refl b
unchanged_properties (t ∷ ts) ps b =
    let a = add_property t ps b in unchanged_trans (unchanged_property t ps b) (unchanged_properties ts a.texts a.book)

pub unchanged_model : (ps : List ℕ) (name : ℕ) → Unchanged (add_model ps name)
unchanged_model ps name b = record { uses = more same; prior = refl; assemblies = refl; filename = refl; index = refl }

pub unchanged_place_model : (ps : List ℕ) (name : ℕ) → Unchanged (λ b. (place_model ps name b).book)
unchanged_place_model ps name b =
    let b₂ = add_model ps name b in
    let constant = constant_of model_kind (model_count b.context) in
    let a = add_book_constant constant b₂ in
    let d = define_context_local name a.book in
    unchanged_trans (unchanged_model ps name b)
    (unchanged_trans (unchanged_constant constant b₂) (unchanged_trans (unchanged_local name a.book) (unchanged_value d.place a.place d.book)))

pub unchanged_model_definition : (name : Token) (properties : List Token) → Unchanged (λ b. (compile_model_definition name properties b).book)
unfolding compile_model_definition
unchanged_model_definition name properties b =
    let p = compile_properties properties [] b in
    unchanged_trans (unchanged_properties properties [] b) (unchanged_place_model p.texts name.value p.book)

pub unchanged_find_model : (t : Token) → Unchanged (λ b. (find_model_index_by_local_name t b).book)
unfolding find_model_index_by_local_name
unchanged_find_model t b = go (find_name t.value b.compiler.locals)
  where
    by : (o : Option ℕ) → BookUnchanged b (find_model_by o t b).book
    by none = unchanged_error 9 t b
    by (some m) = unchanged_refl b

    go : (o : Option ℕ) → BookUnchanged b (find_model_in o t b).book
    go none = unchanged_error 10 t b
    go (some local) = by (model_of (get_local_value local b.context))

pub unchanged_apply : (source target : Token) → Unchanged (compile_apply_definition source target)
unfolding compile_apply_definition
unchanged_apply source target b =
    let d = find_model_index_by_local_name source b in
    let e = find_model_index_by_local_name target d.book in
    unchanged_trans (unchanged_find_model source b) (unchanged_trans (unchanged_find_model target d.book)
    (unchanged_methods e.place (methods_of d.place d.book.context) e.book))
