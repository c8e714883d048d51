-- What no step changes of a book: what stood before, the books put away, its own name and index; and notes are only added. By cases over each
-- step. Assumes nothing.
use Prim.Native.Nat.{ℕ}
use mathlib.Core.Path.{◌≡◌, refl, sym, ap, ◌∙◌}
use mathlib.Core.Option.{Option, none, some}
use mathlib.Core.List.{List, [], ◌∷◌}
use Rattle.words.specs.Ast.{Token, Binding, Alias}
use Rattle.words.specs.Object.{Constant}
use Rattle.definition.specs.FunctionState.{find_name}
use Rattle.definition.specs.Prior.{Prior, book_index, find_public}
use Rattle.definition.specs.Book.{Assembly, find_assembly, public_of, included_from}
use Rattle.definition.specs.Book.{Book, BookStep, working, push_book_error, add_book_constant, noted, define_context_local_by, define_context_local}
use Rattle.definition.specs.Book.{set_local_value}
use Rattle.definition.specs.Book.{give_value, included_name, compile_alias, compile_include_definition, Value, Standing, Adding, NoConstant, value_of}
use Rattle.definition.specs.Book.{compile_value}
use Rattle.definition.specs.Book.{gives_values, compile_include}
use Rattle.definition.specs.Book.{compile_binding_by, compile_binding, compile_local_definition}
use Rattle.definition_laws.proofs.Lists.{cond_case}
use Rattle.definition_laws.proofs.Program.{one_name}
use Rattle.definition_laws.proofs.StepPreserves.{NotesGrow, same, more, longer_trans, preserves_constant}

pub record BookUnchanged (b b' : Book) : Type 0 where
  pub uses : NotesGrow b.uses b'.uses
  pub prior : b'.context.prior ≡ b.context.prior
  pub assemblies : b'.context.assemblies ≡ b.context.assemblies
  pub filename : b'.assembly.filename ≡ b.assembly.filename
  pub index : b'.assembly.index ≡ b.assembly.index

abbrev pub Unchanged : BookStep → Type 0
Unchanged step = (b : Book) → BookUnchanged b (step b)

pub unchanged_refl : (b : Book) → BookUnchanged b b
unchanged_refl b = record { uses = same; prior = refl; assemblies = refl; filename = refl; index = refl }

pub unchanged_trans : {a b c : Book} → BookUnchanged a b → BookUnchanged b c → BookUnchanged a c
unchanged_trans x y = record {
  uses = longer_trans x.uses y.uses;
  prior = y.prior ∙ x.prior;
  assemblies = y.assemblies ∙ x.assemblies;
  filename = y.filename ∙ x.filename;
  index = y.index ∙ x.index;
}

-- so an include finds what it found before
pub included_unchanged : {b b' : Book} (file name : ℕ) → BookUnchanged b b' → included_name file name b'.context ≡ included_name file name b.context
included_unchanged {b} {b'} file name c =
    one_name file name b'.context
    ∙ ap (λ (p : Prior). included_from (book_index file 0 p.books) file name b'.context) c.prior ∙ go (book_index file 0 b.context.prior.books)
    ∙ sym (one_name file name b.context)
  where
    go : (o : Option ℕ) → included_from o file name b'.context ≡ included_from o file name b.context
    go none = ap (λ (as' : List Assembly). public_of (find_assembly file as') name) c.assemblies
    go (some i) = ap (λ (p : Prior). find_public i name p.publics) c.prior

pub unchanged_noted : (area n : ℕ) → Unchanged (noted area n)
unchanged_noted area n b = record { uses = more same; prior = refl; assemblies = refl; filename = refl; index = refl }

pub unchanged_error : (n : ℕ) (t : Token) → Unchanged (push_book_error n t)
unchanged_error n t b = record { uses = more same; prior = refl; assemblies = refl; filename = refl; index = refl }

pub unchanged_constant : (c : Constant) → Unchanged (λ b. (add_book_constant c b).book)
unchanged_constant c b = record { uses = (preserves_constant c (working b)).uses; prior = refl; assemblies = refl; filename = refl; index = refl }

pub unchanged_local : (n : ℕ) → Unchanged (λ b. (define_context_local n b).book)
unfolding define_context_local
unchanged_local n b = go (find_name n b.compiler.locals)
  where
    go : (o : Option ℕ) → BookUnchanged b (define_context_local_by o n b).book
    go (some i) = unchanged_refl b
    go none = record { uses = more same; prior = refl; assemblies = refl; filename = refl; index = refl }

pub unchanged_value : (o : Option ℕ) (c : ℕ) → Unchanged (set_local_value o c)
unchanged_value none c b = unchanged_refl b
unchanged_value (some i) c b = record { uses = same; prior = refl; assemblies = refl; filename = refl; index = refl }

pub unchanged_give : (o p : Option ℕ) → Unchanged (give_value o p)
unchanged_give o none b = unchanged_refl b
unchanged_give o (some c) b = unchanged_value o c b

pub unchanged_alias : (file : ℕ) (a : Alias) → Unchanged (compile_alias file a)
unfolding compile_alias
unchanged_alias file a b =
    let d = define_context_local a.alias.value b in
    unchanged_trans (unchanged_local a.alias.value b) (unchanged_give d.place (included_name file a.public_name.value b.context) d.book)

pub unchanged_include : (file : ℕ) (as' : List Alias) → Unchanged (compile_include_definition file as')
unfolding compile_include_definition
unchanged_include file [] b = unchanged_refl b
unchanged_include file (a ∷ as') b = unchanged_trans (unchanged_alias file a b) (unchanged_include file as' (compile_alias file a b))

pub unchanged_include_or_row_11 : (index file : ℕ) (as' : List Alias) → Unchanged (compile_include index file as')
unfolding compile_include
unchanged_include_or_row_11 index file as' b = cond_case (BookUnchanged b) (gives_values file as' b.context) (λ t. unchanged_include file as' b)
    (λ t. unchanged_noted _ 1 b)

pub unchanged_compile_value : (v : Value) (t : Token) (o : Option ℕ) → Unchanged (compile_value v t o)
unchanged_compile_value (Standing c) t o b = unchanged_value o c b
unchanged_compile_value (Adding c) t o b = let a = add_book_constant c b in unchanged_trans (unchanged_constant c b) (unchanged_value o a.place a.book)
unchanged_compile_value NoConstant t o b = unchanged_error 5 t b

pub unchanged_binding_by : (o : Option ℕ) (v : Option Token) → Unchanged (compile_binding_by o v)
unchanged_binding_by none v b = unchanged_refl b
unchanged_binding_by (some i) none b = unchanged_refl b
unchanged_binding_by (some i) (some t) b = unchanged_compile_value (value_of t) t (some i) b

pub unchanged_binding : (x : Binding) → Unchanged (compile_binding x)
unfolding compile_binding
unchanged_binding x b =
    let d = define_context_local x.variable.value b in
    unchanged_trans (unchanged_local x.variable.value b) (unchanged_binding_by d.place x.value d.book)

pub unchanged_local_definition : (xs : List Binding) → Unchanged (compile_local_definition xs)
unfolding compile_local_definition
unchanged_local_definition [] b = unchanged_refl b
unchanged_local_definition (x ∷ xs) b = unchanged_trans (unchanged_binding x b) (unchanged_local_definition xs (compile_binding x b))
