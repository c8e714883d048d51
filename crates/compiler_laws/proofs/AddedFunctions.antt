-- What a function definition leaves of a book as it was, its function added or dropped. Assumes nothing.
use Prim.Native.Nat.{ℕ}
use mathlib.Core.Path.{refl}
use mathlib.Core.Bool.{cond}
use mathlib.Core.Option.{Option}
use lib.Dec.{eqb}
use Rattle.words.specs.Ast.{FunctionDefinition}
use Rattle.words.specs.Object.{constant_of, function_kind}
use Rattle.definition.specs.Book.{Book, Placed, Made, function_count}
use Rattle.definition.specs.Book.{push_book_error, add_book_constant, set_local_value, define_context_local}
use Rattle.definition.specs.Book.{compile_base, add_function, add_plain_function, compile_function_definition}
use Rattle.definition_laws.proofs.Lists.{cond_case}
use Rattle.definition_laws.proofs.StepPreserves.{same, more}
use Rattle.compiler_laws.proofs.UnchangedByBooks.{BookUnchanged, Unchanged, unchanged_trans, unchanged_error, unchanged_constant, unchanged_local}
use Rattle.compiler_laws.proofs.UnchangedByBooks.{unchanged_value}
use Rattle.compiler_laws.proofs.BuiltFunctions.{unchanged_base}

-- what the steps leave as it was
pub unchanged_added : (f : FunctionDefinition) (name : ℕ) (x : Book) → BookUnchanged x (add_function (compile_base f x).state name (compile_base f x).book)
unchanged_added f name x = unchanged_trans (unchanged_base f x) (record { uses = more same; prior = refl; assemblies = refl; filename = refl; index = refl })

unchanged_plain : (o : Option ℕ) (m : Made) (name : ℕ) → BookUnchanged m.book (add_plain_function o m.state name m.book).book
unfolding add_plain_function
unchanged_plain o m name =
    let y = add_function m.state name m.book in
    let i = function_count m.book.context in
    let a = add_book_constant (constant_of function_kind i) y in
    let z = set_local_value o a.place a.book in
    let C : BookUnchanged m.book z = unchanged_trans {b = y} (record { uses = more same; prior = refl; assemblies = refl; filename = refl; index = refl })
    (unchanged_trans (unchanged_constant (constant_of function_kind i) y) (unchanged_value o a.place a.book)) in
    cond_case (λ (w : Book). BookUnchanged m.book w) (eqb name 1)
    (λ t. record { uses = C.uses; prior = C.prior; assemblies = C.assemblies; filename = C.filename; index = C.index }) (λ t. C)

-- what is left after the base
unchanged_rest : (f : FunctionDefinition) (o : Option ℕ) (m : Made)
    → BookUnchanged m.book (cond m.state.header.is_instance (record { place = 0; book = push_book_error 8 f.name m.book })
    (add_plain_function o m.state f.name.value m.book)).book
unchanged_rest f o m =
    cond_case (λ (p : Placed). BookUnchanged m.book p.book) m.state.header.is_instance (λ t. unchanged_error 8 f.name m.book)
    (λ t. unchanged_plain o m f.name.value)

pub unchanged_function : (f : FunctionDefinition) → Unchanged (λ b. (compile_function_definition f b).book)
unfolding compile_function_definition
unchanged_function f b =
    let d = define_context_local f.name.value b in
    unchanged_trans (unchanged_local f.name.value b) (unchanged_trans (unchanged_base f d.book) (unchanged_rest f d.place (compile_base f d.book)))
