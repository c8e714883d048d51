-- An implement definition is its functions one by one, the model, and its methods one by one; and what it leaves of a book as it was. Assumes nothing.
use Prim.Native.Nat.{ℕ, ◌+◌}
use native.Mathlib.Omega.{arith}
use mathlib.Core.Path.{◌≡◌, refl, ap, ◌∙◌}
use mathlib.Core.List.{List, [], ◌∷◌}
use lib.ListN.{length, length-append}
use Rattle.words.specs.Ast.{Token, FunctionDefinition}
use Rattle.definition.specs.FunctionState.{Entry}
use Rattle.definition.specs.Book.{Book, function_count, Methods, MaybePlaced, insert_entry, add_methods}
use Rattle.definition.specs.Book.{compile_base, compile_methods, find_model_index_by_local_name, compile_implement_definition}
use Rattle.compiler_laws.specs.ImplementSteps.{implementing, implementing_all, numbered}
use Rattle.compiler_laws.proofs.UnchangedByBooks.{Unchanged, unchanged_refl, unchanged_trans}
use Rattle.compiler_laws.proofs.UnchangedByModels.{unchanged_methods, unchanged_find_model}
use Rattle.compiler_laws.proofs.AddedFunctions.{unchanged_added}

-- the definition, by the functions one by one

one_more : (f : FunctionDefinition) (x : Book) → function_count (implementing f x).context ≡ function_count x.context + 1
unfolding compile_base
one_more f x =
    omega (
      arith,
      length-append x.context.program.functions
          (record { state = (compile_base f x).state; name = f.name.value; file = x.assembly.index } ∷ []),
    )

pub all_more : (fs : List FunctionDefinition) (x : Book)
    → function_count (implementing_all fs x).context ≡ function_count x.context + length fs
all_more [] x = omega arith
all_more (f ∷ fs) x = omega (arith, all_more fs (implementing f x), one_more f x)

-- entries collected by name
abbrev collected : List Entry → List Entry → List Entry
collected [] es = es
collected (r ∷ rs) es = collected rs (insert_entry r es)

abbrev methods_of : List Entry → Book → Methods
methods_of es b = record { entries = es; book = b }

methods_are : (fs : List FunctionDefinition) (es : List Entry) (x : Book)
    → compile_methods fs es x ≡ methods_of (collected (numbered (function_count x.context) fs) es) (implementing_all fs x)
unfolding compile_methods compile_base
methods_are [] es x = refl
methods_are (f ∷ fs) es x =
    let es' = insert_entry (record { name = f.name.value; index = function_count x.context }) es in
    methods_are fs es' (implementing f x)
    ∙ ap (λ (n : ℕ). methods_of (collected (numbered n fs) es') (implementing_all fs (implementing f x))) (one_more f x)

-- what the steps leave as it was

unchanged_all : (fs : List FunctionDefinition) → Unchanged (implementing_all fs)
unchanged_all [] x = unchanged_refl x
unchanged_all (f ∷ fs) x = unchanged_trans (unchanged_added f f.name.value x) (unchanged_all fs (implementing f x))

-- what the definition does, by its parts
abbrev sought : Token → List FunctionDefinition → Book → MaybePlaced
sought t fs x = find_model_index_by_local_name t (implementing_all fs x)

by_parts : (t : Token) (fs : List FunctionDefinition) (x : Book)
    → compile_implement_definition t fs x
    ≡ add_methods (sought t fs x).place (collected (numbered (function_count x.context) fs) []) (sought t fs x).book
unfolding compile_implement_definition
by_parts t fs x =
    ap (λ (c : Methods). let d = find_model_index_by_local_name t c.book in add_methods d.place c.entries d.book) (methods_are fs [] x)

pub unchanged_implement : (t : Token) (fs : List FunctionDefinition) → Unchanged (compile_implement_definition t fs)
unchanged_implement t fs x =
    rw (by_parts t fs x) (unchanged_trans (unchanged_all fs x) (unchanged_trans (unchanged_find_model t (implementing_all fs x))
    (unchanged_methods (sought t fs x).place (collected (numbered (function_count x.context) fs) []) (sought t fs x).book)))
