-- An implement definition: one lemma for each way through its routines. By the functions one by one, the model, and the methods one by one.
-- Assumes nothing.
use Rattle.std.specs.Prelude.{Some, None}
use Rattle.std.proofs.Common.{◌≡◌, ℕ, ◌+◌, ◌^◌, ◌<◌, ◌≤◌, List, [], ◌∷◌, length, sym, refl, ap, ◌∙◌, subst, arith, length-append}
use mathlib.Core.Option.{Option, none, some}
use Rattle.words.specs.Ast.{Token, FunctionDefinition}
use Rattle.words.specs.Record.{value_at}
use Rattle.tree.specs.At.{Headed, RunAt, run_size, FunctionAt, size_f}
use Rattle.definition.specs.FunctionState.{Entry, find_name}
use Rattle.definition.specs.Uses.{Limits}
use Rattle.definition.specs.Within.{All, ◌&◌}
use Rattle.definition.specs.Book.{Book, function_count, Method, Methods, MaybePlaced, model_of, get_local_value, insert_entry, insert_methods, add_methods}
use Rattle.definition.specs.Book.{compile_base, compile_methods, find_model_by, find_model_in, find_model_index_by_local_name, compile_implement_definition}
use Rattle.compiler_laws.specs.InsideFunction.{skip_c}
use Rattle.compiler_laws.proofs.Tokens.{skip_law}
use Rattle.building.specs.declared.function_state.FunctionState.{FunctionState}
use Rattle.building.specs.Found.{Found, found_of}
use Rattle.compiler_laws.specs.declared.book.Book as struct
use Rattle.compiler_laws.specs.AddingFunctions.{Bounded}
use Rattle.compiler_laws.specs.ImplementSteps.{implementing, implementing_all, numbered}
use Rattle.compiler_laws.proofs.UnchangedByModels.{unchanged_methods}
use Rattle.compiler_laws.proofs.MapEntries.{found_at, found_none}
use Rattle.compiler_laws.proofs.BuiltFunctions.{functions_count}
use Rattle.compiler_laws.proofs.MethodsTogether.{inserts_append, methods_then, methods_none}
use Rattle.compiler_laws.proofs.MethodOrder.{Distinct, nobody, distinct_insert, inserts_entry}
use Rattle.compiler_laws.proofs.ImplementedMethods.{all_more, unchanged_implement}
use Rattle.book_compiler.specs.Represents.{laid}
use Rattle.book_compiler.specs.RepresentsBook.{BookMemory, book_laid, RepresentsBook, SimulatesBook, SimulatesSought}
use Rattle.book_compiler.specs.BookLeaves.{InsertsBookMethod}
use Rattle.book_compiler.specs.DefinitionSteps.{FindsModelIndex, ImplementsFunction, ImplementsFunctions, ImplementsMethods}
use Rattle.book_compiler.specs.DefinitionSteps.{CompilesImplementDefinition}
use Rattle.book_compiler.specs.FunctionSteps.{MakesFunction, AddsBookFunction}
use Rattle.book_compiler.proofs.StoodBooks.{functions_fit, behind_grown}
use Rattle.book_compiler.proofs.BookParts.{represents_longer, represents_same, simulates_full}
use Rattle.book_compiler.proofs.BookLeaves.{method_inserted}
use Rattle.book_compiler.proofs.MakingFunctions.{added_represents}

-- the definition, by the functions one by one

one_more : (f : FunctionDefinition) (x : Book) → function_count (implementing f x).context ≡ function_count x.context + 1
unfolding compile_base
one_more f x =
    omega (
      arith,
      length-append x.context.program.functions
          (record { state = (compile_base f x).state; name = f.name.value; file = x.assembly.index } ∷ []),
    )

-- entries collected by name
abbrev collected : List Entry → List Entry → List Entry
collected [] es = es
collected (r ∷ rs) es = collected rs (insert_entry r es)

abbrev methods_of : List Entry → Book → Methods
methods_of es b = record { entries = es; book = b }

methods_are : (fs : List FunctionDefinition) (es : List Entry) (x : Book)
    → compile_methods fs es x ≡ methods_of (collected (numbered (function_count x.context) fs) es) (implementing_all fs x)
unfolding compile_methods compile_base
methods_are [] es x = refl
methods_are (f ∷ fs) es x =
    let es' = insert_entry (record { name = f.name.value; index = function_count x.context }) es in
    methods_are fs es' (implementing f x)
    ∙ ap (λ (n : ℕ). methods_of (collected (numbered n fs) es') (implementing_all fs (implementing f x))) (one_more f x)

-- looking for a model changes the errors alone
same_context : (t : Token) (x : Book) → (find_model_index_by_local_name t x).book.context ≡ x.context
unfolding find_model_index_by_local_name
same_context t x = in' (find_name t.value x.compiler.locals)
  where
    by : (o : Option ℕ) → (find_model_by o t x).book.context ≡ x.context
    by none = refl
    by (some m) = refl

    in' : (o : Option ℕ) → (find_model_in o t x).book.context ≡ x.context
    in' none = refl
    in' (some l) = by (model_of (get_local_value l x.context))

-- what the definition does, by its parts
abbrev sought : Token → List FunctionDefinition → Book → MaybePlaced
sought t fs x = find_model_index_by_local_name t (implementing_all fs x)

by_parts : (t : Token) (fs : List FunctionDefinition) (x : Book)
    → compile_implement_definition t fs x
    ≡ add_methods (sought t fs x).place (collected (numbered (function_count x.context) fs) []) (sought t fs x).book
unfolding compile_implement_definition
by_parts t fs x =
    ap (λ (c : Methods). let d = find_model_index_by_local_name t c.book in add_methods d.place c.entries d.book) (methods_are fs [] x)

-- collected by name or not
collect_all : (m : ℕ) (rs : List Entry) {es : List Entry} → Distinct es → (l : List Method)
    → insert_methods m (collected rs es) l ≡ insert_methods m rs (insert_methods m es l)
collect_all m [] d l = refl
collect_all m (r ∷ rs) {es} d l =
    collect_all m rs (distinct_insert r d) l
    ∙ ap (λ (k : List Method). insert_methods m rs k) (inserts_entry m r d l ∙ inserts_append m es (r ∷ []) l)

methods_same : (m : ℕ) (rs : List Entry) (y : Book) → add_methods (some m) rs y ≡ add_methods (some m) (collected rs []) y
methods_same m rs y = rw (collect_all m rs nobody y.context.program.methods)

-- a function of an implement definition, whether an instance's or not
pub function_implemented : {tree : List ℕ} {at end name : ℕ} {s s' : struct.Book} {r : FunctionState} {a l l' l'' : List ℕ}
    → MakesFunction tree at end (book_laid s a l) (laid r a l') → name ≡ value_at tree at → AddsBookFunction name r (book_laid s a l') (book_laid s' a l'')
    → ImplementsFunction tree at end (book_laid s a l) (book_laid s' a l'')
function_implemented {name = name} {s} {s'} {r} {a} {l} {l'} {l''} M name-is A = record {
  simulates = λ f h q bounded. record {
    meets = λ κ ps others x H.
        let named : name ≡ f.name.value = name-is ∙ sym (ap (λ (y : Token). y.value) h.headed.token) in
        let A' : AddsBookFunction f.name.value r (book_laid s a l') (book_laid s' a l'') =
        subst (λ (y : ℕ). AddsBookFunction y r (book_laid s a l') (book_laid s' a l'')) named A in
        added_represents (M.makes 14 f h q κ ps others x H) bounded A';
  };
}

-- the functions of an implement definition
module _ {tree : List ℕ} {at end : ℕ} {m : BookMemory} where
  pub functions_end : end ≤ at → ImplementsFunctions tree at end m m
  unfolding RunAt run_size
  functions_end past = record { simulates = go }
    where
      go : (fs : List FunctionDefinition) → RunAt (FunctionAt 14) size_f fs tree at → at + run_size size_f fs ≡ end → All Bounded fs
          → SimulatesBook m m (implementing_all fs)
      go [] h q bounded = record { meets = λ κ ps others x H. H }
      go (f ∷ fs) h q bounded = absurd (omega arith)

  pub functions_more : {next : ℕ} {m₁ m' : BookMemory} → at < end → next ≡ skip_c tree at end → ImplementsFunction tree at next m m₁
      → ImplementsFunctions tree next end m₁ m' → ImplementsFunctions tree at end m m'
  unfolding RunAt run_size
  functions_more {next} {m₁} {m'} inside skipped A B = record { simulates = go }
    where
      go : (fs : List FunctionDefinition) → RunAt (FunctionAt 14) size_f fs tree at → at + run_size size_f fs ≡ end → All Bounded fs
          → SimulatesBook m m' (implementing_all fs)
      go [] h q bounded = absurd (omega arith)
      go (f ∷ fs) h q (bounded & rest) =
          let is : next ≡ at + size_f f = skipped ∙ skip_law tree at end h.0.headed.head (omega arith) (omega arith) in
          record {
            meets = λ κ ps others x H.
                (B.simulates fs (rw (← is) at h.1) (omega arith) rest).meets κ ps others (implementing f x)
                ((A.simulates f h.0 (sym is) bounded).meets κ ps others x H);
          }

-- the methods of its model
module _ {tree : List ℕ} {at end model first most : ℕ} {m : BookMemory} where
  pub methods_end : end ≤ at → ImplementsMethods tree at end model first most m m
  unfolding RunAt run_size
  methods_end past = record { simulates = go }
    where
      go : (fs : List FunctionDefinition) → RunAt (FunctionAt 14) size_f fs tree at → at + run_size size_f fs ≡ end → first + length fs ≤ most
          → most < 2 ^ 56 → SimulatesBook m m (add_methods (some model) (numbered first fs))
      go [] h q few small = record {
        meets = λ κ ps others x H. represents_same H (λ z. behind_grown refl (omega arith) (omega arith) (H.behind z))
            (methods_none model x H.keeping);
      }
      go (f ∷ fs) h q few small = absurd (omega arith)

  pub methods_past : at < end → most ≤ first → ImplementsMethods tree at end model first most m m
  unfolding RunAt run_size
  methods_past inside past = record { simulates = go }
    where
      go : (fs : List FunctionDefinition) → RunAt (FunctionAt 14) size_f fs tree at → at + run_size size_f fs ≡ end → first + length fs ≤ most
          → most < 2 ^ 56 → SimulatesBook m m (add_methods (some model) (numbered first fs))
      go [] h q few small = absurd (omega arith)
      go (f ∷ fs) h q few small = absurd (omega arith)

  pub methods_more : {next name : ℕ} {m₁ m' : BookMemory} → at < end → name ≡ value_at tree at → InsertsBookMethod model name first m m₁
      → next ≡ skip_c tree at end → ImplementsMethods tree next end model (first + 1) most m₁ m' → ImplementsMethods tree at end model first most m m'
  unfolding RunAt run_size
  methods_more {next} {name} {m₁} {m'} inside name-is A skipped B = record { simulates = go }
    where
      go : (fs : List FunctionDefinition) → RunAt (FunctionAt 14) size_f fs tree at → at + run_size size_f fs ≡ end → first + length fs ≤ most
          → most < 2 ^ 56 → SimulatesBook m m' (add_methods (some model) (numbered first fs))
      go [] h q few small = absurd (omega arith)
      go (f ∷ fs) h q few small =
          let is : next ≡ at + size_f f = skipped ∙ skip_law tree at end h.0.headed.head (omega arith) (omega arith) in
          let named : name ≡ f.name.value = name-is ∙ sym (ap (λ (y : Token). y.value) h.0.headed.token) in
          let A' : InsertsBookMethod model f.name.value first m m₁ = subst (λ (y : ℕ). InsertsBookMethod model y first m m₁) named A in
          record {
            meets = λ κ ps others x H.
                let one : List Entry = record { name = f.name.value; index = first } ∷ [] in
                let H' = (B.simulates fs (rw (← is) at h.1) (omega arith) (omega arith) small).meets κ ps others (add_methods (some model) one x)
                ((method_inserted A' (omega arith)).meets κ ps others x H) in
                represents_same H' (λ z. behind_grown refl (omega arith) (omega arith) (H'.behind z))
                (methods_then model one (numbered (first + 1) fs) x H'.keeping);
          }

-- `compile_implement_definition`
module _ {tree : List ℕ} {at end : ℕ} {m : BookMemory} where
  pub implement_past : end ≤ at → CompilesImplementDefinition tree at end m m
  implement_past past = record { simulates = λ model fs h r q bounded. absurd (omega arith) }

  pub implement_full : (m.book.full ≡ 0 → ⊥) → CompilesImplementDefinition tree at end m m
  implement_full ne = record { simulates = λ model fs h r q bounded. simulates_full (unchanged_implement model fs) ne }

  module _ (live : m.book.full ≡ 0) {m₁ m₂ : BookMemory} {found : Found} (A : ImplementsFunctions tree (at + 1) end m m₁)
      (F : FindsModelIndex tree at found m₁ m₂) where
    module _ (model : Token) (fs : List FunctionDefinition) (h : Headed tree at 16 (1 + run_size size_f fs) model)
        (run : RunAt (FunctionAt 14) size_f fs tree (at + 1)) (q : at + (1 + run_size size_f fs) ≡ end) (bounded : All Bounded fs) {κ : Limits}
        {ps : List ℕ} {others : ℕ → List ℕ} {x : Book} (H : RepresentsBook κ ps others m x) where
      abbrev rows : List Entry
      rows = numbered (function_count x.context) fs

      compiled : RepresentsBook κ ps others m₁ (implementing_all fs x)
      compiled = (A.simulates fs run (omega arith) bounded).meets κ ps others x H

      seeks : SimulatesSought m₁ m₂ found (find_model_index_by_local_name model)
      seeks = subst (λ (y : Token). SimulatesSought m₁ m₂ found (find_model_index_by_local_name y)) (sym h.token) F.seeks

      looked_for : RepresentsBook κ ps others m₂ (sought model fs x).book
      looked_for = seeks.meets κ ps others (implementing_all fs x) compiled

      -- with the mark set
      full_represents : (m₂.book.full ≡ 0 → ⊥) → RepresentsBook κ ps others m₂ (compile_implement_definition model fs x)
      full_represents ne =
          rw (by_parts model fs x)
          (represents_longer (unchanged_methods (sought model fs x).place (collected rows []) (sought model fs x).book).uses ne looked_for)

      module _ (z : m₂.book.full ≡ 0) where
        answer : found ≡ found_of (sought model fs x).place
        answer = seeks.sought κ ps others (implementing_all fs x) compiled z

        none_represents : found ≡ None → RepresentsBook κ ps others m₂ (compile_implement_definition model fs x)
        none_represents lost = rw (by_parts model fs x, found_none (sought model fs x).place answer lost) looked_for

        first_is : m.book.functions ≡ function_count x.context
        first_is = functions_count (H.keeping.rest live)

        most_is : m₂.book.functions ≡ function_count x.context + length fs
        most_is = functions_count (looked_for.keeping.rest z) ∙ ap function_count (same_context model (implementing_all fs x)) ∙ all_more fs x

        found_represents : {i : ℕ} → found ≡ Some i → {m' : BookMemory}
            → ImplementsMethods tree (at + 1) end i m.book.functions m₂.book.functions m₂ m'
            → RepresentsBook κ ps others m' (compile_implement_definition model fs x)
        found_represents {i} is {m'} M =
            let K : RepresentsBook κ ps others m' (add_methods (some i) rows (sought model fs x).book) =
            rw (← first_is) ((M.simulates fs run (omega arith) (omega (arith, first_is, most_is)) (functions_fit looked_for z)).meets κ ps others _
            looked_for) in
            rw (by_parts model fs x, found_at (sought model fs x).place answer is)
            (subst (λ (y : Book). RepresentsBook κ ps others m' y) (methods_same i rows (sought model fs x).book) K)

    pub implement_over : (m₂.book.full ≡ 0 → ⊥) → CompilesImplementDefinition tree at end m m₂
    implement_over ne = record {
      simulates = λ model fs h run q bounded. record { meets = λ κ ps others x H. full_represents model fs h run q bounded H ne };
    }

    pub implement_none : m₂.book.full ≡ 0 → found ≡ None → CompilesImplementDefinition tree at end m m₂
    implement_none z lost = record {
      simulates = λ model fs h run q bounded. record { meets = λ κ ps others x H. none_represents model fs h run q bounded H z lost };
    }

    pub implement_found : m₂.book.full ≡ 0 → {i : ℕ} → found ≡ Some i → {m' : BookMemory}
        → ImplementsMethods tree (at + 1) end i m.book.functions m₂.book.functions m₂ m' → CompilesImplementDefinition tree at end m m'
    implement_found z is M = record {
      simulates = λ model fs h run q bounded. record { meets = λ κ ps others x H. found_represents model fs h run q bounded H z is M };
    }
