-- What each leaf that is lent one part does to the book: the laws of `compiler_laws` on the part. Assumes nothing.
use Rattle.std.specs.Prelude.{Some}
use Rattle.std.proofs.Common.{◌≡◌, ℕ, ◌*◌, ◌^◌, ◌<◌, ◌≤◌, List, [], ◌∷◌, length, sym, refl, ap, ◌∙◌, subst, arith}
use mathlib.Core.Option.{Option, none, some}
use Rattle.words.specs.Ast.{Token}
use Rattle.words.specs.Object.{constant_of}
use Rattle.words.specs.Areas.{constants_area, context_locals_area, public_names_area, errors_area, methods_area, code_area, functions_area, models_area}
use Rattle.words.specs.Areas.{properties_area}
use Rattle.words.specs.Areas.{scope_names_area, breaks_area}
use Rattle.definition.specs.Uses.{Limits}
use Rattle.definition.specs.Book.{Book, Placed, push_book_error, add_book_constant, define_context_local, set_local_value, add_methods, methods_in, publish}
use Rattle.building.specs.declared.function_state.FunctionState.{FunctionState}
use Rattle.building.specs.Found.{Found, found_of}
use Rattle.building.specs.State.{begun}
use Rattle.building.specs.Pool.{Pooling, pooling, add_constant_c}
use Rattle.undo.specs.Notes.{plain_marks, plain_methods}
use Rattle.undo.proofs.PlainMarks.{add_plain}
use Rattle.compiler_laws.specs.declared.book.Book as struct
use Rattle.compiler_laws.specs.BookAreas.{book_areas, Places}
use Rattle.compiler_laws.specs.BookSteps.{resumed_book, Valuable, OneOf}
use Rattle.compiler_laws.proofs.BookLeaves.{constant_places}
use Rattle.compiler_laws.proofs.BookStepsInOrder.{unfilled}
use Rattle.book_compiler.specs.Represents.{laid}
use Rattle.book_compiler.specs.Leaves.{ConstantAdded, AddsConstant}
use Rattle.book_compiler.specs.RepresentsBook.{BookMemory, book_laid, book_view, area_of, said_by, RepresentsBook}
use Rattle.book_compiler.specs.RepresentsBook.{SimulatesBook, SimulatesPlaced, SimulatesSought}
use Rattle.book_compiler.specs.BookLeaves.{PushesBookError, AddsBookConstant, DefinesContextLocal, SetsLocalValue, InsertsBookMethod}
use Rattle.book_compiler.specs.BookLeaves.{CopiesBookMethods, PublishesName}
use Rattle.book_compiler.proofs.Stood.{stood_nothing, stood_spared, stood_added}
use Rattle.book_compiler.proofs.StoodBooks.{constants_behind, locals_behind, own_publics_behind, publics_behind, constant_spares}
use Rattle.book_compiler.proofs.StoodBooks.{stood_first, standing_below}
use Rattle.book_compiler.proofs.StoodBooks.{behind_grown, error_grows, constant_grows, local_grows, value_grows, methods_grow, publish_grows}
use Rattle.book_compiler.proofs.BookParts.{not_part, area_law, area_simulates, area_seeks}

-- the state that a book's next function begins in
abbrev working : struct.Book → FunctionState
working s = begun s.full s.code s.constants s.errors

-- `add_constant`
pub adds_constant : {kind value place : ℕ} {s s' : struct.Book} {a w w' : List ℕ} {before state : FunctionState} → before ≡ working s
    → AddsConstant kind value place (laid before a w) (laid state a w') → s' ≡ resumed_book s state
    → AddsBookConstant kind value place (book_laid s a w) (book_laid s' a w')
adds_constant {kind} {value} {place} {s} {s'} {a} {w} {w'} {before} {state} worked A back = record {
  state = state;
  adds = subst (λ (t : FunctionState). AddsConstant kind value place (laid t a w) (laid state a w')) worked A;
  counts = back;
}

-- a local that was found is none of those that stood
value_behind : (i n prior names : ℕ) (o : Option ℕ) → Some i ≡ found_of o → OneOf o prior names → n ≤ prior * 4 → n ≤ i * 4
value_behind i n prior names none q h l = absurd (let y : ◌≡◌ {A = ℕ} 0 1 = cc in omega arith)
value_behind i n prior names (some j) q h l = let same : i ≡ j = cc in omega (arith, same, h.0, l)

module _ {m m' : BookMemory} where
  pub error_pushed : {number : ℕ} {token : Token} → PushesBookError number token m m' → SimulatesBook m m' (push_book_error number token)
  error_pushed {number} {token} d =
      area_simulates (omega arith) refl d.counts d.acts (λ κ ps others b H e r. stood_nothing e H.preserves.nothing.errors)
      (λ x r. r.simulates (area_of m code_area) (said_by m constants_area) (area_of m functions_area)
      (area_of m models_area) (area_of m properties_area) (said_by m methods_area) (area_of m context_locals_area) (area_of m public_names_area)
      (area_of m scope_names_area) (area_of m breaks_area)) (error_grows number token)

  pub constant_added : {kind value place : ℕ} → AddsBookConstant kind value place m m' → SimulatesPlaced m m' place (add_book_constant (constant_of kind value))
  constant_added {kind} {value} {place} d = record {
    meets = λ κ ps others b H.
        let A = added H in
        record {
          fits = A.fits;
          preserves = record {
            same = λ j g q. A.others j g (not_part j 2 refl q) (not_part j 13 refl q) ∙ H.preserves.same j g q;
            stood = λ j g q.
                stood_added others (area_of m) (area_of m') j
                (stood_spared (H.preserves.stood constants_area (omega arith) refl) (constants_behind H) (constant_spares m.book kind value refl A.is))
                H.preserves.nothing.slots (A.others j g) (H.preserves.stood j g q);
            nothing = H.preserves.nothing;
          };
          behind = λ z.
              let G = constant_grows (constant_of kind value) b in
              behind_grown G.prior G.constants G.methods (H.behind (unfilled G.uses H.keeping ((places H).meets κ ps b H.keeping) z));
          keeping = rw (
            A.others 1 (omega arith) refl refl,
            A.others 3 (omega arith) refl refl,
            A.others 4 (omega arith) refl refl,
            A.others 5 (omega arith) refl refl,
            A.others 6 (omega arith) refl refl,
            A.others 7 (omega arith) refl refl,
            A.others 8 (omega arith) refl refl,
            A.others 9 (omega arith) refl refl,
            A.others 10 (omega arith) refl refl,
            A.others 11 (omega arith) refl refl,
          ) ((places H).meets κ ps b H.keeping);
          standing = rw d.counts H.standing;
          slots = rw d.counts A.slotted;
        };
    placed = λ κ ps others b H z. (places H).placed κ ps b H.keeping z;
  }
    where
      added : {κ : Limits} {ps : List ℕ} {others : ℕ → List ℕ} {b : Book} → RepresentsBook κ ps others m b
          → ConstantAdded (add_constant_c kind value) place (laid (working m.book) m.starts m.words) (laid d.state m'.starts m'.words)
      added H = d.adds.adds H.fits H.slots

      plain_is : {κ : Limits} {ps : List ℕ} {others : ℕ → List ℕ} {b : Book} → RepresentsBook κ ps others m b
          → pooling place d.state (plain_marks (area_of m' constants_area)) ≡ add_constant_c kind value (working m.book) (said_by m constants_area)
      plain_is H =
          ap (λ (x : Pooling). pooling x.index x.state (plain_marks x.constants)) (added H).is
          ∙ add_plain kind value (working m.book) (area_of m constants_area)

      places : {κ : Limits} {ps : List ℕ} {others : ℕ → List ℕ} {b : Book} → RepresentsBook κ ps others m b
          → Places (book_view m)
          (book_areas m'.book (area_of m code_area) (plain_marks (area_of m' constants_area)) (area_of m functions_area) (area_of m models_area)
          (area_of m properties_area) (plain_methods m'.book.standing_methods (area_of m methods_area)) (area_of m context_locals_area)
          (area_of m public_names_area) (area_of m scope_names_area) (area_of m breaks_area)
          (area_of m errors_area)) place (add_book_constant (constant_of kind value))
      places H =
          subst (λ (t : List ℕ). Places (book_view m)
          (book_areas m'.book (area_of m code_area) (plain_marks (area_of m' constants_area)) (area_of m functions_area) (area_of m models_area)
          (area_of m properties_area) t (area_of m context_locals_area) (area_of m public_names_area) (area_of m scope_names_area) (area_of m breaks_area)
          (area_of m errors_area)) place (add_book_constant (constant_of kind value)))
          (ap (λ (x : struct.Book). plain_methods x.standing_methods (area_of m methods_area)) (sym d.counts))
          ((constant_places kind value refl (plain_is H) d.counts).places (area_of m code_area) (area_of m functions_area) (area_of m models_area)
          (area_of m properties_area) (said_by m methods_area) (area_of m context_locals_area) (area_of m public_names_area) (area_of m scope_names_area)
          (area_of m breaks_area) (area_of m errors_area))

  pub local_defined : {name : ℕ} {found : Found} → DefinesContextLocal name found m m' → SimulatesSought m m' found (define_context_local name)
  local_defined {name} d =
      area_seeks (omega arith) refl d.counts d.acts (λ κ ps others b H l r.
      stood_spared (H.preserves.stood context_locals_area (omega arith) refl) (locals_behind H) r.1)
      (λ x r. r.0.seeks (area_of m code_area) (said_by m constants_area) (area_of m functions_area) (area_of m models_area)
      (area_of m properties_area) (said_by m methods_area) (area_of m public_names_area) (area_of m scope_names_area) (area_of m breaks_area)
      (area_of m errors_area))
      (local_grows name)

  pub value_set : {κ : Limits} {ps : List ℕ} {others : ℕ → List ℕ} {found : Found} {constant : ℕ} {x : Book} (o : Option ℕ) (v : ℕ)
      → SetsLocalValue found constant m m' → Valuable m.book found constant o v x → RepresentsBook κ ps others m x
      → RepresentsBook κ ps others m' (set_local_value o v x)
  value_set {κ} {ps} {others} {found = found} {x = x} o v d A H =
      area_law (omega arith) refl (record {
        constants = ap (λ (s : struct.Book). s.constants) d.same;
        standing = ap (λ (s : struct.Book). s.standing_methods) d.same;
      }) d.acts H (λ l r. stood_spared {below = length (others context_locals_area)}
      (H.preserves.stood context_locals_area (omega arith) refl) (λ z. omega arith)
      (r.1.words (length (others context_locals_area)) (λ z i at. let (is, same, below) = A.agrees z in
      value_behind i (length (others context_locals_area)) (length x.context.prior.locals) (length x.context.locals.names) o (sym at ∙ is) below
      (H.behind z).locals))) (value_grows o v x) (λ l r. rw d.same (r.0.values (area_of m code_area) (said_by m constants_area) (area_of m functions_area)
      (area_of m models_area) (area_of m properties_area) (said_by m methods_area) (area_of m public_names_area) (area_of m scope_names_area)
      (area_of m breaks_area)
      (area_of m errors_area) κ ps x o v A H.keeping))

  pub method_inserted : {model name function : ℕ} → InsertsBookMethod model name function m m' → function < 2 ^ 56
      → SimulatesBook m m' (add_methods (some model) (record { name = name; index = function } ∷ []))
  method_inserted {model} {name} {function} d small = record {
    meets = λ κ ps others b H.
        area_law (omega arith) refl d.counts d.acts H
        (λ t r. stood_spared (H.preserves.stood methods_area (omega arith) refl) (standing_below H) (r.spares.words (stood_first H)))
        (methods_grow (some model) (record { name = name; index = function } ∷ []) b)
        (λ t r. ((r.inserts (stood_first H) (λ _. small)).simulates (area_of m code_area) (said_by m constants_area) (area_of m functions_area)
        (area_of m models_area) (area_of m properties_area) (area_of m context_locals_area) (area_of m public_names_area) (area_of m scope_names_area)
        (area_of m breaks_area) (area_of m errors_area)).meets κ ps b H.keeping);
  }

  pub methods_copied : {source target : ℕ} → CopiesBookMethods source target m m'
      → SimulatesBook m m' (λ w. add_methods (some target) (methods_in source w.context.program.methods) w)
  methods_copied {source} {target} d = record {
    meets = λ κ ps others b H.
        area_law (omega arith) refl d.counts d.acts H
        (λ t r. stood_spared (H.preserves.stood methods_area (omega arith) refl) (standing_below H) (r.spares.words (stood_first H)))
        (methods_grow (some target) (methods_in source b.context.program.methods) b)
        (λ t r. ((r.copies (stood_first H)).simulates (area_of m code_area) (said_by m constants_area) (area_of m functions_area) (area_of m models_area)
        (area_of m properties_area) (area_of m context_locals_area) (area_of m public_names_area) (area_of m scope_names_area) (area_of m breaks_area)
        (area_of m errors_area)).meets κ ps b H.keeping);
  }

  pub name_published : {κ : Limits} {ps : List ℕ} {others : ℕ → List ℕ} {place name : ℕ} (q : Placed) → PublishesName place name m m'
      → RepresentsBook κ ps others m q.book → (m.book.full ≡ 0 → place ≡ q.place) → RepresentsBook κ ps others m' (publish name q)
  name_published {κ} {ps} {others} {name = name} q d H is =
      area_law (omega arith) refl d.counts d.acts H (λ u r. stood_spared {below = length (others public_names_area)}
      (H.preserves.stood public_names_area (omega arith) refl) (λ z. omega arith)
      (r.1.words (length (others public_names_area)) (own_publics_behind H) (publics_behind H))) (publish_grows name q)
      (λ u r. r.0.meets (area_of m code_area) (said_by m constants_area) (area_of m functions_area) (area_of m models_area)
      (area_of m properties_area) (said_by m methods_area) (area_of m context_locals_area) (area_of m scope_names_area) (area_of m breaks_area)
      (area_of m errors_area)
      κ ps q H.keeping is)
