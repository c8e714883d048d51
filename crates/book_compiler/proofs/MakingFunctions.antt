-- A function of a book made to its end on one memory, and added to the book or dropped: one lemma for each way. By the laws of a function's begin and
-- end, and by what a function leaves as it was. Assumes nothing.
use Rattle.std.proofs.Common.{◌≡◌, ℕ, ◌*◌, ◌<◌, ◌≤◌, Bool, true, false, cond, ◌||◌, eqb, List, [], ◌∷◌, length, sym, refl, ap, ◌∙◌, subst, arith, eq-eqb}
use Rattle.std.proofs.Common.{ne_eqb, eqb-true}
use mathlib.Core.Option.{Option}
use lib.Seq.{length-sets}
use Rattle.memory.specs.Layout.{part}
use Rattle.words.specs.Ast.{FunctionDefinition}
use Rattle.words.specs.Areas.{entries_in}
use Rattle.words.specs.Object.{Constant, constant_of, function_kind}
use Rattle.words.specs.Record.{token_at}
use Rattle.definition.specs.FunctionState.{new_function_state}
use Rattle.definition.specs.Uses.{Limits}
use Rattle.definition.specs.Compiler.{with_function}
use Rattle.definition.specs.Prior.{Prior}
use Rattle.definition.specs.Book.{Context, has_text}
use Rattle.definition.specs.Program.{bit, constant_entry, entries_from}
use Rattle.definition_laws.proofs.Cells.{single_length}
use Rattle.definition.specs.Book.{Book, Placed, function_count, with_context, with_entry_point, add_book_constant, set_local_value}
use Rattle.definition.specs.Book.{working, compile_base, add_function, add_plain_function}
use Rattle.definition_laws.proofs.Good.{function_moves}
use Rattle.definition_laws.proofs.StepPreserves.{preserves_base}
use Rattle.building.specs.declared.function_state.FunctionState.{FunctionState}
use Rattle.building.specs.Emission.{Coded, coded, drop_c}
use Rattle.building.specs.State.{begun, with_code_count}
use Rattle.building.specs.Scopes.{Naming, naming, end_function_c}
use Rattle.building.specs.Taking.{given_up}
use Rattle.building.specs.Found.{Found, found_of}
use Rattle.building.specs.RepresentsMachine.{machine}
use Rattle.building.proofs.Filling.{capped}
use Rattle.building.proofs.BreakLaws.{drop_law}
use Rattle.building.proofs.Notes.{held_longer}
use Rattle.building.proofs.StateLaws.{touch_law}
use Rattle.building.proofs.ScopeLaws.{end_law}
use Rattle.compiler_laws.specs.declared.book.Book as struct
use Rattle.compiler_laws.specs.BookAreas.{book_areas, RepresentsAreas}
use Rattle.compiler_laws.specs.BookSteps.{resumed_book, AddedLocal}
use Rattle.compiler_laws.specs.AddingFunctions.{Bounded, ended, base_of}
use Rattle.compiler_laws.specs.AddingFunctions as adding
use Rattle.compiler_laws.proofs.BookCounts.{entering}
use Rattle.compiler_laws.proofs.FunctionStates.{code_so_far, held_working, keeping_resumed}
use Rattle.compiler_laws.proofs.BuiltFunctions.{base_longer, functions_count, built_back, built_between}
use Rattle.undo.specs.Notes.{plain_marks, plain_methods}
use Rattle.undo.specs.Stood.{Stood}
use Rattle.book_compiler.specs.Represents.{Memory, laid, view, is_built, Represents, On}
use Rattle.book_compiler.specs.Leaves.{OnCode, OnNames}
use Rattle.book_compiler.specs.RepresentsBook.{BookMemory, book_laid, is_book_area, BehindContext, PreservesParts, RepresentsBook}
use Rattle.book_compiler.specs.RepresentsBook.{OnArea}
use Rattle.book_compiler.specs.BookLeaves.{PushesBookError, AddsBookConstant, SetsLocalValue}
use Rattle.book_compiler.specs.FunctionSteps.{beside, CompilesBase, Built, MakesFunction, AddsBookFunction, DropsBookFunction, AddsPlainFunction}
use Rattle.book_compiler.proofs.Parts.{on_other}
use Rattle.book_compiler.proofs.ConstantCount.{end_function_count, drop_count}
use Rattle.book_compiler.proofs.Stood.{stood_spared}
use Rattle.book_compiler.proofs.StoodFunctions.{Onward, end_onward, SparesCode, drop_spares}
use Rattle.book_compiler.proofs.StoodBooks.{behind_grown, code_behind, constants_behind, functions_behind}
use Rattle.book_compiler.proofs.Laws.{nothing_spared, is_ordered}
use Rattle.book_compiler.proofs.BookParts.{area_kept}
use Rattle.book_compiler.proofs.BookLeaves.{error_pushed, constant_added, value_set}

-- the parts that a function is built in are a book's
not_built : (i : ℕ) → is_book_area i ≡ false → is_built i ≡ false
not_built i q = go (eqb i 1) refl (eqb i 2) refl (eqb i 9) refl (eqb i 10) refl (eqb i 11) refl (eqb i 13) refl
  where
    but : (j : ℕ) → eqb i j ≡ true → is_book_area j ≡ true → true ≡ false
    but j e t = sym t ∙ ap is_book_area (sym (eqb-true i j e)) ∙ q

    go : (a : Bool) → eqb i 1 ≡ a → (b : Bool) → eqb i 2 ≡ b → (c : Bool) → eqb i 9 ≡ c → (d : Bool) → eqb i 10 ≡ d → (e : Bool) → eqb i 11 ≡ e
        → (f : Bool) → eqb i 13 ≡ f → (a || b || c || d || e || f) ≡ false
    go true p b p₁ c p₂ d p₃ e p₄ f p₅ = but 1 p refl
    go false p true p₁ c p₂ d p₃ e p₄ f p₅ = but 2 p₁ refl
    go false p false p₁ true p₂ d p₃ e p₄ f p₅ = but 9 p₂ refl
    go false p false p₁ false p₂ true p₃ e p₄ f p₅ = but 10 p₃ refl
    go false p false p₁ false p₂ false p₃ true p₄ f p₅ = but 11 p₄ refl
    go false p false p₁ false p₂ false p₃ false p₄ true p₅ = but 13 p₅ refl
    go false p false p₁ false p₂ false p₃ false p₄ false p₅ = refl

is_book_lem : (i : ℕ) → is_built i ≡ true → is_book_area i ≡ true
is_book_lem i q = go (is_book_area i) refl
  where
    go : (t : Bool) → is_book_area i ≡ t → t ≡ true
    go true e = refl
    go false e = sym (not_built i e) ∙ q

-- a book's memory as that of its next function
begins : {κ : Limits} {ps : List ℕ} {others : ℕ → List ℕ} {s : struct.Book} {a l : List ℕ} {x : Book} → RepresentsBook κ ps others (book_laid s a l) x
    → Represents κ (code_so_far x) (beside others (book_laid s a l)) (laid (begun s.full s.code s.constants s.errors) a l) (working x)
begins {others = others} {a = a} {l = l} H =
    let P = H.preserves.nothing in
    record {
      fits = H.fits;
      preserves = record {
        same = λ i h q. ap (λ (t : Bool). cond t (others i) (part a i l)) (sym q);
        stood = λ i h q.
            subst (λ (t : Bool). Stood i (cond t (others i) (part a i l)) (part a i l)) (sym q) (H.preserves.stood i h (is_book_lem i q));
        nothing = record { names = P.names; breaks = P.breaks; errors = P.errors; slots = P.slots };
        behind = λ z. record { code = code_behind H z; constants = constants_behind H z };
      };
      held = held_working H.keeping;
      slots = H.slots;
    }

-- `make`
module _ {tree : List ℕ} {at end : ℕ} {s : struct.Book} {a l : List ℕ} {r : FunctionState}
    (worked : r ≡ begun s.full s.code s.constants s.errors) where
  pub make_full : (s.full ≡ 0 → ⊥) → MakesFunction tree at end (book_laid s a l) (laid r a l)
  make_full ne = record {
    makes = λ kind f h q κ ps others x H.
        let G = begins H in
        record {
          book = H;
          function = rw worked (record {
            fits = G.fits;
            preserves = G.preserves;
            held = held_longer {w' = ended (base_of f x)} (base_longer f x) ne G.held;
            slots = G.slots;
          });
        };
  }

  pub make_meets : s.full ≡ 0 → {r₁ r' : FunctionState} {l₁ l' : List ℕ}
      → CompilesBase tree at end s.first_local s.locals (laid r a l) (laid r₁ a l₁) → OnNames end_function_c (laid r₁ a l₁) (laid r' a l')
      → MakesFunction tree at end (book_laid s a l) (laid r' a l')
  make_meets z {r₁} {r'} {l₁} {l'} B ends = record {
    makes = λ kind f h q κ ps others x H.
        let G = begins H in
        let A : Represents κ (code_so_far x) (beside others (book_laid s a l)) (laid r a l) (with_function new_function_state (working x)) =
        rw worked (record { fits = G.fits; preserves = G.preserves; held = touch_law G.held; slots = G.slots }) in
        let M = B.meets kind f h q κ (code_so_far x) (beside others (book_laid s a l)) (working x) (H.keeping.rest z).named A in
        record {
          book = H;
          function = on_other (omega arith) refl refl refl ends.acts M
              (λ n e. nothing_spared M M.preserves.nothing.names (subst (λ (y : Naming). Onward r₁ y.state) (sym e)
              (end_onward (naming r₁ (part a 9 l₁)))))
              (λ n e. ap (λ (g : Naming). g.state.constants) e ∙ end_function_count (naming r₁ (part a 9 l₁)))
              (λ n e. end_law M.held e);
        };
  }

module _ {κ : Limits} {ps : List ℕ} {others : ℕ → List ℕ} {s : struct.Book} {a l l' : List ℕ} {r : FunctionState} {x : Book} {f : FunctionDefinition}
    (B : Built κ ps others (book_laid s a l) x f (laid r a l')) where
  -- the parts that no definition changes are as they were
  pub built_kept : {s' : struct.Book} → PreservesParts others (book_laid s' a l')
  built_kept = record {
    same = λ i h q. let n = not_built i q in unbuilt i h n ∙ B.book.preserves.same i h q;
    stood = λ i h q. go i h q (is_built i) refl;
    nothing = B.book.preserves.nothing;
  }
    where
      unbuilt : (i : ℕ) → i < 14 → is_built i ≡ false → part a i l' ≡ part a i l
      unbuilt i h n = B.function.preserves.same i h n ∙ ap (λ (t : Bool). cond t (others i) (part a i l)) n

      go : (i : ℕ) → i < 14 → is_book_area i ≡ true → (t : Bool) → is_built i ≡ t → Stood i (others i) (part a i l')
      go i h q true e = subst (λ (t : Bool). Stood i (cond t (others i) (part a i l)) (part a i l')) e (B.function.preserves.stood i h e)
      go i h q false e = subst (Stood i (others i)) (sym (unbuilt i h e)) (B.book.preserves.stood i h q)

  -- as counts and areas
  pub built_parts : adding.Built κ ps
      (book_areas s (part a 1 l) (plain_marks (part a 2 l)) (part a 3 l') (part a 4 l') (part a 5 l') (plain_methods s.standing_methods (part a 6 l'))
      (part a 7 l') (part a 8 l') (part a 9 l) (part a 10 l)
      (part a 11 l)) x f (view (laid r a l'))
  built_parts =
      let p = B.function.preserves in
      record {
        book = rw (
          p.same 3 (omega arith) refl,
          p.same 4 (omega arith) refl,
          p.same 5 (omega arith) refl,
          p.same 6 (omega arith) refl,
          p.same 7 (omega arith) refl,
          p.same 8 (omega arith) refl,
        ) B.book.keeping;
        function = B.function.held;
      }

  pub built_live : r.full ≡ 0 → s.full ≡ 0
  built_live = built_back built_parts

  -- what stood stays behind, with the function's constants
  pub built_behind : r.full ≡ 0 → {c : Context} → c.prior ≡ x.context.prior → c.pool.constants ≡ (base_of f x).context.constants
      → c.program.methods ≡ x.context.program.methods → BehindContext others c
  built_behind z {c} prior constants methods =
      let C = B.book.behind (built_live z) in
      let k = (base_of f x).context in
      let n : length (others 2) ≤ r.constants * 3 = (B.function.preserves.behind z).constants in
      let many : length (entries_from (constant_entry k.globals) 0 k.constants) ≡ length k.constants =
      single_length (λ (i : ℕ) (y : Constant). y.kind ∷ y.value ∷ bit (has_text i k.globals) ∷ []) 0 k.constants in
      let count : r.constants ≡ length (entries_from (constant_entry k.globals) 0 k.constants) = (B.function.held.rest z).constants.count in
      record {
        code = subst (λ (y : Prior). length (others 1) ≤ length y.code * 2) (sym prior) C.code;
        constants = rw constants (omega (arith, n, many, count));
        functions = subst (λ (y : Prior). length (others 3) ≤ length y.functions * 8) (sym prior) C.functions;
        models = subst (λ (y : Prior). length (others 4) ≤ length y.models * 2) (sym prior) C.models;
        properties = subst (λ (y : Prior). length (others 5) ≤ length y.properties * 2) (sym prior) C.properties;
        methods = rw methods C.methods;
        locals = subst (λ (y : Prior). length (others 7) ≤ length y.locals * 4) (sym prior) C.locals;
        publics = subst (λ (y : Prior). length (others 8) ≤ length y.publics * 3) (sym prior) C.publics;
      }

  -- `add_function`
  pub added_represents : {name : ℕ} {s₁ : struct.Book} {l'' : List ℕ} → Bounded f → AddsBookFunction name r (book_laid s a l') (book_laid s₁ a l'')
      → RepresentsBook κ ps others (book_laid s₁ a l'') (add_function (compile_base f x).state name (compile_base f x).book)
  unfolding compile_base
  added_represents {s₁ = s₁} bounded d =
      area_kept (omega arith) refl B.function.fits (built_kept {s' = s}) B.function.slots d.acts
      (λ g F. stood_spared ((built_kept {s' = s}).stood 3 (omega arith) refl) (λ z. functions_behind B.book (built_live z)) F.0.1.words)
      (λ z. built_behind ((d.acts.on B.function.fits).does.0.1.full z) refl refl refl) B.book.standing (λ g F. F.1) (λ g F.
      F.0.0.adds f bounded (part a 1 l) (plain_marks (part a 2 l)) (part a 9 l) (part a 10 l) (part a 11 l) (part a 1 l') (plain_marks (part a 2 l'))
      (part a 9 l') (part a 10 l') (part a 11 l') (part a 4 l') (part a 5 l') (plain_methods s.standing_methods (part a 6 l'))
      (part a 7 l') (part a 8 l') κ ps x built_parts)

-- `drop_instance`

record Dropped (r : FunctionState) (c : List ℕ) (d : Coded) : Type 0 where
  full : d.state.full ≡ r.full
  constants : d.state.constants ≡ r.constants
  errors : d.state.errors ≡ r.errors
  long : length d.code ≡ length c

dropped : (r : FunctionState) (c : List ℕ) → Dropped r c (drop_c (coded r c))
unfolding drop_c
dropped r c = go (eqb r.full 0)
  where
    go : (t : Bool) → Dropped r c (cond t (coded (with_code_count r.base r) (given_up 2 r.base r.code c)) (coded r c))
    go true = record { full = refl; constants = refl; errors = refl; long = simp length-sets }
    go false = record { full = refl; constants = refl; errors = refl; long = refl }

module _ {κ : Limits} {ps : List ℕ} {s : struct.Book} {c₀ k₀ n₀ b₀ e₀ c k n b e g m p t l u : List ℕ} {r : FunctionState} {x : Book} {f : FunctionDefinition}
    (B : adding.Built κ ps (book_areas s c₀ k₀ g m p t l u n₀ b₀ e₀) x f (machine r c k n b e)) where
  drop_keeping : {r₁ : FunctionState} {c₁ : List ℕ} → coded r₁ c₁ ≡ drop_c (coded r c)
      → RepresentsAreas κ ps (book_areas (resumed_book s r₁) c₁ k g m p t l u n b e) (compile_base f x).book
  unfolding compile_base
  drop_keeping {r₁} {c₁} q =
      let D : Dropped r c (coded r₁ c₁) = rw q (dropped r c) in
      let K = capped B.function in
      keeping_resumed B.book {r = r₁} {w = ended (base_of f x)}
      (record {
        code = ap (λ (w : ℕ). entries_in 2 w) D.long ∙ K.code;
        constants = K.constants;
        names = K.names;
        breaks = K.breaks;
        errors = K.errors;
      }) (rw D.full B.function.full) (λ z. built_back B (sym D.full ∙ z)) (preserves_base f (working x)).locals
      (function_moves f.parameters f.body (working x)).context (λ z.
      let z' : r.full ≡ 0 = sym D.full ∙ z in
      let A = built_between B z' in
      record {
        before = (B.function.rest z').before;
        filled_code = rw (ap (λ (y : Coded). y.code) q, ap (λ (y : Coded). y.state.code) q) (drop_law B.function z');
        filled_constants = rw D.constants A.filled_constants;
        marks = A.marks;
        filled_names = A.filled_names;
        filled_breaks = A.filled_breaks;
        filled_errors = rw D.errors A.filled_errors;
      })

on_area : {i : ℕ} {R : List ℕ → List ℕ → Type 0} {m m' : Memory} {s s' : struct.Book} → On i R m m'
    → OnArea i R (book_laid s m.starts m.words) (book_laid s' m'.starts m'.words)
on_area o = record { same = o.same; on = o.on }

pub drop_meets : {tree : List ℕ} {at : ℕ} {s s₁ : struct.Book} {r r₁ : FunctionState} {a l l₁ : List ℕ} {m' : BookMemory}
    → OnCode drop_c (laid r a l) (laid r₁ a l₁) → s₁ ≡ resumed_book s r₁ → PushesBookError 8 (token_at tree at) (book_laid s₁ a l₁) m'
    → DropsBookFunction tree at r (book_laid s a l) m'
unfolding compile_base
drop_meets {tree} {at} {s} {s₁} {r} {r₁} {a} {l} {l₁} {m'} d back F = record {
  drops = λ f l₀ κ ps others x B.
      let K : RepresentsBook κ ps others (book_laid (resumed_book s r₁) a l₁) (compile_base f x).book =
      area_kept (omega arith) refl B.function.fits (built_kept B {s' = s}) B.function.slots (on_area {s = s} {s' = resumed_book s r₁} d.acts)
      (λ c q. stood_spared ((built_kept B {s' = s}).stood 1 (omega arith) refl) (λ z. (B.function.preserves.behind z).code)
      (subst (SparesCode (coded r (part a 1 l))) (sym q) (drop_spares (coded r (part a 1 l)) (is_ordered B.function))).words)
      (λ z. built_behind B (sym (ap (λ (y : Coded). y.state.full) (d.acts.on B.function.fits).does ∙ (dropped r (part a 1 l)).full) ∙ z)
      refl refl refl) B.book.standing (λ c q. (ap (λ (y : Coded). y.state.constants) q ∙ drop_count (coded r (part a 1 l)), refl)) (λ c q.
      drop_keeping (built_parts B) q) in
      (error_pushed F).meets κ ps others (compile_base f x).book (rw back K);
}

-- `add_plain`

keeping_entry : {κ : Limits} {ps : List ℕ} {s : struct.Book} {c k g m p t l u n b e : List ℕ} {y : Book} (i : ℕ)
    → RepresentsAreas κ ps (book_areas s c k g m p t l u n b e) y
    → RepresentsAreas κ ps (book_areas (entering i s) c k g m p t l u n b e) (with_context (with_entry_point i y.context) y)
keeping_entry i H = record {
  fitted = record {
    code = H.fitted.code;
    constants = H.fitted.constants;
    functions = H.fitted.functions;
    models = H.fitted.models;
    properties = H.fitted.properties;
    methods = H.fitted.methods;
    locals = H.fitted.locals;
    publics = H.fitted.publics;
    names = H.fitted.names;
    breaks = H.fitted.breaks;
    errors = H.fitted.errors;
    others = H.fitted.others;
  };
  full = H.full;
  rest = λ z.
      let S = H.rest z in
      record {
        code = S.code;
        sized = S.sized;
        constants = S.constants;
        marks = S.marks;
        functions = S.functions;
        models = S.models;
        properties = S.properties;
        methods = S.methods;
        locals = S.locals;
        counted = S.counted;
        valued = S.valued;
        first_local = S.first_local;
        named = S.named;
        publics = S.publics;
        first_public = S.first_public;
        prior = S.prior;
        file = S.file;
        last_index = S.last_index;
        mode = S.mode;
        indexed = S.indexed;
        entry = refl;
        names = S.names;
        breaks = S.breaks;
        errors = S.errors;
      };
}

module _ {name : ℕ} {found : Found} {s s₁ s₂ : struct.Book} {r : FunctionState} {a l l₁ l₂ l₃ : List ℕ} {index place : ℕ} (index_is : index ≡ s.functions)
    (A : AddsBookFunction name r (book_laid s a l) (book_laid s₁ a l₁)) (C : AddsBookConstant function_kind index place (book_laid s₁ a l₁) (book_laid s₂ a l₂))
    (L : SetsLocalValue found place (book_laid s₂ a l₂) (book_laid s₂ a l₃)) where
  module _ (z : r.full ≡ 0) (f : FunctionDefinition) (bounded : Bounded f) {l₀ : List ℕ} {κ : Limits} {ps : List ℕ} {others : ℕ → List ℕ} {x : Book}
      (o : Option ℕ) (same : found ≡ found_of o) (below : AddedLocal o x.context) (B : Built κ ps others (book_laid s a l₀) x f (laid r a l)) where
    abbrev grown : Book
    grown = add_function (compile_base f x).state name (compile_base f x).book

    abbrev constant : Placed
    constant = add_book_constant (constant_of function_kind (function_count x.context)) grown

    many : index ≡ function_count x.context
    many = index_is ∙ functions_count (B.book.keeping.rest (built_live B z))

    numbered : AddsBookConstant function_kind (function_count x.context) place (book_laid s₁ a l₁) (book_laid s₂ a l₂)
    numbered = subst (λ (i : ℕ). AddsBookConstant function_kind i place (book_laid s₁ a l₁) (book_laid s₂ a l₂)) many C

    added : RepresentsBook κ ps others (book_laid s₁ a l₁) grown
    added = added_represents B bounded A

    plain_placed : s₂.full ≡ 0 → place ≡ constant.place
    plain_placed y = (constant_added numbered).placed κ ps others grown added y

    plain_represents : RepresentsBook κ ps others (book_laid s₂ a l₃) (set_local_value o constant.place constant.book)
    unfolding compile_base
    plain_represents =
        value_set o constant.place L (record { agrees = λ y. (same, plain_placed y, below) }) ((constant_added numbered).meets κ ps others grown added)

    plain_entry : RepresentsBook κ ps others (book_laid (entering (function_count x.context) s₂) a l₃)
        (let y = set_local_value o constant.place constant.book in with_context (with_entry_point (function_count x.context) y.context) y)
    plain_entry = record {
      fits = plain_represents.fits;
      preserves = record {
        same = plain_represents.preserves.same;
        stood = plain_represents.preserves.stood;
        nothing = plain_represents.preserves.nothing;
      };
      behind = λ y. behind_grown refl (omega arith) (omega arith) (plain_represents.behind y);
      keeping = keeping_entry (function_count x.context) plain_represents.keeping;
      standing = plain_represents.standing;
      slots = plain_represents.slots;
    }

  pub plain_other : (name ≡ 1 → ⊥) → AddsPlainFunction name found r (book_laid s a l) (book_laid s₂ a l₃) place
  unfolding add_plain_function compile_base
  plain_other ne = record {
    adds = λ z f bounded l₀ κ ps others x o same below B.
        (rw (ne_eqb name 1 ne) (plain_represents z f bounded o same below B), plain_placed z f bounded o same below B);
  }

  pub plain_main : name ≡ 1 → AddsPlainFunction name found r (book_laid s a l) (book_laid (entering index s₂) a l₃) place
  unfolding add_plain_function compile_base
  plain_main q = record {
    adds = λ z f bounded l₀ κ ps others x o same below B. (
      rw (eq-eqb name 1 q, many z f bounded o same below B) (plain_entry z f bounded o same below B),
      plain_placed z f bounded o same below B,
    );
  }
