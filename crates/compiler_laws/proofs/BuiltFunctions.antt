-- A function of a book compiled to its end, and added to the book or dropped: one lemma for each way. By the laws of a function's begin and end, and by
-- what a function leaves as it was. Assumes nothing.
use Prim.Native.Nat.{ℕ, ◌+◌, ◌^◌, ◌<◌}
use native.Mathlib.Omega.{arith}
use mathlib.Core.Path.{◌≡◌, refl, sym, ap, ◌∙◌}
use mathlib.Core.Bool.{Bool, true, false}
use mathlib.Core.List.{List, [], ◌∷◌, ◌++◌, append_assoc}
use lib.ListN.{length, length-append}
use lib.Dec.{eqb}
use borrow.Author.Tests.{eqb-true, eqb-false}
use Rattle.words.specs.Ast.{FunctionDefinition}
use Rattle.words.specs.Areas.{functions_area, entries_in}
use Rattle.words.specs.Record.{most_records}
use Rattle.definition.specs.Uses.{Limits, total}
use Rattle.definition.specs.Within.{All, nil, ◌&◌}
use Rattle.definition.specs.Compiler.{Work, compile_function_definition_base}
use Rattle.definition.specs.Book.{Function, Book, working, code_of, code_count, function_count, compile_base, add_function}
use Rattle.definition.specs.Program.{Entries, entries_from, code_entries, function_code, function_entry, function_entries, function_table}
use Rattle.definition_laws.proofs.Lists.{all_append, all_map}
use Rattle.definition_laws.proofs.FunctionCode.{functions_length}
use Rattle.definition_laws.proofs.Limits.{LimitedFunction}
use Rattle.definition_laws.proofs.StepPreserves.{NotesGrow, same, more, longer_trans, preserves_base}
use Rattle.definition_laws.proofs.Good.{function_moves}
use Rattle.definition_laws.proofs.Room.{room, room_limited}
use Rattle.definition_laws.proofs.Operands.{function_kept}
use Rattle.building.specs.declared.function_state.FunctionState.{FunctionState}
use Rattle.building.specs.declared.taking.Taken.{Taken}
use Rattle.building.specs.Taking.{Took, taken}
use Rattle.building.specs.Context.{function_state_words}
use Rattle.building.specs.RepresentsMachine.{machine, Filled}
use Rattle.building.proofs.Filling.{capped, over_fits, over_here}
use Rattle.building.proofs.Notes.{over_longer, back}
use Rattle.building.proofs.PoolLaws.{entries_more}
use Rattle.building.proofs.FunctionLaws.{Between, done, between_law}
use Rattle.building.proofs.ContextLaws.{Grown, grown, over, function_words, add_function_law, took_full}
use Rattle.compiler_laws.specs.declared.book.Book as struct
use Rattle.compiler_laws.specs.BookAreas.{BookAreas, book_areas, BookContents, Fitted, RepresentsAreas}
use Rattle.compiler_laws.specs.BookSteps.{resumed_book}
use Rattle.compiler_laws.specs.AddingFunctions.{Bounded, ended, base_of, Built, AddsFunction}
use Rattle.compiler_laws.proofs.BookCounts.{with_function_count}
use Rattle.compiler_laws.proofs.UnchangedByBooks.{BookUnchanged}
use Rattle.compiler_laws.proofs.FunctionStates.{code_so_far, held_working, named_same}

pub base_longer : (f : FunctionDefinition) (x : Book) → NotesGrow x.uses (base_of f x).uses
base_longer f x = longer_trans (more (more (more same))) (preserves_base f (working x)).uses

pub unchanged_base : (f : FunctionDefinition) (x : Book) → BookUnchanged x (compile_base f x).book
unfolding compile_base
unchanged_base f x = record { uses = base_longer f x; prior = refl; assemblies = refl; filename = refl; index = refl }

-- no break is left
pub base_breaks : (f : FunctionDefinition) (w : Work) → (compile_function_definition_base f.parameters f.body w).function.break_scopes ≡ []
base_breaks f w = (function_moves f.parameters f.body w).breaks

-- the locals' number stands in 64 bits
pub few_locals : (f : FunctionDefinition) → Bounded f → (w : Work)
    → (compile_function_definition_base f.parameters f.body w).function.header.local_count < 2 ^ 64
few_locals f l w =
    let n = length w.context.constants in
    let k = function_kept most_records (λ (area : ℕ). n) f.parameters f.body (omega arith) (omega (arith, l.records)) w
    (record { known = omega arith }) in
    omega (arith, k.body.few, room_limited f (record { records = l.records; levels = l.levels }))

pub bounded : {f : FunctionDefinition} → LimitedFunction f → Bounded f
bounded l = record { records = l.records; levels = l.levels }

pub all_bounded : {fs : List FunctionDefinition} → All LimitedFunction fs → All Bounded fs
all_bounded l = all_map (λ f h. bounded h) l

-- `add_function`

entries_of_lem : (start : ℕ) (fs : List Function) (f : Function)
    → function_entries start (fs ++ (f ∷ [])) ≡ function_entries start fs ++ (function_entry (start + code_of fs) f ∷ [])
entries_of_lem start [] f = let here : start + 0 ≡ start = omega arith in rw here
entries_of_lem start (g ∷ fs) f =
    let n = length g.state.code.instructions in
    let next : start + (n + code_of fs) ≡ start + n + code_of fs = omega arith in
    rw next (ap (λ (es : Entries). function_entry start g ∷ es) (entries_of_lem (start + n) fs f))

pub functions_count : {ps : List ℕ} {m : BookAreas} {x : Book} → BookContents ps m x → m.book.functions ≡ function_count x.context
functions_count {x = x} S =
    let start = length x.context.prior.code in
    S.functions.count ∙ length-append x.context.prior.functions (function_entries start x.context.program.functions)
    ∙ ap (λ (n : ℕ). length x.context.prior.functions + n) (functions_length start x.context.program.functions)

module _ {κ : Limits} {ps : List ℕ} {s : struct.Book} {c₀ k₀ n₀ b₀ e₀ c k n b e g m p t l u : List ℕ} {r : FunctionState} {x : Book} {f : FunctionDefinition}
    (B : Built κ ps (book_areas s c₀ k₀ g m p t l u n₀ b₀ e₀) x f (machine r c k n b e)) where
  -- not full after the function, not full before
  pub built_back : r.full ≡ 0 → s.full ≡ 0
  built_back = back (base_longer f x) (held_working B.book) B.function

  pub built_between : r.full ≡ 0 → Between (code_so_far x ++ code_entries (base_of f x).function.code.instructions (base_of f x).function.code.positions)
      r.code
      r.constants r.errors c k n b e (done (ended (base_of f x)))
  built_between z = between_law B.function z refl (ap total (base_breaks f (working x)))

  abbrev made : ℕ → Function
  made name = record { state = (base_of f x).function; name = name; file = x.assembly.index }

  -- the areas that functions are built in are as long as before
  pub added_fitted : {s' : struct.Book} {g' : List ℕ} → length g' ≡ length g → Fitted κ (book_areas s' c k g' m p t l u n b e)
  added_fitted long =
      let F = B.book.fitted in
      let K = capped B.function in
      record {
        code = K.code;
        constants = K.constants;
        functions = ap (λ (w : ℕ). entries_in 8 w) long ∙ F.functions;
        models = F.models;
        properties = F.properties;
        methods = F.methods;
        locals = F.locals;
        publics = F.publics;
        names = K.names;
        breaks = K.breaks;
        errors = K.errors;
        others = F.others;
      }

  module _ (l' : Bounded f) (name : ℕ) where
    -- the entry is the definition's
    added_words : r.full ≡ 0 → function_state_words r s.file name ≡ function_entry (code_count x.context) (made name)
    added_words z =
        let C = B.function.rest z in
        let start : length (code_so_far x) ≡ code_count x.context = sym C.before ∙ (preserves_base f (working x)).before in
        function_words C (few_locals f l' (working x)) s.file name ∙ rw (start, (B.book.rest (built_back z)).file)

    added_contents : r.full ≡ 0 → {g' : List ℕ}
        → Filled 8 g' (function_table x.context ++ (function_state_words r s.file name ∷ [])) (s.functions + 1)
        → BookContents ps (book_areas (with_function_count (taken 0 (s.functions + 1)) (resumed_book s r)) c k g' m p t l u n b e)
        (add_function (compile_base f x).state name (compile_base f x).book)
    unfolding compile_base
    added_contents z F =
        let S = B.book.rest (built_back z) in
        let C = B.function.rest z in
        let A = built_between z in
        let fs = x.context.program.functions in
        let p₀ = x.context.prior in
        record {
          code = rw (
            entries_more function_code 0 fs (made name),
            ← append_assoc p₀.code (entries_from function_code 0 fs) (code_entries (made name).state.code.instructions (made name).state.code.positions),
          ) A.filled_code;
          sized = all_append S.sized (C.sized & nil);
          constants = A.filled_constants;
          marks = A.marks;
          functions = rw (
            entries_of_lem (length p₀.code) fs (made name),
            ← append_assoc p₀.functions (function_entries (length p₀.code) fs) (function_entry (code_count x.context) (made name) ∷ []),
            ← added_words z,
          ) F;
          models = S.models;
          properties = S.properties;
          methods = S.methods;
          locals = S.locals;
          counted = (function_moves f.parameters f.body (working x)).context ∙ S.counted;
          valued = S.valued;
          first_local = S.first_local;
          named = named_same (preserves_base f (working x)).locals S.named;
          publics = S.publics;
          first_public = S.first_public;
          prior = S.prior;
          file = S.file;
          last_index = S.last_index;
          mode = S.mode;
          indexed = S.indexed;
          entry = S.entry;
          names = A.filled_names;
          breaks = A.filled_breaks;
          errors = A.filled_errors;
        }

    added_grown : r.full ≡ 0 → {T : Taken} {g' : List ℕ}
        → Grown functions_area s.functions (function_state_words r s.file name) g (function_table x.context) T g'
        → RepresentsAreas κ ps (book_areas (with_function_count T (resumed_book s r)) c k g' m p t l u n b e)
        (add_function (compile_base f x).state name (compile_base f x).book)
    unfolding compile_base
    added_grown z (grown room filled long) =
        let many : s.functions ≡ function_count x.context = functions_count (B.book.rest (built_back z)) in
        record {
          fitted = added_fitted long;
          full = over_fits κ _ _ (rw z at B.function.full) refl (omega (arith, room, B.book.fitted.functions, many));
          rest = λ _. added_contents z filled;
        }
    added_grown z (over none_left) =
        let many : s.functions ≡ function_count x.context = functions_count (B.book.rest (built_back z)) in
        record {
          fitted = added_fitted refl;
          full = over_here κ _ _ B.function.full z (omega (arith, none_left, B.book.fitted.functions, many)) (omega arith);
          rest = λ y. absurd (omega (arith, y));
        }

    added_keeping : {T : Taken} {g' : List ℕ} → Took functions_area r.full s.functions (function_state_words r s.file name) g T g'
        → RepresentsAreas κ ps (book_areas (with_function_count T (resumed_book s r)) c k g' m p t l u n b e)
        (add_function (compile_base f x).state name (compile_base f x).book)
    unfolding compile_base
    added_keeping {T} {g'} took = go (eqb r.full 0) refl
      where
        go : (v : Bool) → eqb r.full 0 ≡ v → RepresentsAreas κ ps (book_areas (with_function_count T (resumed_book s r)) c k g' m p t l u n b e)
            (add_function (compile_base f x).state name (compile_base f x).book)
        go true q =
            let z = eqb-true r.full 0 q in
            added_grown z (add_function_law r s.file name took z (B.book.rest (built_back z)).functions)
        go false q =
            let ne = eqb-false r.full 0 q in
            let stays = took_full took ne in
            rw (stays.0, stays.1) (record {
              fitted = added_fitted refl;
              full = over_longer κ (more same) B.function.full ne;
              rest = λ y. absurd (ne y);
            })

module _ {s : struct.Book} {r : FunctionState} {g : List ℕ} (name : ℕ) where
  pub add_meets : {s₁ : struct.Book} {T : Taken} {g' : List ℕ} → s₁ ≡ resumed_book s r
      → Took functions_area s₁.full s₁.functions (function_state_words r s₁.file name) g T g' → AddsFunction name s r g (with_function_count T s₁) g'
  add_meets {T = T} {g' = g'} back' took = rw back' (record {
    adds = λ f l' c₀ k₀ n₀ b₀ e₀ c k n b e m p t l u κ ps x B. added_keeping B l' name (rw back' at took);
  })
