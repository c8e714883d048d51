-- A book opened, compiled and put away: the areas that are ready for a book stand for it before its first definition, and after its last they are ready
-- for the next one, if no error was found. By the entries of the areas. Assumes nothing.
use Prim.Native.Nat.{ℕ, ◌+◌, ◌<◌}
use native.Mathlib.Omega.{arith}
use native.Mathlib.Decide.{dec_lt}
use mathlib.Core.Path.{◌≡◌, refl, sym, ap, ◌∙◌}
use mathlib.Core.List.{List, [], ◌∷◌, ◌++◌, append-nil, append_assoc}
use lib.ListN.{length, get_or, length-append, get_or-append}
use lib.Seq.{get_or_at}
use Rattle.words.specs.Ast.{Document}
use Rattle.definition.specs.Uses.{Use, Limits}
use Rattle.definition.specs.Compiler.{Error}
use Rattle.definition.specs.Book.{Assembly, Context, Book, opened, with_assemblies}
use Rattle.definition.specs.Program.{Entries, entries_from, assembly_publics, public_entries, error_entry, public_table}
use Rattle.building.proofs.PoolLaws.{entries_more}
use Rattle.compiler_laws.specs.declared.book.Book as struct
use Rattle.compiler_laws.specs.BookAreas.{BookAreas, book_areas, RepresentsAreas}
use Rattle.compiler_laws.specs.OpenedBooks.{nobody, Resting}
use Rattle.compiler_laws.proofs.BookLeaves.{names_count}
use Rattle.compiler_laws.proofs.PublishedNames.{before_length}

-- a book's own name stands nowhere in the areas yet
named : {κ : Limits} {m : BookAreas} {c : Context} {uses : List Use} (d : Document) → RepresentsAreas κ [] m (opened nobody c uses)
    → RepresentsAreas κ [] m (opened d c uses)
named d H = record {
  fitted = H.fitted;
  full = H.full;
  rest = λ z.
      let S = H.rest z in
      record {
        code = S.code;
        sized = S.sized;
        constants = S.constants;
        marks = S.marks;
        functions = S.functions;
        models = S.models;
        properties = S.properties;
        methods = S.methods;
        locals = S.locals;
        counted = S.counted;
        valued = S.valued;
        first_local = S.first_local;
        named = S.named;
        publics = S.publics;
        first_public = S.first_public;
        prior = S.prior;
        file = S.file;
        last_index = S.last_index;
        mode = S.mode;
        indexed = S.indexed;
        entry = S.entry;
        names = S.names;
        breaks = S.breaks;
        errors = S.errors;
      };
}

abbrev unknown : Assembly
unknown = record { filename = 0; index = 0; publics = [] }

-- a book put away with its index, where n stood before
module _ (n : ℕ) (as' : List Assembly) (a : Assembly) (last : a.index ≡ n + length as') where
  indexed_more : ((i : ℕ) → i < length as' → (get_or as' i unknown).index ≡ n + i) → (i : ℕ) → i < length (as' ++ (a ∷ []))
      → (get_or (as' ++ (a ∷ [])) i unknown).index ≡ n + i
  indexed_more before i h = go (dec_lt i (length as'))
    where
      go : Dec (i < length as') → (get_or (as' ++ (a ∷ [])) i unknown).index ≡ n + i
      go (yes q) = ap (λ (x : Assembly). x.index) (get_or-append as' (a ∷ []) unknown i q) ∙ before i q
      go (no q) =
          let here : length as' ≡ i = omega (arith, h, length-append as' (a ∷ [])) in
          ap (λ (x : Assembly). x.index) (get_or_at as' a [] unknown i here) ∙ last ∙ ap (λ (k : ℕ). n + k) here

-- the book is put away
abbrev pub put_away : Book → Context
put_away b = with_assemblies (b.context.assemblies ++ (b.assembly ∷ [])) b.context

pub put_away_lem : {κ : Limits} {s : struct.Book} {c k f m p t l u n b e : List ℕ} {x : Book} → x.compiler.errors ≡ []
    → RepresentsAreas κ [] (book_areas s c k f m p t l u n b e) x → Resting κ s c k f m p t l u n b e (put_away x) x.uses
put_away_lem {x = x} clean H = record {
  ready = record {
    fitted = record {
      code = H.fitted.code;
      constants = H.fitted.constants;
      functions = H.fitted.functions;
      models = H.fitted.models;
      properties = H.fitted.properties;
      methods = H.fitted.methods;
      locals = H.fitted.locals;
      publics = H.fitted.publics;
      names = H.fitted.names;
      breaks = H.fitted.breaks;
      errors = H.fitted.errors;
      others = H.fitted.others;
    };
    full = H.full;
    rest = λ z.
        let S = H.rest z in
        let as' = x.context.assemblies in
        let a = x.assembly in
        let entries : public_table (put_away x) ≡ public_table x.context ++ public_entries a.index a.publics =
        ap (λ (es : Entries). x.context.prior.publics ++ es) (entries_more assembly_publics 0 as' a)
        ∙ sym (append_assoc x.context.prior.publics (entries_from assembly_publics 0 as') (public_entries a.index a.publics)) in
        record {
          code = S.code;
          sized = S.sized;
          constants = S.constants;
          marks = S.marks;
          functions = S.functions;
          models = S.models;
          properties = S.properties;
          methods = S.methods;
          locals = S.locals;
          counted = S.counted;
          valued = S.valued;
          first_local = omega (arith, names_count S);
          named = record { up_to = omega arith; each = λ i h. absurd (omega arith) };
          publics = rw (append-nil (public_table (put_away x)), entries) S.publics;
          first_public = S.publics.count ∙ ap length (sym entries) ∙ before_length (put_away x);
          prior = S.prior;
          file = refl;
          last_index = refl;
          mode = S.mode;
          indexed = indexed_more (length x.context.prior.books) as' a S.last_index S.indexed;
          entry = S.entry;
          names = S.names;
          breaks = S.breaks;
          errors = rw (ap (λ (es : List Error). entries_from error_entry 0 es) clean) at S.errors;
        };
  };
}
