-- One lemma for each way through the routines of an include: what its calls ensure is the definition's. Assumes nothing.
use Rattle.std.specs.Prelude.{Some, None}
use Rattle.std.proofs.Common.{◌≡◌, ℕ, ◌+◌, ◌-◌, ◌*◌, ◌<◌, ◌≤◌, Bool, true, false, List, [], ◌∷◌, length, sym, refl, ap, ◌∙◌, arith}
use mathlib.Core.Option.{Option, none, some}
use lib.ListN.{get_or-eq_default}
use Rattle.words.specs.Ast.{Token, Alias, IncludeDefinition}
use Rattle.words.specs.Areas.{public_names_area, books_area}
use Rattle.words.specs.Record.{field_of, kind_at, value_at}
use Rattle.tree.specs.At.{AliasAt, RunAt, run_size, double, DefinitionAt, size_d}
use Rattle.definition.specs.Uses.{Limits, first_not_public, not_public_area}
use Rattle.definition.specs.Book.{Book, define_context_local, included_name, give_value, compile_alias}
use Rattle.definition.specs.Book.{compile_include_definition, public_names, gives_values, compile_include}
use Rattle.building.specs.Found.{Found, found_of}
use Rattle.compiler_laws.specs.declared.book.Book as struct
use Rattle.compiler_laws.specs.BookAreas.{NamesBooks}
use Rattle.compiler_laws.specs.BookSteps.{AddedLocal}
use Rattle.compiler_laws.specs.IncludeSteps.{included_c, AsksMode}
use Rattle.compiler_laws.proofs.UnchangedByBooks.{unchanged_local, unchanged_give, unchanged_alias, included_unchanged, unchanged_include_or_row_11}
use Rattle.compiler_laws.proofs.BookStepsInOrder.{books_named_unchanged}
use Rattle.compiler_laws.proofs.BookLeaves.{defined_added, fitted_locals}
use Rattle.compiler_laws.proofs.BookCounts.{with_mark}
use Rattle.compiler_laws.proofs.AreaEntries.{keeping_over}
use Rattle.compiler_laws.proofs.PublicNames.{included_law, names_law}
use Rattle.book_compiler.specs.RepresentsBook.{BookMemory, book_laid, area_of, RepresentsBook}
use Rattle.book_compiler.specs.BookLeaves.{DefinesContextLocal, SetsLocalValue, FindsIncluded, GivesIncluded}
use Rattle.book_compiler.specs.DefinitionSteps.{SimulatesAmong, CompilesAlias, CompilesAliases, CompilesIncludeDefinition}
use Rattle.book_compiler.proofs.BookParts.{represents_longer, represents_unfilled}
use Rattle.book_compiler.proofs.BookLeaves.{local_defined, value_set}

-- area 12 is none that a definition changes
pub books_stay : {κ : Limits} {ps : List ℕ} {others : ℕ → List ℕ} {m : BookMemory} {b : Book} → RepresentsBook κ ps others m b
    → area_of m books_area ≡ others books_area
books_stay H = H.preserves.same books_area (omega arith) refl

-- `compile_alias`
module _ (tree : List ℕ) (at next file : ℕ) {local : ℕ} (hl : local ≡ value_at tree next) {m m₁ : BookMemory} {found : Found}
    (D : DefinesContextLocal local found m m₁) where
  -- the local is defined, whatever comes of the public name
  after_local_lem : {m' : BookMemory}
      → ((κ : Limits) (ps : List ℕ) (others : ℕ → List ℕ) (x : Book) → NamesBooks (others books_area) x.context → RepresentsBook κ ps others m x
      → RepresentsBook κ ps others m₁ (define_context_local local x).book
      → (let d = define_context_local local x in RepresentsBook κ ps others m'
      (give_value d.place (included_name file (value_at tree at) x.context) d.book)))
      → CompilesAlias tree at next file m m'
  unfolding compile_alias
  after_local_lem after = record {
    takes = λ a name alias. record {
      meets = λ κ ps others x B H.
          let is : a.alias.value ≡ local = ap (λ (v : Token). v.value) alias.token ∙ sym hl in
          let public : a.public_name.value ≡ value_at tree at = ap (λ (v : Token). v.value) name.token in
          rw (is, public) (after κ ps others x B H ((local_defined D).meets κ ps others x H));
    };
  }

  pub alias_full : (m₁.book.full ≡ 0 → ⊥) → CompilesAlias tree at next file m m₁
  alias_full ne =
      after_local_lem (λ κ ps others x B H H₁.
      let d = define_context_local local x in
      represents_longer (unchanged_give d.place (included_name file (value_at tree at) x.context) d.book).uses ne H₁)

  module _ (z : m₁.book.full ≡ 0) {name : ℕ} (hn : name ≡ value_at tree at) {value : Found} (hv : FindsIncluded file name value m₁) where
    -- the books before are as they were
    included : (κ : Limits) (ps : List ℕ) (others : ℕ → List ℕ) (x : Book) → NamesBooks (others books_area) x.context
        → RepresentsBook κ ps others m₁ (define_context_local local x).book → value ≡ found_of (included_name file (value_at tree at) x.context)
    included κ ps others x B H₁ =
        let kept = unchanged_local local x in
        let found : value ≡ found_of (included_c m₁.book.file m₁.book.publics file name (others books_area) (area_of m₁ public_names_area)) =
        rw (books_stay H₁) at (hv.reads.on H₁.fits) in
        found ∙ ap found_of (included_law file name (H₁.keeping.rest z) (books_named_unchanged kept B) ∙ included_unchanged file name kept
        ∙ ap (λ (n : ℕ). included_name file n x.context) hn)

    pub alias_none : value ≡ None → CompilesAlias tree at next file m m₁
    alias_none lost =
        after_local_lem (λ κ ps others x B H H₁.
        let d = define_context_local local x in
        rw (go (included_name file (value_at tree at) x.context) d.place d.book (sym (included κ ps others x B H₁) ∙ lost)) H₁)
      where
        go : (o p : Option ℕ) (x : Book) → found_of o ≡ None → give_value p o x ≡ x
        go none p x q = refl
        go (some c) p x q = absurd (let y : ◌≡◌ {A = ℕ} 0 1 = cc in omega arith)

    pub alias_value : {constant : ℕ} → value ≡ Some constant → {m' : BookMemory} → SetsLocalValue found constant m₁ m'
        → CompilesAlias tree at next file m m'
    alias_value {constant} is {m'} L =
        after_local_lem (λ κ ps others x B H H₁.
        let d = define_context_local local x in
        let many = (H.keeping.rest (represents_unfilled (unchanged_local local x).uses H H₁ z)).counted in
        go κ ps others d.book d.place ((local_defined D).sought κ ps others x H z) (defined_added local x many)
        (included_name file (value_at tree at) x.context) (sym (included κ ps others x B H₁) ∙ is) H₁)
      where
        go : (κ : Limits) (ps : List ℕ) (others : ℕ → List ℕ) (x : Book) (p' : Option ℕ) → found ≡ found_of p'
            → AddedLocal p' x.context → (o : Option ℕ) → found_of o ≡ Some constant
            → RepresentsBook κ ps others m₁ x → RepresentsBook κ ps others m' (give_value p' o x)
        go κ ps others x p' r below none q H₁ = absurd (let y : ◌≡◌ {A = ℕ} 0 1 = cc in omega arith)
        go κ ps others x p' r below (some v) q H₁ =
            let same : constant ≡ v = cc in
            value_set p' v L (record { agrees = λ _. (r, same, below) }) H₁

-- `compile_aliases`: no pair is left
pub aliases_end : (tree : List ℕ) (i end file : ℕ) {m : BookMemory} → end - i ≤ 1 → CompilesAliases tree i end file m m
unfolding compile_include_definition run_size
aliases_end tree i end file h = record {
  takes = λ as' at same. record { meets = λ κ ps others x B H. rw (none_left as' (omega (arith, same, h))) H };
}
  where
    none_left : (as' : List Alias) → run_size double as' ≤ 1 → compile_include_definition file as' ≡ (λ x. x)
    none_left [] q = refl
    none_left (a ∷ as') q = absurd (omega arith)

-- a pair, and those after it
pub aliases_more : (tree : List ℕ) (i end file : ℕ) {m m₁ m' : BookMemory} → 1 < end - i
    → CompilesAlias tree i (i + 1) file m m₁ → CompilesAliases tree (i + 1 + 1) end file m₁ m' → CompilesAliases tree i end file m m'
unfolding RunAt run_size compile_include_definition
aliases_more tree i end file {m} {m₁} {m'} h A R = record { takes = go }
  where
    go : (as' : List Alias) → RunAt AliasAt double as' tree i → i + run_size double as' ≡ end → SimulatesAmong m m' (compile_include_definition file as')
    go [] there same = absurd (omega arith)
    go (a ∷ as') there same =
        let next : i + 2 ≡ i + 1 + 1 = omega arith in
        record {
          meets = λ κ ps others x B H.
              (R.takes as' (rw (← next) there.1) (omega (arith, same))).meets κ ps others (compile_alias file a x)
              (books_named_unchanged (unchanged_alias file a x) B) ((A.takes a there.0.0 there.0.1).meets κ ps others x B H);
        }

-- `compile_include_definition`
module _ (tree : List ℕ) (at end : ℕ) {m : BookMemory} where
  -- with the mark set
  pub include_full : (m.book.full ≡ 0 → ⊥) → CompilesIncludeDefinition tree at end m m
  include_full ne = record {
    includes = λ index file as' h same. record {
      meets = λ κ ps others x B H. represents_longer (unchanged_include_or_row_11 index file.value as' x).uses ne H;
    };
  }

  -- no record stands past the words
  pub include_past : length tree ≤ at → CompilesIncludeDefinition tree at end m m
  unfolding DefinitionAt field_of
  include_past past = record {
    includes = λ index file as' h same.
        let zero' : kind_at tree at ≡ 0 = get_or-eq_default tree 0 (let far : length tree ≤ at * 4 + 0 = omega (arith, past) in far) in
        absurd (omega (arith, h.0.head.kind_is));
  }

  module _ (z : m.book.full ≡ 0) {gives : Bool} (A : GivesIncluded tree at end gives m) where
    -- what is asked is the definition's
    asked : {κ : Limits} {ps : List ℕ} {others : ℕ → List ℕ} {x : Book} (index : ℕ) (file : Token) (as' : List Alias)
        → DefinitionAt (IncludeDefinition index file as') tree at → at + size_d (IncludeDefinition index file as') ≡ end
        → NamesBooks (others books_area) x.context → RepresentsBook κ ps others m x → gives ≡ gives_values file.value as' x.context
    unfolding DefinitionAt size_d
    asked {others = others} {x = x} index file as' h same B H =
        let S = H.keeping.rest z in
        let is : value_at tree at ≡ file.value = sym (ap (λ (v : Token). v.value) h.0.token) in
        let mode : AsksMode tree at end (others books_area) (area_of m public_names_area) m.book gives = rw (books_stay H) at (A.reads.on H.fits) in
        let asks = mode.asks as' h.1 (omega (arith, same)) in
        asks ∙ rw is (rw (S.mode, names_law file.value (public_names as') S B))

    pub include_refused : {s' : struct.Book} → gives ≡ false → s' ≡ with_mark (first_not_public + at) m.book
        → CompilesIncludeDefinition tree at end m (book_laid s' m.starts m.words)
    unfolding compile_include DefinitionAt
    include_refused {s'} no' marked = record {
      includes = λ index file as' h same. record {
        meets = λ κ ps others x B H.
            let no-values : gives_values file.value as' x.context ≡ false = sym (asked index file as' h same B H) ∙ no' in
            let place : index ≡ at = h.2 in
            let K = H.keeping in
            rw (no-values, place, marked) (record {
              fits = H.fits;
              preserves = record { same = H.preserves.same; stood = H.preserves.stood; nothing = H.preserves.nothing };
              behind = λ y. let n : first_not_public + at ≡ 0 = y in absurd (omega (arith, n));
              keeping = keeping_over K z (not_public_area at) 1 x refl (fitted_locals refl K.fitted) refl (omega arith)
                  (let none' = K.fitted.others (not_public_area at) (omega arith) in omega arith);
              standing = H.standing;
              slots = H.slots;
            });
      };
    }

    pub include_given : {m' : BookMemory} → gives ≡ true → CompilesAliases tree (at + 1) end (value_at tree at) m m'
        → CompilesIncludeDefinition tree at end m m'
    unfolding compile_include DefinitionAt size_d
    include_given {m'} yes' T = record {
      includes = λ index file as' h same. record {
        meets = λ κ ps others x B H.
            let values : gives_values file.value as' x.context ≡ true = sym (asked index file as' h same B H) ∙ yes' in
            let is : file.value ≡ value_at tree at = ap (λ (v : Token). v.value) h.0.token in
            rw values (rw is ((T.takes as' h.1 (omega (arith, same))).meets κ ps others x B H));
      };
    }
