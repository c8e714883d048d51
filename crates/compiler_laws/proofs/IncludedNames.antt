-- One lemma for each way through the routines of an include: what its calls ensure is the definition's step. Assumes nothing.
use Prim.Native.Nat.{ℕ, ◌+◌, ◌-◌, ◌≤◌, ◌<◌}
use native.Mathlib.Omega.{arith}
use mathlib.Core.Path.{◌≡◌, refl, sym, ap, ◌∙◌}
use mathlib.Core.Bool.{Bool, true, false, cond}
use mathlib.Core.Option.{Option, none, some}
use mathlib.Core.List.{List, [], ◌∷◌}
use lib.Dec.{leb}
use borrow.Author.Tests.{le-leb, lt-leb}
use Rattle.words.specs.Ast.{Token, Alias}
use Rattle.words.specs.Areas.{entry_field}
use Rattle.words.specs.Record.{value_at}
use Rattle.tree.specs.At.{AliasAt, RunAt, run_size, double}
use Rattle.definition.specs.Book.{public_names}
use Rattle.std.specs.Prelude.{Some, None}
use Rattle.building.specs.Found.{Found, found_of}
use Rattle.compiler_laws.specs.declared.book.Book as struct
use Rattle.compiler_laws.specs.IncludeSteps.{find_book_c, find_pair_c, public_constant, included_by, included_c}
use Rattle.compiler_laws.specs.IncludeSteps.{is_some, all_names_c, AsksNames, AsksMode}

-- `included_name`
module _ (many count file name : ℕ) (books w : List ℕ) {there : Found} (searched : there ≡ found_of (find_book_c many file books)) where
  pub included_unknown : there ≡ None → None ≡ found_of (included_c many count file name books w)
  included_unknown lost = go (find_book_c many file books) (sym searched ∙ lost)
    where
      go : (o : Option ℕ) → found_of o ≡ None → None ≡ found_of (included_by o count name w)
      go none q = refl
      go (some j) q = absurd (let y : ◌≡◌ {A = ℕ} 0 1 = cc in omega arith)

  included_known : {j : ℕ} → there ≡ Some j → included_c many count file name books w ≡ public_constant (find_pair_c 3 0 count j name w) w
  included_known {j} is = go (find_book_c many file books) (sym searched ∙ is)
    where
      go : (o : Option ℕ) → found_of o ≡ Some j → included_by o count name w ≡ public_constant (find_pair_c 3 0 count j name w) w
      go none q = absurd (let y : ◌≡◌ {A = ℕ} 0 1 = cc in omega arith)
      go (some i) q = let same : i ≡ j = cc in rw same

  pub included_none : {j : ℕ} → there ≡ Some j → {found : Found} → found ≡ found_of (find_pair_c 3 0 count j name w) → found ≡ None
      → None ≡ found_of (included_c many count file name books w)
  included_none {j} is hf lost = rw (included_known is) (go (find_pair_c 3 0 count j name w) (sym hf ∙ lost))
    where
      go : (o : Option ℕ) → found_of o ≡ None → None ≡ found_of (public_constant o w)
      go none q = refl
      go (some j) q = absurd (let y : ◌≡◌ {A = ℕ} 0 1 = cc in omega arith)

  pub included_some : {j : ℕ} → there ≡ Some j → {found : Found} → found ≡ found_of (find_pair_c 3 0 count j name w) → {i : ℕ} → found ≡ Some i
      → {constant : ℕ} → constant ≡ entry_field 3 i 2 w → Some constant ≡ found_of (included_c many count file name books w)
  included_some {j} is hf {i} at {constant} hc = rw (included_known is) (go (find_pair_c 3 0 count j name w) (sym hf ∙ at))
    where
      go : (o : Option ℕ) → found_of o ≡ Some i → Some constant ≡ found_of (public_constant o w)
      go none q = absurd (let y : ◌≡◌ {A = ℕ} 0 1 = cc in omega arith)
      go (some n) q = let same : n ≡ i = cc in rw (same, hc)

-- `is_public`
module _ (count book name : ℕ) (w : List ℕ) {found : Found} (searched : found ≡ found_of (find_pair_c 3 0 count book name w)) where
  pub public_there : {i : ℕ} → found ≡ Some i → true ≡ is_some (included_by (some book) count name w)
  public_there {i} is = go (find_pair_c 3 0 count book name w) (sym searched ∙ is)
    where
      go : (o : Option ℕ) → found_of o ≡ Some i → true ≡ is_some (public_constant o w)
      go none q = absurd (let y : ◌≡◌ {A = ℕ} 0 1 = cc in omega arith)
      go (some j) q = refl

  pub public_lost : found ≡ None → false ≡ is_some (included_by (some book) count name w)
  public_lost lost = go (find_pair_c 3 0 count book name w) (sym searched ∙ lost)
    where
      go : (o : Option ℕ) → found_of o ≡ None → false ≡ is_some (public_constant o w)
      go none q = refl
      go (some j) q = absurd (let y : ◌≡◌ {A = ℕ} 0 1 = cc in omega arith)

-- `all_public`: no pair is left
module _ (tree : List ℕ) (i end count : ℕ) (book : Option ℕ) (u : List ℕ) where
  pub asks_end : end - i ≤ 1 → AsksNames tree i end book count u true
  unfolding run_size
  asks_end h = record { asks = λ as' at same. go as' (omega (arith, same, h)) }
    where
      go : (as' : List Alias) → run_size double as' ≤ 1 → true ≡ all_names_c book count (public_names as') u
      go [] q = refl
      go (a ∷ as') q = absurd (omega arith)

  -- a pair, and those after it
  module _ (h : 1 < end - i) {name : ℕ} (hn : name ≡ value_at tree i) {there : Bool} (is : there ≡ is_some (included_by book count name u)) where
    pub asks_lost : there ≡ false → AsksNames tree i end book count u false
    unfolding RunAt run_size
    asks_lost lost = record { asks = go }
      where
        go : (as' : List Alias) → RunAt AliasAt double as' tree i → i + run_size double as' ≡ end → false ≡ all_names_c book count (public_names as') u
        go [] at same = absurd (omega arith)
        go (a ∷ as') at same =
            let public : name ≡ a.public_name.value = hn ∙ sym (ap (λ (v : Token). v.value) at.0.0.token) in
            let none' : is_some (included_by book count a.public_name.value u) ≡ false = rw public at (sym is ∙ lost) in
            sym (ap (λ (b : Bool). cond b (all_names_c book count (public_names as') u) false) none')

    pub asks_more : {r : Bool} → there ≡ true → AsksNames tree (i + 1 + 1) end book count u r → AsksNames tree i end book count u r
    unfolding RunAt run_size
    asks_more {r} found A = record { asks = go }
      where
        go : (as' : List Alias) → RunAt AliasAt double as' tree i → i + run_size double as' ≡ end → r ≡ all_names_c book count (public_names as') u
        go [] at same = absurd (omega arith)
        go (a ∷ as') at same =
            let public : name ≡ a.public_name.value = hn ∙ sym (ap (λ (v : Token). v.value) at.0.0.token) in
            let some' : is_some (included_by book count a.public_name.value u) ≡ true = rw public at (sym is ∙ found) in
            let next : i + 2 ≡ i + 1 + 1 = omega arith in
            A.asks as' (rw (← next) at.1) (omega (arith, same))
            ∙ sym (ap (λ (b : Bool). cond b (all_names_c book count (public_names as') u) false) some')

-- `gives_values`
module _ (tree : List ℕ) (at end : ℕ) (books u : List ℕ) (s : struct.Book) where
  pub gives_present : s.strict ≡ false → AsksMode tree at end books u s true
  gives_present present = record {
    asks = λ as' there same. sym (ap (λ (b : Bool). cond b (all_names_c (find_book_c s.file (value_at tree at) books)
        s.publics (public_names as') u) true) present);
  }

  pub gives_past : {r : Bool} → end ≤ at → AsksMode tree at end books u s r
  gives_past past = record { asks = λ as' there same. absurd (omega arith) }

  module _ (strict : s.strict ≡ true) {file : ℕ} (hf : file ≡ value_at tree at) {there : Found} (searched : there ≡ found_of (find_book_c
      s.file file books)) where
    by_names : {r : Bool} → ((as' : List Alias) → RunAt AliasAt double as' tree (at + 1) → at + 1 + run_size double as' ≡ end
        → r ≡ all_names_c (find_book_c s.file file books) s.publics (public_names as') u) → AsksMode tree at end books u s r
    by_names names = record {
      asks = λ as' h same. rw hf at (names as' h same)
          ∙ sym (ap (λ (b : Bool). cond b (all_names_c (find_book_c s.file (value_at tree at) books) s.publics (public_names as') u) true) strict);
    }

    pub gives_known : {j : ℕ} {r : Bool} → there ≡ Some j → AsksNames tree (at + 1) end (some j) s.publics u r → AsksMode tree at end books u s r
    gives_known {j} {r} is A = by_names (λ as' h same. A.asks as' h same ∙ ap (λ (o : Option ℕ). all_names_c o s.publics (public_names as') u) (sym book))
      where
        go : (o : Option ℕ) → found_of o ≡ Some j → o ≡ some j
        go none q = absurd (let y : ◌≡◌ {A = ℕ} 0 1 = cc in omega arith)
        go (some i) q = cc

        book : find_book_c s.file file books ≡ some j
        book = go (find_book_c s.file file books) (sym searched ∙ is)

    pub gives_unknown : {r : Bool} → there ≡ None → r ≡ leb (end - at) 2 → AsksMode tree at end books u s r
    unfolding run_size
    gives_unknown {r} lost few =
        by_names (λ as' h same. few ∙ by as' same ∙ ap (λ (o : Option ℕ). all_names_c o s.publics (public_names as') u) (sym book))
      where
        go : (o : Option ℕ) → found_of o ≡ None → o ≡ none
        go none q = refl
        go (some i) q = absurd (let y : ◌≡◌ {A = ℕ} 0 1 = cc in omega arith)

        book : find_book_c s.file file books ≡ none
        book = go (find_book_c s.file file books) (sym searched ∙ lost)

        by : (as' : List Alias) → at + 1 + run_size double as' ≡ end → leb (end - at) 2 ≡ all_names_c none s.publics (public_names as') u
        by [] same = le-leb (end - at) 2 (omega (arith, same))
        by (a ∷ as') same = lt-leb (end - at) 2 (omega (arith, same))
