-- Theorem `compiled_known`: every list that the compile call leaves in area 11 is known (2026-10), so no such list is answered with row 3. Each token of an
-- error is a record's, and records that passed the shape check have kinds and ranges of 01; the file numbers of a ring are those of documents. What functions
-- push is known by the induction of `KnownSteps`; here are the steps of a book. Assumes nothing.
use Prim.Native.Nat.{ℕ, zero, suc, ◌+◌, ◌-◌, ◌*◌, ◌/◌, ◌%◌, ◌≤◌, ◌<◌}
use native.Mathlib.Omega.{arith}
use native.Mathlib.Decide.{dec_lt, ℕ_discrete}
use mathlib.Core.Path.{◌≡◌, refl, sym, ap, subst, ◌∙◌}
use mathlib.Core.Bool.{Bool, true, false, cond, ◌&&◌, ◌||◌}
use mathlib.Core.Option.{Option, none, some}
use Rattle.std.specs.Prelude.{None}
use mathlib.Core.List.{List, [], ◌∷◌, ◌++◌}
use lib.ListN.{length, get_or, replicate, get_or-eq_default}
use lib.Dec.{eqb, leb, ltb}
use borrow.Author.Tests.{ne_eqb, eqb-true, le-leb}
use Rattle.std.specs.Prelude.{Result, Ok, Err}
use Rattle.words.specs.declared.row.Refused.{Refused}
use Rattle.words.specs.Ast.{Token}
use Rattle.words.specs.Ast.{Binding, Alias, FunctionDefinition, Definition, LocalDefinition, IncludeDefinition, ModelDefinition, PublicModelDefinition}
use Rattle.words.specs.Ast.{PlainFunction, PublicFunction, ImplementDefinition, ApplyDefinition, Document}
use Rattle.words.specs.Record.{field_of, kind_at, span_at, position_at, value_at, token_at, in_place}
use Rattle.words.specs.Object.{Constant, constant_of, model_kind, function_kind}
use Rattle.words.specs.Areas.{errors_area}
use Rattle.tree.specs.Rules.{Slot, slots, nothing, rule_of, may_be_at, has, may_stand, slot_after, goes_on, is_due, first_slot, in_range}
use Rattle.tree.specs.Check.{records_of, shape_of, lacks_of, within_of}
use Rattle.tree.specs.Reading.{documents_of}
use Rattle.tree.specs.At.{Leaf, Headed, RunAt, NameAt, single, double}
use Rattle.tree.specs.At.{ValueAt, BindingAt, size_f, FunctionAt, size_d, DefinitionAt, size_doc, DocumentAt}
use Rattle.tree.proofs.Spans.{within_true}
use Rattle.tree.proofs.Walks.{lacks_done, lacks_stop, lacks_on}
use Rattle.tree.proofs.Children.{Children, Child, child}
use Rattle.tree.proofs.Bundle.{fine_passed, fine_spells}
use Rattle.definition.specs.FunctionState.{FunctionState, Entry, find_name}
use Rattle.definition.specs.Uses.{Use, first_over, first_not_public}
use Rattle.definition.specs.Compiler.{Error, Work, Added, add_constant}
use Rattle.definition.specs.Book
use Rattle.definition.specs.Book.{Context, Placed, Properties, Made, Value, Standing, Adding, NoConstant, working}
use Rattle.definition.specs.Book.{add_book_constant}
use Rattle.definition.specs.Book.{define_context_local, set_local_value, give_value, compile_alias, compile_include_definition}
use Rattle.definition.specs.Book.{gives_values, compile_include, value_of, compile_value, compile_binding}
use Rattle.definition.specs.Book.{compile_local_definition, add_property, compile_properties, compile_model_definition, compile_base, add_plain_function}
use Rattle.definition.specs.Book.{compile_function_definition, find_model_index_by_local_name, add_methods, compile_methods, compile_implement_definition}
use Rattle.definition.specs.Book.{add_function}
use Rattle.definition.specs.Book.{compile_apply_definition, compile_definition, compile_definitions, compile_document, new_context, push_book_error, has_text}
use Rattle.definition.specs.Book.{opened}
use Rattle.definition.specs.DependencySolver.{Ending, Delivered, Faulty, Ring, Worked, find_document, missing, missing_by, ready, ready_by, all_in}
use Rattle.definition.specs.DependencySolver.{dependencies}
use Rattle.definition.specs.DependencySolver.{without, after_book, drive_by, drive, compile_needed, needed, loaded_of}
use Rattle.definition.specs.Prior.{Entries}
use Rattle.definition.specs.Program.{error_entry, entries_from, flat, filled, filled_all, tables_of, error_tables}
use Rattle.definition.specs.Answer.{Answer, Delivery, Refusal, ring_errors, answer_by, answer_needed, answer_bundle, answer_documents}
use Rattle.definition.specs.Answer.{answer_twice, answer_shape, limits_of, answer_from, answer, areas_of, twice, document_places}
use Rattle.definition.specs.Within.{All, nil, ◌&◌}
use Rattle.definition_laws.proofs.Lists.{all_append, cond_case}
use Rattle.definition_laws.proofs.Program.{added_case}
use Rattle.definition_laws.proofs.Cells.{all_any}
use Rattle.definition_laws.proofs.Ranges.{fine_ranged}
use Rattle.definition_laws.proofs.KnownSteps as Steps
use Rattle.definition_laws.proofs.KnownSteps.{Admits}
use Rattle.error_lines.specs.Known.{stands_in, is_kind, known_token, is_text, known}
use Rattle.error_lines.specs.Lines.{error_at, is_zeros, errors_from, errors_in}
use Rattle.error_lines.specs.Words.{first_unknown}
use Rattle.error_lines.proofs.Lists.{error}
use Rattle.error_lines.proofs.Injective.{error_eq}

abbrev AllKnown : List Error → Type 0
AllKnown es = All (λ (e : Error). known e ≡ true) es

abbrev with' : ℕ → Token → Error
with' n t = record { number = n; token = t }

-- a token is in range, and known with any of the numbers 1 to 10
abbrev IsKnown : Error → Type 0
IsKnown e = known e ≡ true

abbrev KnownToken : Token → Type 0
KnownToken t = Steps.KnownToken IsKnown t

-- of constants nothing is claimed
abbrev AnyConstant : Constant → Type 0
AnyConstant c = Unit {0}

admits_any : Admits AnyConstant
admits_any = record { integer = λ v. tt; float = λ v. tt; text = λ v h. tt; model = λ v. tt; function = λ v. tt }

known_constant : (c : Constant) (w : Work) → AllKnown w.compiler.errors → AllKnown (add_constant c w).work.compiler.errors
known_constant c w h = added_case (λ (a : Added). AllKnown a.work.compiler.errors) c w h (λ i l. h)

-- the tree that stands in words whose records are known; what functions push is known by the induction of `KnownSteps`

module _ (w : List ℕ) (here : (i : ℕ) → 0 < span_at w i → KnownToken (token_at w i)) where
  leaf : {i k : ℕ} {t : Token} → Leaf w i k t → KnownToken t
  leaf L = Steps.leaf w here admits_any L

  headed : {i k s : ℕ} {t : Token} → Headed w i k s t → 0 < s → KnownToken t
  headed L l = Steps.headed w here admits_any L l

  -- definitions

  book_error : (n : ℕ) (t : Token) → KnownToken t → 1 ≤ n → n ≤ 10 → (b : Book.Book) → AllKnown b.compiler.errors
      → AllKnown (push_book_error n t b).compiler.errors
  book_error n t T a c b h = all_append h (T.blamed n a c & nil)

  local : (n : ℕ) (b : Book.Book) → AllKnown b.compiler.errors → AllKnown (define_context_local n b).book.compiler.errors
  unfolding define_context_local
  local n b h = go (find_name n b.compiler.locals)
    where
      go : (o : Option ℕ) → AllKnown (Book.define_context_local_by o n b).book.compiler.errors
      go none = h
      go (some i) = h

  set_value : (o : Option ℕ) (c : ℕ) (b : Book.Book) → AllKnown b.compiler.errors → AllKnown (set_local_value o c b).compiler.errors
  set_value none c b h = h
  set_value (some i) c b h = h

  give : (o c : Option ℕ) (b : Book.Book) → AllKnown b.compiler.errors → AllKnown (give_value o c b).compiler.errors
  give o none b h = h
  give o (some c) b h = set_value o c b h

  constant : (c : Constant) (b : Book.Book) → AllKnown b.compiler.errors → AllKnown (add_book_constant c b).book.compiler.errors
  constant c b h = known_constant c (working b) h

  includes : (file : ℕ) (l : List Alias) (b : Book.Book) → AllKnown b.compiler.errors → AllKnown (compile_include_definition file l b).compiler.errors
  unfolding compile_include_definition compile_alias
  includes file [] b h = h
  includes file (a ∷ l) b h =
      let d = define_context_local a.alias.value b in
      includes file l (compile_alias file a b) (give d.place (Book.included_name file a.public_name.value b.context) d.book
      (local a.alias.value b h))

  include_or_row_11 : (index file : ℕ) (l : List Alias) (b : Book.Book) → AllKnown b.compiler.errors
      → AllKnown (compile_include index file l b).compiler.errors
  unfolding compile_include
  include_or_row_11 index file l b h =
      cond_case (λ (x : Book.Book). AllKnown x.compiler.errors) (gives_values file l b.context) (λ t. includes file l b h) (λ t. h)

  value : (x : Value) (t : Token) → KnownToken t → (o : Option ℕ) (b : Book.Book) → AllKnown b.compiler.errors
      → AllKnown (compile_value x t o b).compiler.errors
  value (Standing c) t T o b h = set_value o c b h
  value (Adding c) t T o b h = let a = add_book_constant c b in set_value o a.place a.book (constant c b h)
  value NoConstant t T o b h = book_error 5 t T (omega arith) (omega arith) b h

  binding : (x : Binding) (i : ℕ) → BindingAt x w i → (b : Book.Book) → AllKnown b.compiler.errors → AllKnown (compile_binding x b).compiler.errors
  unfolding compile_binding ValueAt
  binding x i X b h = go (define_context_local x.variable.value b).place x.value X.1
    where
      d : Book.Book
      d = (define_context_local x.variable.value b).book

      go : (o : Option ℕ) (y : Option Token) → ValueAt y w (i + 1) → AllKnown (Book.compile_binding_by o y d).compiler.errors
      go none y Y = local x.variable.value b h
      go (some j) none Y = local x.variable.value b h
      go (some j) (some t) Y = value (value_of t) t (leaf Y.0) (some j) d (local x.variable.value b h)

  locals : (l : List Binding) (i : ℕ) → RunAt BindingAt double l w i → (b : Book.Book) → AllKnown b.compiler.errors
      → AllKnown (compile_local_definition l b).compiler.errors
  unfolding compile_local_definition RunAt
  locals [] i x b h = h
  locals (y ∷ l) i x b h = locals l (i + 2) x.1 (compile_binding y b) (binding y i x.0 b h)

  property : (t : Token) → KnownToken t → (ps : List ℕ) (b : Book.Book) → AllKnown b.compiler.errors → AllKnown (add_property t ps b).book.compiler.errors
  property t T ps b h = cond_case (λ (p : Properties). AllKnown p.book.compiler.errors) (has_text t.value ps)
      (λ q. book_error 6 t T (omega arith) (omega arith) b h) (λ q. h)

  properties : (ts : List Token) (i : ℕ) → RunAt NameAt single ts w i → (ps : List ℕ) (b : Book.Book) → AllKnown b.compiler.errors
      → AllKnown (compile_properties ts ps b).book.compiler.errors
  unfolding compile_properties RunAt
  properties [] i x ps b h = h
  properties (t ∷ ts) i x ps b h = let a = add_property t ps b in properties ts (i + 1) x.1 a.texts a.book (property t (leaf x.0) ps b h)

  model : (t : Token) (ts : List Token) (i : ℕ) → RunAt NameAt single ts w i → (b : Book.Book) → AllKnown b.compiler.errors
      → AllKnown (compile_model_definition t ts b).book.compiler.errors
  unfolding compile_model_definition
  model t ts i x b h =
      let p = compile_properties ts [] b in
      let c = constant_of model_kind (Book.model_count p.book.context) in
      let m = Book.add_model p.texts t.value p.book in
      let a = add_book_constant c m in
      let d = define_context_local t.value a.book in
      set_value d.place a.place d.book (local t.value a.book (constant c m (properties ts i x [] b h)))

  base : (f : FunctionDefinition) (k i : ℕ) → FunctionAt k f w i → (b : Book.Book) → AllKnown b.compiler.errors
      → AllKnown (compile_base f b).book.compiler.errors
  unfolding compile_base
  base f k i x b h = (Steps.function_known w here admits_any f k i x (working b) (all_any b.context.pool.constants) h).errors

  plain_function : (o : Option ℕ) (s : FunctionState) (n : ℕ) (b : Book.Book) → AllKnown b.compiler.errors
      → AllKnown (add_plain_function o s n b).book.compiler.errors
  unfolding add_plain_function
  plain_function o s n b h =
      let c = constant_of function_kind (Book.function_count b.context) in
      let a = add_book_constant c (add_function s n b) in
      let r = set_value o a.place a.book (constant c (add_function s n b) h) in
      cond_case (λ (x : Book.Book). AllKnown x.compiler.errors) (eqb n 1) (λ q. r) (λ q. r)

  function_definition : (f : FunctionDefinition) (k i : ℕ) → FunctionAt k f w i → (b : Book.Book) → AllKnown b.compiler.errors
      → AllKnown (compile_function_definition f b).book.compiler.errors
  unfolding compile_function_definition
  function_definition f k i x b h = cond_case (λ (p : Placed). AllKnown p.book.compiler.errors) m.state.header.is_instance
      (λ q. book_error 8 f.name (headed x.headed (omega arith)) (omega arith) (omega arith) m.book known')
      (λ q. plain_function (define_context_local f.name.value b).place m.state f.name.value m.book known')
    where
      d : Book.Book
      d = (define_context_local f.name.value b).book

      m : Made
      m = compile_base f d

      known' : AllKnown m.book.compiler.errors
      known' = base f k i x d (local f.name.value b h)

  find_model : (t : Token) → KnownToken t → (b : Book.Book) → AllKnown b.compiler.errors
      → AllKnown (find_model_index_by_local_name t b).book.compiler.errors
  unfolding find_model_index_by_local_name
  find_model t T b h = go (find_name t.value b.compiler.locals)
    where
      by : (o : Option ℕ) → AllKnown (Book.find_model_by o t b).book.compiler.errors
      by none = book_error 9 t T (omega arith) (omega arith) b h
      by (some m) = h

      go : (o : Option ℕ) → AllKnown (Book.find_model_in o t b).book.compiler.errors
      go none = book_error 10 t T (omega arith) (omega arith) b h
      go (some l) = by (Book.model_of (Book.get_local_value l b.context))

  add_methods_lem : (o : Option ℕ) (es : List Entry) (b : Book.Book) → AllKnown b.compiler.errors → AllKnown (add_methods o es b).compiler.errors
  add_methods_lem none es b h = h
  add_methods_lem (some m) es b h = h

  methods : (fs : List FunctionDefinition) (i : ℕ) → RunAt (FunctionAt 14) size_f fs w i → (es : List Entry) (b : Book.Book) → AllKnown b.compiler.errors
      → AllKnown (compile_methods fs es b).book.compiler.errors
  unfolding compile_methods RunAt
  methods [] i x es b h = h
  methods (f ∷ fs) i x es b h =
      let m = compile_base f b in
      methods fs (i + size_f f) x.1 (Book.insert_entry (record { name = f.name.value; index = Book.function_count m.book.context }) es)
      (add_function m.state f.name.value m.book) (base f 14 i x.0 b h)

  implement : (t : Token) → KnownToken t → (fs : List FunctionDefinition) (i : ℕ) → RunAt (FunctionAt 14) size_f fs w i → (b : Book.Book)
      → AllKnown b.compiler.errors → AllKnown (compile_implement_definition t fs b).compiler.errors
  unfolding compile_implement_definition
  implement t T fs i x b h =
      let c = compile_methods fs [] b in
      let d = find_model_index_by_local_name t c.book in
      add_methods_lem d.place c.entries d.book (find_model t T c.book (methods fs i x [] b h))

  apply : (s t : Token) → KnownToken s → KnownToken t → (b : Book.Book) → AllKnown b.compiler.errors
      → AllKnown (compile_apply_definition s t b).compiler.errors
  unfolding compile_apply_definition
  apply s t S T b h =
      let d = find_model_index_by_local_name s b in
      let e = find_model_index_by_local_name t d.book in
      add_methods_lem e.place (Book.methods_of d.place d.book.context) e.book (find_model t T d.book (find_model s S b h))

  definition : (d : Definition) (i : ℕ) → DefinitionAt d w i → (b : Book.Book) → AllKnown b.compiler.errors
      → AllKnown (compile_definition d b).compiler.errors
  unfolding compile_definition DefinitionAt
  definition (LocalDefinition l) i x b h = locals l (i + 1) x.1 b h
  definition (IncludeDefinition index t l) i x b h = include_or_row_11 index t.value l b h
  definition (ModelDefinition t ns) i x b h = model t ns (i + 1) x.1 b h
  definition (PublicModelDefinition t ns) i x b h = model t ns (i + 1) x.1 b h
  definition (PlainFunction f) i x b h = function_definition f 14 i x b h
  definition (PublicFunction f) i x b h = function_definition f 15 i x b h
  definition (ImplementDefinition t fs) i x b h = implement t (headed x.0 (omega arith)) fs (i + 1) x.1 b h
  definition (ApplyDefinition s t) i x b h = apply s t (leaf x.1) (leaf x.2) b h

  definitions : (ds : List Definition) (i : ℕ) → RunAt DefinitionAt size_d ds w i → (b : Book.Book) → AllKnown b.compiler.errors
      → AllKnown (compile_definitions ds b).compiler.errors
  unfolding compile_definitions RunAt
  definitions [] i x b h = h
  definitions (d ∷ ds) i x b h = definitions ds (i + size_d d) x.1 (compile_definition d b) (definition d i x.0 b h)

  -- a document of the words
  abbrev Stands : Document → Type 0
  Stands d = (i : ℕ) × DocumentAt d w i

  document : (d : Document) → Stands d → (c : Context) (uses : List Use) → AllKnown (compile_document d c uses).compiler.errors
  unfolding compile_document
  document d x c uses = definitions d.definitions (x.0 + 1) x.1.definitions (opened d c uses) nil

  all_stand : (ds : List Document) (i : ℕ) → RunAt DocumentAt size_doc ds w i → All Stands ds
  unfolding RunAt
  all_stand [] i x = nil
  all_stand (d ∷ ds) i x = (i, x.0) & all_stand ds (i + size_doc d) x.1

-- each record that passed the shape check is known

or_left : (a b : Bool) → a ≡ true → (a || b) ≡ true
or_left true b e = refl
or_left false b e = absurd (let z : ◌≡◌ {A = ℕ} 0 1 = cc e in omega (arith, z))

or_right : (a b : Bool) → b ≡ true → (a || b) ≡ true
or_right true b e = refl
or_right false b e = e

stands_later : (k s : ℕ) (l : List Slot) → has k (get_or l s nothing).kinds ≡ true → stands_in k l ≡ true
unfolding stands_in
stands_later k s [] h = absurd (let z : ◌≡◌ {A = ℕ} 0 1 = cc h in omega (arith, z))
stands_later k zero (x ∷ l) h = or_left (has k x.kinds) (stands_in k l) h
stands_later k (suc s) (x ∷ l) h = or_right (has k x.kinds) (stands_in k l) (stands_later k s l h)

may_kind : (s k : ℕ) → may_stand s k ≡ true → is_kind k ≡ true
unfolding may_stand is_kind
may_kind s k h = stands_later k s slots h

-- as the law of ranges in the proofs of `tree`
kinds : (w : List ℕ) (n s l i e : ℕ) → Children w s l i e → e - i ≤ n → (j : ℕ) → i ≤ j → j < e → is_kind (kind_at w j) ≡ true
kinds w zero s l i e k b j a h = absurd (omega arith)
kinds w (suc n) s l i e k b j a h = go (child k (omega arith)) (ℕ_discrete i j) (λ s l i e. kinds w n s l i e)
  where
    go : Child w s l i e → Dec (i ≡ j) → ((s l i e : ℕ) → Children w s l i e → e - i ≤ n → (j : ℕ) → i ≤ j → j < e → is_kind (kind_at w j) ≡ true)
        → is_kind (kind_at w j) ≡ true
    go c (yes q) r = subst (λ m. is_kind (kind_at w m) ≡ true) q (may_kind s (kind_at w i) c.may)
    go c (no q) r = by (dec_lt j (i + span_at w i))
      where
        by : Dec (j < i + span_at w i) → is_kind (kind_at w j) ≡ true
        by (yes x) = let y = c.fits in r (first_slot (kind_at w i)) (l + 1) (i + 1) (i + span_at w i) c.inner (omega arith) j (omega arith) x
        by (no x) = let y = c.some in r (slot_after s (kind_at w i)) l (i + span_at w i) e c.rest (omega arith) j (omega arith) h

-- a record inside
inside : (w : List ℕ) (i : ℕ) → length w % 4 ≡ 0 → 0 < span_at w i → i < records_of w
unfolding field_of
inside w i m h = go (dec_lt (i * 4 + 1) (length w))
  where
    go : Dec (i * 4 + 1 < length w) → i < records_of w
    go (yes l) = omega (arith, l, m)
    go (no l) = absurd (let x : length w ≤ i * 4 + 1 = omega (arith, l) in let e : get_or w (i * 4 + 1) 0 ≡ 0 = get_or-eq_default w 0 x in
        let y : 0 < get_or w (i * 4 + 1) 0 = h in omega (arith, e, y))

and_both : (a b : Bool) → a ≡ true → b ≡ true → (a && b) ≡ true
and_both true b x y = y
and_both false b x y = x

and_left : (a b : Bool) → (a && b) ≡ true → a ≡ true
and_left true b e = refl
and_left false b e = e

and_right : (a b : Bool) → (a && b) ≡ true → b ≡ true
and_right true b e = e
and_right false b e = absurd (let z : ◌≡◌ {A = ℕ} 0 1 = cc e in omega (arith, z))

-- a value in range with a position is in range by itself, and so is the position

at_zero : (t : Bool) → may_be_at t 0 ≡ true
unfolding may_be_at in_place
at_zero true = refl
at_zero false = refl

value_range : (k p v : ℕ) → in_range k p v ≡ true → in_range k 0 v ≡ true
unfolding in_range
value_range k p v h = and_both (may_be_at (rule_of k).position 0) _ (at_zero (rule_of k).position) (and_right (may_be_at (rule_of k).position p) _ h)

in_place_lem : (t : Bool) (p : ℕ) → may_be_at t p ≡ true → in_place p ≡ true
unfolding may_be_at in_place
in_place_lem true p h = h
in_place_lem false p h = let e : p ≡ 0 = eqb-true p 0 h in let z : in_place 0 ≡ true = refl in subst (λ (n : ℕ). in_place n ≡ true) (sym e) z

position_range : (k p v : ℕ) → in_range k p v ≡ true → in_place p ≡ true
unfolding in_range
position_range k p v h = in_place_lem (rule_of k).position p (and_left (may_be_at (rule_of k).position p) _ h)

-- the documents are children from slot 1 on: no document is ever due

after_1 : (k : ℕ) → slot_after 1 k ≡ 1
unfolding slot_after goes_on
after_1 k = refl

none_due : (w : List ℕ) (n j e : ℕ) → e - j ≤ n → lacks_of w 1 j e ≡ false
unfolding is_due
none_due w zero j e b = lacks_done w 1 j e (omega arith)
none_due w (suc n) j e b = go (dec_lt j e) (within_of j (span_at w j) e) refl (none_due w n (j + span_at w j) e)
  where
    go : Dec (j < e) → (t : Bool) → within_of j (span_at w j) e ≡ t
        → (e - (j + span_at w j) ≤ n → lacks_of w 1 (j + span_at w j) e ≡ false) → lacks_of w 1 j e ≡ false
    go (no h) t q r = lacks_done w 1 j e (omega arith)
    go (yes h) false q r = lacks_stop w 1 j e h q
    go (yes h) true q r =
        let x = within_true j (span_at w j) e q in
        lacks_on w 1 j e h q ∙ subst (λ s. lacks_of w s (j + span_at w j) e ≡ false) (sym (after_1 (kind_at w j))) (r (omega arith))

documents_children : (w : List ℕ) → shape_of w ≡ Ok tt → Children w 1 1 0 (records_of w)
documents_children w f =
    let p = fine_passed w f in
    record {
      before = 0;
      after = p.went.0;
      went = p.went.1;
      full = none_due w (records_of w) 0 (records_of w) (omega arith);
      ordered = omega arith;
    }

record-known : (w : List ℕ) → shape_of w ≡ Ok tt → (i : ℕ) → 0 < span_at w i → KnownToken (token_at w i)
unfolding known known_token
record-known w f i l = record { range = fine_ranged w f i l; blamed = λ n a b. blamed n a b }
  where
    blamed : (n : ℕ) → 1 ≤ n → n ≤ 10 → known (with' n (token_at w i)) ≡ true
    blamed n a b =
        let S = fine_spells w f in
        let j = inside w i S.whole l in
        let r = S.ranges i j in
        let c = kinds w (records_of w) 1 1 0 (records_of w) (documents_children w f) (omega arith) i (omega arith) j in
        let p = position_range (kind_at w i) (position_at w i) (value_at w i) r in
        let v = value_range (kind_at w i) (position_at w i) (value_at w i) r in
        simp (ne_eqb n 11 (λ e. omega (arith, e, b))) (and_both (leb 1 n) _ (le-leb 1 n a) (and_both (leb n 10) _ (le-leb n 10 b)
        (and_both (in_place (position_at w i)) _ p (and_both (is_kind (kind_at w i)) _ c v))))

-- file numbers are texts

abbrev TextNumber : ℕ → Type 0
TextNumber n = is_text n ≡ true

module _ (w : List ℕ) (here : (i : ℕ) → 0 < span_at w i → KnownToken (token_at w i))
    (texts : (i : ℕ) → 0 < span_at w i → kind_at w i ≡ 1 → TextNumber (value_at w i)) where
  file_text : (d : Document) → Stands w here d → TextNumber d.filename
  file_text d x =
      let h = x.1.head in
      let q = h.span_is in
      subst TextNumber (sym x.1.file) (texts x.0 (omega (arith, q)) h.kind_is)

  found : (P : Document → Type 0) (n : ℕ) (ds : List Document) → All P ds → (d : Document) → find_document n ds ≡ some d → P d × (d.filename ≡ n)
  found P n [] nil d e = absurd (let z : ◌≡◌ {A = ℕ} 0 1 = cc e in omega (arith, z))
  found P n (x ∷ ds) (p & ps) d e = go (eqb x.filename n) refl (found P n ds ps d) e
    where
      go : (t : Bool) → eqb x.filename n ≡ t → (find_document n ds ≡ some d → P d × (d.filename ≡ n)) → cond t (some x) (find_document n ds) ≡ some d
          → P d × (d.filename ≡ n)
      go true q r e = let s : x ≡ d = cc e in (subst P s p, ap (λ (y : Document). y.filename) (sym s) ∙ eqb-true x.filename n q)
      go false q r e = r e

  -- row 6 has passed: each number is a document's
  present : (ds : List Document) → All (Stands w here) ds → (ns : List ℕ) → missing ds ns ≡ none → All TextNumber ns
  present ds S [] e = nil
  present ds S (n ∷ ns) e = go (find_document n ds) refl (present ds S ns) e
    where
      go : (o : Option Document) → find_document n ds ≡ o → (missing ds ns ≡ none → All TextNumber ns) → missing_by o n (missing ds ns) ≡ none
          → All TextNumber (n ∷ ns)
      go none q r e = absurd (let z : ◌≡◌ {A = ℕ} 0 1 = cc e in omega (arith, z))
      go (some d) q r e = let x = found (Stands w here) n ds S d q in subst TextNumber x.1 (file_text d x.0) & r e

  ready_stands : (ds : List Document) → All (Stands w here) ds → (done ns : List ℕ) (d : Document) → ready ds done ns ≡ some d → Stands w here d
  ready_stands ds S done [] d e = absurd (let z : ◌≡◌ {A = ℕ} 0 1 = cc e in omega (arith, z))
  ready_stands ds S done (n ∷ ns) d e = go (find_document n ds) refl (ready_stands ds S done ns d) e
    where
      go : (o : Option Document) → find_document n ds ≡ o → (ready ds done ns ≡ some d → Stands w here d) → ready_by o done (ready ds done ns) ≡ some d
          → Stands w here d
      go none q r e = r e
      go (some x) q r e = by (all_in (dependencies x.definitions) done) e
        where
          by : (t : Bool) → cond t (some x) (ready ds done ns) ≡ some d → Stands w here d
          by true e = let s : x ≡ d = cc e in subst (Stands w here) s (found (Stands w here) n ds S x q).0
          by false e = r e

  without_texts : (n : ℕ) (ns : List ℕ) → All TextNumber ns → All TextNumber (without n ns)
  without_texts n [] nil = nil
  without_texts n (x ∷ ns) (p & ps) = cond_case (All TextNumber) (eqb x n) (λ t. ps) (λ t. p & without_texts n ns ps)

  -- how the work ends
  abbrev EndKnown : Ending → Type 0
  EndKnown (Delivered c) = Unit {0}
  EndKnown (Faulty n es) = AllKnown es
  EndKnown (Ring l) = All TextNumber l

  after_book_lem : (es : List Error) → AllKnown es → (file : ℕ) (c : Context) (uses : List Use) (go : Context → List Use → Worked)
      → ((c : Context) (uses : List Use) → EndKnown (go c uses).ending) → EndKnown (after_book es file c uses go).ending
  after_book_lem [] k file c uses go h = h c uses
  after_book_lem (e ∷ es) k file c uses go h = k

  driven : (k : ℕ) (ds : List Document) → All (Stands w here) ds → (done left : List ℕ) → All TextNumber left → (c : Context) (uses : List Use)
      → EndKnown (drive k ds done left c uses).ending
  unfolding drive
  driven zero ds S done left L c uses = tt
  driven (suc k) ds S done left L c uses = go (ready ds done left) refl
      (λ done left L c uses. driven k ds S done left L c uses)
    where
      go : (o : Option Document) → ready ds done left ≡ o
          → ((done left : List ℕ) → All TextNumber left → (c : Context) (uses : List Use) → EndKnown (drive k ds done left c uses).ending)
          → EndKnown (drive_by o left c uses (λ d c' uses'. drive k ds (d.filename ∷ done) (without d.filename left) c' uses')).ending
      go none q r = L
      go (some d) q r =
          let b = compile_document d c uses in
          after_book_lem b.compiler.errors (document w here d (ready_stands ds S done left d q) c uses) d.filename b.context b.uses
          (λ c' uses'. drive k ds (d.filename ∷ done) (without d.filename left) c' uses')
          (λ c' uses'. r (d.filename ∷ done) (without d.filename left) (without_texts d.filename left L) c' uses')

  worked : (ns : List ℕ) (ds : List Document) → All (Stands w here) ds → missing ds ns ≡ none → (c : Context) → EndKnown (compile_needed ns ds c).ending
  unfolding compile_needed
  worked ns ds S e c = driven (length ns) ds S _ ns (present ds S ns e) c _

  ring_known : (l : List ℕ) → All TextNumber l → AllKnown (ring_errors l)
  unfolding known
  ring_known [] nil = nil
  ring_known (n ∷ l) (p & ps) = p & ring_known l ps

-- the answer

abbrev AnswerKnown : Answer → Type 0
AnswerKnown (Delivery c) = Unit {0}
AnswerKnown (Refusal n p es) = AllKnown es

document_text : (w : List ℕ) → shape_of w ≡ Ok tt → (i : ℕ) → 0 < span_at w i → kind_at w i ≡ 1 → TextNumber (value_at w i)
unfolding in_range
document_text w f i l e =
    let S = fine_spells w f in
    let r : in_range 1 (position_at w i) (value_at w i) ≡ true
    = subst (λ (k : ℕ). in_range k (position_at w i) (value_at w i) ≡ true) e (S.ranges i (inside w i S.whole l)) in
    and_right (may_be_at false (position_at w i)) _ r

answer_known : (c : Context) (w lengths : List ℕ) → AnswerKnown (answer_from c w lengths)
unfolding answer_from answer_bundle
answer_known c w lengths = shape (shape_of w) refl
  where
    shape : (s : Result (Unit {0}) Refused) → shape_of w ≡ s → AnswerKnown (answer_shape s w (limits_of lengths) c)
    shape (Err found) q = nil
    shape (Ok u) q = two (twice [] w (document_places w))
      where
        here : (i : ℕ) → 0 < span_at w i → KnownToken (token_at w i)
        here = record-known w q

        texts : (i : ℕ) → 0 < span_at w i → kind_at w i ≡ 1 → TextNumber (value_at w i)
        texts = document_text w q

        by : (o : Option ℕ) (e : Ending) → EndKnown w here texts e → AnswerKnown (answer_by o e)
        by (some a) e k = cond_case AnswerKnown (ltb a first_not_public) (λ t. nil) (λ t. nil)
        by none (Delivered x) k = tt
        by none (Faulty n es) k = k
        by none (Ring l) k = ring_known w here texts l k

        all : (ds : List Document) → All (Stands w here) ds → AnswerKnown (answer_documents ds (limits_of lengths) c)
        all [] S = nil
        all (root ∷ others) S = go (missing (root ∷ others) (needed (loaded_of c) root others)) refl
          where
            go : (o : Option ℕ) → missing (root ∷ others) (needed (loaded_of c) root others) ≡ o
                → AnswerKnown (answer_needed o (needed (loaded_of c) root others) (root ∷ others) (limits_of lengths) c)
            go (some n) e = nil
            go none e =
                let r = compile_needed (needed (loaded_of c) root others) (root ∷ others) c in
                by (first_over (limits_of lengths) r.uses) r.ending
                (worked w here texts (needed (loaded_of c) root others) (root ∷ others) S e c)

        two : (o : Option ℕ) → AnswerKnown (answer_twice o w (limits_of lengths) c)
        two (some i) = nil
        two none = all (documents_of w) (all_stand w here (documents_of w) 0 (fine_spells w q).documents)

-- the words of area 11

shift_at : (a b c d : ℕ) (w : List ℕ) (i : ℕ) → error_at (a ∷ b ∷ c ∷ d ∷ w) (i + 1) ≡ error_at w i
shift_at a b c d w i =
    let at : (k j : ℕ) → j ≡ suc (suc (suc (suc k))) → get_or (a ∷ b ∷ c ∷ d ∷ w) j 0 ≡ get_or w k 0 = λ k j e. ap (λ (m : ℕ). get_or (a ∷ b ∷ c ∷ d ∷ w) m 0)
    e in
    let x = at (i * 4 + 0) ((i + 1) * 4 + 0) (omega arith) in
    let y = at (i * 4 + 1) ((i + 1) * 4 + 1) (omega arith) in
    let z = at (i * 4 + 2) ((i + 1) * 4 + 2) (omega arith) in
    let v = at (i * 4 + 3) ((i + 1) * 4 + 3) (omega arith) in
    error_eq x y z v

shift : (a b c d : ℕ) (w : List ℕ) (n i : ℕ) → errors_from (a ∷ b ∷ c ∷ d ∷ w) (i + 1) n ≡ errors_from w i n
unfolding errors_from
shift a b c d w zero i = refl
shift a b c d w (suc n) i =
    ap (λ (e : Error). cond (is_zeros e) [] (e ∷ errors_from (a ∷ b ∷ c ∷ d ∷ w) (i + 1 + 1) n)) (shift_at a b c d w i)
    ∙ ap (λ (l : List Error). cond (is_zeros (error_at w i)) [] (error_at w i ∷ l)) (shift a b c d w n (i + 1))

errors_cons : (a b c d : ℕ) (w : List ℕ) → errors_in (a ∷ b ∷ c ∷ d ∷ w) ≡ cond (is_zeros (error a b c d)) [] (error a b c d ∷ errors_in w)
unfolding errors_in errors_from
errors_cons a b c d w =
    let e : length (a ∷ b ∷ c ∷ d ∷ w) / 4 ≡ suc (length w / 4) = omega arith in
    ap (λ (k : ℕ). errors_from (a ∷ b ∷ c ∷ d ∷ w) 0 k) e
    ∙ ap (λ (l : List Error). cond (is_zeros (error a b c d)) [] (error a b c d ∷ l)) (shift a b c d w (length w / 4) 0)

no_errors : (m : ℕ) → errors_in (replicate m 0) ≡ []
unfolding errors_in errors_from
no_errors zero = refl
no_errors (suc zero) = refl
no_errors (suc (suc zero)) = refl
no_errors (suc (suc (suc zero))) = refl
no_errors (suc (suc (suc (suc m)))) = errors_cons 0 0 0 0 (replicate m 0)

listed_known : (es : List Error) → AllKnown es → (m i j : ℕ) → first_unknown j (errors_in (flat (entries_from error_entry i es) ++ replicate m 0)) ≡ None
unfolding first_unknown
listed_known [] nil m i j = ap (first_unknown j) (no_errors m)
listed_known (e ∷ es) (p & ps) m i j =
    ap (first_unknown j) (errors_cons e.number e.token.position e.token.kind e.token.value
    (flat (entries_from error_entry (i + 1) es) ++ replicate m 0))
    ∙ go (is_zeros e) (listed_known es ps m (i + 1) (j + 1))
  where
    go : (t : Bool) → first_unknown (j + 1) (errors_in (flat (entries_from error_entry (i + 1) es) ++ replicate m 0)) ≡ None
        → first_unknown j (cond t [] (e ∷ errors_in (flat (entries_from error_entry (i + 1) es) ++ replicate m 0))) ≡ None
    go true r = refl
    go false r = simp p r

-- an area of a list of areas, if it is there
area_known : (P : List ℕ → Type 0) (ns : List ℕ) (ts : List Entries) (k : ℕ) → P [] → ((n : ℕ) → P (filled n (get_or ts k []))) → P
    (get_or (filled_all ns ts) k [])
area_known P [] ts k z f = z
area_known P (n ∷ ns) [] k z f = z
area_known P (n ∷ ns) (t ∷ ts) zero z f = f n
area_known P (n ∷ ns) (t ∷ ts) (suc k) z f = area_known P ns ts k z f

abbrev NoneUnknown : List ℕ → Type 0
NoneUnknown area = first_unknown 0 (errors_in area) ≡ None

answer_left : (lengths : List ℕ) (a : Answer) → AnswerKnown a → NoneUnknown (get_or (areas_of lengths a) errors_area [])
unfolding areas_of tables_of error_tables
answer_left lengths (Delivery c) k =
    area_known NoneUnknown lengths (tables_of c) errors_area (listed_known [] nil 0 0 0) (λ n. listed_known [] nil (n - 0) 0 0)
answer_left lengths (Refusal n p es) k =
    area_known NoneUnknown lengths (error_tables es) errors_area (listed_known [] nil 0 0 0)
    (λ n. listed_known es k (n - length (flat (entries_from error_entry 0 es))) 0 0)

-- onto any standing program, over any words and areas of any lengths: the list that the call leaves in area 11 has no error that `errors_in_words`
-- does not know
pub standing_compiled_known : (c : Context) (w lengths : List ℕ)
    → first_unknown 0 (errors_in (get_or (areas_of lengths (answer_from c w lengths)) errors_area [])) ≡ None
standing_compiled_known c w lengths = answer_left lengths (answer_from c w lengths) (answer_known c w lengths)

-- and onto none
pub compiled_known : (strict : Bool) (w lengths : List ℕ) → first_unknown 0 (errors_in (get_or (areas_of lengths (answer strict w lengths)) errors_area [])) ≡
    None
unfolding answer
compiled_known strict w lengths = standing_compiled_known (new_context strict) w lengths
