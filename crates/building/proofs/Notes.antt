-- Notes of entries in use: with the mark set nothing that the definition goes on to do changes it, nothing is full before where nothing is full after,
-- and several steps in the place of one give the same mark, though they note more. By the first note beyond its area. Assumes nothing.
use Rattle.std.proofs.Common.{◌≡◌, ℕ, ◌+◌, ◌≤◌, Bool, true, false, cond, eqb, ltb, List, length, refl, ◌∙◌, arith, ltb-true, le-ltb, lt-ltb, eqb-true}
use mathlib.Core.Option.{Option, none, some}
use borrow.Author.Tests.{eqb-false}
use Rattle.words.specs.Areas.{code_area, scope_names_area, breaks_area}
use Rattle.definition.specs.FunctionState.{FunctionState, or_else}
use Rattle.definition.specs.Uses.{Use, using', Limits, limit_of, over_by, first_over, total}
use Rattle.definition.specs.Compiler.{Work, with_function}
use Rattle.definition.specs.Program.{Entries}
use Rattle.definition_laws.proofs.StepPreserves.{NotesGrow, same, more}
use Rattle.building.specs.RepresentsMachine.{Machine, Contents, Marks, unmarked, marked, RepresentsMachine}
use Rattle.building.proofs.Filling.{Within, over_stays, capped, noted_within}

pub marks_same : {o : Option ℕ} {a b : ℕ} → Marks o a → Marks o b → a ≡ b
marks_same unmarked unmarked = refl
marks_same (marked h) (marked k) = refl

marks_none : {n : ℕ} → Marks none n → n ≡ 0
marks_none unmarked = refl

pub over_longer : (κ : Limits) {us vs : List Use} {n : ℕ} → NotesGrow us vs → Marks (first_over κ us) n → (n ≡ 0 → ⊥) → Marks (first_over κ vs) n
over_longer κ same m ne = m
over_longer κ (more {vs = vs} {v = v} l) m ne = over_stays κ v vs (over_longer κ l m ne) ne

-- with the mark set, whatever the definition does and notes
pub held_longer : {κ : Limits} {E : Entries} {m : Machine} {w w' : Work} → NotesGrow w.uses w'.uses → (m.state.full ≡ 0 → ⊥)
    → RepresentsMachine κ E m w → RepresentsMachine κ E m w'
held_longer {κ} l ne H = record {
  code_cap = H.code_cap;
  constants_cap = H.constants_cap;
  names_cap = H.names_cap;
  breaks_cap = H.breaks_cap;
  errors_cap = H.errors_cap;
  full = over_longer κ l H.full ne;
  rest = λ z. absurd (ne z);
}

-- not full after, not full before
pub back : {κ : Limits} {E E' : Entries} {m m' : Machine} {w w' : Work} → NotesGrow w.uses w'.uses → RepresentsMachine κ E m w
    → RepresentsMachine κ E' m' w'
    → m'.state.full ≡ 0 → m.state.full ≡ 0
back {κ} {m = m} l H H' z = go (eqb m.state.full 0) refl
  where
    go : (t : Bool) → eqb m.state.full 0 ≡ t → m.state.full ≡ 0
    go true q = eqb-true m.state.full 0 q
    go false q = marks_same (over_longer κ l H.full (eqb-false m.state.full 0 q)) H'.full ∙ z

-- other notes of the same states: the contents do not depend on them
abbrev pub renoted : List Use → Work → Work
renoted us w = record { compiler = w.compiler; context = w.context; function = w.function; before = w.before; uses = us }

pub contents_again : {earlier : Entries} {m : Machine} {w : Work} (us : List Use) → Contents earlier m w → Contents earlier m (renoted us w)
contents_again us C = record {
  before = C.before;
  sized = C.sized;
  code = C.code;
  base = C.base;
  constants = C.constants;
  marks = C.marks;
  names = C.names;
  scope = C.scope;
  breaks = C.breaks;
  loop = C.loop;
  in_loop = C.in_loop;
  errors = C.errors;
  depth = C.depth;
  rescue = C.rescue;
  is_instance = C.is_instance;
  parameters = C.parameters;
  locals = C.locals;
}

-- three notes before three: of those before, the second and the third fit, and where the first does not, the first after it does not either
merged : (o a b c d e f : Option ℕ) → ((n : ℕ) → a ≡ some n → d ≡ some n) → (o ≡ none → b ≡ none) → (o ≡ none → c ≡ none)
    → or_else (or_else (or_else (or_else (or_else (or_else o a) b) c) d) e) f ≡ or_else (or_else (or_else o d) e) f
merged (some n) a b c d e f p q r = refl
merged none none b c d e f p q r = rw (q refl, r refl)
merged none (some n) b c d e f p q r = rw (p n refl)

over_more : (κ : Limits) (area m m' : ℕ) → m ≤ m' → (n : ℕ) → over_by κ (using' area m) ≡ some n → over_by κ (using' area m') ≡ some n
over_more κ area m m' h n e = go (ltb (limit_of κ area) m) refl e
  where
    go : (t : Bool) → ltb (limit_of κ area) m ≡ t → cond t (some area) none ≡ some n → over_by κ (using' area m') ≡ some n
    go true q e = rw (lt-ltb (limit_of κ area) m' (omega (arith, ltb-true (limit_of κ area) m q))) e
    go false q e = absurd (let z : ◌≡◌ {A = ℕ} 0 1 = cc in omega arith)

-- two steps on the function in the place of one: the first adds no name and no break, and the second has no less code
pub held_renoted : {κ : Limits} {E E₀ : Entries} {m m₀ : Machine} {w : Work} (f g : FunctionState) → RepresentsMachine κ E₀ m₀ w
    → length f.code.instructions ≤ length g.code.instructions → total f.scopes ≤ total w.function.scopes
    → total f.break_scopes ≤ total w.function.break_scopes → RepresentsMachine κ E m (with_function g (with_function f w))
    → RepresentsMachine κ E m (with_function g w)
unfolding first_over
held_renoted {κ} {m₀ = m₀} {w = w} f g H₀ code names breaks H = record {
  code_cap = H.code_cap;
  constants_cap = H.constants_cap;
  names_cap = H.names_cap;
  breaks_cap = H.breaks_cap;
  errors_cap = H.errors_cap;
  full = rw (← one) H.full;
  rest = λ z. contents_again (with_function g w).uses (H.rest z);
}
  where
    within : first_over κ w.uses ≡ none → Within κ w
    within q = noted_within (capped H₀) (H₀.rest (marks_none (rw q at H₀.full)))

    one : first_over κ (with_function g (with_function f w)).uses ≡ first_over κ (with_function g w).uses
    one =
        merged (first_over κ w.uses) _ _ _ _ _ _
        (over_more κ code_area (w.before + length f.code.instructions) (w.before + length g.code.instructions) (omega arith))
        (λ q. rw (le-ltb (limit_of κ scope_names_area) (total f.scopes) (omega (arith, (within q).names))))
        (λ q. rw (le-ltb (limit_of κ breaks_area) (total f.break_scopes) (omega (arith, (within q).breaks))))
