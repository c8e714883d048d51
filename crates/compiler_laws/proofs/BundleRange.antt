-- Words that `shape_of` finds fine hold a bundle: their documents stand there and fill them, and file numbers and includes are in the range of texts.
-- Assumes nothing.
use Prim.Native.Nat.{ℕ, ◌+◌, ◌%◌, ◌≤◌, ◌<◌}
use native.Mathlib.Omega.{arith}
use mathlib.Core.Path.{◌≡◌, refl, sym, ap, subst, ◌∙◌}
use mathlib.Core.Bool.{true, ◌&&◌}
use mathlib.Core.List.{List, [], ◌∷◌}
use lib.ListN.{length}
use lib.Dec.{leb}
use borrow.Author.Tests.{leb-true, eq-eqb, le-ltb}
use Rattle.std.specs.Prelude.{Ok}
use Rattle.words.specs.declared.row.Row.TheVariants.{BadShape}
use Rattle.words.specs.Ast.{Token, Document, Definition, LocalDefinition, IncludeDefinition, ModelDefinition, PublicModelDefinition, PlainFunction}
use Rattle.words.specs.Ast.{PublicFunction, ImplementDefinition, ApplyDefinition}
use Rattle.words.specs.Record.{kind_at, position_at, value_at, most_records, most_text}
use Rattle.tree.specs.Rules.{may_be_at, in_range, rule_of}
use Rattle.tree.specs.Check.{shape_of, records_of, refused}
use Rattle.tree.specs.At.{RunAt, run_size, DefinitionAt, size_d, DocumentsAt, size_doc}
use Rattle.tree.specs.Reading.{documents_of}
use Rattle.tree.proofs.Bundle.{fine_spells, fine_passed}
use Rattle.tree.proofs.Spans.{and_right}
use Rattle.tree.proofs.View.{size_d_pos}
use Rattle.definition.specs.DependencySolver.{dependencies}
use Rattle.compiler_laws.specs.FileSets.{set_size, Below}
use Rattle.compiler_laws.specs.SolverSteps.{Bundle, InSets}

-- a value in range is not above the most of its kind
at_most : (k p v : ℕ) → in_range k p v ≡ true → v ≤ (rule_of k).most
unfolding in_range
at_most k p v h =
    leb-true v (rule_of k).most
    (and_right (leb (rule_of k).least v) (leb v (rule_of k).most)
    (and_right (may_be_at (rule_of k).position p) (leb (rule_of k).least v && leb v (rule_of k).most) h))

module _ (w : List ℕ) (end : ℕ) (ranges : (j : ℕ) → j < end → in_range (kind_at w j) (position_at w j) (value_at w j) ≡ true) where
  text_range : (j k : ℕ) → j < end → kind_at w j ≡ k → (rule_of k).most ≡ most_text → value_at w j < set_size
  text_range j k l q m =
      let x : value_at w j ≤ (rule_of k).most
      = at_most k (position_at w j) (value_at w j) (subst (λ (n : ℕ). in_range n (position_at w j) (value_at w j) ≡ true) q (ranges j l)) in
      let y : value_at w j ≤ most_text = subst (λ (n : ℕ). value_at w j ≤ n) m x in
      omega arith

  includes_range : (defs : List Definition) (i : ℕ) → RunAt DefinitionAt size_d defs w i → i + run_size size_d defs ≤ end → Below set_size (dependencies defs)
  unfolding RunAt run_size DefinitionAt
  includes_range [] i a f = tt
  includes_range (IncludeDefinition index t l ∷ ds) i a f =
      let p = size_d_pos (IncludeDefinition index t l) in (
        subst (λ (n : ℕ). n < set_size) (sym (ap (λ (x : Token). x.value) a.0.0.token)) (text_range i 11 (omega arith) a.0.0.head.kind_is refl),
        includes_range ds (i + size_d (IncludeDefinition index t l)) a.1 (omega arith),
      )
  includes_range (LocalDefinition x ∷ ds) i a f = includes_range ds (i + size_d (LocalDefinition x)) a.1 (omega arith)
  includes_range (ModelDefinition x y ∷ ds) i a f = includes_range ds (i + size_d (ModelDefinition x y)) a.1 (omega arith)
  includes_range (PublicModelDefinition x y ∷ ds) i a f = includes_range ds (i + size_d (PublicModelDefinition x y)) a.1 (omega arith)
  includes_range (PlainFunction x ∷ ds) i a f = includes_range ds (i + size_d (PlainFunction x)) a.1 (omega arith)
  includes_range (PublicFunction x ∷ ds) i a f = includes_range ds (i + size_d (PublicFunction x)) a.1 (omega arith)
  includes_range (ImplementDefinition x y ∷ ds) i a f = includes_range ds (i + size_d (ImplementDefinition x y)) a.1 (omega arith)
  includes_range (ApplyDefinition x y ∷ ds) i a f = includes_range ds (i + size_d (ApplyDefinition x y)) a.1 (omega arith)

  in-sets : (ds : List Document) (i : ℕ) → DocumentsAt ds w i → i + run_size size_doc ds ≡ end → InSets set_size ds
  unfolding RunAt run_size
  in-sets [] i a f = tt
  in-sets (d ∷ ds) i a f = (
    subst (λ (n : ℕ). n < set_size) (sym a.0.file) (text_range i 1 (omega arith) a.0.head.kind_is refl),
    includes_range d.definitions (i + 1) a.0.definitions (omega arith),
    in-sets ds (i + size_doc d) a.1 (omega arith),
  )

-- the law
pub fine_bundle : (w : List ℕ) → shape_of w ≡ Ok tt → Bundle (documents_of w) w 0 (records_of w)
fine_bundle w h =
    let s = fine_spells w h in
    let f : 0 + run_size size_doc (documents_of w) ≡ records_of w = omega (arith, s.fills) in
    record { documents = s.documents; fills = f; numbers = in-sets w (records_of w) s.ranges (documents_of w) 0 s.documents f }

pub fine_limit : (w : List ℕ) → shape_of w ≡ Ok tt → records_of w ≤ most_records
fine_limit w h = (fine_spells w h).limit

some_records : (w : List ℕ) → shape_of w ≡ Ok tt → records_of w ≡ 0 → ⊥
unfolding shape_of
some_records w h z =
    let p = fine_passed w h in
    let r : refused BadShape 0 ≡ Ok tt
    = simp (eq-eqb (length w % 4) 0 p.whole, le-ltb most_records (records_of w) p.limit, eq-eqb (records_of w) 0 z) at h in
    let zz : ◌≡◌ {A = ℕ} 0 1 = cc in
    omega arith

-- there is a root
pub fine_root : (w : List ℕ) → shape_of w ≡ Ok tt → (root : Document) × (others : List Document) × (documents_of w ≡ root ∷ others)
unfolding run_size
fine_root w h = go (documents_of w) refl
  where
    go : (ds : List Document) → documents_of w ≡ ds → (root : Document) × (others : List Document) × (documents_of w ≡ root ∷ others)
    go (d ∷ ds) q = (d, ds, q)
    go [] q = absurd (some_records w h (sym (fine_spells w h).fills ∙ ap (λ (ds : List Document). run_size size_doc ds) q))
