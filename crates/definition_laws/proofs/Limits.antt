-- Where the words are fine, each function of the documents they spell is within the limits of rows 2 and 4. A part has no more records and levels than the
-- run that it stands in; `fine_spells` of the tree crate bounds the whole run. Assumes nothing.
use Prim.Native.Nat.{ℕ, ◌≤◌}
use native.Mathlib.Omega.{arith}
use mathlib.Core.Path.{◌≡◌}
use mathlib.Core.List.{List, [], ◌∷◌}
use Rattle.std.specs.Prelude.{Ok}
use Rattle.words.specs.Ast.{FunctionDefinition, Definition, LocalDefinition, IncludeDefinition, ModelDefinition, PublicModelDefinition, PlainFunction}
use Rattle.words.specs.Ast.{PublicFunction, ImplementDefinition, ApplyDefinition, Document}
use Rattle.words.specs.Record.{most_records, most_levels}
use Rattle.tree.specs.At.{run_size, run_depth, size_f, depth_f, size_d, depth_d, size_doc, depth_doc}
use Rattle.tree.specs.Check.{shape_of}
use Rattle.tree.specs.Reading.{documents_of}
use Rattle.tree.proofs.Bundle.{fine_spells}
use Rattle.definition.specs.Within.{All, nil, ◌&◌}
use Rattle.definition_laws.proofs.Lists.{all_map}

-- records and levels within the limits
pub record Limited {A : Type 0} (size depth : A → ℕ) (x : A) : Type 0 where
  pub records : size x ≤ most_records
  pub levels : depth x ≤ most_levels

-- each of a run is no larger than the run
run_limited : {A : Type 0} (size depth : A → ℕ) (xs : List A) → run_size size xs ≤ most_records → run_depth depth xs ≤ most_levels → All (Limited size depth) xs
unfolding run_size run_depth
run_limited size depth [] s d = nil
run_limited size depth (x ∷ xs) s d =
    let first : Limited size depth x = record { records = omega arith; levels = omega arith } in
    first & run_limited size depth xs (omega arith) (omega arith)

-- the functions of a definition
abbrev pub functions_in : Definition → List FunctionDefinition
functions_in (PlainFunction f) = f ∷ []
functions_in (PublicFunction f) = f ∷ []
functions_in (ImplementDefinition m fs) = fs
functions_in (LocalDefinition x) = []
functions_in (IncludeDefinition n x y) = []
functions_in (ModelDefinition x y) = []
functions_in (PublicModelDefinition x y) = []
functions_in (ApplyDefinition x y) = []

abbrev pub LimitedFunction : FunctionDefinition → Type 0
LimitedFunction f = Limited size_f depth_f f

abbrev pub LimitedDocument : Document → Type 0
LimitedDocument d = All (λ x. All LimitedFunction (functions_in x)) d.definitions

definition_limited : (d : Definition) → Limited size_d depth_d d → All LimitedFunction (functions_in d)
unfolding size_d depth_d
definition_limited (PlainFunction f) s = record { records = s.records; levels = s.levels } & nil
definition_limited (PublicFunction f) s = record { records = s.records; levels = s.levels } & nil
definition_limited (ImplementDefinition m fs) s = run_limited size_f depth_f fs (omega (arith, s.records)) (omega (arith, s.levels))
definition_limited (LocalDefinition x) s = nil
definition_limited (IncludeDefinition n x y) s = nil
definition_limited (ModelDefinition x y) s = nil
definition_limited (PublicModelDefinition x y) s = nil
definition_limited (ApplyDefinition x y) s = nil

document_limited : (d : Document) → Limited size_doc depth_doc d → LimitedDocument d
document_limited d s = all_map definition_limited (run_limited size_d depth_d d.definitions (omega (arith, s.records)) (omega (arith, s.levels)))

pub fine_limited : (w : List ℕ) → shape_of w ≡ Ok tt → All LimitedDocument (documents_of w)
fine_limited w h =
    let s = fine_spells w h in
    all_map document_limited (run_limited size_doc depth_doc (documents_of w) (omega (arith, s.fills, s.limit)) (omega (arith, s.levels)))
