-- What a routine does to the state and the areas, said by the definition's step: whatever work they hold before, they hold the step's work after;
-- and the pieces of steps and the places in the tree that the compilers inside a function need
-- Private contracts alone cite this file: whoever reads the promises need not believe it
use Rattle.std.specs.Prelude.{ℕ, ◌+◌, ◌-◌, min, ◌≡◌, true, cond, List, eqb, ltb}
use Rattle.words.specs.Ast.{Token, Expressions}
use Rattle.words.specs.Object.{NULL, TRUE, FALSE}
use Rattle.words.specs.Record.{span_at}
use Rattle.words.specs.Opcode.{Not, OPERATION_EQUAL, OPERATION_AND, OPERATION_OR}
use Rattle.definition.specs.Uses.{Limits}
use Rattle.definition.specs.Compiler.{Work, Step, InfixKind, Assigning, Plain, Negated, Compound, Unknown, compile_operation}
use Rattle.definition.specs.Compiler.{emit_opcode, skip, count}
use Rattle.definition.specs.Program.{Entries}
use Rattle.tree.specs.At.{ExpressionsAt, size_es}
use Rattle.building.specs.declared.function_state.FunctionState.{FunctionState}
use Rattle.building.specs.RepresentsMachine.{Machine, machine, RepresentsMachine, LocalsHeld, is_open}

-- any state and areas
pub record Simulates (m m' : Machine) (step : Step) : Type 0 where
  pub meets : (κ : Limits) (E : Entries) (w : Work) → RepresentsMachine κ E m w → RepresentsMachine κ E m' (step w)

-- inside a function: a scope is open, and area 7 names the book's context locals
pub record Inside (start count : ℕ) (locals : List ℕ) (w : Work) : Type 0 where
  pub is_open : is_open w.function.scopes ≡ true
  pub named : LocalsHeld start count locals w.compiler

-- the errors (`fault`, whose contract says more)
pub record OnErrors (s : FunctionState) (e : List ℕ) (s' : FunctionState) (e' : List ℕ) (step : Step) : Type 0 where
  pub acts : (c k n b : List ℕ) → Simulates (machine s c k n b e) (machine s' c k n b e') step

-- what an infix expression does when both sides are there
abbrev pub operated : InfixKind → Token → Step
operated Assigning t w = w
operated (Plain n) t w = compile_operation n t skip skip w
operated (Negated n) t w = let w₁ = compile_operation n t skip skip w in emit_opcode Not t.position w₁
operated (Compound n) t w = compile_operation n t skip skip w
operated Unknown t w = w

-- `standing`: the constant that null and the booleans are
abbrev pub standing_of : ℕ → ℕ → ℕ
standing_of kind value = cond (eqb kind 36) (cond (eqb value 1) TRUE FALSE) NULL

-- `skip`: where the subtree at a place ends, not beyond the end
unfoldable pub skip_c : List ℕ → ℕ → ℕ → ℕ
skip_c w at end = cond (ltb at end) (cond (eqb (span_at w at) 0) (at + 1) (min (at + span_at w at) end)) at

-- how many expressions stand from a place up to the end, n counted before it
pub record Counted (tree : List ℕ) (at end n r : ℕ) : Type 0 where
  pub counts : (es : Expressions) → ExpressionsAt es tree at → at + size_es es ≡ end → r ≡ n + count es

-- `operation_of`: the operation of an infix value between 1 and 18, as `infix_kind` has it
abbrev pub operation_of : ℕ → ℕ
operation_of n =
    cond (eqb n 0) 0
    (cond (ltb n 6) (n - 1)
    (cond (ltb n 11) (n - 6)
    (cond (ltb n 13) OPERATION_EQUAL
    (cond (ltb n 17) (n - 7)
    (cond (eqb n 17) OPERATION_AND OPERATION_OR)))))
