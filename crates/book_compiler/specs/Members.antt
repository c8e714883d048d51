-- What the compilers promise on one memory. Routines of the cycle: of whatever stands at `at` and ends exactly at `end` they do the definition's step
-- Private contracts alone cite this file: whoever reads the promises need not believe it
use Rattle.std.specs.Prelude.{◌≡◌, ℕ, ◌+◌, ◌-◌, ◌%◌, ◌^◌, ◌<◌, true, List}
use Rattle.words.specs.Ast.{Token, Expression, Expressions, Variables, Statement, Statements}
use Rattle.words.specs.Opcode.{to_instruction, ArrayOp, CallOp, InstanceGetOp, IndexGetOp}
use Rattle.words.specs.Record.{kind_at, position_at, value_at}
use Rattle.definition.specs.Uses.{Limits}
use Rattle.definition.specs.Program.{Entries}
use Rattle.definition.specs.Compiler.{Work, next, emit, emit_opcode, skip, infix_kind, compile_expression, compile_expressions}
use Rattle.definition.specs.Compiler.{compile_assign_expression_left_part}
use Rattle.definition.specs.Compiler.{compile_prefix_expression, compile_infix_expression, compile_if_expression, compile_part, compile_no_part}
use Rattle.definition.specs.Compiler.{compile_statement}
use Rattle.definition.specs.Compiler.{compile_statements, compile_variables, compile_bare, compile_valued, compile_for_statement}
use Rattle.tree.specs.At.{Head, Leaf, ExpressionAt, ExpressionsAt, VariablesAt, StatementAt, StatementsAt, size_e, size_es, size_vs, size_s, size_ss}
use Rattle.compiler_laws.specs.InsideFunction.{Counted, operated}
use Rattle.compiler_laws.specs.ForStatements.{loop_start, loop_head, loop_defined, loop_next, loop_name, Around, loop_end}
use Rattle.building.specs.declared.function_state.FunctionState.{FunctionState}
use Rattle.building.specs.RepresentsMachine.{is_open}
use Rattle.book_compiler.specs.declared.statements.LoopEntry.{LoopEntry}
use Rattle.book_compiler.specs.Represents.{Memory, laid, Represents, Simulates, SimulatesInside}

-- the words of a record as its token
abbrev pub token : ℕ → ℕ → ℕ → Token
token position kind value = record { position = position; kind = kind; value = value }

-- `leaf`: an expression without parts, kinds 30 to 36, by the words of its record
pub record CompilesLeaf (kind position value start count : ℕ) (m m' : Memory) : Type 0 where
  pub leaf : (tree : List ℕ) (at : ℕ) → kind ≡ kind_at tree at → position ≡ position_at tree at → value ≡ value_at tree at → kind < 37
      → (e : Expression) → ExpressionAt e tree at → SimulatesInside start count m m' (compile_expression e)

-- `operation`: of an infix value between 1 and 18
pub record Operates (value position : ℕ) (m m' : Memory) : Type 0 where
  pub operates : (t : Token) → t.position ≡ position → 0 < value → value < 19 → Simulates m m' (operated (infix_kind value) t)

-- `finish_expression`: what an expression with a list of n parts does when they are there
pub record Finishes (kind position value n : ℕ) (m m' : Memory) : Type 0 where
  pub array : kind ≡ 37 → Simulates m m' (emit (to_instruction ArrayOp n) position)
  pub prefix : kind ≡ 38 → Simulates m m' (compile_prefix_expression (token position kind value) skip)
  pub call : kind ≡ 44 → Simulates m m' (emit (to_instruction CallOp (n - 1)) position)
  pub instance : kind ≡ 45 → Simulates m m' (emit_opcode InstanceGetOp position)
  pub index : kind ≡ 46 → Simulates m m' (emit_opcode IndexGetOp position)

-- `compile_expression`
pub record CompilesExpression (tree : List ℕ) (at end start count : ℕ) (m m' : Memory) : Type 0 where
  pub meets : (e : Expression) → ExpressionAt e tree at → at + size_e e ≡ end → SimulatesInside start count m m' (compile_expression e)

-- expressions one after the other
pub record CompilesExpressions (tree : List ℕ) (at end start count : ℕ) (m m' : Memory) : Type 0 where
  pub meets : (es : Expressions) → ExpressionsAt es tree at → at + size_es es ≡ end → SimulatesInside start count m m' (compile_expressions es)

-- and how many they are, n counted before them
pub record CompilesList (tree : List ℕ) (at end start count : ℕ) (m m' : Memory) (n r : ℕ) : Type 0 where
  pub meets : CompilesExpressions tree at end start count m m'
  pub counted : Counted tree at end n r

-- `compile_infix_expression`: the sides stand from `at` on; `position` and `value` are the infix's
pub record CompilesInfixExpression (tree : List ℕ) (at end position value start count : ℕ) (m m' : Memory) : Type 0 where
  pub meets : (a b : Expression) (t : Token) → t ≡ token position 39 value → ExpressionAt a tree at → ExpressionAt b tree (at + size_e a)
      → at + size_e a + size_e b ≡ end
      → SimulatesInside start count m m' (compile_infix_expression t (compile_expression a) (compile_expression b) (compile_assign_expression_left_part a t))

-- `compile_if_expression`: the condition and the parts stand from `at` on
pub record CompilesIfExpression (tree : List ℕ) (at end start count : ℕ) (m m' : Memory) : Type 0 where
  pub alone : (c : Expression) (t : Statements) → ExpressionAt c tree at → Head tree (at + size_e c) 43 (1 + size_ss t)
      → StatementsAt t tree (at + size_e c + 1) → at + size_e c + (1 + size_ss t) ≡ end
      → SimulatesInside start count m m' (compile_if_expression (compile_expression c) (compile_part (compile_statements t)) compile_no_part)
  pub other : (c : Expression) (t f : Statements) → ExpressionAt c tree at → Head tree (at + size_e c) 43 (1 + size_ss t)
      → StatementsAt t tree (at + size_e c + 1) → Head tree (at + size_e c + (1 + size_ss t)) 43 (1 + size_ss f)
      → StatementsAt f tree (at + size_e c + (1 + size_ss t) + 1) → at + size_e c + (1 + size_ss t) + (1 + size_ss f) ≡ end
      → SimulatesInside start count m m' (compile_if_expression (compile_expression c) (compile_part (compile_statements t))
      (compile_part (compile_statements f)))

-- `compile_assign_expression_left_part`: the three words are the assignment's
pub record CompilesAssignLeftPart (tree : List ℕ) (at end position value start count : ℕ) (m m' : Memory) : Type 0 where
  pub meets : (e : Expression) (t : Token) → t ≡ token position 39 value → ExpressionAt e tree at → at + size_e e ≡ end
      → SimulatesInside start count m m' (compile_assign_expression_left_part e t)

-- `compile_block`: a part of an if, or none
pub record CompilesBlock (tree : List ℕ) (at end start count : ℕ) (m m' : Memory) : Type 0 where
  pub absent : at ≡ end → SimulatesInside start count m m' compile_no_part
  pub meets : (ss : Statements) → StatementsAt ss tree (at + 1) → at + 1 + size_ss ss ≡ end
      → SimulatesInside start count m m' (compile_part (compile_statements ss))

-- `compile_statement`
pub record CompilesStatement (tree : List ℕ) (at end start count : ℕ) (m m' : Memory) : Type 0 where
  pub meets : (s : Statement) → StatementAt s tree at → at + size_s s ≡ end → SimulatesInside start count m m' (compile_statement s)

-- statements one after the other
pub record CompilesStatements (tree : List ℕ) (at end start count : ℕ) (m m' : Memory) : Type 0 where
  pub meets : (ss : Statements) → StatementsAt ss tree at → at + size_ss ss ≡ end → SimulatesInside start count m m' (compile_statements ss)

-- a variable without or with a value, and variables one after the other
pub record CompilesVariable (tree : List ℕ) (at end start count : ℕ) (m m' : Memory) : Type 0 where
  pub bare : (t : Token) → Leaf tree at 40 t → Head tree (at + 1) 49 1 → at + 2 ≡ end → SimulatesInside start count m m' (compile_bare 1 t)
  pub valued : (t : Token) (e : Expression) → Leaf tree at 40 t → ExpressionAt e tree (at + 1) → at + 1 + size_e e ≡ end
      → SimulatesInside start count m m' (compile_valued t (compile_expression e))

pub record CompilesVariables (tree : List ℕ) (at end start count : ℕ) (m m' : Memory) : Type 0 where
  pub meets : (vs : Variables) → VariablesAt vs tree at → at + size_vs vs ≡ end → SimulatesInside start count m m' (compile_variables vs)

-- `compile_for_statement`: the name, the expression and the statements stand from `at` on; `position` is the for's
pub record CompilesForStatement (tree : List ℕ) (at end position start count : ℕ) (m m' : Memory) : Type 0 where
  pub meets : (t n : Token) (e : Expression) (ss : Statements) → t.position ≡ position → Leaf tree at 40 n → ExpressionAt e tree (at + 1)
      → StatementsAt ss tree (at + 1 + size_e e) → at + 1 + size_e e + size_ss ss ≡ end
      → SimulatesInside start count m m' (compile_for_statement t n (compile_expression e) (compile_statements ss))

-- the pieces of a for statement: the definition's step is cut where `compile_for_statement` calls. `start_loop` has no part of the memory
pub record LoopStarts (s s' : FunctionState) : Type 0 where
  pub acts : (a l : List ℕ) → Simulates (laid s a l) (laid s' a l) loop_start

-- `begin_loop`: numbers that were remembered matter only where nothing is full, and of a local's number the low 64 bits
pub record LoopHead (local position : ℕ) (m m' : Memory) : Type 0 where
  pub acts : (x : ℕ) → (m.state.full ≡ 0 → local ≡ x % 2 ^ 64) → Simulates m m' (loop_head x position)

-- `name_loop`: what it does to one work, and the two places that it remembers
pub record LoopNamed (x : ℕ) (t n : Token) (κ : Limits) (E : Entries) (others : ℕ → List ℕ) (r : LoopEntry) (m' : Memory) (w : Work) : Type 0 where
  pub represents : Represents κ E others m' (loop_name x t n w)
  pub first : m'.state.full ≡ 0 → r.first ≡ next (loop_defined n w)
  pub exit : m'.state.full ≡ 0 → r.exit ≡ next (loop_next x t n w)

pub record LoopName (position text textPosition local : ℕ) (r : LoopEntry) (m m' : Memory) : Type 0 where
  pub names : (x : ℕ) → (m.state.full ≡ 0 → local ≡ x % 2 ^ 64) → (t n : Token) → t.position ≡ position → n.value ≡ text → n.position ≡ textPosition
      → (κ : Limits) (E : Entries) (others : ℕ → List ℕ) (w : Work) → is_open w.function.scopes ≡ true → Represents κ E others m w
      → LoopNamed x t n κ E others r m' w

-- `end_loop`
pub record LoopEnd (around : FunctionState) (first exit : ℕ) (m m' : Memory) : Type 0 where
  pub ends : (x first' exit' : ℕ) (κ : Limits) (E : Entries) (others : ℕ → List ℕ) (w : Work) → (m.state.full ≡ 0 → Around around x w)
      → (m.state.full ≡ 0 → first ≡ first') → (m.state.full ≡ 0 → exit ≡ exit') → Represents κ E others m w
      → Represents κ E others m' (loop_end (x + 1) first' exit' w)
