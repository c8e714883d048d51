-- The tree rules of 01, 'The tree', as two tables. A slot is a place among the children of a record: which kinds may stand there, the slot after
-- it, and whether a child is due. A kind's rule is the slot of its first child, whether it has a position, its least and its greatest value
use Rattle.std.specs.Prelude.{ℕ, Bool, true, false, cond, ◌&&◌, ◌||◌, List, [], ◌∷◌, get_or, eqb, leb}
use Rattle.words.specs.Record.{most_text, in_place}

pub record Slot : Type 0 where
  pub kinds : List ℕ
  pub next : ℕ
  pub due : Bool

pub record Rule : Type 0 where
  pub first : ℕ
  pub position : Bool
  pub least : ℕ
  pub most : ℕ

abbrev pub slot : List ℕ → ℕ → Bool → Slot
slot kinds next due = record { kinds = kinds; next = next; due = due }

abbrev pub rule : ℕ → Bool → ℕ → ℕ → Rule
rule first position least most = record { first = first; position = position; least = least; most = most }

-- kinds 10 to 17: 'document (file): definitions'
abbrev pub definitions : List ℕ
definitions = 10 ∷ 11 ∷ 12 ∷ 13 ∷ 14 ∷ 15 ∷ 16 ∷ 17 ∷ []

-- 'pairs of 40 and one of 30, 32 to 36, 47, 49'
abbrev pub constants : List ℕ
constants = 30 ∷ 32 ∷ 33 ∷ 34 ∷ 35 ∷ 36 ∷ 47 ∷ 49 ∷ []

-- kinds 20 to 25
abbrev pub statements : List ℕ
statements = 20 ∷ 21 ∷ 22 ∷ 23 ∷ 24 ∷ 25 ∷ []

-- kinds 30 to 39, 42, 44 to 46
abbrev pub expressions : List ℕ
expressions = 30 ∷ 31 ∷ 32 ∷ 33 ∷ 34 ∷ 35 ∷ 36 ∷ 37 ∷ 38 ∷ 39 ∷ 42 ∷ 44 ∷ 45 ∷ 46 ∷ []

abbrev pub nothing : Slot
nothing = slot [] 0 false

-- 01, 'Children in order', read as in docs/DECISIONS.md, 2. Pairs repeat, none at all is allowed; a child is due in the middle of a pair and where 01 names one
abbrev pub slots : List Slot
slots =
    nothing ∷  -- 0: nothing more
    slot (1 ∷ []) 1 false ∷  -- 1: documents
    slot definitions 2 false ∷  -- 2: definitions
    slot (40 ∷ []) 4 false ∷  -- 3: local definition: a name, or no more
    slot constants 3 true ∷  -- 4: its value
    slot (40 ∷ []) 6 false ∷  -- 5: include: a public name, or no more
    slot (40 ∷ []) 5 true ∷  -- 6: its alias
    slot (40 ∷ []) 7 false ∷  -- 7: names
    slot (40 ∷ 41 ∷ statements) 9 false ∷  -- 8: parameters, then statements
    slot statements 9 false ∷  -- 9: statements
    slot (14 ∷ []) 10 false ∷  -- 10: functions
    slot (40 ∷ []) 12 true ∷  -- 11: apply: the source
    slot (40 ∷ []) 0 true ∷  -- 12: the target
    slot (40 ∷ []) 14 false ∷  -- 13: local statement: a name, or no more
    slot (49 ∷ expressions) 13 true ∷  -- 14: its value
    slot (40 ∷ []) 16 true ∷  -- 15: for: the name
    slot expressions 9 true ∷  -- 16: the enumerable
    slot expressions 0 true ∷  -- 17: one expression
    slot expressions 18 false ∷  -- 18: expressions
    slot expressions 17 true ∷  -- 19: the first of two expressions
    slot expressions 21 true ∷  -- 20: if: the condition
    slot (43 ∷ []) 22 true ∷  -- 21: the true part
    slot (43 ∷ []) 0 false ∷  -- 22: the false part, or no more
    slot expressions 18 true ∷  -- 23: call: the function
    []

-- a kind has a position, or 0 in its place
abbrev pub anywhere : Bool
anywhere = true

abbrev pub nowhere : Bool
nowhere = false

-- the greatest text
abbrev pub text : ℕ
text = most_text

-- the greatest word: two's complement of 33, bits of 34
abbrev pub anything : ℕ
anything = 18446744073709551615

abbrev pub unused : Rule
unused = rule 0 nowhere 0 0

-- by kind. 'Kinds 1, 10, 17, 20, 25, 42, 43, 49 have position 0'; values as in docs/DECISIONS.md, 3, 'unused values are 0'
abbrev pub rules : List Rule
rules =
    unused ∷
    rule 2 nowhere 1 text ∷  -- 1 document
    unused ∷
    unused ∷
    unused ∷
    unused ∷
    unused ∷
    unused ∷
    unused ∷
    unused ∷
    rule 3 nowhere 0 0 ∷  -- 10 local definition
    rule 5 anywhere 1 text ∷  -- 11 include
    rule 7 anywhere 1 text ∷  -- 12 model
    rule 7 anywhere 1 text ∷  -- 13 public model
    rule 8 anywhere 1 text ∷  -- 14 function
    rule 8 anywhere 1 text ∷  -- 15 public function
    rule 10 anywhere 1 text ∷  -- 16 implement
    rule 11 nowhere 0 0 ∷  -- 17 apply
    unused ∷
    unused ∷
    rule 13 nowhere 0 0 ∷  -- 20 local statement
    rule 0 anywhere 0 0 ∷  -- 21 return
    rule 0 anywhere 0 0 ∷  -- 22 break
    rule 0 anywhere 0 0 ∷  -- 23 rescue
    rule 15 anywhere 0 0 ∷  -- 24 for
    rule 17 nowhere 0 0 ∷  -- 25 expression
    unused ∷
    unused ∷
    unused ∷
    unused ∷
    rule 0 anywhere 1 text ∷  -- 30 identifier
    rule 0 anywhere 0 0 ∷  -- 31 this
    rule 0 anywhere 0 0 ∷  -- 32 null
    rule 0 anywhere 0 anything ∷  -- 33 integer
    rule 0 anywhere 0 anything ∷  -- 34 float
    rule 0 anywhere 1 text ∷  -- 35 string
    rule 0 anywhere 0 1 ∷  -- 36 boolean
    rule 18 anywhere 0 0 ∷  -- 37 array
    rule 17 anywhere 0 2 ∷  -- 38 prefix
    rule 19 anywhere 0 19 ∷  -- 39 infix
    rule 0 anywhere 1 text ∷  -- 40 name
    rule 0 anywhere 1 text ∷  -- 41 this parameter
    rule 20 nowhere 0 0 ∷  -- 42 if
    rule 9 nowhere 0 0 ∷  -- 43 block
    rule 23 anywhere 0 0 ∷  -- 44 call
    rule 19 anywhere 0 0 ∷  -- 45 instance get
    rule 19 anywhere 0 0 ∷  -- 46 index get
    rule 0 anywhere 0 0 ∷  -- 47 other token
    unused ∷
    rule 0 nowhere 0 0 ∷  -- 49 absent
    []

abbrev pub slot_of : ℕ → Slot
slot_of s = get_or slots s nothing

abbrev pub rule_of : ℕ → Rule
rule_of k = get_or rules k unused

abbrev pub has : ℕ → List ℕ → Bool
has k [] = false
has k (x ∷ xs) = eqb k x || has k xs

-- 'its kind may not stand at its place'
unfoldable pub may_stand : ℕ → ℕ → Bool
may_stand s k = has k (slot_of s).kinds

-- 'parameters 40 or 41, then statements': after a parameter parameters go on
unfoldable pub goes_on : ℕ → ℕ → Bool
goes_on s k = eqb s 8 && (eqb k 40 || eqb k 41)

-- the slot after a child of a kind, which need not be one that may stand there (docs/DECISIONS.md, 1)
unfoldable pub slot_after : ℕ → ℕ → ℕ
slot_after s k = cond (goes_on s k) s (slot_of s).next

-- 'another is due'
unfoldable pub is_due : ℕ → Bool
is_due s = (slot_of s).due

unfoldable pub first_slot : ℕ → ℕ
first_slot k = (rule_of k).first

-- a position of a kind that has one, or has none
unfoldable pub may_be_at : Bool → ℕ → Bool
may_be_at placed p = cond placed (in_place p) (eqb p 0)

-- 'its position or value is out of range'; 2026-06: 'row 3 for a position above the new limit'
unfoldable pub in_range : ℕ → ℕ → ℕ → Bool
in_range k p v = may_be_at (rule_of k).position p && (leb (rule_of k).least v && leb v (rule_of k).most)
