-- Rows 2 to 4 on small books, the tree of the listing's book in 01, and its levels: each by computing. Assumes nothing.
use Prim.Native.Nat.{ℕ, zero, suc, ◌+◌}
use mathlib.Core.Path.{◌≡◌, refl}
use mathlib.Core.List.{List, [], ◌∷◌, ◌++◌}
use Rattle.std.specs.Prelude.{Result, Ok}
use Rattle.words.specs.declared.row.Row.TheVariants.{BadLength, BadShape, TooDeep}
use Rattle.words.specs.declared.row.Refused.{Refused}
use Rattle.words.specs.Record.{field_of, pack_position, most_place, in_place}
use Rattle.words.specs.Ast.{Token, Identifier, If, Return, Expr, ∅ₛ, ◌∷ₛ◌, PublicFunction, Document}
use Rattle.tree.specs.Rules.{may_stand, slot_after, is_due, first_slot, goes_on, may_be_at, in_range}
use Rattle.tree.specs.Check.{shape_of, walk_by, head_at, sound_at, this_after, same_this, lacks_by, within_of, refused}
use Rattle.tree.specs.Reading.{documents_of, document_of, definition_of, list_of, parameters_of, expression_of, pairs_of}
use Rattle.tree.specs.At.{run_depth, depth_doc, depth_d, depth_e}

answer : List ℕ → Result (Unit {0}) Refused
unfolding shape_of walk_by head_at sound_at this_after same_this lacks_by within_of field_of may_stand slot_after is_due first_slot goes_on in_range may_be_at
    in_place
answer w = shape_of w

infixr 40 ◌·◌
abbrev ◌·◌ : List ℕ → List ℕ → List ℕ
a · b = a ++ b

abbrev rec : ℕ → ℕ → ℕ → ℕ → List ℕ
rec k s p v = k ∷ s ∷ p ∷ v ∷ []

empty : answer [] ≡ refused BadShape 0
unfolding answer
empty = refl

tail : answer (1 ∷ 1 ∷ 0 ∷ 2 ∷ 7 ∷ []) ≡ refused BadLength 0
unfolding answer
tail = refl

alone : answer (rec 1 1 0 2) ≡ Ok tt
unfolding answer
alone = refl

-- the listing's book: file 2 holds f (text 3) with parameter x (text 4): `if x return end`
book : List ℕ
book =
    rec 1 8 0 2 · rec 15 7 (pack_position 1 10) 3 · rec 40 1 0 4 · rec 25 5 0 0 · rec 42 4 0 0 · rec 30 1 (pack_position 2 6) 4 · rec 43 2 0 0
    · rec 21 1 (pack_position 3 5) 0

book_fine : answer book ≡ Ok tt
unfolding answer book
book_fine = refl

read : List ℕ → List Document
unfolding documents_of document_of definition_of list_of pairs_of parameters_of expression_of field_of
read w = documents_of w

abbrev tok : ℕ → ℕ → ℕ → Token
tok p k v = record { position = p; kind = k; value = v }

book_read : read book ≡ record {
  filename = 2;
  definitions = PublicFunction (record {
    name = tok (pack_position 1 10) 15 3;
    parameters = tok 0 40 4 ∷ [];
    body = Expr (If (Identifier (tok (pack_position 2 6) 30 4)) (Return (tok (pack_position 3 5) 21 0) ∷ₛ ∅ₛ)) ∷ₛ ∅ₛ;
  }) ∷ [];
} ∷ []
unfolding read book
book_read = refl

-- an infix with one child, whose value is out of range: the infix is at fault
due : answer (rec 1 5 0 2 · rec 14 4 0 3 · rec 25 3 0 0 · rec 39 2 0 1 · rec 30 1 0 0) ≡ refused BadShape 3
unfolding answer
due = refl

-- the same with a child of a wrong kind: it fills the infix while another is due
due_wrong : answer (rec 1 5 0 2 · rec 14 4 0 3 · rec 25 3 0 0 · rec 39 2 0 1 · rec 40 1 0 9) ≡ refused BadShape 3
unfolding answer
due_wrong = refl

-- a child whose span passes the end stops the hop: the child is at fault
past : answer (rec 1 5 0 2 · rec 14 4 0 3 · rec 25 3 0 0 · rec 39 2 0 1 · rec 30 2 0 5) ≡ refused BadShape 4
unfolding answer
past = refl

-- three expressions in an infix: the third is at fault
many : answer (rec 1 7 0 2 · rec 14 6 0 3 · rec 25 5 0 0 · rec 39 4 0 1 · rec 30 1 0 5 · rec 30 1 0 5 · rec 30 1 0 5) ≡ refused BadShape 6
unfolding answer
many = refl

-- `this` parameters of two numbers, in two books
this : answer (rec 1 3 0 2 · rec 14 2 0 3 · rec 41 1 0 9 · rec 1 3 0 4 · rec 14 2 0 3 · rec 41 1 0 8) ≡ refused BadShape 5
unfolding answer
this = refl

this_same : answer (rec 1 3 0 2 · rec 14 2 0 3 · rec 41 1 0 9 · rec 1 3 0 4 · rec 14 2 0 3 · rec 41 1 0 9) ≡ Ok tt
unfolding answer
this_same = refl

-- a model at a line and a column: each half has its limit, whatever the other is
abbrev model_at : ℕ → ℕ → List ℕ
model_at line column = rec 1 2 0 2 · rec 12 1 (pack_position line column) 3

place_most : answer (model_at most_place most_place) ≡ Ok tt
unfolding answer
place_most = refl

line_far : answer (model_at 100000000 0) ≡ refused BadShape 1
unfolding answer
line_far = refl

column_far : answer (model_at 0 100000000) ≡ refused BadShape 1
unfolding answer
column_far = refl

-- line 0, column 2^32 - 1: as a number below the greatest position
column_farthest : answer (model_at 0 4294967295) ≡ refused BadShape 1
unfolding answer
column_farthest = refl

-- a value at record 1, a position at record 2: the first of them
far_later : answer (rec 1 3 0 2 · rec 14 2 0 0 · rec 21 1 100000000 0) ≡ refused BadShape 1
unfolding answer
far_later = refl

-- a name after a statement
late : answer (rec 1 4 0 2 · rec 14 3 0 3 · rec 21 1 0 0 · rec 40 1 0 9) ≡ refused BadShape 3
unfolding answer
late = refl

-- n arrays, one in the other, in a statement: the innermost, of value v, is at level n + 3
nest : ℕ → ℕ → List ℕ
nest zero v = []
nest (suc zero) v = rec 37 1 0 v
nest (suc (suc n)) v = rec 37 (suc (suc n)) 0 0 · nest (suc n) v

deep : ℕ → ℕ → List ℕ
unfolding nest
deep n v = rec 1 (3 + n) 0 2 · rec 14 (2 + n) 0 3 · rec 25 (1 + n) 0 0 · nest n v

level_64 : answer (deep 61 0) ≡ Ok tt
unfolding answer deep
level_64 = refl

level_65 : answer (deep 62 0) ≡ refused TooDeep 64
unfolding answer deep
level_65 = refl

-- at one record row 3 comes before row 4
level_65_bad : answer (deep 62 1) ≡ refused BadShape 64
unfolding answer deep
level_65_bad = refl

-- levels are counted as 01 does: the innermost array is the last of 64, a parameter is at level 3
levels : List Document → ℕ
unfolding run_depth depth_d depth_e
levels ds = run_depth depth_doc ds

levels_64 : levels (read (deep 61 0)) ≡ 64
unfolding levels read deep
levels_64 = refl

levels_parameter : levels (read (rec 1 3 0 2 · rec 14 2 0 3 · rec 40 1 0 9)) ≡ 3
unfolding levels read
levels_parameter = refl

-- kinds 40 and 41 in any order, then a statement; a local definition, a model and an include without pairs
parameters : answer (rec 1 6 0 2 · rec 14 5 0 3 · rec 40 1 0 9 · rec 41 1 0 8 · rec 40 1 0 7 · rec 21 1 0 0) ≡ Ok tt
unfolding answer
parameters = refl

no_pairs : answer (rec 1 4 0 2 · rec 10 1 0 0 · rec 12 1 0 5 · rec 11 1 0 5) ≡ Ok tt
unfolding answer
no_pairs = refl

-- a pair without its value: the local definition is at fault
half : answer (rec 1 3 0 2 · rec 10 2 0 0 · rec 40 1 0 9) ≡ refused BadShape 1
unfolding answer
half = refl
