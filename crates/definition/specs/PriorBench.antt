-- A bundle onto a program that stands (`OntoStanding`): indices go on from what stood, what stood stays, and an include reads the standing public names.
-- A row has the words of a bundle and what the call comes to on them. All are proved by computing, in proofs/AllStandingRows.antt
use Rattle.std.specs.Prelude.{ℕ, ◌≡◌, false, List, [], ◌∷◌, ◌++◌, get_or, replicate}
use Rattle.words.specs.Object.{constant_of, default_constants, model_kind, function_kind}
use Rattle.words.specs.Opcode.{to_instruction, word, PushConstant, ReturnOp, ContextGet}
use Rattle.definition.specs.Prior.{Entries, Prior}
use Rattle.definition.specs.Book.{Context}
use Rattle.definition.specs.Program.{tables_of}
use Rattle.definition.specs.Answer.{Answer, Delivery, Refusal, answer_from}
use Rattle.definition.specs.Bench.{r, bundle, ample, run}

-- an entry of area 1 at a position
abbrev pub code : ℕ → ℕ → ℕ → List ℕ
code opcode operand position = word (to_instruction opcode operand) ∷ position ∷ []

-- what stands: book 2 with the public function 3, whose code is the last two of three instructions, and the model 4 with the properties 6 and 5
abbrev pub stood : Prior
stood = record {
  code = code ReturnOp 0 7 ∷ code PushConstant 0 7 ∷ code ReturnOp 0 7 ∷ [];
  functions = (0 ∷ 0 ∷ 0 ∷ 0 ∷ 1 ∷ 2 ∷ 0 ∷ 3 ∷ []) ∷ [];
  models = (0 ∷ 4 ∷ []) ∷ [];
  properties = (0 ∷ 6 ∷ []) ∷ (0 ∷ 5 ∷ []) ∷ [];
  locals = (0 ∷ 4 ∷ 1 ∷ 4 ∷ []) ∷ (0 ∷ 3 ∷ 1 ∷ 3 ∷ []) ∷ [];
  publics = (0 ∷ 3 ∷ 3 ∷ []) ∷ [];
  books = (2 ∷ []) ∷ [];
}

-- with the constants 3, function 0, and 4, model 0, which is marked, and a method of the model
abbrev pub standing : Context
standing = record {
  pool = record { constants = default_constants ++ (constant_of function_kind 0 ∷ constant_of model_kind 0 ∷ []); globals = 4 ∷ []; local_count = 2 };
  prior = stood;
  strict = false;
  program = record { models = []; methods = record { model = 0; name = 5; function = 0 } ∷ []; functions = []; entry_point = 0 };
  locals = record { values = []; names = [] };
  assemblies = [];
}

-- an area's entries after a delivery; a refusal's row and place
unfoldable pub onto : ℕ → List ℕ → Entries
unfolding run
onto area w = table_of (answer_from standing w ample)
  where
    table_of : Answer → Entries
    table_of (Delivery c) = get_or (tables_of c) area []
    table_of (Refusal n p es) = []

unfoldable pub refused_onto : List ℕ → List ℕ → List ℕ
unfolding run
refused_onto lengths w = row_of (answer_from standing w lengths)
  where
    row_of : Answer → List ℕ
    row_of (Delivery c) = []
    row_of (Refusal n p es) = n ∷ p ∷ []

-- book 7: `include 2` of the name 3 as 8, and of 4, which is not public, as 9; the public model 10 with the property 11; the function 12, which reads 8; and
-- the function 13 of the model
abbrev pub book7 : List ℕ
book7 =
    bundle (r 1 14 0 7
    ∷ r 11 5 0 2 ∷ r 40 1 0 3 ∷ r 40 1 0 8 ∷ r 40 1 0 4 ∷ r 40 1 0 9
    ∷ r 13 2 0 10 ∷ r 40 1 0 11
    ∷ r 14 3 0 12 ∷ r 25 2 0 0 ∷ r 30 1 0 8
    ∷ r 16 3 0 10 ∷ r 14 2 0 13 ∷ r 21 1 0 0
    ∷ [])

pub record OntoStanding : Type 0 where
  -- 1: the read is of context local 2, the third
  pub code_added : onto 1 book7 ≡ stood.code ++ (code ContextGet 2 0 ∷ code ReturnOp 0 0 ∷ code PushConstant 0 0 ∷ code ReturnOp 0 0 ∷ [])
  -- 2: the mark that stood stays; the model is model 1, the function function 1
  pub constants_added : onto 2 book7
      ≡ (0 ∷ 0 ∷ 0 ∷ []) ∷ (1 ∷ 1 ∷ 0 ∷ []) ∷ (1 ∷ 0 ∷ 0 ∷ []) ∷ (function_kind ∷ 0 ∷ 0 ∷ []) ∷ (model_kind ∷ 0 ∷ 1 ∷ []) ∷ (model_kind ∷ 1 ∷ 0 ∷ [])
      ∷ (function_kind ∷ 1 ∷ 0 ∷ []) ∷ []
  -- 3: the code starts behind all three instructions
  pub functions_added : onto 3 book7 ≡ stood.functions ++ ((0 ∷ 0 ∷ 0 ∷ 0 ∷ 3 ∷ 2 ∷ 1 ∷ 12 ∷ []) ∷ (0 ∷ 0 ∷ 0 ∷ 0 ∷ 5 ∷ 2 ∷ 1 ∷ 13 ∷ []) ∷ [])
  -- 4 and 5: a model of book 1; a property of model 1
  pub models_added : onto 4 book7 ≡ stood.models ++ ((1 ∷ 10 ∷ []) ∷ [])
  pub properties_added : onto 5 book7 ≡ stood.properties ++ ((1 ∷ 11 ∷ []) ∷ [])
  -- 6: of model 1, function 2
  pub methods_added : onto 6 book7 ≡ (0 ∷ 5 ∷ 0 ∷ []) ∷ (1 ∷ 13 ∷ 2 ∷ []) ∷ []
  -- 7: the name that is included has the standing constant 3, the one that is not public no value
  pub locals_added : onto 7 book7
      ≡ stood.locals ++ ((1 ∷ 8 ∷ 1 ∷ 3 ∷ []) ∷ (1 ∷ 9 ∷ 0 ∷ 0 ∷ []) ∷ (1 ∷ 10 ∷ 1 ∷ 5 ∷ []) ∷ (1 ∷ 12 ∷ 1 ∷ 6 ∷ []) ∷ [])
  -- 8 and 12
  pub publics_added : onto 8 book7 ≡ stood.publics ++ ((1 ∷ 10 ∷ 5 ∷ []) ∷ [])
  pub books_added : onto 12 book7 ≡ stood.books ++ ((7 ∷ []) ∷ [])
  -- a book that stands is passed over where the bundle has it again
  pub passed_over : onto 3 (bundle (r 1 2 0 2 ∷ r 14 1 0 9 ∷ [])) ≡ stood.functions
  -- row 9 counts what stood: a function of two instructions is one too many for four entries of area 1
  pub full : refused_onto (0 ∷ 8 ∷ replicate 11 100) (bundle (r 1 2 0 7 ∷ r 14 1 0 9 ∷ [])) ≡ 9 ∷ 1 ∷ []
