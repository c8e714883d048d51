-- `to_program`, as the twelve areas keep it: the entries of each area, word by word (01, 'Replies of the compiler'; the words of an entry are those of
-- `Areas` in the words layer). Areas 9 and 10 are empty then, and area 11 holds errors only after a refusal
use Rattle.std.specs.Prelude.{ℕ, ◌+◌, ◌-◌, Bool, true, false, List, [], ◌∷◌, ◌++◌, length, replicate}
use Rattle.std.proofs.Math.Option.{Option, none, some}
use Rattle.words.specs.Opcode.{Instruction, word}
use Rattle.words.specs.Object.{Constant}
use Rattle.definition.specs.FunctionState.{Entry, find_name}
use Rattle.definition.specs.Compiler.{Error}
pub use Rattle.definition.specs.Prior.{Entries}
use Rattle.definition.specs.Book.{Function, Model, Method, Assembly, Context, has_text}

abbrev pub bit : Bool → ℕ
bit true = 1
bit false = 0

-- all of the entries that each of a list gives, with its index from i
abbrev pub entries_from : {A : Type 0} → (ℕ → A → Entries) → ℕ → List A → Entries
entries_from f i [] = []
entries_from f i (x ∷ xs) = f i x ++ entries_from f (i + 1) xs

-- 1: an instruction and its position
abbrev pub code_entries : List Instruction → List ℕ → Entries
code_entries [] ps = []
code_entries (x ∷ xs) [] = []
code_entries (x ∷ xs) (p ∷ ps) = (word x ∷ p ∷ []) ∷ code_entries xs ps

abbrev pub function_code : ℕ → Function → Entries
function_code i f = code_entries f.state.code.instructions f.state.code.positions

-- 2: a constant and its global mark
abbrev pub constant_entry : List ℕ → ℕ → Constant → Entries
constant_entry globals i c = (c.kind ∷ c.value ∷ bit (has_text i globals) ∷ []) ∷ []

-- 3: a function whose code starts at an entry of area 1
abbrev pub function_entry : ℕ → Function → List ℕ
function_entry start f =
    let h = f.state.header in
    h.parameter_count ∷ h.local_count ∷ h.rescue_position ∷ bit h.is_instance ∷ start ∷ length f.state.code.instructions ∷ f.file ∷ f.name ∷ []

abbrev pub function_entries : ℕ → List Function → Entries
function_entries start [] = []
function_entries start (f ∷ fs) = function_entry start f ∷ function_entries (start + length f.state.code.instructions) fs

-- 4 and 5: a model, and its properties
abbrev pub model_entry : ℕ → Model → Entries
model_entry i m = (m.file ∷ m.name ∷ []) ∷ []

abbrev pub property_entries : ℕ → List ℕ → Entries
property_entries i [] = []
property_entries i (n ∷ ns) = (i ∷ n ∷ []) ∷ property_entries i ns

abbrev pub model_properties : ℕ → Model → Entries
model_properties i m = property_entries i m.properties

-- 6: a method
abbrev pub method_entry : ℕ → Method → Entries
method_entry i m = (m.model ∷ m.name ∷ m.function ∷ []) ∷ []

-- 7: a context local: its book, its name, and its value if it has one
abbrev pub local_words : Option ℕ → ℕ → ℕ → List ℕ
local_words none file name = file ∷ name ∷ 0 ∷ 0 ∷ []
local_words (some c) file name = file ∷ name ∷ 1 ∷ c ∷ []

abbrev pub local_entry : List Entry → ℕ → Entry → Entries
local_entry values i e = local_words (find_name i values) e.index e.name ∷ []

-- 8: a book's public names
abbrev pub public_entries : ℕ → List Entry → Entries
public_entries file [] = []
public_entries file (e ∷ es) = (file ∷ e.name ∷ e.index ∷ []) ∷ public_entries file es

abbrev pub assembly_publics : ℕ → Assembly → Entries
assembly_publics i a = public_entries a.index a.publics

-- 11: an error
abbrev pub error_entry : ℕ → Error → Entries
error_entry i e = (e.number ∷ e.token.position ∷ e.token.kind ∷ e.token.value ∷ []) ∷ []

-- 12: a book
abbrev pub book_entry : ℕ → Assembly → Entries
book_entry i a = (a.filename ∷ []) ∷ []

-- the entries of an area: those that stood before a bundle, then those added
abbrev pub code_table : Context → Entries
code_table c = c.prior.code ++ entries_from function_code 0 c.program.functions

abbrev pub constant_table : Context → Entries
constant_table c = entries_from (constant_entry c.pool.globals) 0 c.pool.constants

abbrev pub function_table : Context → Entries
function_table c = c.prior.functions ++ function_entries (length c.prior.code) c.program.functions

abbrev pub model_table : Context → Entries
model_table c = c.prior.models ++ entries_from model_entry 0 c.program.models

abbrev pub property_table : Context → Entries
property_table c = c.prior.properties ++ entries_from model_properties (length c.prior.models) c.program.models

abbrev pub method_table : Context → Entries
method_table c = entries_from method_entry 0 c.program.methods

abbrev pub local_table : Context → Entries
local_table c = c.prior.locals ++ entries_from (local_entry c.locals.values) (length c.prior.locals) c.locals.names

abbrev pub public_table : Context → Entries
public_table c = c.prior.publics ++ entries_from assembly_publics 0 c.assemblies

abbrev pub book_table : Context → Entries
book_table c = c.prior.books ++ entries_from book_entry 0 c.assemblies

-- by area from 1
unfoldable pub tables_of : Context → List Entries
tables_of c =
    [] ∷ code_table c ∷ constant_table c ∷ function_table c ∷ model_table c ∷ property_table c ∷ method_table c ∷ local_table c ∷ public_table c ∷ [] ∷ [] ∷ []
    ∷ book_table c ∷ []

-- after a refusal: the errors alone
unfoldable pub error_tables : List Error → List Entries
error_tables es = [] ∷ [] ∷ [] ∷ [] ∷ [] ∷ [] ∷ [] ∷ [] ∷ [] ∷ [] ∷ [] ∷ entries_from error_entry 0 es ∷ [] ∷ []

-- the number of marked constants: those whose number stands in global_dependencies
abbrev pub global_dependencies : List ℕ → ℕ → List Constant → ℕ
global_dependencies globals i [] = 0
global_dependencies globals i (c ∷ cs) = bit (has_text i globals) + global_dependencies globals (i + 1) cs

-- the words of entries, one entry after the other
abbrev pub flat : Entries → List ℕ
flat [] = []
flat (e ∷ es) = e ++ flat es

-- an area of n words: the entries, then zeros
abbrev pub filled : ℕ → Entries → List ℕ
filled n es = flat es ++ replicate (n - length (flat es)) 0

abbrev pub filled_all : List ℕ → List Entries → List (List ℕ)
filled_all [] ts = []
filled_all (n ∷ ns) [] = []
filled_all (n ∷ ns) (t ∷ ts) = filled n t ∷ filled_all ns ts
