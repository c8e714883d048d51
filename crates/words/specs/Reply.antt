-- The reply of the compile call (01, 'Replies of the compiler'): a refusal's number and place with every total 0, or 0, 0 and the totals
use Rattle.std.specs.Prelude.{ℕ, List, [], ◌∷◌, get_or}
use Rattle.words.specs.declared.reply.CompileError.{CompileError}
use Rattle.words.specs.declared.reply.CompileError.TheVariants as error
use Rattle.words.specs.declared.reply.Totals.{Totals}
use Rattle.words.specs.declared.reply.Reply.{Reply}

-- the number of each error, in the order of 01's list of the Rust's messages
abbrev pub number_of_error : CompileError → ℕ
number_of_error error.VariableExists = 1
number_of_error error.CanNotAssign = 2
number_of_error error.UnknownOperation = 3
number_of_error error.RescueInLayer = 4
number_of_error error.ConstantOnly = 5
number_of_error error.PropertyExists = 6
number_of_error error.ParameterExists = 7
number_of_error error.InstanceFunction = 8
number_of_error error.NotAModel = 9
number_of_error error.ModelNotFound = 10
number_of_error error.Ring = 11

abbrev pub no_totals : Totals
no_totals =
    record {
      code = 0;
      constants = 0;
      functions = 0;
      models = 0;
      properties = 0;
      methods = 0;
      context_locals = 0;
      public_names = 0;
      scope_names = 0;
      breaks = 0;
      errors = 0;
      books = 0;
      entry_point = 0;
      global_dependencies = 0;
      bundles = 0;
    }

-- a row's number and place
abbrev pub refusal : ℕ → ℕ → Reply
refusal n p = record { number = n; place = p; totals = no_totals }

-- no refusal
abbrev pub delivery : Totals → Reply
delivery t = record { number = 0; place = 0; totals = t }

-- the totals by area number; no area has number 0
abbrev pub area_totals : Totals → List ℕ
area_totals t =
    0 ∷ t.code ∷ t.constants ∷ t.functions ∷ t.models ∷ t.properties ∷ t.methods ∷ t.context_locals ∷ t.public_names
    ∷ t.scope_names ∷ t.breaks ∷ t.errors ∷ t.books ∷ []

-- the total of an area by its number; 0 for a number that no area has
abbrev pub total_of : Totals → ℕ → ℕ
total_of t area = get_or (area_totals t) area 0
