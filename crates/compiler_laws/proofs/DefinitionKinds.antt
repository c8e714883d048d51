-- What a definition leaves of a book as it was, of whichever kind it is. Assumes nothing.
use Rattle.words.specs.Ast.{Definition, LocalDefinition, IncludeDefinition, ModelDefinition, PublicModelDefinition, PlainFunction, PublicFunction}
use Rattle.words.specs.Ast.{ImplementDefinition, ApplyDefinition}
use Rattle.definition.specs.Book.{compile_definition, compile_model_definition, compile_function_definition}
use Rattle.compiler_laws.proofs.UnchangedByBooks.{Unchanged, unchanged_trans, unchanged_local_definition, unchanged_include_or_row_11}
use Rattle.compiler_laws.proofs.UnchangedByModels.{unchanged_model_definition, unchanged_publish, unchanged_apply}
use Rattle.compiler_laws.proofs.AddedFunctions.{unchanged_function}
use Rattle.compiler_laws.proofs.ImplementedMethods.{unchanged_implement}

-- no definition changes the books put away
pub unchanged_definition : (d : Definition) → Unchanged (compile_definition d)
unfolding compile_definition
unchanged_definition (LocalDefinition bs) b = unchanged_local_definition bs b
unchanged_definition (IncludeDefinition index file as') b = unchanged_include_or_row_11 index file.value as' b
unchanged_definition (ModelDefinition n ps) b = unchanged_model_definition n ps b
unchanged_definition (PublicModelDefinition n ps) b = unchanged_trans (unchanged_model_definition n ps b)
    (unchanged_publish n.value (compile_model_definition n ps b))
unchanged_definition (PlainFunction f) b = unchanged_function f b
unchanged_definition (PublicFunction f) b = unchanged_trans (unchanged_function f b) (unchanged_publish f.name.value (compile_function_definition f b))
unchanged_definition (ImplementDefinition m fs) b = unchanged_implement m fs b
unchanged_definition (ApplyDefinition s t) b = unchanged_apply s t b
