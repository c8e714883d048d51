-- `book_compiler::definitions::compile_definition` meets its contract: a way for each kind. Assumes nothing.
use Rattle.std.proofs.Common.{refl}
use Rattle.words.specs.declared.record.RecordKind.{RecordKind}
use Rattle.words.specs.declared.record.RecordKind.TheVariants as records
use Rattle.book_compiler.proofs.ReadCases.{record_or, no_record}
use Rattle.book_compiler.proofs.DocumentDefinitions.{definition_local, definition_include, definition_model, definition_public_model, definition_function}
use Rattle.book_compiler.proofs.DocumentDefinitions.{definition_public_function, definition_implement, definition_apply}
use Rattle.book_compiler.proofs.definitions.compile_definition.Goals as goal

pub returns-in-LocalDefinition : goal.returns-in-LocalDefinition
returns-in-LocalDefinition c = definition_local c.field.ensures (record_or _ _ c.try_from-kind.ensures c.unwrap_or.ensures c.in-LocalDefinition.is refl)
    c.compile_local_definition.ensures

pub returns-in-IncludeDefinition : goal.returns-in-IncludeDefinition
returns-in-IncludeDefinition c = definition_include c.field.ensures
    (record_or _ _ c.try_from-kind.ensures c.unwrap_or.ensures c.in-IncludeDefinition.is refl) c.compile_include_definition.ensures

pub returns-in-ModelDefinition : goal.returns-in-ModelDefinition
returns-in-ModelDefinition c = definition_model c.field.ensures c.compile_model_definition.ensures
    (record_or _ _ c.try_from-kind.ensures c.unwrap_or.ensures c.in-ModelDefinition.is refl)

pub returns-in-PublicModelDefinition : goal.returns-in-PublicModelDefinition
returns-in-PublicModelDefinition c =
    definition_public_model c.field.ensures c.compile_model_definition-model.ensures
    (record_or _ _ c.try_from-kind.ensures c.unwrap_or.ensures c.in-PublicModelDefinition.is refl) c.field-name.ensures c.publish.ensures

pub returns-in-FunctionDefinition : goal.returns-in-FunctionDefinition
returns-in-FunctionDefinition c = definition_function c.field.ensures c.compile_function_definition.ensures
    (record_or _ _ c.try_from-kind.ensures c.unwrap_or.ensures c.in-FunctionDefinition.is refl)

pub returns-in-PublicFunctionDefinition : goal.returns-in-PublicFunctionDefinition
returns-in-PublicFunctionDefinition c =
    definition_public_function c.field.ensures c.compile_function_definition-function.ensures
    (record_or _ _ c.try_from-kind.ensures c.unwrap_or.ensures c.in-PublicFunctionDefinition.is refl) c.field-name-in-PublicFunctionDefinition.ensures
    c.publish-in-PublicFunctionDefinition.ensures

pub returns-in-ImplementDefinition : goal.returns-in-ImplementDefinition
returns-in-ImplementDefinition c = definition_implement c.field.ensures
    (record_or _ _ c.try_from-kind.ensures c.unwrap_or.ensures c.in-ImplementDefinition.is refl) c.compile_implement_definition.ensures

pub returns-in_default : goal.returns-in_default
returns-in_default c =
    let none = λ (k : RecordKind). no_record _ _ k c.try_from-kind.ensures c.unwrap_or.ensures in
    definition_apply (c.field.ensures) (none records.LocalDefinition c.in_default.not-LocalDefinition)
    (none records.IncludeDefinition c.in_default.not-IncludeDefinition) (none records.ModelDefinition c.in_default.not-ModelDefinition)
    (none records.PublicModelDefinition c.in_default.not-PublicModelDefinition) (none records.FunctionDefinition c.in_default.not-FunctionDefinition)
    (none records.PublicFunctionDefinition c.in_default.not-PublicFunctionDefinition)
    (none records.ImplementDefinition c.in_default.not-ImplementDefinition) c.compile_apply_definition.ensures
