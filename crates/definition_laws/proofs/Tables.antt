-- The tables that are delivered have as many entries as are in use: the totals of the reply are the counts by area (`totals_counted`). By what each of a
-- list gives. Assumes nothing.
use Prim.Native.Nat.{ℕ, suc, ◌+◌}
use native.Mathlib.Nat.{add-zero}
use mathlib.Core.Path.{◌≡◌, refl, ap, ◌∙◌}
use mathlib.Core.List.{List, [], ◌∷◌, ◌++◌, map}
use lib.ListN.{length, length-append}
use Rattle.definition.specs.FunctionState.{Entry}
use Rattle.definition.specs.Book.{Function, Context, public_count, book_count}
use Rattle.definition.specs.Program.{Entries, entries_from, function_code, function_entries, constant_entry, model_entry, property_entries, model_properties}
use Rattle.definition.specs.Program.{method_entry, local_entry}
use Rattle.definition.specs.Program.{public_entries, assembly_publics, book_entry, tables_of}
use Rattle.definition_laws.proofs.Safe.{ProgramSafe}
use Rattle.definition_laws.proofs.Lists.{all_map}
use Rattle.definition_laws.proofs.Cells.{all_any, entries_length, single_length}
use Rattle.definition_laws.proofs.FunctionCode.{functions_code_length, functions_length}
use Rattle.definition_laws.proofs.Counts.{counts_of}

properties_length : (i : ℕ) (ns : List ℕ) → length (property_entries i ns) ≡ length ns
properties_length i [] = refl
properties_length i (n ∷ ns) = ap suc (properties_length i ns)

publics_length : (file : ℕ) (es : List Entry) → length (public_entries file es) ≡ length es
publics_length file [] = refl
publics_length file (e ∷ es) = ap suc (publics_length file es)

-- after those that stood
more : {n : ℕ} (es fs : Entries) → length fs ≡ n → length (es ++ fs) ≡ length es + n
more es fs e = length-append es fs ∙ ap (λ k. length es + k) e

pub totals_counted : (c : Context) → ProgramSafe c → map (λ (es : Entries). length es) (tables_of c) ≡ counts_of c 0 0
unfolding tables_of
totals_counted c s =
    let p = c.prior in
    let code = more p.code (entries_from function_code 0 c.program.functions)
    (functions_code_length (all_map (λ (f : Function) p. p.0.sized) s.parts.functions)) in
    let pool = c.pool.constants in
    let constants : length (entries_from (constant_entry c.pool.globals) 0 pool) ≡ length pool = single_length _ 0 pool in
    let functions = more p.functions (function_entries (length p.code) c.program.functions)
    (functions_length (length p.code) c.program.functions) in
    let models = more p.models (entries_from model_entry 0 c.program.models) (single_length _ 0 c.program.models) in
    let M = length p.models in
    let properties = more p.properties (entries_from model_properties M c.program.models)
    (entries_length model_properties (λ m. length m.properties) M (λ j m u. properties_length j m.properties) (all_any c.program.models)) in
    let methods : length (entries_from method_entry 0 c.program.methods) ≡ length c.program.methods = single_length _ 0 c.program.methods in
    let L = length p.locals in
    let names = more p.locals (entries_from (local_entry c.locals.values) L c.locals.names) (single_length _ L c.locals.names) in
    let publics = more p.publics (entries_from assembly_publics 0 c.assemblies)
    (entries_length assembly_publics (λ a. length a.publics) 0 (λ j a u. publics_length a.index a.publics) (all_any c.assemblies)) in
    let books = more p.books (entries_from book_entry 0 c.assemblies) (single_length _ 0 c.assemblies) in
    let none-own = add-zero (public_count c) in
    let none_left = add-zero (book_count c) in
    rw (code, constants, functions, models, properties, methods, names, s.counted, publics, books, none-own, none_left)
