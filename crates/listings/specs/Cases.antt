-- How the code lists a constant: by its case, with a float's bits as they stand in the pool.
-- Private contracts alone cite this file: whoever reads the promises need not believe it
use Rattle.std.specs.Prelude.{ℕ, eqb}
use Rattle.words.specs.Constants.{kind_of, value_of}
use Rattle.words.specs.Object.{integer_kind}
use Rattle.words.specs.declared.object.Constant.{Constant}
use Rattle.words.specs.declared.object.Constant.TheVariants.{Null, Boolean, Integer, Float, Text, Model, Function}
use Rattle.line_writer.specs.declared.writer.Fields.{Fields}
use Rattle.listings.specs.Sections.{line}

-- the value's word, where the pool has `bits`
abbrev pub value_in : Constant → (bits : ℕ) → ℕ
value_in Null bits = value_of Null
value_in (Boolean b) bits = value_of (Boolean b)
value_in (Integer n) bits = value_of (Integer n)
value_in (Float x) bits = bits
value_in (Text t) bits = value_of (Text t)
value_in (Model m) bits = value_of (Model m)
value_in (Function f) bits = value_of (Function f)

unfoldable pub case_line : ℕ → Constant → (bits : ℕ) → Fields
case_line i c bits = line 4 i (kind_of c) 0 0 0 0 (value_in c bits) (eqb (kind_of c) integer_kind)
