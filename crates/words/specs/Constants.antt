-- The types that `src/object.rt` declares for `runtime/object.rs`: the kind and value (01, 'Emission') that each case of `Constant` is in the pool, and
-- the constant that a pair of words is. An integer is its two's complement. Every NaN pattern is one NaN, whose own pattern is that of `to_bits`
use Rattle.std.specs.Prelude.{ℕ, suc, ◌-◌, ◌^◌, true, false, cond, ℤ, pos, negsuc, eqb, ltb, List, Option, Some, None}
use Rattle.std.specs.Float.{binary64}
use Rattle.std.specs.Float.Ieee.{of_bits, to_bits}
use Rattle.words.specs.Areas.{entry_word, width_of, constants_area}
use Rattle.words.specs.Object.{null_kind, boolean_kind, integer_kind, float_kind, text_kind, model_kind, function_kind}
use Rattle.words.specs.declared.object.Constant.{Constant}
use Rattle.words.specs.declared.object.Constant.TheVariants.{Null, Boolean, Integer, Float, Text, Model, Function}
use Rattle.words.specs.declared.object.Kind.{Kind}
use Rattle.words.specs.declared.object.Kind.TheVariants as kind

-- two's complement in 64 bits, both ways
abbrev pub word_of_integer : ℤ → ℕ
word_of_integer (pos n) = n
word_of_integer (negsuc n) = 2 ^ 64 - suc n

abbrev pub integer_of_word : ℕ → ℤ
integer_of_word w = cond (ltb w (2 ^ 63)) (pos w) (negsuc (2 ^ 64 - suc w))

-- the number of each kind
abbrev pub number_of_kind : Kind → ℕ
number_of_kind kind.Null = null_kind
number_of_kind kind.Boolean = boolean_kind
number_of_kind kind.Integer = integer_kind
number_of_kind kind.Float = float_kind
number_of_kind kind.Text = text_kind
number_of_kind kind.Model = model_kind
number_of_kind kind.Function = function_kind

-- the kind and the value of each case
abbrev pub kind_of : Constant → ℕ
kind_of Null = null_kind
kind_of (Boolean b) = boolean_kind
kind_of (Integer n) = integer_kind
kind_of (Float x) = float_kind
kind_of (Text t) = text_kind
kind_of (Model m) = model_kind
kind_of (Function f) = function_kind

abbrev pub value_of : Constant → ℕ
value_of Null = 0
value_of (Boolean b) = cond b 1 0
value_of (Integer n) = word_of_integer n
value_of (Float x) = to_bits binary64 x
value_of (Text t) = t
value_of (Model m) = m
value_of (Function f) = f

-- the kinds that hold a number: a text's, a model's or a function's
unfoldable pub numbered_of : ℕ → ℕ → Option Constant
numbered_of k n =
    cond (eqb k text_kind) (Some (Text n))
    (cond (eqb k model_kind) (Some (Model n))
    (cond (eqb k function_kind) (Some (Function n)) None))

-- the constant that a kind and a value are; such a number has 32 bits
unfoldable pub decode_of : ℕ → ℕ → Option Constant
decode_of k v =
    cond (eqb k null_kind) (cond (eqb v 0) (Some Null) None)
    (cond (eqb k boolean_kind) (cond (eqb v 0) (Some (Boolean false)) (cond (eqb v 1) (Some (Boolean true)) None))
    (cond (eqb k integer_kind) (Some (Integer (integer_of_word v)))
    (cond (eqb k float_kind) (Some (Float (of_bits binary64 v)))
    (cond (ltb v (2 ^ 32)) (numbered_of k v) None))))

-- constant i of area 2: what the kind and the value of its entry are
abbrev pub constant_at : List ℕ → ℕ → Option Constant
constant_at w i = decode_of (entry_word (width_of constants_area) i 0 w) (entry_word (width_of constants_area) i 1 w)
