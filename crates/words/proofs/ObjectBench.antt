-- Which constants share an entry (2026-05), by computing: one fact for each clause of the request. Assumes nothing.
use mathlib.Core.Path.{◌≡◌, refl}
use mathlib.Core.Bool.{true, false}
use Rattle.words.specs.Object.{Constant, constant_of, is_shared, same_constant}
use Rattle.words.specs.Object.{null_kind, boolean_kind, integer_kind, float_kind, text_kind, model_kind, function_kind}

-- floats by their bits
abbrev half : Constant
half = constant_of float_kind 4602678819172646912

abbrev plus_zero : Constant
plus_zero = constant_of float_kind 0

abbrev minus_zero : Constant
minus_zero = constant_of float_kind 9223372036854775808

abbrev quiet_nan : Constant
quiet_nan = constant_of float_kind 9221120237041090560

abbrev nan_with_payload : Constant
nan_with_payload = constant_of float_kind 9221120237041090561

-- integers, floats and texts are looked for before they are added
integer_shared : is_shared integer_kind ≡ true
integer_shared = refl

float_shared : is_shared float_kind ≡ true
float_shared = refl

text_shared : is_shared text_kind ≡ true
text_shared = refl

-- nothing else is
null_not_shared : is_shared null_kind ≡ false
null_not_shared = refl

boolean_not_shared : is_shared boolean_kind ≡ false
boolean_not_shared = refl

model_not_shared : is_shared model_kind ≡ false
model_not_shared = refl

function_not_shared : is_shared function_kind ≡ false
function_not_shared = refl

-- equal floats are the same
float_same : same_constant half half ≡ true
float_same = refl

-- 'Plus and minus zero keep separate entries'
zeros_apart : same_constant plus_zero minus_zero ≡ false
zeros_apart = refl

-- 'not-a-number values share only when all bits agree'
nan_same : same_constant quiet_nan quiet_nan ≡ true
nan_same = refl

nans_apart : same_constant quiet_nan nan_with_payload ≡ false
nans_apart = refl

-- an integer, or a text, of the same 64 bits is another constant
integer_apart : same_constant plus_zero (constant_of integer_kind 0) ≡ false
integer_apart = refl

text_apart : same_constant plus_zero (constant_of text_kind 0) ≡ false
text_apart = refl
