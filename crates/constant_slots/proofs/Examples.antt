-- Homes and searches that are computed: floats that do not share a home, and the slots that small tables are looked through. Assumes nothing.
use Prim.Native.Nat.{ℕ}
use mathlib.Core.Path.{◌≡◌, refl}
use mathlib.Core.Bool.{Bool, true, false, cond}
use mathlib.Core.Option.{none, some}
use mathlib.Core.List.{List, [], ◌∷◌}
use lib.Count.{count_leading_zeros}
use lib.Dec.{eqb}
use Rattle.words.specs.Areas.{entry_field}
use Rattle.words.specs.Object.{constant_of, float_kind, integer_kind}
use Rattle.constant_slots.specs.Home.{home}
use Rattle.constant_slots.specs.Plain.{first_from, constants_from, pool_of}
use Rattle.constant_slots.specs.Slots.{first_empty, put_slot, fill, slots_of, look, searched, search_slots}

abbrev pub has : ℕ → List ℕ → Bool
has x [] = false
has x (y ∷ ys) = cond (eqb x y) true (has x ys)

abbrev pub differ : List ℕ → Bool
differ [] = true
differ (x ∷ xs) = cond (has x xs) false (differ xs)

unfoldable pub float_homes : ℕ → List ℕ → List ℕ
unfolding home
float_homes n [] = []
float_homes n (bits ∷ more) = home n (constant_of float_kind bits) ∷ float_homes n more

abbrev pub differ_among : List ℕ → List ℕ → Bool
differ_among bits [] = true
differ_among bits (n ∷ ns) = cond (differ (float_homes n bits)) (differ_among bits ns) false

-- numbers of slots: powers of two, next to them, round, multiples of 1001, a prime
abbrev pub many_slots : List ℕ
many_slots = 64 ∷ 65 ∷ 100 ∷ 128 ∷ 200 ∷ 256 ∷ 1000 ∷ 1001 ∷ 1024 ∷ 2000 ∷ 2048 ∷ 4096 ∷ 15015 ∷ 65536 ∷ 65537 ∷ 1000000 ∷ 1048576 ∷ 2000000 ∷ 2000003 ∷ []

-- 0.25, 0.5, 1.0, 2.0 and 4.0, among few slots and many
pub powers_differ : differ_among
    (4598175219545276416 ∷ 4602678819172646912 ∷ 4607182418800017408 ∷ 4611686018427387904 ∷ 4616189618054758400 ∷ [])
    (16 ∷ 17 ∷ 20 ∷ 24 ∷ 32 ∷ 33 ∷ 48 ∷ many_slots) ≡ true
unfolding count_leading_zeros home float_homes
powers_differ = refl

-- and 0.125, 8.0, 16.0, 1.5, 2.5, 10.0 and 100.0 with them
pub round_floats_differ : differ_among
    (4593671619917905920 ∷ 4598175219545276416 ∷ 4602678819172646912 ∷ 4607182418800017408 ∷ 4611686018427387904 ∷ 4616189618054758400
    ∷ 4620693217682128896 ∷ 4625196817309499392 ∷ 4609434218613702656 ∷ 4612811918334230528 ∷ 4621819117588971520 ∷ 4636737291354636288 ∷ [])
    (32 ∷ 33 ∷ 48 ∷ many_slots) ≡ true
unfolding count_leading_zeros home float_homes
round_floats_differ = refl

-- 1 + 2^-20, 1 + 3 × 2^-20 .. 1 + 9 × 2^-20, which are round among none of these numbers of slots
pub close_floats_differ : differ_among
    (4607182423094984704 ∷ 4607182431684919296 ∷ 4607182440274853888 ∷ 4607182448864788480 ∷ 4607182457454723072 ∷ []) many_slots ≡ true
unfolding count_leading_zeros home float_homes
close_floats_differ = refl

-- 4096.0, 4096.5, 4097.0 and 4097.5, as in a catalogue of 10,000, lie side by side
pub halves_are_near : float_homes 20011 (4661225614328463360 ∷ 4661226164084277248 ∷ 4661226713840091136 ∷ 4661227263595905024 ∷ []) ≡ 10275 ∷ 10288 ∷ 10301 ∷
    10314 ∷ []
unfolding count_leading_zeros home float_homes
halves_are_near = refl

-- integers 3 and 7 among four slots: both have home 3, and 7 goes round the end
abbrev pub three_and_seven : List ℕ
three_and_seven = 2 ∷ 3 ∷ 0 ∷ 2 ∷ 7 ∷ 0 ∷ []

pub round_the_end : slots_of 4 (pool_of 2 three_and_seven) ≡ 2 ∷ 0 ∷ 0 ∷ 1 ∷ []
unfolding home entry_field constants_from first_empty put_slot fill
round_the_end = refl

-- one slot is looked at for 3, two for 7, and three for 11, which is not there and has the same home
pub three_looked_at : search_slots 2 (constant_of integer_kind 11) three_and_seven (2 ∷ 0 ∷ 0 ∷ 1 ∷ []) ≡ searched none 3
unfolding home entry_field look
three_looked_at = refl

pub two_looked_at : search_slots 2 (constant_of integer_kind 7) three_and_seven (2 ∷ 0 ∷ 0 ∷ 1 ∷ []) ≡ searched (some 1) 2
unfolding home entry_field look
two_looked_at = refl

pub one_looked_at : search_slots 2 (constant_of integer_kind 3) three_and_seven (2 ∷ 0 ∷ 0 ∷ 1 ∷ []) ≡ searched (some 0) 1
unfolding home entry_field look
one_looked_at = refl

-- as many slots as entries: the plain search, and no slot is looked at
pub fallen_back : search_slots 2 (constant_of integer_kind 7) three_and_seven (1 ∷ 2 ∷ []) ≡ searched (some 1) 0
unfolding entry_field first_from
fallen_back = refl
