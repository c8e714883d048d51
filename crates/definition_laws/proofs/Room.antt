-- How many locals the compiling of s records in h levels may define: `room s h`, which is s · 3 · 2 ^ (h / 2). A compound target's parts are compiled twice
-- and lie two levels below the compound, so doubling every second level is enough; in rows 2 and 4 it stays below 2 ^ 56. Assumes nothing.
use Prim.Native.Nat.{ℕ, zero, suc, ◌+◌, ◌-◌, ◌*◌, ◌^◌, ◌≤◌, ◌<◌, max}
use native.Mathlib.Nat.{le_refl, le_trans, add-zero, add-suc, add-mul, mul_comm, mul-le-mul_left, mul-le-mul_right, mul_assoc}
use native.Mathlib.Omega.{arith}
use mathlib.Core.Path.{◌≡◌, refl, sym, ap, ◌∙◌}
use lib.ListN.{length}
use Rattle.words.specs.Ast.{FunctionDefinition}
use Rattle.words.specs.Record.{most_records, most_levels}
use Rattle.tree.specs.At.{size_ss, depth_ss}
use Rattle.definition_laws.proofs.Limits.{LimitedFunction}

-- 3 · 2 ^ (h / 2)
unfoldable pub scale : ℕ → ℕ
scale zero = 3
scale (suc zero) = 3
scale (suc (suc n)) = 2 * scale n

scale_step : (n : ℕ) → scale n ≤ scale (suc n)
unfolding scale
scale_step zero = omega arith
scale_step (suc zero) = omega arith
scale_step (suc (suc n)) = omega (arith, scale_step n)

scale_more : (d a : ℕ) → scale a ≤ scale (a + d)
scale_more zero a = rw add-zero (le_refl _)
scale_more (suc d) a = rw add-suc (le_trans (scale_more d a) (scale_step (a + d)))

scale_mono : (a b : ℕ) → a ≤ b → scale a ≤ scale b
scale_mono a b h = let e : a + (b - a) ≡ b = omega arith in rw e at (scale_more (b - a) a)

scale_twice : (a b : ℕ) → 2 + a ≤ b → 2 * scale a ≤ scale b
unfolding scale
scale_twice a b h =
    let s : 2 * scale a ≡ scale (suc (suc a)) = refl in
    let m : scale (suc (suc a)) ≤ scale b = scale_mono (suc (suc a)) b (omega arith) in
    omega arith

scale_three : (n : ℕ) → 3 ≤ scale n
unfolding scale
scale_three n = let m : scale 0 ≤ scale n = scale_mono 0 n (omega arith) in m

-- what s records of h levels may define
unfoldable pub room : ℕ → ℕ → ℕ
room s h = s * scale h

pub room_deeper : (s : ℕ) {g h : ℕ} → g ≤ h → room s g ≤ room s h
unfolding room
room_deeper s {g} {h} l = mul-le-mul_left s (scale_mono g h l)

-- parts side by side, in h levels
pub room_two : (s r g d h : ℕ) → g ≤ h → d ≤ h → room s g + room r d ≤ room (s + r) h
unfolding room
room_two s r g d h a b =
    let x : s * scale g ≤ s * scale h = mul-le-mul_left s (scale_mono g h a) in
    let y : r * scale d ≤ r * scale h = mul-le-mul_left r (scale_mono d h b) in
    omega (arith, add-mul s r (scale h))

-- k records that define c, at most three each, beside a part
pub room_more : (k c s g h : ℕ) → c ≤ k * 3 → g ≤ h → c + room s g ≤ room (k + s) h
unfolding room
room_more k c s g h q a =
    let x : s * scale g ≤ s * scale h = mul-le-mul_left s (scale_mono g h a) in
    let z : k * 3 ≤ k * scale h = mul-le-mul_left k (scale_three h) in
    omega (arith, add-mul k s (scale h))

pub room_beside : (k c s r g d h : ℕ) → c ≤ k * 3 → g ≤ h → d ≤ h → c + room s g + room r d ≤ room (k + s + r) h
room_beside k c s r g d h q a b = omega (arith, room_more k c s g h q a, room_two (k + s) r h d h (le_refl h) b)

-- a part that is compiled twice, two levels below
room_twice : (s g h : ℕ) → 2 + g ≤ h → room s g + room s g ≤ room s h
unfolding room
room_twice s g h l =
    let x : s * (2 * scale g) ≤ s * scale h = mul-le-mul_left s (scale_twice g h l) in
    let y : s * (2 * scale g) ≡ 2 * (s * scale g) = sym (mul_assoc s 2 (scale g)) ∙ ap (λ n. n * scale g) (mul_comm s 2) ∙ mul_assoc 2 s (scale g) in
    omega arith

pub get_once : (s r g d : ℕ) → room s g + room r d ≤ room (1 + s + r) (1 + max g d)
get_once s r g d = omega (arith, room_beside 1 0 s r g d (1 + max g d) (omega arith) (omega arith) (omega arith))

pub get_twice : (s r g d : ℕ) → room s g + room r d + (room s g + room r d) ≤ room (1 + s + r) (1 + (1 + max g d))
get_twice s r g d =
    let h : ℕ = 1 + (1 + max g d) in
    omega (arith, room_twice s g h (omega arith), room_twice r d h (omega arith), room_beside 1 0 s r h h h (omega arith) (omega arith) (omega arith))

most_room : room most_records most_levels ≡ 13510798882111488
unfolding room scale
most_room = refl

-- a function within the limits of rows 2 and 4 has fewer than 2 ^ 56 locals
pub room_limited : (f : FunctionDefinition) → LimitedFunction f → length f.parameters + room (size_ss f.body) (depth_ss f.body) < 2 ^ 56
unfolding room
room_limited f l =
    let n : ℕ = size_ss f.body in
    let d : depth_ss f.body ≤ most_levels = omega (arith, l.levels) in
    let a : n * scale (depth_ss f.body) ≤ n * scale most_levels = mul-le-mul_left n (scale_mono (depth_ss f.body) most_levels d) in
    let b : n * scale most_levels ≤ most_records * scale most_levels = mul-le-mul_right (scale most_levels) (omega (arith, l.records)) in
    omega (arith, l.records, most_room)
