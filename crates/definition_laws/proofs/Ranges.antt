-- Tokens of words that passed the shape check: each is in the range of its kind (`fine_ranged`), so its position is one of 01's, and where its kind has a
-- text its value is a text. Assumes nothing.
use Prim.Native.Nat.{ℕ, ◌+◌, ◌*◌, ◌%◌, ◌≤◌, ◌<◌}
use native.Mathlib.Omega.{arith}
use native.Mathlib.Decide.{dec_lt}
use mathlib.Core.Path.{◌≡◌, sym, ap, subst, ◌∙◌}
use mathlib.Core.Bool.{Bool, true, false, ◌&&◌}
use mathlib.Core.List.{List}
use lib.ListN.{length, get_or, get_or-eq_default}
use lib.Dec.{T, leb, leb→le, eqb→eq}
use Rattle.std.specs.Prelude.{Ok}
use Rattle.words.specs.Ast.{Token}
use Rattle.words.specs.Record.{field_of, span_at, token_at, most_text, in_place}
use Rattle.tree.specs.Rules.{rule_of, may_be_at, in_range}
use Rattle.tree.specs.Check.{records_of, shape_of}
use Rattle.tree.specs.At.{Leaf, Headed}
use Rattle.tree.proofs.Bundle.{fine_spells}
use Rattle.definition.specs.ProgramCheck.{is_text, is_position}
use Rattle.definition_laws.proofs.Tests.{Test, both, less, at_most, first_of, second_of}

-- a number that is a text; a position
abbrev pub IsText : ℕ → Type 0
IsText n = Test (is_text n)

abbrev pub IsPosition : ℕ → Type 0
IsPosition p = Test (is_position p)

-- a token in the range of its kind
pub record Ranged (t : Token) : Type 0 where
  pub ranged : in_range t.kind t.position t.value ≡ true

holds_of : {b : Bool} → b ≡ true → T b
holds_of e = subst T (sym e) tt

range_of : (k p v : ℕ) → in_range k p v ≡ true → T (may_be_at (rule_of k).position p) × ((rule_of k).least ≤ v) × (v ≤ (rule_of k).most)
unfolding in_range
range_of k p v h =
    let r = rule_of k in
    let a = first_of (may_be_at r.position p) (leb r.least v && leb v r.most) (holds_of h) in
    let b = second_of (may_be_at r.position p) (leb r.least v && leb v r.most) (holds_of h) in
    (a, leb→le r.least v (first_of (leb r.least v) (leb v r.most) b), leb→le v r.most (second_of (leb r.least v) (leb v r.most) b))

pub no_position : IsPosition 0
unfolding in_place
no_position = record { holds = tt }

at_place : (t : Bool) (p : ℕ) → T (may_be_at t p) → T (in_place p)
unfolding may_be_at in_place
at_place true p h = h
at_place false p h = let e : p ≡ 0 = eqb→eq p 0 h in subst (λ n. T (in_place n)) (sym e) tt

pub ranged_position : {t : Token} → Ranged t → IsPosition t.position
ranged_position {t} r = record { holds = at_place (rule_of t.kind).position t.position (range_of t.kind t.position t.value r.ranged).0 }

-- of a kind whose values are texts
pub ranged_text : {t : Token} (k : ℕ) → Ranged t → t.kind ≡ k → (rule_of k).least ≡ 1 → (rule_of k).most ≡ most_text → IsText t.value
ranged_text {t} k r e a b =
    let x = range_of k t.position t.value (subst (λ n. in_range n t.position t.value ≡ true) e r.ranged) in
    both (less 0 t.value (omega (arith, x.1, a))) (at_most t.value most_text (omega (arith, x.2, b)))

-- the records of fine words

-- a record inside
inside : (w : List ℕ) (i : ℕ) → length w % 4 ≡ 0 → 0 < span_at w i → i < records_of w
unfolding field_of
inside w i m h = go (dec_lt (i * 4 + 1) (length w))
  where
    go : Dec (i * 4 + 1 < length w) → i < records_of w
    go (yes l) = omega (arith, l, m)
    go (no l) = absurd (let x : length w ≤ i * 4 + 1 = omega (arith, l) in let e : get_or w (i * 4 + 1) 0 ≡ 0 = get_or-eq_default w 0 x in
        let y : 0 < get_or w (i * 4 + 1) 0 = h in omega (arith, e, y))

pub fine_ranged : (w : List ℕ) → shape_of w ≡ Ok tt → (i : ℕ) → 0 < span_at w i → Ranged (token_at w i)
fine_ranged w f i l = let S = fine_spells w f in record { ranged = S.ranges i (inside w i S.whole l) }

-- the kind of a node's token
module _ {w : List ℕ} {i k : ℕ} {t : Token} where
  pub leaf_kind : Leaf w i k t → t.kind ≡ k
  leaf_kind L = ap (λ (u : Token). u.kind) L.token ∙ L.head.kind_is

  pub headed_kind : {s : ℕ} → Headed w i k s t → t.kind ≡ k
  headed_kind L = ap (λ (u : Token). u.kind) L.token ∙ L.head.kind_is
