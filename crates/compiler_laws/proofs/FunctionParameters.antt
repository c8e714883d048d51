-- Where a function's parameters end: one lemma for each way through the search. Assumes nothing.
use Prim.Native.Nat.{ℕ, suc, ◌+◌, ◌≤◌, ◌<◌}
use native.Mathlib.Omega.{arith}
use mathlib.Core.Path.{◌≡◌, refl, sym, ap, ◌∙◌}
use mathlib.Core.Bool.{Bool, true, false, ◌||◌}
use mathlib.Core.List.{List, [], ◌∷◌}
use lib.ListN.{length}
use lib.Dec.{eqb}
use borrow.Author.Tests.{eqb-true}
use Rattle.words.specs.Ast.{Token, Statement, Statements, ∅ₛ, ◌∷ₛ◌, Local, Return, For, Break, Rescue, Expr}
use Rattle.words.specs.Record.{kind_at}
use Rattle.tree.specs.At.{ParametersAt, StatementsAt, size_ss, kind_s, is_parameter}
use Rattle.tree.proofs.View.{head_s}
use Rattle.compiler_laws.specs.MakingFunctions.{ParametersEnd}

-- `parameters_end`
parameter_kind : (k : ℕ) → is_parameter k ≡ true → 30 ≤ k
parameter_kind k h = go (eqb k 40) refl (eqb k 41) refl h
  where
    go : (a : Bool) → eqb k 40 ≡ a → (b : Bool) → eqb k 41 ≡ b → (a || b) ≡ true → 30 ≤ k
    go true p b q z = omega (arith, eqb-true k 40 p)
    go false p true q z = omega (arith, eqb-true k 41 q)
    go false p false q z = absurd (let y : ◌≡◌ {A = ℕ} 0 1 = cc in omega arith)

statement_kind : (s : Statement) → kind_s s < 30
statement_kind (Local vs) = omega arith
statement_kind (Return t) = omega arith
statement_kind (For t i e ss) = omega arith
statement_kind (Break t) = omega arith
statement_kind (Rescue t) = omega arith
statement_kind (Expr e) = omega arith

module _ {tree : List ℕ} {at end : ℕ} where
  pub ends_past : end ≤ at → ParametersEnd tree at end at
  ends_past past = record { from = omega arith; ends = λ ts ss h g q. omega arith }

  pub ends_here : {kind : ℕ} → kind ≡ kind_at tree at → is_parameter kind ≡ false → ParametersEnd tree at end at
  unfolding ParametersAt
  ends_here {kind} kind_is other = record { from = omega arith; ends = go }
    where
      go : (ts : List Token) (ss : Statements) → ParametersAt ts tree at → StatementsAt ss tree (at + length ts) → at + length ts + size_ss ss ≡ end
          → at ≡ at + length ts
      go [] ss h g q = omega arith
      go (t ∷ ts) ss h g q =
          let k : kind ≡ t.kind = kind_is ∙ h.0.head.kind_is in
          absurd (let z : false ≡ true = sym other ∙ ap is_parameter k ∙ h.1 in let y : ◌≡◌ {A = ℕ} 0 1 = cc in omega arith)

  pub ends_later : {kind r : ℕ} → at < end → kind ≡ kind_at tree at → is_parameter kind ≡ true → ParametersEnd tree (at + 1) end r
      → ParametersEnd tree at end r
  unfolding ParametersAt StatementsAt size_ss
  ends_later {kind} {r} inside kind_is is P = record { from = omega (arith, P.from); ends = go }
    where
      go : (ts : List Token) (ss : Statements) → ParametersAt ts tree at → StatementsAt ss tree (at + length ts) → at + length ts + size_ss ss ≡ end
          → r ≡ at + length ts
      go [] ∅ₛ h g q = absurd (omega arith)
      go [] (s ∷ₛ ss) h g q =
          let p : at + 0 ≡ at = omega arith in
          let k : kind_at tree at ≡ kind_s s = (head_s s (rw p at g.0)).kind_is in
          absurd (omega (arith, statement_kind s, parameter_kind kind is))
      go (t ∷ ts) ss h g q =
          let p : at + suc (length ts) ≡ at + 1 + length ts = omega arith in
          let e : r ≡ at + 1 + length ts = P.ends ts ss h.2 (rw p at g) (omega arith) in
          omega arith
