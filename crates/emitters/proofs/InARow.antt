-- `define_local`, `emit` and `emit_return` in a row are `function_c`, whichever form of them ran.
-- Assumes nothing.
use mathlib.Core.Path.{◌≡◌, ap, ◌∙◌}
use mathlib.Core.List.{List}
use Prim.Native.Nat.{ℕ}
use Rattle.building.specs.declared.function_state.FunctionState.{FunctionState}
use Rattle.building.specs.Found.{Found}
use Rattle.building.specs.Emission.{coded, emit_c, emit_return_c}
use Rattle.building.specs.Scopes.{Naming, naming, Defines, define_c}
use Rattle.emitters.specs.Function.{defined, function, function_c}

pub whole_is : (n w p : ℕ) (h h₁ h₂ h₃ : FunctionState) (f : Found) (ys zs zs' ns ns' : List ℕ) → Defines n (naming h ns) (defined f h₁) ns'
    → coded h₂ zs ≡ emit_c w p (coded h₁ ys) → coded h₃ zs' ≡ emit_return_c p (coded h₂ zs) → function h₃ zs' ns' ≡ function_c n w p h ys ns
whole_is n w p h h₁ h₂ h₃ f ys zs zs' ns ns' d e e' =
    let known : coded h₃ zs' ≡ emit_return_c p (emit_c w p (coded (define_c n (naming h ns)).memory.state ys)) =
    e' ∙ ap (emit_return_c p) (e ∙ ap (λ (m : Naming). emit_c w p (coded m.state ys)) d.memory) in
    λ j. function (known j).state (known j).code (d.memory j).names
