-- Messages: the numbers that have none. Assumes nothing.
use Prim.Native.Nat.{ℕ, zero, suc, ◌≤◌}
use native.Mathlib.Omega.{arith}
use mathlib.Core.Path.{◌≡◌, refl, sym}
use mathlib.Core.List.{[]}
use lib.ListN.{get_or-eq_default}
use Rattle.words.specs.Reply.{number_of_error}
use Rattle.words.specs.declared.reply.CompileError.{CompileError}
use Rattle.words.specs.declared.reply.CompileError.TheVariants as error
use Rattle.error_lines.specs.Messages.{messages, message}

pub no_message : (n : ℕ) → ((e : CompileError) → number_of_error e ≡ n → ⊥) → [] ≡ message n
unfolding message
no_message zero h = refl
no_message (suc n) h =
    let past : 11 ≤ n = omega (
      arith,
      h error.VariableExists,
      h error.CanNotAssign,
      h error.UnknownOperation,
      h error.RescueInLayer,
      h error.ConstantOnly,
      h error.PropertyExists,
      h error.ParameterExists,
      h error.InstanceFunction,
      h error.NotAModel,
      h error.ModelNotFound,
      h error.Ring,
    ) in
    sym (get_or-eq_default messages [] {n = suc n} (omega arith))
