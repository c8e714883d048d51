-- `fault`: the words of an error are those of the record at a place; and an instruction's word has its operand's low bits only. Assumes nothing.
use Prim.Native.Nat.{ℕ, ◌+◌, ◌*◌, ◌%◌, ◌^◌}
use native.Mathlib.Omega.{arith}
use mathlib.Core.Path.{◌≡◌, ap}
use mathlib.Core.List.{List}
use Rattle.words.specs.Opcode.{to_instruction, word}
use Rattle.words.specs.Record.{token_at, kind_at, position_at, value_at}
use Rattle.definition.specs.Compiler.{push_error}
use Rattle.building.specs.declared.function_state.FunctionState.{FunctionState}
use Rattle.building.specs.Pool.{erring, push_error_c}
use Rattle.building.proofs.PoolLaws.{push_error_law}
use Rattle.compiler_laws.specs.InsideFunction.{OnErrors}

-- `fault`
pub fault_words : (tree : List ℕ) (at number : ℕ) (s : FunctionState) (e : List ℕ) {kind position value : ℕ} → kind ≡ kind_at tree at
    → position ≡ position_at tree at → value ≡ value_at tree at → {s' : FunctionState} {e' : List ℕ} → erring s' e' ≡ push_error_c number position kind value s
    e
    → erring s' e' ≡ push_error_c number (position_at tree at) (kind_at tree at) (value_at tree at) s e
fault_words tree at number s e hk hp hv d = rw (← hk, ← hp, ← hv) d

pub faults : (tree : List ℕ) (at number : ℕ) {s s' : FunctionState} {e e' : List ℕ}
    → erring s' e' ≡ push_error_c number (position_at tree at) (kind_at tree at) (value_at tree at) s e → OnErrors s e s' e'
    (push_error number (token_at tree at))
faults tree at number d = record {
  acts = λ c k n b. record { meets = λ κ E w H. push_error_law number (token_at tree at) d H };
}

-- an instruction's word has its operand's low bits only
pub low_bits : (o j : ℕ) → word (to_instruction o (j % 2 ^ 64)) ≡ word (to_instruction o j)
unfolding word
low_bits o j = ap (λ (x : ℕ). o * 2 ^ 56 + x) (inner j)
  where
    inner : (j : ℕ) → j % 2 ^ 64 % 2 ^ 56 ≡ j % 2 ^ 56
    inner j = omega arith
