-- A number that is read as a case of an enum is that case's number; one that is read as another is not. Assumes nothing.
use Rattle.std.proofs.Common.{◌≡◌, ℕ, ◌<◌, ◌≤◌, Result, Ok, Err, false, eqb, sym, ap, ◌∙◌, arith}
use Rattle.std.specs.Result.{result_unwrap_or}
use borrow.Author.Tests.{eqb-false}
use Rattle.words.specs.Numbers.{ReadAs}
use Rattle.words.specs.Kinds.{number_of_record, number_of_infix, number_of_prefix}
use Rattle.words.specs.declared.UnknownNumber.{UnknownNumber}
use Rattle.words.specs.declared.record.RecordKind.{RecordKind}
use Rattle.words.specs.declared.record.PrefixOperator.{PrefixOperator}
use Rattle.words.specs.declared.record.InfixOperator.{InfixOperator}
use Rattle.words.specs.declared.record.InfixOperator.TheVariants as infixes
use Rattle.words.proofs.ReadBack.{record_back, prefix_back}
use Rattle.compiler_laws.specs.InsideFunction.{operation_of}

pub is_record : {n : ℕ} {j k : RecordKind} → number_of_record j ≡ n → j ≡ k → n ≡ number_of_record k
is_record e q = sym e ∙ ap number_of_record q

-- the same of a number that stands for another case where it is no case's
read_or : {K : Type 0} (number : K → ℕ) (r : Result K UnknownNumber) (d : K) {n : ℕ} {j k : K} → ReadAs number n r → j ≡ result_unwrap_or r d → j ≡ k
    → eqb (number d) (number k) ≡ false → n ≡ number k
read_or number (Ok x) d read e q other = sym read ∙ ap number (sym e ∙ q)
read_or number (Err x) d {n} {j} {k} read e q other = absurd (eqb-false _ _ other (ap number (sym e ∙ q)))

pub record_or : (r : Result RecordKind UnknownNumber) (d : RecordKind) {n : ℕ} {j k : RecordKind} → ReadAs number_of_record n r
    → j ≡ result_unwrap_or r d → j ≡ k → eqb (number_of_record d) (number_of_record k) ≡ false → n ≡ number_of_record k
record_or = read_or number_of_record

pub prefix_or : (r : Result PrefixOperator UnknownNumber) (d : PrefixOperator) {n : ℕ} {j k : PrefixOperator} → ReadAs number_of_prefix n r
    → j ≡ result_unwrap_or r d → j ≡ k → eqb (number_of_prefix d) (number_of_prefix k) ≡ false → n ≡ number_of_prefix k
prefix_or = read_or number_of_prefix

pub no_record : (r : Result RecordKind UnknownNumber) (d k : RecordKind) {n : ℕ} {j : RecordKind} → ReadAs number_of_record n r
    → j ≡ result_unwrap_or r d → (j ≡ k → ⊥) → n ≡ number_of_record k → ⊥
no_record r d k read e none q = none (e ∙ ap (λ x. result_unwrap_or x d) (record_back k r (rw q at read)))

pub no_prefix : (r : Result PrefixOperator UnknownNumber) (d k : PrefixOperator) {n : ℕ} {j : PrefixOperator} → ReadAs number_of_prefix n r
    → j ≡ result_unwrap_or r d → (j ≡ k → ⊥) → n ≡ number_of_prefix k → ⊥
no_prefix r d k read e none q = none (e ∙ ap (λ x. result_unwrap_or x d) (prefix_back k r (rw q at read)))

-- past the cases the operation is the last
past : (n : ℕ) → 19 < n → operation_of n ≡ 258
past n most = grind (arith, most)

pub no_infix : (n : ℕ) → ((k : InfixOperator) → number_of_infix k ≡ n → ⊥) → 258 ≡ operation_of n
no_infix n none = sym (past n (omega (
  arith,
  none infixes.Assign,
  none infixes.Plus,
  none infixes.Minus,
  none infixes.Star,
  none infixes.Slash,
  none infixes.Percent,
  none infixes.PlusAssign,
  none infixes.MinusAssign,
  none infixes.StarAssign,
  none infixes.SlashAssign,
  none infixes.PercentAssign,
  none infixes.Equal,
  none infixes.NotEqual,
  none infixes.Greater,
  none infixes.Less,
  none infixes.GreaterEqual,
  none infixes.LessEqual,
  none infixes.And,
  none infixes.Or,
  none infixes.Other,
)))
