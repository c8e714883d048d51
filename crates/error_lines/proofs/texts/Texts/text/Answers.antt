-- `Texts::text` meets its contract, test by test. Assumes nothing.
use native.Mathlib.Omega.{arith}
use mathlib.Core.Path.{ap, ◌∙◌}
use Rattle.std.specs.Option.{option_copied}
use Rattle.error_lines.proofs.Putting.{part_all}
use Rattle.error_lines.proofs.TextFields.{text_zero, text_past, text_starts_past, text_got}
use Rattle.error_lines.proofs.texts.Texts.text.Goals as goal

pub returns-in_err-i : goal.returns-in_err-i
returns-in_err-i c = ap option_copied c.from_residual.ensures ∙ text_zero _ _ _ (omega arith)

pub returns-then-i-self : goal.returns-then-i-self
returns-then-i-self c = text_past _ _ _ (omega arith) (omega arith)

pub returns-in_err-rest : goal.returns-in_err-rest
returns-in_err-rest c =
    ap option_copied c.from_residual-in_err-rest.ensures
    ∙ text_starts_past _ _ _ c.in_ok-i.i (omega arith) c.if-i-self.false (omega (arith, c.in_err-rest.ensures.lookup))

pub returns : goal.returns
returns c =
    text_got _ _ _ c.in_ok-i.i (omega arith) c.if-i-self.false c.in_ok-rest.rest.now c.get-2.result
    (c.in_ok-rest.ensures.lookup.0.2 ∙ part_all c.args.self.bytes.now _) c.in_ok-rest.ensures.lookup.0.0 c.get-2.ensures.lookup
