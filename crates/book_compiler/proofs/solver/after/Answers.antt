-- `book_compiler::solver::after` meets its contract: past the words, one on, or past a run of words without a bit. Assumes nothing.
use Rattle.compiler_laws.proofs.SetBits.{after_out, after_one, after_zeros, word_past}
use Rattle.std.proofs.Common.{arith}
use Rattle.book_compiler.proofs.solver.after.Goals as goal

pub returns-then-set-end : goal.returns-then-set-end
returns-then-set-end c = after_out c.args.set.now c.args.n c.zeros_end-end.ensures c.if-set-end.true
    c.requires

pub returns-then-end-at : goal.returns-then-end-at
returns-then-end-at c = after_one c.args.set.now c.args.n
    c.requires

pub returns-then-end-lt-SET_WORDS : goal.returns-then-end-lt-SET_WORDS
returns-then-end-lt-SET_WORDS c =
    after_zeros c.args.set.now c.args.n _ c.zeros_end-end.ensures (word_past c.args.n c.if-end-at.false)
    (omega arith) (omega (arith, c.if-end-lt-SET_WORDS.true))

pub returns : goal.returns
returns c =
    after_zeros c.args.set.now c.args.n _ c.zeros_end-end.ensures c.requires (omega (arith, c.if-end-lt-SET_WORDS.false)) (omega arith)
