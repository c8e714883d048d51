-- `book_compiler::models::model_of` meets its contract: without a value, with another constant, and with a model. Assumes nothing.
use Rattle.compiler_laws.proofs.ModelsFound.{model_none, model_other, model_here}
use Rattle.book_compiler.proofs.models.model_of.Goals as goal

pub returns-then-mark-ne1 : goal.returns-then-mark-ne1
returns-then-mark-ne1 c = model_none c.args.i c.args.locals.now
    c.args.constants.now c.entry_word-mark.ensures c.if-mark-ne1.true

pub returns-then-kind-ne-MODEL : goal.returns-then-kind-ne-MODEL
returns-then-kind-ne-MODEL c =
    model_other c.args.i c.args.locals.now c.args.constants.now c.entry_word-mark.ensures
    c.if-mark-ne1.false c.entry_word-constant.ensures c.entry_word-kind.ensures c.if-kind-ne-MODEL.true

pub returns : goal.returns
returns c =
    model_here c.args.i c.args.locals.now c.args.constants.now c.entry_word-mark.ensures c.if-mark-ne1.false
    c.entry_word-constant.ensures c.entry_word-kind.ensures c.if-kind-ne-MODEL.false
    c.entry_word.ensures
