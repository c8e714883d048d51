-- `book_compiler::definitions::compile_document` meets its contract. Assumes nothing.
use Rattle.book_compiler.proofs.DocumentDefinitions.{document_compiled, document_past}
use Rattle.book_compiler.proofs.definitions.compile_document.Goals as goal

pub returns-then-end-at : goal.returns-then-end-at
returns-then-end-at c = document_past c.if-end-at.true

pub returns : goal.returns
returns c = document_compiled c.compile_definitions.ensures
