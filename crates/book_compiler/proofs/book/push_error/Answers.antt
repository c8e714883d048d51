-- `book_compiler::book::push_error` meets its contract: it lends the errors. Assumes nothing.
use Rattle.std.proofs.Common.{◌≡◌, ap, rules}
use Rattle.compiler_laws.specs.declared.book.Book.{Book}
use Rattle.building.specs.Pool.{erring, push_error_c}
use Rattle.compiler_laws.proofs.ConstantLeaves.{faults}
use Rattle.compiler_laws.proofs.BookLeaves.{fault_simulates}
use Rattle.words.specs.Reply.{number_of_error}
use Rattle.words.specs.Record.{token_at, position_at, kind_at, value_at}
use Rattle.book_compiler.proofs.Lending.{lent_area}
use Rattle.book_compiler.proofs.ConstantCount.{fault_constants}
use Rattle.book_compiler.proofs.book.push_error.Goals as goal

pub returns : goal.returns
returns c =
    let number = number_of_error c.args.error in
    let kind = kind_at c.args.tree.now c.args.at in
    let position = position_at c.args.tree.now c.args.at in
    let value = value_at c.args.tree.now c.args.at in
    let A = c.lend_with.ensures.answers in
    let pushed : erring c.lend_with.new.value A.1 ≡ push_error_c number position kind value c.working-state.result A.0 = search (rules, A) in
    record {
      counts = record {
        constants = fault_constants number position kind value A.0 c.working-state.ensures pushed c.resume.ensures;
        standing = ap (λ (b : Book). b.standing_methods) c.resume.ensures;
      };
      acts = lent_area c.lend_with.ensures.lends (λ x y p.
          let pushed : erring c.lend_with.new.value y ≡ push_error_c number position kind value c.working-state.result x = search rules in
          fault_simulates number (token_at c.args.tree.now c.args.at) c.working-state.ensures
          (faults c.args.tree.now c.args.at number pushed) c.resume.ensures);
    }
