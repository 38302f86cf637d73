use Rattle.hub_runner.proofs.Found.{only_found}
use Rattle.hub_runner.proofs.books.only_book.Goals as goal

pub returns : goal.returns
returns c = only_found c.args.books.now c.args.root.now c.first_book.result c.first_book.ensures (c.has_one_book.ensures.0 c.if-not-has_one_book.false)
