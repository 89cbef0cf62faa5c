-- What the book took in is taken back.
use Rattle.std.proofs.Common.{◌≡◌, ◌+◌, length}
use Rattle.hippo_model.specs.Terms.{History}
use Rattle.hippo_policy.specs.Books.{BookRepresents}
use Rattle.hippo_keeper.proofs.Results.{on_err_from}
use Rattle.hippo_replay.proofs.StateLemmas.{book_again}
use Rattle.hippo_replay.proofs.state.add_to_both.Goals as goal

pub returns-in_err-add-clause-same_book : goal.returns-in_err-add-clause-same_book
returns-in_err-add-clause-same_book c =
    on_err_from c.from_residual.result
    ((history : History) → c.args.entry.now.seq ≡ length history + 1 → BookRepresents c.args.book.now history → BookRepresents c.add.new.self history)
    (λ history number stands. c.in_err-add.ensures.err.stands history stands)

pub returns-in-Err-clause-same_book : goal.returns-in-Err-clause-same_book
returns-in-Err-clause-same_book c = book_again c.args.book.now c.add.new.self c.take_back.new.self c.args.entry.now c.in_ok-add.ensures.ok c.take_back.ensures
