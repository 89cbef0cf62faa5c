mod AskingLemmas
mod CallLemmas
mod NextRunLemmas
