-- The meaning of an exact outcome by the grammar.
use Rattle.std.proofs.Common.{◌≡◌, ◌≤◌, ◌⊎◌, ℕ, List, Result, Ok, Err, IfOk, IfErr, All, refl, sym, inl, inr}
use Rattle.std.specs.Prelude.{IsUtf8}
use Rattle.std.specs.List.{AllPairs}
use Rattle.hippo_lexer.specs.declared.kinds.Token.{Token}
use Rattle.hippo_lexer.specs.declared.faults.LexFault.{LexFault}
use Rattle.hippo_lexer.specs.declared.faults.LexFault.TheVariants as faults
use Rattle.hippo_lexer.specs.Cutting.{GivesOutcome, FailsOutcome, outcome_of}
use Rattle.hippo_lexer.specs.Grammar.{IsOutcome, IsOnlyOutcome, IsSpan}
use Rattle.hippo_lexer.proofs.RunLemmas.{cut-is, outcome_is}
use Rattle.hippo_lexer.proofs.SpanLemmas.{spans-of, order-of}

abbrev Outcome : Type 0
Outcome = Result (List Token) LexFault

-- a text has one outcome
pub outcome-one : (text : List ℕ) → IsOnlyOutcome text (outcome_of text)
unfolding outcome_of
outcome-one text = (outcome_is text, λ other h. sym (cut-is 0 text other h))

is_outcome : (text : List ℕ) (outcome : Outcome) → outcome_of text ≡ outcome → IsOutcome text outcome
is_outcome text outcome same = rw same at (outcome-one text).0

-- The meaning of an exact outcome.
pub given-found : (text : List ℕ) (given : Outcome) → GivesOutcome given (outcome_of text) → IfOk given (λ tokens. IsOutcome text (Ok tokens))
given-found text (Ok tokens) h = is_outcome text (Ok tokens) h
given-found text (Err fault) h = tt

fault_found : (text : List ℕ) (fault : LexFault) → FailsOutcome fault (outcome_of text) → (fault ≡ faults.Memory) ⊎ IsOutcome text (Err fault)
fault_found text faults.Memory h = inl refl
fault_found text (faults.BadToken place) h = inr (is_outcome text _ h)
fault_found text (faults.NumberTooLarge place) h = inr (is_outcome text _ h)
fault_found text (faults.BadDate place) h = inr (is_outcome text _ h)

pub given-fault : (text : List ℕ) (given : Outcome) → GivesOutcome given (outcome_of text) → IfErr given (λ fault. (fault ≡ faults.Memory) ⊎ IsOutcome text (Err fault))
given-fault text (Ok tokens) h = tt
given-fault text (Err fault) h = fault_found text fault h

same_or_memory : (text : List ℕ) (given : Outcome) → GivesOutcome given (outcome_of text) → (given ≡ outcome_of text) ⊎ (given ≡ Err faults.Memory)
same_or_memory text (Ok tokens) h = inl (sym h)
same_or_memory text (Err faults.Memory) h = inr refl
same_or_memory text (Err (faults.BadToken place)) h = inl (sym h)
same_or_memory text (Err (faults.NumberTooLarge place)) h = inl (sym h)
same_or_memory text (Err (faults.BadDate place)) h = inl (sym h)

pub given-only : (text : List ℕ) (given outcome : Outcome) → GivesOutcome given (outcome_of text) → IsOutcome text outcome → (given ≡ outcome) ⊎ (given ≡ Err faults.Memory)
given-only text given outcome h is_cut = rw ((outcome-one text).1 outcome is_cut) (same_or_memory text given h)

pub given-spans : (text : List ℕ) (given : Outcome) → IsUtf8 text → GivesOutcome given (outcome_of text) → IfOk given (All (IsSpan text))
given-spans text (Ok tokens) utf8 h = spans-of text tokens utf8 (is_outcome text (Ok tokens) h)
given-spans text (Err fault) utf8 h = tt

pub given-order : (text : List ℕ) (given : Outcome) → IsUtf8 text → GivesOutcome given (outcome_of text) → IfOk given (AllPairs (λ a b. a.end ≤ b.start))
given-order text (Ok tokens) utf8 h = order-of text tokens utf8 (is_outcome text (Ok tokens) h)
given-order text (Err fault) utf8 h = tt
