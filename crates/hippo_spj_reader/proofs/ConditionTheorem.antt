-- The condition that is found is the grammar's.
use Rattle.std.proofs.Common.{◌≡◌, ℕ, zero, suc, ◌<◌, ◌≤◌, List, ◌∷◌, length, Some, None, refl, sym, arith}
use Rattle.std.proofs.lemmas.Option.{none-some, some_pair_parts}
use Rattle.hippo_model.specs.declared.query.CondOf.{Not, Between, Among, Missing}
use Rattle.hippo_stmt_ast.specs.declared.statement.RawOperand.{RawOperand}
use Rattle.hippo_values.specs.declared.keywords.Keyword as words
use Rattle.hippo_values.specs.declared.keywords.Keyword.TheVariants.{KAnd, KBetween, KIn, KIs, KNot, KNull, KOr}
use Rattle.hippo_lexer.specs.declared.kinds.Symbol.TheVariants.{Comma, Dot, LeftParen, RightParen}
use Rattle.hippo_lexer.specs.declared.kinds.TokenKind.{TokenKind}
use Rattle.hippo_lexer.specs.declared.kinds.TokenKind.TheVariants.{Keyword, Symbol}
use Rattle.hippo_spj_reader.specs.Front.{Finder, after_keyword, after_symbol}
use Rattle.hippo_spj_reader.specs.ListGrammar.{IsListOf, last_part, more_parts}
use Rattle.hippo_spj_reader.specs.ListFinder.{leading_parts, leading_list}
use Rattle.hippo_spj_reader.specs.ConditionGrammar.{RawCond, IsOperand, IsCondition, disjunction, IsConjunction, conjunction, AreJoinedBy, last_joined, more_joined, IsJoinedBy, disjunct, conjunct, IsNegation, negated, plain, IsPrimary, parentheses, comparison, between, not_between, among, not_among, missing, present}
use Rattle.hippo_spj_reader.specs.ConditionFinder.{leading_operand, leading_operator, leading_comparison, leading_between, leading_among, leading_range, leading_null, leading_test, conjunction_with, condition_with, primary_with, leading_negation, leading_condition}
use Rattle.hippo_spj_reader.proofs.FrontTheorem.{found_then, choice, keyword_then, symbol_then, keyword_choice, symbol_choice, after_keyword-some, after_symbol-some, read_as}
use Rattle.hippo_spj_reader.proofs.ListTheorem.{parts_found, list_complete, list_shorter}
use Rattle.hippo_spj_reader.proofs.OperandTheorem.{operand_found, operator_then, operand_complete, operator_complete, operand_shorter, no_parenthesis, no_not, no_operator-dot}

pub operands_found : (tokens : List TokenKind) (list : List RawOperand) (rest : List TokenKind) → leading_list leading_operand (after_symbol Comma) tokens ≡ Some (list, rest) → IsListOf IsOperand (Symbol Comma) tokens list rest
operands_found tokens list rest e =
    parts_found leading_operand (after_symbol Comma) IsOperand (Symbol Comma) (IsListOf IsOperand (Symbol Comma)) operand_found (after_symbol-some Comma)
    (λ _ _ _ d. last_part d) (λ _ _ _ _ _ d ds. more_parts d ds) (suc (length tokens)) tokens list rest e

-- the BETWEEN or IN after an operand
range_found : {P : Type 0} (v : RawOperand) (tokens : List TokenKind) (c : RawCond) (rest : List TokenKind) → leading_range v tokens ≡ Some (c, rest) →
    ((low high : RawOperand) (lows highs : List TokenKind) → tokens ≡ Keyword KBetween ∷ lows → IsOperand lows low (Keyword KAnd ∷ highs) → IsOperand highs high rest → c ≡ Between v low high → P) →
    ((list : List RawOperand) (others : List TokenKind) → tokens ≡ Keyword KIn ∷ Symbol LeftParen ∷ others → IsListOf IsOperand (Symbol Comma) others list (Symbol RightParen ∷ rest) → c ≡ Among v list → P) → P
unfolding leading_range leading_between leading_among
range_found v tokens c rest e by_between by_among =
    keyword_choice KBetween tokens _ _ _ e
    (λ lows is_between e.
    found_then (leading_operand lows) _ _ e (λ low low_found e.
    keyword_then KAnd low.1 _ _ e (λ highs is_and e.
    found_then (leading_operand highs) _ _ e (λ high high_found e.
    let whole = some_pair_parts (Between v low.0 high.0) c high.1 rest e in
    let is_low : IsOperand lows low.0 (Keyword KAnd ∷ highs) = rw is_and at (operand_found lows low.0 low.1 low_found) in
    let is_high : IsOperand highs high.0 rest = rw whole.1 at (operand_found highs high.0 high.1 high_found) in
    by_between low.0 high.0 lows highs is_between is_low is_high (sym whole.0)))))
    (λ _ e.
    keyword_then KIn tokens _ _ e (λ remaining is_in e.
    symbol_then LeftParen remaining _ _ e (λ others is_open e.
    found_then (leading_list leading_operand (after_symbol Comma) others) _ _ e (λ list list_found e.
    symbol_then RightParen list.1 _ _ e (λ left is_close e.
    let whole = some_pair_parts (Among v list.0) c left rest e in
    let is_list : IsListOf IsOperand (Symbol Comma) others list.0 (Symbol RightParen ∷ rest) = rw (is_close, whole.1) at (operands_found others list.0 list.1 list_found) in
    by_among list.0 others (rw (is_in, is_open) refl) is_list (sym whole.0))))))

-- the NULL or NOT NULL after an operand and IS
null_found : (all tokens : List TokenKind) (v : RawOperand) (c : RawCond) (rest : List TokenKind) → IsOperand all v (Keyword KIs ∷ tokens) → leading_null v tokens ≡ Some (c, rest) → IsPrimary all c rest
unfolding leading_null
null_found all tokens v c rest is_operand e =
    keyword_choice KNot tokens _ _ _ e
    (λ remaining is_not e. keyword_then KNull remaining _ _ e (λ left is_null e.
    let whole = some_pair_parts (Not (Missing v)) c left rest e in
    present (rw (is_not, is_null, whole.1) at is_operand) (sym whole.0)))
    (λ _ e. keyword_then KNull tokens _ _ e (λ left is_null e.
    let whole = some_pair_parts (Missing v) c left rest e in
    rw (← whole.0) (missing (rw (is_null, whole.1) at is_operand))))

test_found : (all tokens : List TokenKind) (v : RawOperand) (c : RawCond) (rest : List TokenKind) → IsOperand all v tokens → leading_test v tokens ≡ Some (c, rest) → IsPrimary all c rest
unfolding leading_test leading_comparison
test_found all tokens v c rest is_operand e =
    keyword_choice KNot tokens _ _ _ e
    (λ remaining is_not e. found_then (leading_range v remaining) _ _ e (λ part found e.
    let whole = some_pair_parts (Not part.0) c part.1 rest e in
    let range_is : leading_range v remaining ≡ Some (part.0, rest) = rw whole.1 at found in
    range_found v remaining part.0 rest range_is
    (λ low high lows highs is_between is_low is_high is. not_between (rw (is_not, is_between) at is_operand) is_low is_high (rw (← is) (sym whole.0)))
    (λ list others is_in is_list is. not_among (rw (is_not, is_in) at is_operand) is_list (rw (← is) (sym whole.0)))))
    (λ _ e. keyword_choice KIs tokens _ _ _ e
    (λ remaining is_is e. null_found all remaining v c rest (rw is_is at is_operand) e)
    (λ _ e. choice (leading_operator tokens) _ _ _ e
    (λ op found e. operator_then tokens op.0 op.1 found (λ sign is_sign is_operator.
    found_then (leading_operand op.1) _ _ e (λ right right_found e.
    read_as IsPrimary all _ _ _ _ e (comparison (rw is_sign at is_operand) is_operator (operand_found op.1 right.0 right.1 right_found)))))
    (λ _ e. range_found v tokens c rest e
    (λ low high lows highs is_between is_low is_high is. rw is (between (rw is_between at is_operand) is_low is_high))
    (λ list others is_in is_list is. rw is (among (rw is_in at is_operand) is_list)))))

joined_found : (keyword : words.Keyword) (leading_part : Finder RawCond)
    → ((tokens : List TokenKind) (c : RawCond) (rest : List TokenKind) → leading_part tokens ≡ Some (c, rest) → IsJoinedBy keyword tokens c rest)
    → (tokens : List TokenKind) (parts : List RawCond) (rest : List TokenKind) → leading_list leading_part (after_keyword keyword) tokens ≡ Some (parts, rest) → AreJoinedBy keyword tokens parts rest
joined_found keyword leading_part part_found tokens parts rest e =
    parts_found leading_part (after_keyword keyword) (IsJoinedBy keyword) (Keyword keyword) (AreJoinedBy keyword) part_found (after_keyword-some keyword)
    (λ _ _ _ d. last_joined d) (λ _ _ _ _ _ d ds. more_joined d ds) (suc (length tokens)) tokens parts rest e

module _ (deeper : Finder RawCond) (deeper_found : (tokens : List TokenKind) (c : RawCond) (rest : List TokenKind) → deeper tokens ≡ Some (c, rest) → IsNegation tokens c rest) where
  conjunction_found : (tokens : List TokenKind) (c : RawCond) (rest : List TokenKind) → conjunction_with deeper tokens ≡ Some (c, rest) → IsConjunction tokens c rest
  conjunction_found tokens c rest e =
      found_then (leading_list deeper (after_keyword KAnd) tokens) _ _ e (λ parts found e.
      read_as IsConjunction tokens _ _ _ _ e (conjunction
      (joined_found KAnd deeper (λ tokens c rest e. conjunct (deeper_found tokens c rest e)) tokens parts.0 parts.1 found) refl))

  pub condition_found : (tokens : List TokenKind) (c : RawCond) (rest : List TokenKind) → condition_with deeper tokens ≡ Some (c, rest) → IsCondition tokens c rest
  condition_found tokens c rest e =
      found_then (leading_list (conjunction_with deeper) (after_keyword KOr) tokens) _ _ e (λ parts found e.
      read_as IsCondition tokens _ _ _ _ e (disjunction
      (joined_found KOr (conjunction_with deeper) (λ tokens c rest e. disjunct (conjunction_found tokens c rest e)) tokens parts.0 parts.1 found) refl))

  primary_found : (tokens : List TokenKind) (c : RawCond) (rest : List TokenKind) → primary_with deeper tokens ≡ Some (c, rest) → IsPrimary tokens c rest
  primary_found tokens c rest e =
      symbol_choice LeftParen tokens _ _ _ e
      (λ inside is_open e.
      found_then (condition_with deeper inside) _ _ e (λ found is_found e.
      symbol_then RightParen found.1 _ _ e (λ left is_close e.
      rw is_open (read_as IsPrimary _ _ _ _ _ e (parentheses (rw is_close at (condition_found inside found.0 found.1 is_found)))))))
      (λ _ e. found_then (leading_operand tokens) _ _ e (λ v found e. test_found tokens v.1 v.0 c rest (operand_found tokens v.0 v.1 found) e))

negation_found : (n : ℕ) (tokens : List TokenKind) (c : RawCond) (rest : List TokenKind) → leading_negation n tokens ≡ Some (c, rest) → IsNegation tokens c rest
negation_found zero tokens c rest e = absurd (none-some _ e)
negation_found (suc n) tokens c rest e =
    keyword_choice KNot tokens _ _ _ e
    (λ remaining is_not e. found_then (leading_negation n remaining) _ _ e (λ part found e.
    rw is_not (read_as IsNegation _ _ _ _ _ e (negated (negation_found n remaining part.0 part.1 found) refl))))
    (λ _ e. plain (primary_found (leading_negation n) (negation_found n) tokens c rest e))

-- what is found is a condition of the grammar
pub found : (tokens : List TokenKind) (c : RawCond) (rest : List TokenKind) → leading_condition tokens ≡ Some (c, rest) → IsCondition tokens c rest
unfolding leading_condition
found tokens c rest e = condition_found (leading_negation (suc (length tokens))) (negation_found (suc (length tokens))) tokens c rest e

operands_complete : (tokens : List TokenKind) (list : List RawOperand) (rest : List TokenKind) → IsListOf IsOperand (Symbol Comma) tokens list (Symbol RightParen ∷ rest) →
    leading_list leading_operand (after_symbol Comma) tokens ≡ Some (list, Symbol RightParen ∷ rest)
operands_complete tokens list rest is_list =
    list_complete leading_operand (after_symbol Comma) IsOperand (Symbol Comma) (λ rest. after_symbol Dot rest ≡ None) operand_complete (λ _. refl) (λ _ _ _ _. refl) operand_shorter
    tokens list (Symbol RightParen ∷ rest) is_list refl refl

operands_shorter : (tokens : List TokenKind) (list : List RawOperand) (rest : List TokenKind) → IsListOf IsOperand (Symbol Comma) tokens list rest → length rest < length tokens
operands_shorter tokens list rest is_list =
    list_shorter leading_operand (after_symbol Comma) IsOperand (Symbol Comma) (λ rest. after_symbol Dot rest ≡ None) operand_complete (λ _. refl) (λ _ _ _ _. refl) operand_shorter tokens list rest is_list

-- a condition takes at least one token
mutual
  pub condition_shorter : (tokens : List TokenKind) (c : RawCond) (rest : List TokenKind) → IsCondition tokens c rest → length rest < length tokens
  condition_shorter tokens c rest (disjunction ds e) = parts_shorter tokens _ rest ds

  conjunction_shorter : (tokens : List TokenKind) (c : RawCond) (rest : List TokenKind) → IsConjunction tokens c rest → length rest < length tokens
  conjunction_shorter tokens c rest (conjunction ds e) = parts_shorter tokens _ rest ds

  parts_shorter : {keyword : words.Keyword} (tokens : List TokenKind) (cs : List RawCond) (rest : List TokenKind) → AreJoinedBy keyword tokens cs rest → length rest < length tokens
  parts_shorter tokens cs rest (last_joined d) = part_shorter tokens _ rest d
  parts_shorter tokens cs rest (more_joined {keyword = keyword} {others = others} d ds) =
      let first : length (Keyword keyword ∷ others) < length tokens = part_shorter tokens _ (Keyword keyword ∷ others) d in
      omega (arith, first, parts_shorter others _ rest ds)

  part_shorter : {keyword : words.Keyword} (tokens : List TokenKind) (c : RawCond) (rest : List TokenKind) → IsJoinedBy keyword tokens c rest → length rest < length tokens
  part_shorter tokens c rest (disjunct d) = conjunction_shorter tokens c rest d
  part_shorter tokens c rest (conjunct d) = negation_shorter tokens c rest d

  negation_shorter : (tokens : List TokenKind) (c : RawCond) (rest : List TokenKind) → IsNegation tokens c rest → length rest < length tokens
  negation_shorter _ c rest (negated {tokens = tokens} d e) = omega (arith, negation_shorter tokens _ rest d)
  negation_shorter tokens c rest (plain d) = primary_shorter tokens c rest d

  primary_shorter : (tokens : List TokenKind) (c : RawCond) (rest : List TokenKind) → IsPrimary tokens c rest → length rest < length tokens
  primary_shorter _ c rest (parentheses {tokens = tokens} d) =
      let inside : length (Symbol RightParen ∷ rest) < length tokens = condition_shorter tokens c (Symbol RightParen ∷ rest) d in
      omega (arith, inside)
  primary_shorter tokens c rest (comparison {sign = sign} {others = others} a op b) =
      let first : length (Symbol sign ∷ others) < length tokens = operand_shorter tokens _ (Symbol sign ∷ others) a in
      omega (arith, first, operand_shorter others _ rest b)
  primary_shorter tokens c rest (between {lows = lows} {highs = highs} a b d) =
      let first : length (Keyword KBetween ∷ lows) < length tokens = operand_shorter tokens _ (Keyword KBetween ∷ lows) a in
      let low : length (Keyword KAnd ∷ highs) < length lows = operand_shorter lows _ (Keyword KAnd ∷ highs) b in
      omega (arith, first, low, operand_shorter highs _ rest d)
  primary_shorter tokens c rest (not_between {lows = lows} {highs = highs} a b d e) =
      let first : length (Keyword KNot ∷ Keyword KBetween ∷ lows) < length tokens = operand_shorter tokens _ (Keyword KNot ∷ Keyword KBetween ∷ lows) a in
      let low : length (Keyword KAnd ∷ highs) < length lows = operand_shorter lows _ (Keyword KAnd ∷ highs) b in
      omega (arith, first, low, operand_shorter highs _ rest d)
  primary_shorter tokens c rest (among {others = others} a b) =
      let first : length (Keyword KIn ∷ Symbol LeftParen ∷ others) < length tokens = operand_shorter tokens _ (Keyword KIn ∷ Symbol LeftParen ∷ others) a in
      let list : length (Symbol RightParen ∷ rest) < length others = operands_shorter others _ (Symbol RightParen ∷ rest) b in
      omega (arith, first, list)
  primary_shorter tokens c rest (not_among {others = others} a b e) =
      let first : length (Keyword KNot ∷ Keyword KIn ∷ Symbol LeftParen ∷ others) < length tokens = operand_shorter tokens _ (Keyword KNot ∷ Keyword KIn ∷ Symbol LeftParen ∷ others) a in
      let list : length (Symbol RightParen ∷ rest) < length others = operands_shorter others _ (Symbol RightParen ∷ rest) b in
      omega (arith, first, list)
  primary_shorter tokens c rest (missing a) =
      let first : length (Keyword KIs ∷ Keyword KNull ∷ rest) < length tokens = operand_shorter tokens _ (Keyword KIs ∷ Keyword KNull ∷ rest) a in
      omega (arith, first)
  primary_shorter tokens c rest (present a e) =
      let first : length (Keyword KIs ∷ Keyword KNot ∷ Keyword KNull ∷ rest) < length tokens = operand_shorter tokens _ (Keyword KIs ∷ Keyword KNot ∷ Keyword KNull ∷ rest) a in
      omega (arith, first)

-- a primary does not begin with NOT
primary-no_not : (tokens : List TokenKind) (c : RawCond) (rest : List TokenKind) → IsPrimary tokens c rest → after_keyword KNot tokens ≡ None
primary-no_not tokens c rest (parentheses d) = refl
primary-no_not tokens c rest (comparison a op b) = no_not tokens _ _ a
primary-no_not tokens c rest (between a b d) = no_not tokens _ _ a
primary-no_not tokens c rest (not_between a b d e) = no_not tokens _ _ a
primary-no_not tokens c rest (among a b) = no_not tokens _ _ a
primary-no_not tokens c rest (not_among a b e) = no_not tokens _ _ a
primary-no_not tokens c rest (missing a) = no_not tokens _ _ a
primary-no_not tokens c rest (present a e) = no_not tokens _ _ a

-- what cannot follow a whole condition
pub record Ends (rest : List TokenKind) : Type 0 where
  pub no_dot : after_symbol Dot rest ≡ None
  pub no_and : after_keyword KAnd rest ≡ None
  pub no_or : after_keyword KOr rest ≡ None

-- the whole condition is found if nothing after it continues it
mutual
  unfolding leading_test leading_comparison leading_range leading_between leading_among leading_null

  condition_complete : (n : ℕ) (tokens : List TokenKind) (c : RawCond) (rest : List TokenKind) → IsCondition tokens c rest → Ends rest → length tokens < n → condition_with (leading_negation n) tokens ≡ Some (c, rest)
  condition_complete n tokens c rest (disjunction ds e) ends enough = rw (disjuncts_complete n (suc (length tokens)) tokens _ rest ds ends enough (omega arith), e) refl

  disjuncts_complete : (n m : ℕ) (tokens : List TokenKind) (cs : List RawCond) (rest : List TokenKind) → AreJoinedBy KOr tokens cs rest → Ends rest → length tokens < n → length tokens < m →
      leading_parts (conjunction_with (leading_negation n)) (after_keyword KOr) m tokens ≡ Some (cs, rest)
  disjuncts_complete n zero tokens cs rest ds ends enough bound = absurd (omega arith)
  disjuncts_complete n (suc m) tokens cs rest (last_joined (disjunct d)) ends enough bound = rw (conjunction_complete n tokens _ rest d ends.no_dot ends.no_and enough, ends.no_or) refl
  disjuncts_complete n (suc m) tokens cs rest (more_joined {others = others} (disjunct d) ds) ends enough bound =
      let first : length (Keyword KOr ∷ others) < length tokens = conjunction_shorter tokens _ (Keyword KOr ∷ others) d in
      rw (conjunction_complete n tokens _ (Keyword KOr ∷ others) d refl refl enough, disjuncts_complete n m others _ rest ds ends (omega (arith, first)) (omega (arith, first))) refl

  conjunction_complete : (n : ℕ) (tokens : List TokenKind) (c : RawCond) (rest : List TokenKind) → IsConjunction tokens c rest → after_symbol Dot rest ≡ None → after_keyword KAnd rest ≡ None → length tokens < n →
      conjunction_with (leading_negation n) tokens ≡ Some (c, rest)
  conjunction_complete n tokens c rest (conjunction ds e) no_dot no_and enough = rw (conjuncts_complete n (suc (length tokens)) tokens _ rest ds no_dot no_and enough (omega arith), e) refl

  conjuncts_complete : (n m : ℕ) (tokens : List TokenKind) (cs : List RawCond) (rest : List TokenKind) → AreJoinedBy KAnd tokens cs rest → after_symbol Dot rest ≡ None → after_keyword KAnd rest ≡ None → length tokens < n → length tokens < m →
      leading_parts (leading_negation n) (after_keyword KAnd) m tokens ≡ Some (cs, rest)
  conjuncts_complete n zero tokens cs rest ds no_dot no_and enough bound = absurd (omega arith)
  conjuncts_complete n (suc m) tokens cs rest (last_joined (conjunct d)) no_dot no_and enough bound = rw (negation_complete n tokens _ rest d no_dot enough, no_and) refl
  conjuncts_complete n (suc m) tokens cs rest (more_joined {others = others} (conjunct d) ds) no_dot no_and enough bound =
      let first : length (Keyword KAnd ∷ others) < length tokens = negation_shorter tokens _ (Keyword KAnd ∷ others) d in
      rw (negation_complete n tokens _ (Keyword KAnd ∷ others) d refl enough, conjuncts_complete n m others _ rest ds no_dot no_and (omega (arith, first)) (omega (arith, first))) refl

  negation_complete : (n : ℕ) (tokens : List TokenKind) (c : RawCond) (rest : List TokenKind) → IsNegation tokens c rest → after_symbol Dot rest ≡ None → length tokens < n → leading_negation n tokens ≡ Some (c, rest)
  negation_complete zero tokens c rest d no_dot enough = absurd (omega arith)
  negation_complete (suc n) _ c rest (negated {tokens = tokens} d e) no_dot enough = rw (negation_complete n tokens _ rest d no_dot (omega arith), e) refl
  negation_complete (suc n) tokens c rest (plain d) no_dot enough = rw (primary-no_not tokens c rest d) (primary_complete n tokens c rest d no_dot (omega arith))

  primary_complete : (n : ℕ) (tokens : List TokenKind) (c : RawCond) (rest : List TokenKind) → IsPrimary tokens c rest → after_symbol Dot rest ≡ None → length tokens ≤ n → primary_with (leading_negation n) tokens ≡ Some (c, rest)
  primary_complete n _ c rest (parentheses {tokens = tokens} d) no_dot enough =
      rw (condition_complete n tokens c (Symbol RightParen ∷ rest) d (record { no_dot = refl; no_and = refl; no_or = refl }) (omega arith)) refl
  primary_complete n tokens c rest (comparison {sign = sign} {others = others} a op b) no_dot enough =
      rw (no_parenthesis tokens _ _ a, operand_complete tokens _ (Symbol sign ∷ others) a (no_operator-dot sign _ others op), operator_complete sign _ op, operand_complete others _ rest b no_dot) refl
  primary_complete n tokens c rest (between {lows = lows} {highs = highs} a b d) no_dot enough =
      rw (no_parenthesis tokens _ _ a, operand_complete tokens _ (Keyword KBetween ∷ lows) a refl, operand_complete lows _ (Keyword KAnd ∷ highs) b refl, operand_complete highs _ rest d no_dot) refl
  primary_complete n tokens c rest (not_between {lows = lows} {highs = highs} a b d e) no_dot enough =
      rw (no_parenthesis tokens _ _ a, operand_complete tokens _ (Keyword KNot ∷ Keyword KBetween ∷ lows) a refl, operand_complete lows _ (Keyword KAnd ∷ highs) b refl, operand_complete highs _ rest d no_dot, e) refl
  primary_complete n tokens c rest (among {others = others} a b) no_dot enough =
      rw (no_parenthesis tokens _ _ a, operand_complete tokens _ (Keyword KIn ∷ Symbol LeftParen ∷ others) a refl, operands_complete others _ rest b) refl
  primary_complete n tokens c rest (not_among {others = others} a b e) no_dot enough =
      rw (no_parenthesis tokens _ _ a, operand_complete tokens _ (Keyword KNot ∷ Keyword KIn ∷ Symbol LeftParen ∷ others) a refl, operands_complete others _ rest b, e) refl
  primary_complete n tokens c rest (missing a) no_dot enough =
      rw (no_parenthesis tokens _ _ a, operand_complete tokens _ (Keyword KIs ∷ Keyword KNull ∷ rest) a refl) refl
  primary_complete n tokens c rest (present a e) no_dot enough =
      rw (no_parenthesis tokens _ _ a, operand_complete tokens _ (Keyword KIs ∷ Keyword KNot ∷ Keyword KNull ∷ rest) a refl, e) refl

pub complete : (tokens : List TokenKind) (c : RawCond) (rest : List TokenKind) → IsCondition tokens c rest → Ends rest → leading_condition tokens ≡ Some (c, rest)
unfolding leading_condition
complete tokens c rest is_condition ends = condition_complete (suc (length tokens)) tokens c rest is_condition ends (omega arith)
