-- What is found at the front of a list of tokens is there.
use Rattle.std.proofs.Common.{◌≡◌, ℕ, Bool, true, List, ◌∷◌, Option, Some, None, refl, bytes_eq, cond}
use Rattle.std.proofs.lemmas.Option.{cond_some, none-some, some_pair_parts}
use Rattle.std.proofs.lemmas.Slice.Eq.{bytes_eq-Decides}
use denote.Enum.Bare.{same_true}
use Rattle.hippo_values.specs.contracts.keywords.Keyword as keywords
use Rattle.hippo_lexer.specs.contracts.kinds.Symbol as symbols
use Rattle.hippo_values.specs.declared.keywords.Keyword as words
use Rattle.hippo_values.specs.Options.{◌>>=◌}
use Rattle.hippo_lexer.specs.declared.kinds.Symbol as signs
use Rattle.hippo_lexer.specs.declared.kinds.TokenKind.{TokenKind}
use Rattle.hippo_lexer.specs.declared.kinds.TokenKind.TheVariants.{Word, Keyword, Symbol}
use Rattle.hippo_spj_reader.specs.Promises.{either}
use Rattle.hippo_spj_reader.specs.Front.{after_keyword, after_symbol, after_word, same_keyword, same_symbol, leading_name}

-- if two parts are found together, one after the other, each of them is found
pub found_then : {A B P : Type 0} (found : Option A) (next : A → Option B) (y : B) → (found >>= next) ≡ Some y → ((x : A) → found ≡ Some x → next x ≡ Some y → P) → P
found_then (Some x) next y e then = then x refl e
found_then None next y e then = absurd (none-some y e)

-- which of two alternatives was found
pub choice : {A B P : Type 0} (found : Option A) (one : A → Option B) (other y : Option B) → either found one other ≡ y →
    ((x : A) → found ≡ Some x → one x ≡ y → P) → (found ≡ None → other ≡ y → P) → P
choice (Some x) one other y e first second = first x refl e
choice None one other y e first second = second refl e

-- if the first token passes the test for what is wanted, it is what is wanted, and the rest follows
-- it
first_is : {A : Type 0} (kind : A → TokenKind) (test : Bool) (first wanted : A) (remaining rest : List TokenKind) → (test ≡ true → first ≡ wanted) →
    cond test (Some remaining) None ≡ Some rest → kind first ∷ remaining ≡ kind wanted ∷ rest
first_is kind test first wanted remaining rest same e =
    let p = cond_some test remaining rest e in
    rw (same p.0, p.1) refl

pub after_keyword-some : (keyword : words.Keyword) (tokens rest : List TokenKind) → after_keyword keyword tokens ≡ Some rest → tokens ≡ Keyword keyword ∷ rest
after_keyword-some keyword (Keyword first ∷ remaining) rest e = first_is Keyword (same_keyword first keyword) first keyword remaining rest (same_true keywords.the_type tt first keyword) e
after_keyword-some keyword _ rest e = absurd (none-some rest e)

pub after_symbol-some : (symbol : signs.Symbol) (tokens rest : List TokenKind) → after_symbol symbol tokens ≡ Some rest → tokens ≡ Symbol symbol ∷ rest
after_symbol-some symbol (Symbol first ∷ remaining) rest e = first_is Symbol (same_symbol first symbol) first symbol remaining rest (same_true symbols.the_type tt first symbol) e
after_symbol-some symbol _ rest e = absurd (none-some rest e)

pub after_word-some : (word : List ℕ) (tokens rest : List TokenKind) → after_word word tokens ≡ Some rest → tokens ≡ Word word ∷ rest
after_word-some word (Word first ∷ remaining) rest e = first_is Word (bytes_eq first word) first word remaining rest (bytes_eq-Decides first word).0 e
after_word-some word _ rest e = absurd (none-some rest e)

pub after_word-same : (word : List ℕ) (rest : List TokenKind) → after_word word (Word word ∷ rest) ≡ Some rest
after_word-same word rest = rw ((bytes_eq-Decides word word).1 refl) refl

pub leading_name-some : (tokens rest : List TokenKind) (name : List ℕ) → leading_name tokens ≡ Some (name, rest) → tokens ≡ Word name ∷ rest
leading_name-some (Word first ∷ remaining) rest name e = let p = some_pair_parts first name remaining rest e in rw (p.0, p.1) refl
leading_name-some _ rest name e = absurd (none-some _ e)

-- the same for a keyword, a symbol, a word or a name
pub keyword_then : {B P : Type 0} (keyword : words.Keyword) (tokens : List TokenKind) (next : List TokenKind → Option B) (y : B) → (after_keyword keyword tokens >>= next) ≡ Some y →
    ((rest : List TokenKind) → tokens ≡ Keyword keyword ∷ rest → next rest ≡ Some y → P) → P
keyword_then keyword tokens next y e then = found_then (after_keyword keyword tokens) next y e (λ rest found. then rest (after_keyword-some keyword tokens rest found))

pub symbol_then : {B P : Type 0} (symbol : signs.Symbol) (tokens : List TokenKind) (next : List TokenKind → Option B) (y : B) → (after_symbol symbol tokens >>= next) ≡ Some y →
    ((rest : List TokenKind) → tokens ≡ Symbol symbol ∷ rest → next rest ≡ Some y → P) → P
symbol_then symbol tokens next y e then = found_then (after_symbol symbol tokens) next y e (λ rest found. then rest (after_symbol-some symbol tokens rest found))

pub word_then : {B P : Type 0} (word : List ℕ) (tokens : List TokenKind) (next : List TokenKind → Option B) (y : B) → (after_word word tokens >>= next) ≡ Some y →
    ((rest : List TokenKind) → tokens ≡ Word word ∷ rest → next rest ≡ Some y → P) → P
word_then word tokens next y e then = found_then (after_word word tokens) next y e (λ rest found. then rest (after_word-some word tokens rest found))

pub name_then : {B P : Type 0} (tokens : List TokenKind) (next : List ℕ × List TokenKind → Option B) (y : B) → (leading_name tokens >>= next) ≡ Some y →
    ((name : List ℕ) (rest : List TokenKind) → tokens ≡ Word name ∷ rest → next (name, rest) ≡ Some y → P) → P
name_then tokens next y e then = found_then (leading_name tokens) next y e (λ x found. then x.0 x.1 (leading_name-some tokens x.1 x.0 found))

pub keyword_choice : {B P : Type 0} (keyword : words.Keyword) (tokens : List TokenKind) (one : List TokenKind → Option B) (other y : Option B) → either (after_keyword keyword tokens) one other ≡ y →
    ((rest : List TokenKind) → tokens ≡ Keyword keyword ∷ rest → one rest ≡ y → P) → (after_keyword keyword tokens ≡ None → other ≡ y → P) → P
keyword_choice keyword tokens one other y e first second =
    choice (after_keyword keyword tokens) one other y e (λ rest found. first rest (after_keyword-some keyword tokens rest found)) second

pub symbol_choice : {B P : Type 0} (symbol : signs.Symbol) (tokens : List TokenKind) (one : List TokenKind → Option B) (other y : Option B) → either (after_symbol symbol tokens) one other ≡ y →
    ((rest : List TokenKind) → tokens ≡ Symbol symbol ∷ rest → one rest ≡ y → P) → (after_symbol symbol tokens ≡ None → other ≡ y → P) → P
symbol_choice symbol tokens one other y e first second =
    choice (after_symbol symbol tokens) one other y e (λ rest found. first rest (after_symbol-some symbol tokens rest found)) second

pub word_choice : {B P : Type 0} (word : List ℕ) (tokens : List TokenKind) (one : List TokenKind → Option B) (other y : Option B) → either (after_word word tokens) one other ≡ y →
    ((rest : List TokenKind) → tokens ≡ Word word ∷ rest → one rest ≡ y → P) → (after_word word tokens ≡ None → other ≡ y → P) → P
word_choice word tokens one other y e first second =
    choice (after_word word tokens) one other y e (λ rest found. first rest (after_word-some word tokens rest found)) second

-- what was found is the reading and the rest that are wanted
pub read_as : {X : Type 0} (IsPart : List TokenKind → X → List TokenKind → Type 0) (tokens rest' rest : List TokenKind) (part' part : X) →
    ◌≡◌ {A = Option (X × List TokenKind)} (Some (part', rest')) (Some (part, rest)) → IsPart tokens part' rest' → IsPart tokens part rest
read_as IsPart tokens rest' rest part' part e is_part =
    let whole = some_pair_parts part' part rest' rest e in
    rw (← whole.0, ← whole.1) is_part
