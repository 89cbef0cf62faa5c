-- Records: the fields of one, in turn, and how a text that is exactly one record is read.
use Rattle.std.proofs.Common.{◌≡◌, ℕ, zero, suc, ◌+◌, List, [], ◌∷◌, ◌++◌, length, take, Option, Some, None, ◌∙◌, refl, sym, ap, arith, true, false}
use Rattle.csv.specs.Machine.{next_record}
use Rattle.csv.specs.Reading.{default_config, records, records_from, records_next, Reached, ReadRecord, source_of, reader_state}
use Rattle.csv.specs.Records.{field_at}
use Rattle.csv.specs.declared.parser.State.{State}
use Rattle.csv.specs.declared.reader.Reader.{Reader}
use Rattle.csv.proofs.ReadFacts.{rows-end, rows-more}
use Rattle.csv.specs.declared.parser.State.TheVariants as st
use Rattle.hippo_csv.specs.Records.{only_member}
use Rattle.hippo_csv.specs.Extracting.{IsAtStart}

-- the fields before an index and the field at it are those before the next index
pub one_field_more : (fields : List (List ℕ)) (place : ℕ) (field : List ℕ) → field_at fields place ≡ Some field
    → take (place + 1) fields ≡ take place fields ++ (field ∷ [])
unfolding field_at
one_field_more [] place field found = absurd cc
one_field_more (first ∷ rest) zero field found = cc
one_field_more (first ∷ rest) (suc place) field found =
    let next : suc place + 1 ≡ suc (place + 1) = omega arith in
    rw next (ap (λ taken. first ∷ taken) (one_field_more rest place field found))

-- the fields before the last index are all fields
pub no_field_more : (fields : List (List ℕ)) (place : ℕ) → field_at fields place ≡ None → take place fields ≡ fields
unfolding field_at
no_field_more [] zero none = refl
no_field_more [] (suc place) none = refl
no_field_more (first ∷ rest) zero none = absurd cc
no_field_more (first ∷ rest) (suc place) none = ap (λ taken. first ∷ taken) (no_field_more rest place none)

-- the first of at most n + 1 records
pub first_record : (n : ℕ) (state : State) (text : List ℕ) → records_from default_config (n + 1) state text
    ≡ records_next (records_from default_config n) (next_record default_config state [] [] text)
unfolding records_from
first_record n state text =
    let next : n + 1 ≡ suc n = omega arith in
    rw next refl

-- a text with one record and no more
one_record : (text rest : List ℕ) (fields : List (List ℕ)) (state : State)
    → Reached default_config st.StartRecord text (fields ∷ []) state rest → next_record default_config state [] [] rest ≡ None
    → Some fields ≡ only_member (records default_config text)
unfolding Reached records_from next_record
one_record [] rest fields state (read, first, same, (at_state, at_rest)) none = absurd cc
one_record (byte ∷ text) rest fields state (read, first, same, (at_state, at_rest)) none =
    let ended : next_record default_config read.1 [] [] read.2 ≡ None = rw (at_state, at_rest) none in
    rw (first_record (length (byte ∷ text)) st.StartRecord (byte ∷ text), first, ended, same) refl

-- a text with another record
further_record : (text rest : List ℕ) (fields more : List (List ℕ)) (state : State)
    → Reached default_config st.StartRecord text (fields ∷ more ∷ []) state rest
    → None ≡ only_member (records default_config text)
unfolding Reached records_from next_record
further_record [] rest fields more state (read, first, same, remaining) = absurd cc
further_record (byte ∷ text) rest fields more state (read, first, same, (second, next, also, end)) =
    rw (first_record (length (byte ∷ text)) st.StartRecord (byte ∷ text), first, next) refl

-- nothing is read
pub none_read : {R : Type 0} (told : R → Option (List ℕ)) (reader after : Reader R) (text : List ℕ) (fields : List (List ℕ))
    → IsAtStart told reader text → ReadRecord told reader after false fields → None ≡ only_member (records default_config text)
none_read told reader after text fields begins read =
    let none = rows-end told reader after fields default_config text begins.config begins.source read in
    rw (first_record (length text) st.StartRecord text, rw begins.state at none) refl

-- what the first read leaves for a second one
one_read : {R : Type 0} (told : R → Option (List ℕ)) (reader after : Reader R) (text : List ℕ) (fields : List (List ℕ))
    → IsAtStart told reader text → ReadRecord told reader after true fields
    → (rest : List ℕ) × (source_of told after ≡ Some rest) × Reached default_config st.StartRecord text (fields ∷ []) (reader_state after) rest
unfolding Reached
one_read told reader after text fields begins read =
    rows-more told reader after fields default_config st.StartRecord text text [] begins.config begins.source (sym begins.state, refl) read

-- one record is read, and then nothing
pub only_one_read : {R : Type 0} (told : R → Option (List ℕ)) (reader after end : Reader R) (text : List ℕ) (fields more : List (List ℕ))
    → IsAtStart told reader text → ReadRecord told reader after true fields → ReadRecord told after end false more
    → Some fields ≡ only_member (records default_config text)
only_one_read told reader after end text fields more begins read none =
    let (rest, source, reached) = one_read told reader after text fields begins read in
    one_record text rest fields (reader_state after) reached
    (rows-end told after end more default_config rest (read.2 ∙ begins.config) source none)

-- two records are read
pub two_read : {R : Type 0} (told : R → Option (List ℕ)) (reader after end : Reader R) (text : List ℕ) (fields more : List (List ℕ))
    → IsAtStart told reader text → ReadRecord told reader after true fields → ReadRecord told after end true more
    → None ≡ only_member (records default_config text)
two_read told reader after end text fields more begins read next =
    let (rest, source, reached) = one_read told reader after text fields begins read in
    let (remaining, told_after, both) = rows-more told after end more default_config st.StartRecord text rest (fields ∷ []) (read.2 ∙ begins.config) source reached next in
    further_record text remaining fields more (reader_state end) both
