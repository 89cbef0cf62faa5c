-- The entries of a page: how many there are, which is the last, and adding one more.
use Rattle.std.proofs.Common.{◌≡◌, ◌∙◌, ℕ, zero, suc, ◌+◌, ◌-◌, ◌<◌, ◌≤◌, List, [], ◌∷◌, ◌++◌, length, get_or, take, drop, position, bytes_eq, Some, slice_get, ap, sym, refl, subst, add-one, length-take, length-append, arith}
use Rattle.std.proofs.Math.Seq.{drop-cons, drop-append_seam, take-length}
use Rattle.std.proofs.lemmas.List.{get_or-take, take-append-le, drop-append-le, length-drop}
use Rattle.std.proofs.lemmas.List.Quantifiers.{position-Some}
use Rattle.std.proofs.lemmas.Option.{slice_get-get_or, slice_get_within, get_or_from_slice_get}
use Rattle.std.proofs.lemmas.Slice.Eq.{bytes_eq-Decides}
use Rattle.hippo_keeper.specs.Keeping.{Store, last_number}
use Rattle.hippo_keeper.specs.Paging.{entry_with, page_entries, AreWithinPage}
use Rattle.hippo_keeper.specs.declared.head.Head.{Head}

-- the name is at the index where it is found
pub stands_at : (tables : List (List ℕ)) (name : List ℕ) (place : ℕ) → position (λ table. bytes_eq table name) tables ≡ Some place → slice_get tables place ≡ Some name
stands_at tables name place found =
    let at = position-Some (λ table. bytes_eq table name) tables place [] found in
    slice_get-get_or tables place [] at.0 ∙ ap Some ((bytes_eq-Decides (get_or tables place []) name).0 at.1)

-- a name that is added is at the end
pub stands_after : (tables : List (List ℕ)) (name : List ℕ) → slice_get (tables ++ name ∷ []) (length tables) ≡ Some name
stands_after tables name =
    slice_get-get_or (tables ++ name ∷ []) (length tables) [] (omega (arith, length-append tables (name ∷ []))) ∙ ap Some (get_or-append_seam tables name)
  where
    get_or-append_seam : (front : List (List ℕ)) (last : List ℕ) → get_or (front ++ last ∷ []) (length front) [] ≡ last
    get_or-append_seam [] last = refl
    get_or-append_seam (first ∷ rest) last = get_or-append_seam rest last

-- a list that begins with another list is no shorter, and has the same members there
pub front_length : {A : Type 0} (front more : List A) → take (length front) more ≡ front → length front ≤ length more
front_length front more kept = omega (arith, ap length kept, length-take (length front) more)

pub front_at : {A : Type 0} (front more : List A) (d : A) (i : ℕ) → take (length front) more ≡ front → i < length front → get_or more i d ≡ get_or front i d
front_at front more d i kept inside = sym (get_or-take (length front) more i d inside) ∙ ap (λ list. get_or list i d) kept

-- there is one entry for each head, and the last entry belongs to the last head
pub length-page_entries : (tables : List (List ℕ)) (bodies : List ℕ) (start : ℕ) (heads : List Head) → length (page_entries tables bodies start heads) ≡ length heads
length-page_entries tables bodies start [] = refl
length-page_entries tables bodies start (head ∷ rest) = ap suc (length-page_entries tables bodies head.end rest)

pub some_entry : (tables : List (List ℕ)) (bodies : List ℕ) (start : ℕ) (heads : List Head) (entries : Store) → page_entries tables bodies start heads ≡ entries → 0 < length heads → 0 < length entries
some_entry tables bodies start heads entries is some = omega (arith, ap length is, length-page_entries tables bodies start heads)

pub last_number-page : (tables : List (List ℕ)) (bodies : List ℕ) (start number : ℕ) (heads : List Head) (i : ℕ) (last : Head) → suc i ≡ length heads → last ≡ get_or heads i last → last_number number (page_entries tables bodies start heads) ≡ last.seq
last_number-page tables bodies start number [] i last size is = absurd (omega arith)
last_number-page tables bodies start number (head ∷ []) zero last size is = ap (λ (one : Head). one.seq) (sym is)
last_number-page tables bodies start number (head ∷ []) (suc i) last size is = absurd (omega arith)
last_number-page tables bodies start number (head ∷ next ∷ rest) zero last size is = absurd (omega arith)
last_number-page tables bodies start number (head ∷ next ∷ rest) (suc i) last size is = last_number-page tables bodies head.end head.seq (next ∷ rest) i last (omega arith) is

-- the first body begins within the bodies
pub AreWithinPage-start : (count size start : ℕ) (heads : List Head) → AreWithinPage count size start heads → start ≤ size
AreWithinPage-start count size start [] within = let same : start ≡ size = within in omega arith
AreWithinPage-start count size start (head ∷ rest) within =
    let later = AreWithinPage-start count size head.end rest within.1.1 in
    let first : start ≤ head.end = within.1.0 in
    omega arith

-- more names of tables
pub AreWithinPage-named : (count more size start : ℕ) (heads : List Head) → count ≤ more → AreWithinPage count size start heads → AreWithinPage more size start heads
AreWithinPage-named count more size start [] le within = within
AreWithinPage-named count more size start (head ∷ rest) le within =
    let inside : head.table < count = within.0 in
    (omega arith, (within.1.0, AreWithinPage-named count more size head.end rest le within.1.1))

pub page_entries-named : (tables more : List (List ℕ)) (bodies : List ℕ) (size start : ℕ) (heads : List Head) → take (length tables) more ≡ tables → AreWithinPage (length tables) size start heads → page_entries more bodies start heads ≡ page_entries tables bodies start heads
page_entries-named tables more bodies size start [] kept within = refl
page_entries-named tables more bodies size start (head ∷ rest) kept within =
    λ i. entry_with head (front_at tables more [] head.table kept within.0 i) (take (head.end - start) (drop start bodies)) ∷ page_entries-named tables more bodies size head.end rest kept within.1.1 i

-- one more entry
pub AreWithinPage-put : (count size start : ℕ) (heads : List Head) (head : Head) → AreWithinPage count size start heads → head.table < count → size ≤ head.end → AreWithinPage count head.end start (heads ++ head ∷ [])
AreWithinPage-put count size start [] head within inside le = let same : start ≡ size = within in (inside, (omega arith, refl))
AreWithinPage-put count size start (first ∷ rest) head within inside le =
    (within.0, (within.1.0, AreWithinPage-put count size first.end rest head within.1.1 inside le))

-- a body stays the same when bodies are added after it, and the added body is the next one
body_kept : (bodies body : List ℕ) (start end : ℕ) → start ≤ end → end ≤ length bodies → take (end - start) (drop start (bodies ++ body)) ≡ take (end - start) (drop start bodies)
body_kept bodies body start end first last =
    ap (take (end - start)) (drop-append-le start bodies body (omega arith))
    ∙ take-append-le (end - start) (drop start bodies) body (omega (arith, length-drop start bodies))

body_after : (bodies body : List ℕ) (start end : ℕ) → start ≡ length bodies → end ≡ length bodies + length body → take (end - start) (drop start (bodies ++ body)) ≡ body
body_after bodies body start end first last =
    let size : end - start ≡ length body = omega arith in
    rw (size, first) (ap (take (length body)) (drop-append_seam bodies body) ∙ take-length body)

pub page_entries-put : (tables : List (List ℕ)) (bodies body : List ℕ) (head : Head) (start : ℕ) (heads : List Head) → AreWithinPage (length tables) (length bodies) start heads → head.end ≡ length bodies + length body → page_entries tables (bodies ++ body) start (heads ++ head ∷ []) ≡ page_entries tables bodies start heads ++ entry_with head (get_or tables head.table []) body ∷ []
page_entries-put tables bodies body head start [] within end =
    λ i. entry_with head (get_or tables head.table []) (body_after bodies body start head.end within end i) ∷ []
page_entries-put tables bodies body head start (first ∷ rest) within end =
    let kept = body_kept bodies body start first.end within.1.0 (AreWithinPage-start (length tables) (length bodies) first.end rest within.1.1) in
    λ i. entry_with first (get_or tables first.table []) (kept i) ∷ page_entries-put tables bodies body head first.end rest within.1.1 end i

-- the entry that is added at the end of a page, when the page has its table's name
pub page_entries-push : (tables more : List (List ℕ)) (bodies body table : List ℕ) (head : Head) (heads : List Head) → take (length tables) more ≡ tables → AreWithinPage (length tables) (length bodies) 0 heads → head.end ≡ length bodies + length body → slice_get more head.table ≡ Some table → page_entries more (bodies ++ body) 0 (heads ++ head ∷ []) ≡ page_entries tables bodies 0 heads ++ entry_with head table body ∷ []
page_entries-push tables more bodies body table head heads kept within end named =
    let known = AreWithinPage-named (length tables) (length more) (length bodies) 0 heads (front_length tables more kept) within in
    page_entries-put more bodies body head 0 heads known end
    ∙ (λ i. page_entries-named tables more bodies (length bodies) 0 heads kept within i ++ entry_with head (get_or_from_slice_get more head.table table [] named i) body ∷ [])

pub AreWithinPage-push : (tables more : List (List ℕ)) (bodies body table : List ℕ) (head : Head) (heads : List Head) → take (length tables) more ≡ tables → AreWithinPage (length tables) (length bodies) 0 heads → head.end ≡ length bodies + length body → slice_get more head.table ≡ Some table → AreWithinPage (length more) (length (bodies ++ body)) 0 (heads ++ head ∷ [])
AreWithinPage-push tables more bodies body table head heads kept within end named =
    let known = AreWithinPage-named (length tables) (length more) (length bodies) 0 heads (front_length tables more kept) within in
    let size : head.end ≡ length (bodies ++ body) = omega (arith, length-append bodies body) in
    subst (λ (size : ℕ). AreWithinPage (length more) size 0 (heads ++ head ∷ [])) size (AreWithinPage-put (length more) (length bodies) 0 heads head known (slice_get_within more head.table table named) (omega arith))

-- the fields of the next head
next_head : (heads : List Head) (i : ℕ) (d : Head) → i < length heads → drop i heads ≡ get_or heads i d ∷ drop (i + 1) heads
next_head heads i d inside = drop-cons heads i d inside ∙ ap (λ (n : ℕ). get_or heads i d ∷ drop n heads) (sym (add-one i))

next_within : (count size start : ℕ) (heads : List Head) (i : ℕ) (d : Head) → i < length heads → AreWithinPage count size start (drop i heads) → AreWithinPage count size start (get_or heads i d ∷ drop (i + 1) heads)
next_within count size start heads i d inside within = subst (λ (heads : List Head). AreWithinPage count size start heads) (next_head heads i d inside) within

pub AreWithinPage-next : (count size start : ℕ) (heads : List Head) (i : ℕ) (d : Head) → i < length heads → AreWithinPage count size start (drop i heads) → AreWithinPage count size (get_or heads i d).end (drop (i + 1) heads)
AreWithinPage-next count size start heads i d inside within = (next_within count size start heads i d inside within).1.1

pub table_within : (count size start : ℕ) (heads : List Head) (i : ℕ) (d : Head) (place : ℕ) → i < length heads → AreWithinPage count size start (drop i heads) → place ≡ (get_or heads i d).table → place < count
table_within count size start heads i d place inside within is = let known : (get_or heads i d).table < count = (next_within count size start heads i d inside within).0 in omega arith

pub end_within : (count size start : ℕ) (heads : List Head) (i : ℕ) (d : Head) → i < length heads → AreWithinPage count size start (drop i heads) → (get_or heads i d).end ≤ size
end_within count size start heads i d inside within = AreWithinPage-start count size (get_or heads i d).end (drop (i + 1) heads) (AreWithinPage-next count size start heads i d inside within)

-- the entry of the next head, and the entries after it
pub page_entries-next : (tables : List (List ℕ)) (bodies table body : List ℕ) (start : ℕ) (heads : List Head) (i : ℕ) (d : Head) → i < length heads → table ≡ get_or tables (get_or heads i d).table [] → body ≡ take ((get_or heads i d).end - start) (drop start bodies) → page_entries tables bodies start (drop i heads) ≡ entry_with (get_or heads i d) table body ∷ page_entries tables bodies (get_or heads i d).end (drop (i + 1) heads)
page_entries-next tables bodies table body start heads i d inside named cut =
    ap (page_entries tables bodies start) (next_head heads i d inside)
    ∙ (λ j. entry_with (get_or heads i d) (sym named j) (sym cut j) ∷ page_entries tables bodies (get_or heads i d).end (drop (i + 1) heads))
