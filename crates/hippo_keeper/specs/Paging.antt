-- How pages store entries, and which of them a read picks.
use Rattle.std.specs.Prelude.{◌≡◌, ℕ, ◌-◌, ◌<◌, ◌≤◌, List, [], ◌∷◌, ◌++◌, length, filter, take, drop, nat_lt, slice_index_or}
use Rattle.std.specs.List.{flat_map}
use Rattle.hippo_model.specs.declared.stored.StoredEntry.{StoredEntry}
use Rattle.hippo_keeper.specs.Keeping.{Store}
use Rattle.hippo_keeper.specs.Selecting.{is_selected}
use Rattle.hippo_keeper.specs.declared.head.Head.{Head}
use Rattle.hippo_keeper.specs.declared.selection.ReadQuery.{ReadQuery}

-- an entry, from its head, its table's name and its body
abbrev pub entry_with : Head → List ℕ → List ℕ → StoredEntry
entry_with head table body = record {
  seq = head.seq;
  moment = head.moment;
  kind = head.kind;
  table = table;
  body = body;
}

-- the entries of these heads, where the first body begins at `start`
abbrev pub page_entries : List (List ℕ) → List ℕ → ℕ → List Head → Store
page_entries tables bodies start [] = []
page_entries tables bodies start (head ∷ rest) =
    entry_with head (slice_index_or tables head.table [])
    (take (head.end - start) (drop start bodies))
    ∷ page_entries tables bodies head.end rest

-- each table index is below this count, no body ends before it begins, and the last body ends at
-- the end
abbrev pub AreWithinPage : ℕ → ℕ → ℕ → List Head → Type 0
AreWithinPage tables size start [] = start ≡ size
AreWithinPage tables size start (head ∷ rest) =
    (head.table < tables) × ((start ≤ head.end) × AreWithinPage tables size head.end rest)

-- the entries of some pages, one page after another
abbrev pub paged : List Store → Store
paged pages = flat_map (λ page. page) pages

-- no page is empty
abbrev pub AreFilled : List Store → Type 0
AreFilled [] = Unit {0}
AreFilled (page ∷ rest) = (0 < length page) × AreFilled rest

-- the entries that a read asks for
abbrev pub picked : ReadQuery → Store → Store
picked read_query entries =
    filter (is_selected read_query.selection)
    (filter (λ entry. nat_lt read_query.after entry.seq) entries)

-- a list, followed by what a read picks of some entries, up to the read's limit
abbrev pub with_picked : ReadQuery → Store → Store → Store
with_picked read_query list entries =
    list ++ take (read_query.max - length list) (picked read_query entries)
