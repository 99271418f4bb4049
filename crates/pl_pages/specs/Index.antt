-- The index that the code keeps: of each page, the LSNs of the blocks that change it.
use Rattle.std.specs.Prelude.{◌≡◌, ℕ, ◌+◌, ◌-◌, ◌<◌, ◌≤◌, ◌==◌, ◌⊎◌, Bool, true, List, [], ◌∷◌, ◌++◌, length, map, take, slice_index_or, unwrap_or, if◌then◌else◌, Option, Some, None, Vec, nat_eq, vec_len, vec_capacity}
use Rattle.std.specs.Option.{IsSomeAnd}
use Rattle.std.specs.Ordering.{nat_cmp}
use Rattle.std.specs.FinMap as maps
use Rattle.std.specs.HashMap as hash
use Rattle.std.specs.HashMap.{HashMap}
use Rattle.std.specs.List.{AllByRecursion}
use Rattle.pl_block.specs.Block.{Content}
use Rattle.pl_block.specs.Spelling.{IsBlock}
use Rattle.pl_pages.specs.Kept.{version_at}
use Rattle.pl_pages.specs.State.{Version, changes_page, lsns_of}

-- how many blocks were entered, and the LSNs of those that change a page
pub record IndexState : Type 0 where
  pub entered : ℕ
  pub lsns : maps.FinMap nat_cmp (List ℕ)

-- the LSNs under a page
abbrev pub lsns_at : IndexState → ℕ → List ℕ
lsns_at s page = unwrap_or (maps.get s.lsns page) []

-- the index has the LSNs of the blocks that were entered, which are the first of the log
pub record IsIndex (s : IndexState) (log : List Content) : Type 0 where
  pub within : s.entered ≤ length log
  pub blocks : AllByRecursion IsBlock (take s.entered log)
  pub lsns : (page : ℕ) → lsns_at s page ≡ lsns_of page (take s.entered log)

-- nothing was entered
pub record SameIndex (old new : IndexState) : Type 0 where
  pub entered : new.entered ≡ old.entered
  pub lsns : (page : ℕ) → lsns_at new page ≡ lsns_at old page

-- a block was entered under each page that it changes
pub record HasBlock (old : IndexState) (block : Content) (new : IndexState) : Type 0 where
  pub entered : new.entered ≡ old.entered + 1
  pub valid : IsBlock block
  pub lsns : (page : ℕ) → lsns_at new page ≡ (if changes_page page block then lsns_at old page ++ block.lsn ∷ [] else lsns_at old page)

-- the list of a page, in the map
abbrev pub list_in : {Z : Type 0} → Option (Vec ℕ Z) → List ℕ
list_in None = []
list_in (Some v) = v.items

abbrev pub listed : {S Z : Type 0} → HashMap ℕ (Vec ℕ Z) S → ℕ → List ℕ
listed m page = list_in (hash.get nat_eq m page)

-- the page has a list, with room for one LSN more
abbrev pub HasRoomUnder : {S Z : Type 0} → HashMap ℕ (Vec ℕ Z) S → ℕ → Type 0
HasRoomUnder m page = IsSomeAnd (hash.get nat_eq m page) (λ v. vec_len v < vec_capacity v)

-- the map as what is seen of it
abbrev pub seen_lists : {Z : Type 0} → List (ℕ × Vec ℕ Z) → maps.FinMap nat_cmp (List ℕ)
seen_lists es = maps.from_entries (map (λ e. (e.0, e.1.items)) es)

-- no number is above n
abbrev pub AreUpTo : ℕ → List ℕ → Type 0
AreUpTo n xs = (i : ℕ) → i < length xs → slice_index_or xs i 0 ≤ n

-- the list ends with the LSN
abbrev pub ends_with : ℕ → List ℕ → Bool
ends_with lsn xs = slice_index_or xs (length xs - 1) 0 == lsn

-- it ends with it afterwards, once
abbrev pub with_lsn : ℕ → List ℕ → List ℕ
with_lsn lsn xs = if ends_with lsn xs then xs else xs ++ lsn ∷ []

-- without it, if it ended with it
abbrev pub without_lsn : ℕ → List ℕ → List ℕ
without_lsn lsn xs = if ends_with lsn xs then take (length xs - 1) xs else xs

-- of a list, whether something was added, the LSN
abbrev pub MayEndWith : ℕ → Bool → List ℕ → List ℕ → Type 0
MayEndWith lsn may old new = (new ≡ old) ⊎ ((may ≡ true) × (new ≡ old ++ lsn ∷ []))

-- how many of the first n blocks change a page
abbrev pub count_before : ℕ → List Content → ℕ → ℕ
count_before page log n = length (lsns_of page (take n log))

-- the version at a place is of the page, after the first i of the blocks that change it
pub record IsAfterChanges (versions : List Version) (place p : ℕ) (log : List Content) (i : ℕ) : Type 0 where
  pub within : place < length versions
  pub page : (version_at versions place).page ≡ p
  pub count : count_before p log (version_at versions place).lsn ≡ i
