-- Blocks that change a page, counted: what lies between two of them leaves the page as it is.
use Rattle.std.proofs.Common.{◌≡◌, ℕ, zero, suc, ◌+◌, ◌-◌, ◌<◌, ◌≤◌, ◌||◌, ◌⊎◌, Bool, true, false, cond, eqb, List, [], ◌∷◌, ◌++◌, length, map, filter, take, get_or, fold, Some, slice_get, refl, sym, ap, subst, ◌∙◌, inl, inr, arith, length-append, length-set}
use mathlib.Core.Bool.{false≢true}
use Rattle.std.specs.List.{list_any, AllByRecursion}
use Rattle.std.proofs.lemmas.Bool.{cases_lt}
use Rattle.std.proofs.lemmas.List.{get_or_append_left, get_or_push, map-append, take_all, append-nil}
use Rattle.std.proofs.lemmas.List.Elements.{filter-append}
use Rattle.std.proofs.lemmas.Option.{slice_get-get_or, slice_get_within, none-some, same_Some}
use Rattle.pl_block.specs.Block.{Content, changed_page}
use Rattle.pl_block.specs.declared.record.Record.{Record}
use Rattle.pl_block.specs.Numbered.{AreNumbered}
use Rattle.pl_block.specs.Spelling.{IsBlock}
use Rattle.pl_pages.specs.Page.{changed, after_record, after_block, page_of, empty_page}
use Rattle.pl_pages.specs.State.{Version, IsVersion, AreVersions, changes_page, lsns_of}
use Rattle.pl_pages.specs.Kept.{IsAt, version_at, with_block}
use Rattle.pl_pages.specs.Index.{IndexState, IsIndex, HasBlock, IsAfterChanges, count_before}
use Rattle.pl_pages.proofs.Replays.{take_block, block_more, block_true}
use Rattle.pl_pages.proofs.Frames.{replaced_true, with_block_stands, block_made}

-- ---- a block that does not change the page

records_past : (page : ℕ) (old : List ℕ) (records : List Record) → list_any (λ change. eqb (changed_page change) page) records ≡ false → fold (after_record page) old records ≡ old
records_past page old [] none = refl
records_past page old (r ∷ rs) none = by_case (eqb (changed_page r) page) refl (λ others. records_past page old rs others)
  where
    by_case : (b : Bool) → eqb (changed_page r) page ≡ b → (list_any (λ change. eqb (changed_page change) page) rs ≡ false → fold (after_record page) old rs ≡ old) → fold (after_record page) old (r ∷ rs) ≡ old
    by_case true e rest = absurd (false≢true (sym none ∙ ap (λ b. b || list_any (λ change. eqb (changed_page change) page) rs) e))
    by_case false e rest =
        let first : after_record page old r ≡ old = ap (λ b. cond b (changed r old) old) e in
        let others : list_any (λ change. eqb (changed_page change) page) rs ≡ false = ap (λ b. b || list_any (λ change. eqb (changed_page change) page) rs) (sym e) ∙ none in
        ap (λ (o : List ℕ). fold (after_record page) o rs) first ∙ rest others

block_past : (page : ℕ) (old : List ℕ) (block : Content) → changes_page page block ≡ false → after_block page old block ≡ old
block_past page old block none = records_past page old block.records none

-- ---- one block more

module _ (page : ℕ) (log : List Content) where
  pub lsns_more : (k : ℕ) (block : Content) → slice_get log k ≡ Some block → lsns_of page (take (k + 1) log) ≡ cond (changes_page page block) (lsns_of page (take k log) ++ block.lsn ∷ []) (lsns_of page (take k log))
  lsns_more k block is =
      ap (lsns_of page) (take_block log k block is)
      ∙ ap (map (λ b. b.lsn)) (filter-append (changes_page page) (take k log) (block ∷ []))
      ∙ by_case (changes_page page block)
    where
      by_case : (b : Bool) → map (λ (c : Content). c.lsn) (filter (changes_page page) (take k log) ++ cond b (block ∷ []) []) ≡ cond b (lsns_of page (take k log) ++ block.lsn ∷ []) (lsns_of page (take k log))
      by_case true = map-append (λ (c : Content). c.lsn) (filter (changes_page page) (take k log)) (block ∷ [])
      by_case false = map-append (λ (c : Content). c.lsn) (filter (changes_page page) (take k log)) [] ∙ append-nil (lsns_of page (take k log))

  some_block : (k : ℕ) → k < length log → (block : Content) × (slice_get log k ≡ Some block)
  some_block k within =
      let d : Content = record { lsn = 0; records = [] } in
      (get_or log k d, slice_get-get_or log k d within)

  -- one block more changes the page, and is counted, or does not, and is not
  abbrev OneMore : ℕ → Type 0
  OneMore k = ((count_before page log (k + 1) ≡ count_before page log k + 1) ⊎ ((count_before page log (k + 1) ≡ count_before page log k) × (page_of page (take (k + 1) log) ≡ page_of page (take k log))))

  one_more : (k : ℕ) → k < length log → OneMore k
  one_more k within =
      let found = some_block k within in
      by_case found.0 found.1 (changes_page page found.0) refl
    where
      by_case : (block : Content) → slice_get log k ≡ Some block → (b : Bool) → changes_page page block ≡ b → OneMore k
      by_case block is true e = inl (ap length (lsns_more k block is ∙ ap (λ b. cond b (lsns_of page (take k log) ++ block.lsn ∷ []) (lsns_of page (take k log))) e) ∙ length-append (lsns_of page (take k log)) (block.lsn ∷ []))
      by_case block is false e = inr (
        ap length (lsns_more k block is ∙ ap (λ b. cond b (lsns_of page (take k log) ++ block.lsn ∷ []) (lsns_of page (take k log))) e),
        sym (block_more page empty_page log k block is) ∙ block_past page (page_of page (take k log)) block e,
      )

  counts_rise : (a d : ℕ) → a + d ≤ length log → count_before page log a ≤ count_before page log (a + d)
  counts_rise a zero within = omega (arith, ap (count_before page log) (let s : a + 0 ≡ a = omega arith in s))
  counts_rise a (suc d) within =
      let next : a + suc d ≡ (a + d) + 1 = omega arith in
      let so_far = counts_rise a d (omega (arith, within)) in
      elim (one_more (a + d) (omega (arith, within))) [
        | inl more ↦ omega (arith, so_far, more, ap (count_before page log) next)
        | inr same ↦ omega (arith, so_far, same.0, ap (count_before page log) next)
      ]

  pub rise : (a b : ℕ) → a ≤ b → b ≤ length log → count_before page log a ≤ count_before page log b
  rise a b le within =
      let there : a + (b - a) ≡ b = omega (arith, le) in
      omega (arith, counts_rise a (b - a) (omega (arith, there, within)), ap (count_before page log) there)

  stays : (a d : ℕ) → a + d ≤ length log → count_before page log (a + d) ≡ count_before page log a → page_of page (take (a + d) log) ≡ page_of page (take a log)
  stays a zero within same = ap (λ n. page_of page (take n log)) (let s : a + 0 ≡ a = omega arith in s)
  stays a (suc d) within same =
      let next : a + suc d ≡ (a + d) + 1 = omega arith in
      let risen = counts_rise a d (omega (arith, within)) in
      elim (one_more (a + d) (omega (arith, within))) [
        | inl more ↦ absurd (omega (arith, risen, more, same, ap (count_before page log) next))
        | inr past ↦ ap (λ n. page_of page (take n log)) next ∙ past.1 ∙ stays a d (omega (arith, within)) (omega (arith, past.0, same, ap (count_before page log) next))
      ]

  -- if as many blocks change the page, it is the same
  pub same_page : (a b : ℕ) → a ≤ length log → b ≤ length log → count_before page log a ≡ count_before page log b → page_of page (take a log) ≡ page_of page (take b log)
  same_page a b one other same =
      elim (cases_lt a b) [
        | inl lt ↦
            let there : a + (b - a) ≡ b = omega (arith, lt) in
            sym (stays a (b - a) (omega (arith, there, other)) (ap (count_before page log) there ∙ sym same)) ∙ ap (λ n. page_of page (take n log)) there
        | inr ge ↦
            let there : b + (a - b) ≡ a = omega (arith, ge) in
            ap (λ n. page_of page (take n log)) (sym there) ∙ stays b (a - b) (omega (arith, there, one)) (ap (count_before page log) there ∙ same)
      ]

-- ---- the blocks of a log have the numbers from 1 on

numbered_at : (first : ℕ) (log : List Content) (k : ℕ) (block : Content) → AreNumbered first log → slice_get log k ≡ Some block → block.lsn ≡ first + k
numbered_at first [] k block each is = absurd (none-some block is)
numbered_at first (b ∷ bs) zero block each is = omega (arith, each.0, ap (λ (c : Content). c.lsn) (same_Some b block is))
numbered_at first (b ∷ bs) (suc k) block each is = omega (arith, numbered_at (first + 1) bs k block each.1 is)

module _ (page : ℕ) (log : List Content) (numbered : AreNumbered 1 log) where
  -- the LSN at the place j of the list: j blocks below it change the page, and so does its own
  pub record IsListed (n j b : ℕ) : Type 0 where
    pub some : 1 ≤ b
    pub last : b ≤ n
    pub below : count_before page log (b - 1) ≡ j
    pub here : count_before page log b ≡ j + 1

  pub listed_at : (n j : ℕ) → n ≤ length log → j < count_before page log n → IsListed n j (get_or (lsns_of page (take n log)) j 0)
  listed_at zero j within some = absurd (omega (arith, some))
  listed_at (suc n) j within some =
      let found = some_block page log n (omega (arith, within)) in
      by_case found.0 found.1 (changes_page page found.0) refl (listed_at n j (omega (arith, within)))
    where
      later : (b : ℕ) → IsListed n j b → IsListed (suc n) j b
      later b is = record { some = is.some; last = omega (arith, is.last); below = is.below; here = is.here }

      next : suc n ≡ n + 1
      next = omega arith

      by_case : (block : Content) → slice_get log n ≡ Some block → (c : Bool) → changes_page page block ≡ c → (j < count_before page log n → IsListed n j (get_or (lsns_of page (take n log)) j 0)) → IsListed (suc n) j (get_or (lsns_of page (take (suc n) log)) j 0)
      by_case block is false e before =
          let same : lsns_of page (take (suc n) log) ≡ lsns_of page (take n log) = ap (λ m. lsns_of page (take m log)) next ∙ lsns_more page log n block is ∙ ap (λ c. cond c (lsns_of page (take n log) ++ block.lsn ∷ []) (lsns_of page (take n log))) e in
          subst (λ (l : List ℕ). IsListed (suc n) j (get_or l j 0)) (sym same) (later _ (before (omega (arith, some, ap length same))))
      by_case block is true e before =
          let more : lsns_of page (take (suc n) log) ≡ lsns_of page (take n log) ++ block.lsn ∷ [] = ap (λ m. lsns_of page (take m log)) next ∙ lsns_more page log n block is ∙ ap (λ c. cond c (lsns_of page (take n log) ++ block.lsn ∷ []) (lsns_of page (take n log))) e in
          let longer = length-append (lsns_of page (take n log)) (block.lsn ∷ []) in
          let own = numbered_at 1 log n block numbered is in
          subst (λ (l : List ℕ). IsListed (suc n) j (get_or l j 0)) (sym more)
          (elim (cases_lt j (count_before page log n)) [
            | inl lt ↦ subst (λ (b : ℕ). IsListed (suc n) j b) (sym (get_or_append_left (lsns_of page (take n log)) (block.lsn ∷ []) 0 j lt)) (later _ (before lt))
            | inr ge ↦
                let at : count_before page log n ≡ j = omega (arith, ge, some, ap length more, longer) in
                subst (λ (b : ℕ). IsListed (suc n) j b) (sym (get_or_push (lsns_of page (take n log)) block.lsn 0 j at)) (record {
                  some = omega (arith, own);
                  last = omega (arith, own);
                  below = ap (count_before page log) (let s : block.lsn - 1 ≡ n = omega (arith, own) in s) ∙ at;
                  here = ap (count_before page log) (let s : block.lsn ≡ suc n = omega (arith, own) in s) ∙ ap length more ∙ longer ∙ ap (λ k. k + 1) at;
                })
          ])

  whole : lsns_of page (take (length log) log) ≡ lsns_of page log
  whole = ap (lsns_of page) (take_all (length log) log (omega arith))

  pub in_whole : (j : ℕ) → j < length (lsns_of page log) → IsListed (length log) j (get_or (lsns_of page log) j 0)
  in_whole j within = subst (λ (l : List ℕ). IsListed (length log) j (get_or l j 0)) whole (listed_at (length log) j (omega arith) (omega (arith, within, ap length whole)))

  -- they rise
  pub lsns_rise : (i j : ℕ) → i ≤ j → j < length (lsns_of page log) → get_or (lsns_of page log) i 0 ≤ get_or (lsns_of page log) j 0
  lsns_rise i j le within =
      let a = in_whole i (omega (arith, le, within)) in
      let b = in_whole j within in
      elim (cases_lt (get_or (lsns_of page log) j 0) (get_or (lsns_of page log) i 0)) [
        | inl lt ↦ absurd (omega (arith, le, a.below, b.here, a.some, rise page log (get_or (lsns_of page log) j 0) (get_or (lsns_of page log) i 0 - 1) (omega (arith, lt)) (omega (arith, a.last))))
        | inr ge ↦ ge
      ]

  -- how many are not above an LSN
  pub count_is : (p n : ℕ) → n ≤ length log → p ≤ length (lsns_of page log) → (0 < p → get_or (lsns_of page log) (p - 1) 0 ≤ n) → (p < length (lsns_of page log) → n < get_or (lsns_of page log) p 0) → count_before page log n ≡ p
  count_is p n hard within below above = antisym at_most at_least
    where
      antisym : count_before page log n ≤ p → p ≤ count_before page log n → count_before page log n ≡ p
      antisym le ge = omega (arith, le, ge)

      at_most : count_before page log n ≤ p
      at_most =
          elim (cases_lt p (length (lsns_of page log))) [
            | inl lt ↦
                let b = in_whole p lt in
                omega (arith, b.below, b.some, rise page log n (get_or (lsns_of page log) p 0 - 1) (omega (arith, above lt)) (omega (arith, b.last)))
            | inr ge ↦ omega (arith, ge, within, ap length whole, rise page log n (length log) hard (omega arith))
          ]

      at_least : p ≤ count_before page log n
      at_least =
          elim (cases_lt 0 p) [
            | inl some ↦
                let b = in_whole (p - 1) (omega (arith, some, within)) in
                omega (arith, some, b.here, rise page log (get_or (lsns_of page log) (p - 1) 0) n (below some) hard)
            | inr none ↦ omega (arith, none)
          ]

  -- the same of a list that is these LSNs
  module _ (lsns : List ℕ) (are : lsns ≡ lsns_of page log) where
    pub next_listed : (i : ℕ) → i < length lsns → IsListed (length log) i (get_or lsns i 0)
    next_listed i within = subst (λ (l : List ℕ). IsListed (length log) i (get_or l i 0)) (sym are) (in_whole i (omega (arith, within, ap length are)))

    pub rising : (i j : ℕ) → i ≤ j → j < length lsns → get_or lsns i 0 ≤ get_or lsns j 0
    rising i j le within = subst (λ (l : List ℕ). get_or l i 0 ≤ get_or l j 0) (sym are) (lsns_rise i j le (omega (arith, within, ap length are)))

    pub counted : (p n : ℕ) → n ≤ length log → p ≤ length lsns → (0 < p → get_or lsns (p - 1) 0 ≤ n) → (p < length lsns → n < get_or lsns p 0) → count_before page log n ≡ p
    counted p n hard within below above =
        count_is p n hard (omega (arith, within, ap length are))
        (λ some. subst (λ (l : List ℕ). get_or l (p - 1) 0 ≤ n) are (below some))
        (λ less. subst (λ (l : List ℕ). n < get_or l p 0) are (above (omega (arith, less, ap length are))))

-- a version at an LSN has as many changes as there are of its page up to that
pub after_at : (vs : List Version) (place page p n i : ℕ) (log : List Content) → IsAt vs place p n → p ≡ page → count_before page log n ≡ i → IsAfterChanges vs place page log i
after_at vs place page p n i log at own count = record {
  within = at.within;
  page = at.page ∙ own;
  count = ap (count_before page log) at.lsn ∙ count;
}

pub none_before : (page : ℕ) (log : List Content) → count_before page log 0 ≡ 0
none_before page log = refl

-- ---- an index, with one block more

all_and_one : (xs : List Content) (x : Content) → AllByRecursion IsBlock xs → IsBlock x → AllByRecursion IsBlock (xs ++ x ∷ [])
all_and_one [] x all is = (is, tt)
all_and_one (y ∷ ys) x all is = (all.0, all_and_one ys x all.1 is)

pub index_more : (log : List Content) (old new : IndexState) (block : Content) → IsIndex old log → slice_get log old.entered ≡ Some block → HasBlock old block new → IsIndex new log
index_more log old new block is here has = record {
  within = omega (arith, has.entered, slice_get_within log old.entered block here);
  blocks = subst (λ n. AllByRecursion IsBlock (take n log)) (sym has.entered)
      (subst (AllByRecursion IsBlock) (sym (take_block log old.entered block here)) (all_and_one (take old.entered log) block is.blocks has.valid));
  lsns = λ page.
      has.lsns page ∙ ap (λ xs. cond (changes_page page block) (xs ++ block.lsn ∷ []) xs) (is.lsns page)
      ∙ sym (lsns_more page log old.entered block here) ∙ ap (λ n. lsns_of page (take n log)) (sym has.entered);
}

-- ---- the version at a place, with the next block that changes its page

module _ (vs : List Version) (place page : ℕ) (log : List Content) (i : ℕ) (all : AreVersions vs log) (after : IsAfterChanges vs place page log i) (b : ℕ) (block : Content) (here : slice_get log (b - 1) ≡ Some block) (own : block.lsn ≡ b) (some : 1 ≤ b) (below : count_before page log (b - 1) ≡ i) (with_own : count_before page log b ≡ i + 1) where
  abbrev v : Version
  v = version_at vs place

  is : IsVersion log v
  is = all place _ after.within

  before_block : v.lsn ≤ b - 1
  before_block =
      elim (cases_lt v.lsn b) [
        | inl lt ↦ omega (arith, lt)
        | inr ge ↦ absurd (omega (arith, after.count, with_own, rise page log b v.lsn ge is.within))
      ]

  -- it is the page up to the block, too
  up_to_block : IsVersion log (record { page = v.page; lsn = b - 1; bytes = v.bytes })
  up_to_block = record {
    within = omega (arith, slice_get_within log (b - 1) block here);
    bytes = is.bytes ∙ ap (λ p. page_of p (take v.lsn log)) after.page
        ∙ same_page page log v.lsn (b - 1) is.within (omega (arith, slice_get_within log (b - 1) block here)) (after.count ∙ sym below)
        ∙ ap (λ p. page_of p (take (b - 1) log)) (sym after.page);
  }

  pub block_redone : AreVersions (with_block vs place block) log
  block_redone = replaced_true log vs _ (block_true log (record { page = v.page; lsn = b - 1; bytes = v.bytes }) (b - 1) block up_to_block refl here (omega (arith, own, some))) all place

  pub later_block : IsAfterChanges (with_block vs place block) place page log (i + 1)
  later_block =
      let stands = with_block_stands vs place block after.within in
      record {
        within = omega (arith, after.within, length-set vs place (block_made (version_at vs place) block));
        page = ap (λ w. w.page) stands ∙ after.page;
        count = ap (λ w. count_before page log w.lsn) stands ∙ ap (count_before page log) own ∙ with_own;
      }

-- ---- the version with all changes of the page up to an LSN is the page at it

pub given_at : (vs : List Version) (place page lsn : ℕ) (log : List Content) → AreVersions vs log → lsn ≤ length log → IsAfterChanges vs place page log (count_before page log lsn) → (version_at vs place).bytes ≡ page_of page (take lsn log)
given_at vs place page lsn log all hard after =
    let v = version_at vs place in
    let is = all place _ after.within in
    is.bytes ∙ ap (λ p. page_of p (take v.lsn log)) after.page ∙ same_page page log v.lsn lsn is.within hard after.count
