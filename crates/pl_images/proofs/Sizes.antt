-- Pages keep their size, whatever is packed.
use Rattle.std.proofs.Common.{◌≡◌, ℕ, ◌+◌, ◌≤◌, ◌∙◌, Bool, true, false, cond, eqb, List, [], ◌∷◌, ◌++◌, length, take, drop, fold, arith, length-append}
use Rattle.std.specs.List.{AllByRecursion}
use Rattle.std.proofs.lemmas.List.{length-replicate, length-take, length-drop}
use Rattle.pl_block.specs.Block.{Content, IsRecord, changed_page}
use Rattle.pl_block.specs.Bounds.{page_size}
use Rattle.pl_block.specs.Spelling.{IsBlock}
use Rattle.pl_block.specs.declared.record.Record.{Record}
use Rattle.pl_block.specs.declared.record.Record.TheVariants.{Put, Zero}
use Rattle.pl_pages.specs.Page.{empty_page, changed, after_record, after_block, after_blocks, page_of}

abbrev IsPage : List ℕ → Type 0
IsPage bytes = length bytes ≡ page_size

pub length-empty_page : length empty_page ≡ page_size
unfolding empty_page
length-empty_page = let none : ℕ = 0 in length-replicate page_size none

put_sized : (offset : ℕ) (bytes old : List ℕ) → offset + length bytes ≤ page_size → IsPage old → IsPage ((take offset old ++ bytes) ++ drop (offset + length bytes) old)
put_sized offset bytes old within sized =
    let front = length-take offset old in
    let back = length-drop (offset + length bytes) old in
    let written = length-append (take offset old) bytes in
    let whole = length-append (take offset old ++ bytes) (drop (offset + length bytes) old) in
    omega (arith, front, back, written, whole, within, sized)

changed_sized : (change : Record) (old : List ℕ) → IsRecord change → IsPage old → IsPage (changed change old)
changed_sized (Put page offset bytes) old is sized = put_sized offset bytes old is.2 sized
changed_sized (Zero page) old is sized = let none : ℕ = 0 in length-replicate (length old) none ∙ sized

one_sized : (change : Record) (old : List ℕ) (ours : Bool) → IsRecord change → IsPage old → IsPage (cond ours (changed change old) old)
one_sized change old true is sized = changed_sized change old is sized
one_sized change old false is sized = sized

records_sized : (page : ℕ) (records : List Record) (old : List ℕ) → AllByRecursion IsRecord records → IsPage old → IsPage (fold (after_record page) old records)
records_sized page [] old each sized = sized
records_sized page (r ∷ rs) old each sized =
    records_sized page rs (after_record page old r) each.1 (one_sized r old (eqb (changed_page r) page) each.0 sized)

blocks_sized : (page : ℕ) (blocks : List Content) (old : List ℕ) → AllByRecursion IsBlock blocks → IsPage old → IsPage (after_blocks page old blocks)
blocks_sized page [] old each sized = sized
blocks_sized page (b ∷ bs) old each sized =
    blocks_sized page bs (after_block page old b) each.1 (records_sized page b.records old each.0.each sized)

pub packed_sized : (page : ℕ) (blocks : List Content) (records : List Record) → AllByRecursion IsBlock blocks → AllByRecursion IsRecord records → length (fold (after_record page) (page_of page blocks) records) ≡ page_size
packed_sized page blocks records valid each = records_sized page records (page_of page blocks) each (blocks_sized page blocks empty_page valid length-empty_page)
