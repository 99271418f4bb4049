-- Equality of records and blocks, by their parts.
use Rattle.std.proofs.Common.{◌≡◌, ℕ, List, Bool, true, false, ◌&&◌, eqb, refl, ap, ◌∙◌, Decides}
use Rattle.std.specs.Str.{bytes_eq}
use Rattle.std.specs.Cmp.Lexicographic.{pointwise}
use Rattle.std.proofs.lemmas.Bool.{eqb-true, eq-eqb}
use Rattle.std.proofs.lemmas.Slice.Eq.{bytes_eq-Decides, slice_eq-Decides}
use Rattle.pl_block.specs.declared.record.Record.{Record}
use Rattle.pl_block.specs.declared.record.Record.TheVariants.{Put, Zero}
use Rattle.pl_block.specs.Block.{Content, same_record, same_block}

both : (a b : Bool) → (a && b) ≡ true → (a ≡ true) × (b ≡ true)
both true true e = (refl, refl)
both true false e = absurd cc
both false b e = absurd cc

-- the test decides whether records are one
pub same_record-Decides : (x y : Record) → Decides (same_record x y) (x ≡ y)
same_record-Decides (Put p o b) (Put q u c) = (
  λ e.
      let first = both (eqb p q) (eqb o u && bytes_eq b c) e in
      let second = both (eqb o u) (bytes_eq b c) first.1 in
      let pages = eqb-true p q first.0 in
      let offsets = eqb-true o u second.0 in
      let texts = (bytes_eq-Decides b c).0 second.1 in
      cc,
  λ e.
      let pages : p ≡ q = cc in
      let offsets : o ≡ u = cc in
      let texts : b ≡ c = cc in
      rw (eq-eqb p q pages, eq-eqb o u offsets, (bytes_eq-Decides b c).1 texts) refl,
)
same_record-Decides (Zero p) (Zero q) = (
  λ e. ap Zero (eqb-true p q e),
  λ e. let pages : p ≡ q = cc in eq-eqb p q pages,
)
same_record-Decides (Put p o b) (Zero q) = (λ e. absurd cc, λ e. absurd cc)
same_record-Decides (Zero p) (Put q u c) = (λ e. absurd cc, λ e. absurd cc)

-- blocks are one if their numbers and records are
Content-same : (a b : Content) → a.lsn ≡ b.lsn → a.records ≡ b.records → a ≡ b
Content-same a b numbers records =
    ap (λ (n : ℕ). record { lsn = n; records = a.records }) numbers
    ∙ ap (λ (rs : List Record). record { lsn = b.lsn; records = rs }) records

-- the test decides whether blocks are one
pub same_block-Decides : (a b : Content) → Decides (same_block a b) (a ≡ b)
same_block-Decides a b =
    let records = slice_eq-Decides same_record-Decides a.records b.records (pointwise same_record a.records b.records) refl in (
      λ e. let parts = both (eqb a.lsn b.lsn) (pointwise same_record a.records b.records) e in Content-same a b (eqb-true a.lsn b.lsn parts.0) (records.0 parts.1),
      λ e. rw (eq-eqb a.lsn b.lsn (ap (λ (x : Content). x.lsn) e), records.1 (ap (λ (x : Content). x.records) e)) refl,
    )
