-- A `&` to the items is made when one to an item is. Assumes `Logic`.
use mathlib.Core.List.{[], ◌++◌}
use base.Fml.{Incl-trans}
use contract.BorrowLft.{meet_⊑_left}
use denote.RattleType.{RattleType}
use denote.RawPtr.{RawPtr}
use denote.Param.Laws.{Laws}
use denote.Param.Shared.{copy_shared}
use denote.Struct.Laws.{field_copy}
use denote.Struct.Lending.{of_Lends}
use Rattle.core.specs.contracts.marker.PhantomData as marker
use Rattle.pl_arena.specs.contracts.memory.Items as Items
use Rattle.pl_arena.proofs.Lending.{items_shr_laws, Lends-items}
use Rattle.pl_arena.proofs.memory.Items.TheLaw.Statement.{statement}

pub shares : (R : RattleType) (L : Laws R) → statement R L
shares R L =
    let lives = (Items.the_row R).lives in
    let shorter = Incl-trans (meet_⊑_left (R.lives ++ []) _) (meet_⊑_left R.lives []) in
    let pointer = copy_shared (marker.the_field RawPtr) (field_copy (marker.the_type RawPtr) tt) in
    of_Lends (Items.struct R) (Items.the_codes R.Denot R.coded (marker.the_row RawPtr).coded) (Items.the_heap R) (Items.the_lent R)
    (λ d p. items_shr_laws R L.shr_laws d.at d.items d.room) (pointer, tt) (λ M 𝓤 𝓛 d p. Lends-items 𝓛 lives R L shorter d.at d.items d.room)
