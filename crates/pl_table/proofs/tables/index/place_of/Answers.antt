use Rattle.pl_table.proofs.Listed.{searched-names, place-found, place-got, place-none}
use Rattle.pl_table.proofs.tables.index.place_of.Goals as goal

pub returns-in-Some : goal.returns-in-Some
returns-in-Some c = record { value = place-got c.args.names.now c.args.id c.in-Some.place (rw c.in-Some.is at c.place_in_a_row.ensures.found) }

pub returns-in-Ok : goal.returns-in-Ok
returns-in-Ok c =
    let found = searched-names c.args.names.now c.args.id c.binary_search.result c.requires c.binary_search.ensures.position in
    record { value = place-found c.args.names.now c.args.id c.in-Ok.place (rw c.in-Ok.is at found) }

pub returns-in-Err : goal.returns-in-Err
returns-in-Err c =
    let found = searched-names c.args.names.now c.args.id c.binary_search.result c.requires c.binary_search.ensures.position in
    record { value = place-none c.args.names.now c.args.id c.in-Err.field-0 (rw c.in-Err.is at found) }
