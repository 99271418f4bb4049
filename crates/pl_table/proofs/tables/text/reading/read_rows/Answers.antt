use Rattle.pl_table.proofs.Listings.{rows_of-keys, rows_of-word, rows_of-number, rows_of-all, length-filter_map}
use Rattle.toml.specs.View.{view}
use Rattle.pl_table.proofs.Rows.{All-IsRowOf}
use Rattle.pl_table.proofs.tables.text.reading.read_rows.Goals as goal

pub returns-then-not-each_is_row-clause-exact : goal.returns-then-not-each_is_row-clause-exact
returns-then-not-each_is_row-clause-exact c =
    rows_of-keys _ _ (rw (← c.each_is_row.ensures.value) c.if-not-each_is_row.true)

pub returns-then-not-each_has_words-clause-exact : goal.returns-then-not-each_has_words-clause-exact
returns-then-not-each_has_words-clause-exact c =
    rows_of-word _ _ (rw (← c.each_is_row.ensures.value) c.if-not-each_is_row.false) (rw (← c.each_has_words.ensures.value) c.if-not-each_has_words.true)

pub returns-then-not-each_has_numbers-clause-exact : goal.returns-then-not-each_has_numbers-clause-exact
returns-then-not-each_has_numbers-clause-exact c =
    rows_of-number _ _ (rw (← c.each_is_row.ensures.value) c.if-not-each_is_row.false) (rw (← c.each_has_words.ensures.value) c.if-not-each_has_words.false) (rw (← c.each_has_numbers.ensures.value) c.if-not-each_has_numbers.true)

pub returns-clause-exact : goal.returns-clause-exact
returns-clause-exact c =
    rw c.in_ok-rows_from.ensures.ok (rows_of-all _ _ (rw (← c.each_is_row.ensures.value) c.if-not-each_is_row.false) (rw (← c.each_has_words.ensures.value) c.if-not-each_has_words.false) (rw (← c.each_has_numbers.ensures.value) c.if-not-each_has_numbers.false))

pub returns-clause-members : goal.returns-clause-members
returns-clause-members c = rw c.in_ok-rows_from.ensures.ok (length-filter_map _ _)

pub returns-clause-each : goal.returns-clause-each
returns-clause-each c = rw c.in_ok-rows_from.ensures.ok (All-IsRowOf view _ _)
