use Rattle.toml.specs.View.{view}
use Rattle.pl_table.proofs.Listings.{principals_of-keys, principals_of-id, principals_of-token, principals_of-repeated, principals_of-all, length-principals, IsDistinct-own_ids}
use Rattle.pl_table.proofs.tables.text.reading.read_principals.Goals as goal

pub returns-then-not-each_is_principal-clause-exact : goal.returns-then-not-each_is_principal-clause-exact
returns-then-not-each_is_principal-clause-exact c =
    principals_of-keys _ (rw (← c.each_is_principal.ensures.value) c.if-not-each_is_principal.true)

pub returns-then-not-each_has_id-clause-exact : goal.returns-then-not-each_has_id-clause-exact
returns-then-not-each_has_id-clause-exact c =
    principals_of-id _ (rw (← c.each_is_principal.ensures.value) c.if-not-each_is_principal.false) (rw (← c.each_has_id.ensures.value) c.if-not-each_has_id.true)

pub returns-then-not-each_has_token-clause-exact : goal.returns-then-not-each_has_token-clause-exact
returns-then-not-each_has_token-clause-exact c =
    principals_of-token _ (rw (← c.each_is_principal.ensures.value) c.if-not-each_is_principal.false) (rw (← c.each_has_id.ensures.value) c.if-not-each_has_id.false) (rw (← c.each_has_token.ensures.value) c.if-not-each_has_token.true)

pub returns-then-not-have_own_ids-clause-exact : goal.returns-then-not-have_own_ids-clause-exact
returns-then-not-have_own_ids-clause-exact c =
    principals_of-repeated _ (rw (← c.each_is_principal.ensures.value) c.if-not-each_is_principal.false) (rw (← c.each_has_id.ensures.value) c.if-not-each_has_id.false) (rw (← c.each_has_token.ensures.value) c.if-not-each_has_token.false) (rw (← c.in_ok-principals.ensures.ok, ← c.deref.ensures.value, ← c.have_own_ids.ensures.value) c.if-not-have_own_ids.true)

pub returns-clause-exact : goal.returns-clause-exact
returns-clause-exact c =
    rw c.in_ok-principals.ensures.ok (principals_of-all _ (rw (← c.each_is_principal.ensures.value) c.if-not-each_is_principal.false) (rw (← c.each_has_id.ensures.value) c.if-not-each_has_id.false) (rw (← c.each_has_token.ensures.value) c.if-not-each_has_token.false) (rw (← c.in_ok-principals.ensures.ok, ← c.deref.ensures.value, ← c.have_own_ids.ensures.value) c.if-not-have_own_ids.false))

pub returns-clause-members : goal.returns-clause-members
returns-clause-members c =
    rw c.in_ok-principals.ensures.ok (length-principals view _ (rw (← c.each_has_id.ensures.value) c.if-not-each_has_id.false) (rw (← c.each_has_token.ensures.value) c.if-not-each_has_token.false))

pub returns-clause-only : goal.returns-clause-only
returns-clause-only c =
    IsDistinct-own_ids _ (rw (← c.deref.ensures.value, ← c.have_own_ids.ensures.value) c.if-not-have_own_ids.false)
