use Rattle.std.proofs.Common.{◌≡◌, ◌&&◌, true, false, nat_le, length, is_some, refl}
use Rattle.std.specs.List.{list_all}
use Rattle.toml.specs.View.{view}
use Rattle.pl_table.specs.Tables.Part.{op_in}
use Rattle.pl_table.proofs.Trees.{ops_in-Array}
use Rattle.pl_table.proofs.tables.text.part.ops_in.Goals as goal

pub returns-in_ok-ops_from-in-Array : goal.returns-in_ok-ops_from-in-Array
returns-in_ok-ops_from-in-Array c =
    let t : (nat_le 1 (length c.in-Array.values.items) && list_all (λ x. is_some (op_in (view x))) c.in-Array.values.items) ≡ true = cc in
    record { ok = rw (c.new.ensures.value, c.in_ok-ops_from-in-Array.ensures.ok, c.deref-then-are_some_ops.ensures.value, c.in-Array.is, ops_in-Array c.in-Array.values true t) refl }

pub returns-else-are_some_ops : goal.returns-else-are_some_ops
returns-else-are_some_ops c =
    let t : (nat_le 1 (length c.in-Array.values.items) && list_all (λ x. is_some (op_in (view x))) c.in-Array.values.items) ≡ false = cc in
    let e = ops_in-Array c.in-Array.values false t in
    record { ok = cc }
