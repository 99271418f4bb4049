use Rattle.std.proofs.Common.{refl, sym, ap, subst, length}
use Rattle.std.proofs.lemmas.Option.{slice_get_read}
use Rattle.pl_table.specs.declared.requests.head.Head.{Head}
use Rattle.pl_core.specs.Appending.{reply_in}
use Rattle.pl_conn.specs.Desks.{ArePassesOf}
use Rattle.pl_conn.proofs.Meeting.{of-set}
use Rattle.pl_conn.proofs.Calling.{called}
use Rattle.pl_conn.proofs.desks.DesksGate.call_onto.Goals as goal

pub returns-clause-own : goal.returns-clause-own
returns-clause-own g c =
    of-set c.args.self.now c.passes.inside.items.items c.head.result.now.database c.in-Some.pass.now c.call_onto.new.pass
    (subst (ArePassesOf c.args.self.now) (sym c.passes.view_is) c.requires.own)
    (slice_get_read c.passes.inside.items.items (length c.passes.inside.items.items) c.head.result.now.database c.in-Some.pass.now refl c.in-Some.ensures.item.3.0 c.in-Some.ensures.value)
    c.call_onto.ensures.same

pub returns-clause-call : goal.returns-clause-call
returns-clause-call g c =
    called c.args.passes.now c.passes.inside.items.items c.head.result.now.database c.args.request (reply_in c.call_onto.result c.args.page.now.items c.call_onto.new.page.items) c.in-Some.pass.now c.call_onto.new.pass
    c.passes.view_is (ap (λ (h : Head). h.database) c.head.ensures.value)
    (slice_get_read c.passes.inside.items.items (length c.passes.inside.items.items) c.head.result.now.database c.in-Some.pass.now refl c.in-Some.ensures.item.3.0 c.in-Some.ensures.value)
    c.call_onto.ensures.same c.call_onto.ensures.call
