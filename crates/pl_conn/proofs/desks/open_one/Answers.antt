use Rattle.std.proofs.lemmas.Result.{IfOk-weaker}
use Rattle.pl_conn.proofs.Dealing.{all_fresh-put, deals_all, terms-put}
use Rattle.pl_conn.proofs.desks.open_one.Goals as goal

pub put_desk-requires : goal.put_desk-requires
put_desk-requires c = deals_all c.args.desks.now.items c.in-Ok.desk c.args.seats c.in-Ok.passes.items c.args.all.now.items c.in-Ok.ensures.passes c.requires.dealt

pub returns-clause-terms : goal.returns-clause-terms
returns-clause-terms c =
    IfOk-weaker c.put_desk.result _ _ (λ _ put. terms-put c.args.desks.now.items c.put_desk.new.desks.items c.in-Ok.desk _ c.in-Ok.passes.items c.args.all.now.items c.put_desk.new.all.items put c.in-Ok.ensures.terms) c.put_desk.ensures

pub returns-clause-dealt : goal.returns-clause-dealt
returns-clause-dealt c =
    IfOk-weaker c.put_desk.result _ _ (λ _ put. all_fresh-put c.args.desks.now.items c.put_desk.new.desks.items c.in-Ok.desk c.args.seats c.in-Ok.passes.items c.args.all.now.items c.put_desk.new.all.items put c.in-Ok.ensures.passes c.requires.dealt) c.put_desk.ensures
