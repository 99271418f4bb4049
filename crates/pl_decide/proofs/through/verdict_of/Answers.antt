use Rattle.pl_table.specs.Requests.Asking.{asked_in}
use Rattle.pl_decide.proofs.Keyed.{of-rows, span-at}
use Rattle.pl_decide.proofs.through.verdict_of.Goals as goal

pub returns : goal.returns
returns c =
    let asked = asked_in c.args.request.now in
    let lsns = c.lsns_alike-lsns in
    let end = c.end_of-allowed_through in
    record {
      span = span-at c.args.key c.args.found lsns.result end.result asked.lsn lsns.ensures.own;
      rows = of-rows c.args.table.now.rows asked c.args.key c.args.found lsns.result end.result c.requires.key c.requires.found lsns.ensures.own lsns.ensures.alike end.ensures.exact;
    }
