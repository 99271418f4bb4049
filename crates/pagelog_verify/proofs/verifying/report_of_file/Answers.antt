use Rattle.std.proofs.lemmas.Result.{err_from_is_err_and}
use Rattle.pagelog_verify.proofs.Lines.{fault_of_file}
use Rattle.pagelog_verify.proofs.verifying.report_of_file.Goals as goal

pub returns-in_err-parts-clause-err : goal.returns-in_err-parts-clause-err
returns-in_err-parts-clause-err g c =
    let p = err_from_is_err_and c.from_residual-in_err-parts.result c.from_residual-in_err-parts.ensures.1 in
    rw (p.1, p.2) (fault_of_file (g.R.Read.remaining c.args.trail.now) c.in_err-parts.field-0.0 c.args.text.now c.args.primary c.in_err-parts.ensures.exact)
