use Rattle.std.proofs.Common.{le_refl, rules}
use Rattle.std.proofs.lemmas.Slice.{take-put_mid_below}
use Rattle.pl_conn.proofs.Turning.{heard_none}
use Rattle.pl_conn.proofs.inbox.read_after.Goals as goal

pub returns-clause-err : goal.returns-clause-err
returns-clause-err g c =
    heard_none c.read.result (g.R.Read.remaining c.args.from.now) (g.R.Read.remaining c.read.new.self) c.args.count _ c.args.room.now c.read.new.buf c.requires.within c.read.ensures.bytes

pub returns-clause-kept : goal.returns-clause-kept
returns-clause-kept g c = (search rules, take-put_mid_below _ _ _ _ _ (le_refl _) c.requires.within)
