use Rattle.std.proofs.Common.{Contains, subst, ◌∙◌}
use Rattle.lru.specs.LruCache.{LruCache}
use Rattle.lru.proofs.CallerLemmas.{Contains-promoted}
use Rattle.pl_decide.proofs.Same.{found-under}
use Rattle.pl_decide.proofs.cache.find.Goals as goal

pub returns-clause-found : goal.returns-clause-found
returns-clause-found c =
    found-under c.args.verdicts.now.entries c.args.key c.copied.result (c.copied.ensures ∙ c.get.ensures.value)

pub returns-clause-stays : goal.returns-clause-stays
returns-clause-stays c e there =
    Contains-promoted _ c.args.verdicts.now.entries e (subst (λ (k : LruCache _ _). Contains k.entries e) c.get.follows.holds-at-none there)
