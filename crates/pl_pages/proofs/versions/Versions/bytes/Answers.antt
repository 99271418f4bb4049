use Rattle.std.proofs.Common.{[], unwrap_or, sym, ap, ◌∙◌}
use Rattle.pl_pages.proofs.Frames.{out_seen, version_seen}
use Rattle.pl_pages.proofs.versions.Versions.bytes.Goals as goal

pub bytes-requires : goal.bytes-requires
bytes-requires c =
    let v = c.self.inside in
    record { out = out_seen v.arena v.kept.items v.oldest c.self.invariant c.args.self.now c.self.view_is c.args.place c.requires.within _ c.index-version.ensures }

pub returns-clause-value : goal.returns-clause-value
returns-clause-value c =
    let v = c.self.inside in
    sym (
    ap (λ version. version.bytes) (version_seen v.arena v.kept.items v.oldest c.self.invariant c.args.self.now c.self.view_is c.args.place c.requires.within _ c.index-version.ensures)
    ∙ ap (λ o. unwrap_or o []) c.bytes.ensures.value
    )
