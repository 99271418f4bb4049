use Rattle.std.proofs.Common.{set, ap, refl, ◌∙◌}
use Rattle.pl_pages.proofs.Frames.{out_seen, kept_seen, written_seen, cleared}
use Rattle.pl_pages.proofs.versions.Versions.put_blank.Goals as goal

pub bytes_mut-requires : goal.bytes_mut-requires
bytes_mut-requires c =
    let v = c.self.inside in
    record { out = out_seen v.arena v.kept.items v.oldest c.self.invariant c.args.self.now c.self.view_is c.args.place c.requires.within _ c.index.ensures }

pub invariant_of-self : goal.invariant_of-self
invariant_of-self c =
    let v = c.self.inside in
    kept_seen v.arena v.kept.items v.oldest c.self.invariant c.args.self.now c.self.view_is c.args.place c.requires.within _ c.index.ensures _ c.clear.new.page refl

pub returns-clause-versions : goal.returns-clause-versions
returns-clause-versions c =
    let v = c.self.inside in
    written_seen v.arena v.kept.items v.oldest c.self.invariant c.args.self.now c.self.view_is c.args.place c.requires.within _ c.index.ensures _ c.clear.new.page refl
    ∙ ap (λ bytes. set c.args.self.now.versions c.args.place (record { page = c.args.page; lsn = 0; bytes = bytes })) (c.clear.ensures.value ∙ cleared _ c.bytes_mut.ensures.len)
