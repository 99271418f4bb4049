use Rattle.std.proofs.Common.{◌∙◌, refl}
use Rattle.pl_pages.proofs.Frames.{out_seen, version_seen, kept_seen, written_seen, redone}
use Rattle.pl_pages.proofs.versions.Versions.redo.Goals as goal

pub bytes_mut-requires : goal.bytes_mut-requires
bytes_mut-requires c =
    let v = c.self.inside in
    record { out = out_seen v.arena v.kept.items v.oldest c.self.invariant c.args.self.now c.self.view_is c.args.place c.requires.within _ c.index-version.ensures }

pub invariant_of-self : goal.invariant_of-self
invariant_of-self c =
    let v = c.self.inside in
    kept_seen v.arena v.kept.items v.oldest c.self.invariant c.args.self.now c.self.view_is c.args.place c.requires.within _ c.index-version.ensures _ c.redo_block.new.bytes refl

pub returns-clause-versions : goal.returns-clause-versions
returns-clause-versions c =
    let v = c.self.inside in
    let k = c.index-version.result.now in
    let is = version_seen v.arena v.kept.items v.oldest c.self.invariant c.args.self.now c.self.view_is c.args.place c.requires.within k c.index-version.ensures in
    written_seen v.arena v.kept.items v.oldest c.self.invariant c.args.self.now c.self.view_is c.args.place c.requires.within k c.index-version.ensures _ c.redo_block.new.bytes refl
    ∙ redone c.args.self.now.versions c.args.place c.args.block.now v.arena k _ _ _ is c.bytes_mut.ensures.value c.redo_block.ensures.value c.lsn.ensures.value
