use Rattle.std.proofs.Common.{[], set, unwrap_or, refl, sym, ap, subst, ◌∙◌}
use Rattle.pl_arena.specs.Arena.{frame_bytes}
use Rattle.pl_pages.specs.Kept.{AreKept, frame_ids, versions_in}
use Rattle.pl_pages.specs.declared.versions.Kept.{Kept}
use Rattle.pl_pages.proofs.Frames.{out_seen, version_seen, kept_seen, written_seen, copied, at_some, some_is}
use Rattle.pl_pages.proofs.versions.Versions.copy.Goals as goal

pub copy-requires-clause-from : goal.copy-requires-clause-from
copy-requires-clause-from c =
    let v = c.self.inside in
    out_seen v.arena v.kept.items v.oldest c.self.invariant c.args.self.now c.self.view_is c.args.from c.requires.from _ c.index-version.ensures

pub copy-requires-clause-to : goal.copy-requires-clause-to
copy-requires-clause-to c =
    let v = c.self.inside in
    out_seen v.arena v.kept.items v.oldest c.self.invariant c.args.self.now c.self.view_is c.args.to c.requires.to _ c.index.ensures

pub invariant_of-self : goal.invariant_of-self
invariant_of-self c =
    let v = c.self.inside in
    let from = c.index-version.result.now in
    let to : Kept = record { page = from.page; lsn = from.lsn; frame = c.index.result.now.frame } in
    let is = some_is (frame_bytes v.arena from.frame) [] (out_seen v.arena v.kept.items v.oldest c.self.invariant c.args.self.now c.self.view_is c.args.from c.requires.from from c.index-version.ensures) in
    let made = at_some _ _ _ is c.copy.ensures.value in
    subst (λ a. AreKept a (frame_ids (set v.kept.items c.args.to to)) v.oldest) (sym made)
    (kept_seen v.arena v.kept.items v.oldest c.self.invariant c.args.self.now c.self.view_is c.args.to c.requires.to _ c.index.ensures to (unwrap_or (frame_bytes v.arena from.frame) []) refl)

pub returns-clause-versions : goal.returns-clause-versions
returns-clause-versions c =
    let v = c.self.inside in
    let from = c.index-version.result.now in
    let to : Kept = record { page = from.page; lsn = from.lsn; frame = c.index.result.now.frame } in
    let is = some_is (frame_bytes v.arena from.frame) [] (out_seen v.arena v.kept.items v.oldest c.self.invariant c.args.self.now c.self.view_is c.args.from c.requires.from from c.index-version.ensures) in
    let made = at_some _ _ _ is c.copy.ensures.value in
    ap (λ a. versions_in a (set v.kept.items c.args.to to)) made
    ∙ written_seen v.arena v.kept.items v.oldest c.self.invariant c.args.self.now c.self.view_is c.args.to c.requires.to _ c.index.ensures to (unwrap_or (frame_bytes v.arena from.frame) []) refl
    ∙ copied c.args.self.now.versions c.args.to c.args.from v.arena from _
    (version_seen v.arena v.kept.items v.oldest c.self.invariant c.args.self.now c.self.view_is c.args.from c.requires.from from c.index-version.ensures) is

pub returns-clause-chunks : goal.returns-clause-chunks
returns-clause-chunks c =
    let v = c.self.inside in
    let from = c.index-version.result.now in
    let made = at_some _ _ _ (some_is (frame_bytes v.arena from.frame) [] (out_seen v.arena v.kept.items v.oldest c.self.invariant c.args.self.now c.self.view_is c.args.from c.requires.from from c.index-version.ensures)) c.copy.ensures.value in
    ap (λ a. a.max_chunks) made ∙ ap (λ s. s.chunks) c.self.view_is
