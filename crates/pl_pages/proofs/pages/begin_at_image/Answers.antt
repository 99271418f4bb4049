use Rattle.std.proofs.Common.{refl, sym, subst, ◌∙◌, arith}
use Rattle.pl_pages.specs.State.{AreVersions}
use Rattle.pl_pages.proofs.Images.{image_true}
use Rattle.pl_pages.proofs.pages.begin_at_image.Goals as goal

pub returns-in_err-place-clause-kept : goal.returns-in_err-place-clause-kept
returns-in_err-place-clause-kept c = record {
  log_is = refl;
  truth = c.begin.ensures.truth c.args.log.now.hardened c.requires.versions.truth;
  chunks = c.begin.ensures.chunks;
}

pub returns-then-image-eq0-clause-kept : goal.returns-then-image-eq0-clause-kept
returns-then-image-eq0-clause-kept c = record {
  log_is = refl;
  truth = c.begin.ensures.truth c.args.log.now.hardened c.requires.versions.truth;
  chunks = c.begin.ensures.chunks;
}

pub returns-in_err-block-clause-kept : goal.returns-in_err-block-clause-kept
returns-in_err-block-clause-kept c = record {
  log_is = c.read.ensures.same;
  truth = c.begin.ensures.truth c.args.log.now.hardened c.requires.versions.truth;
  chunks = c.begin.ensures.chunks;
}

pub returns-then-not-is_image-clause-kept : goal.returns-then-not-is_image-clause-kept
returns-then-not-is_image-clause-kept c = record {
  log_is = c.read.ensures.same;
  truth = c.begin.ensures.truth c.args.log.now.hardened c.requires.versions.truth;
  chunks = c.begin.ensures.chunks;
}

pub returns-clause-kept : goal.returns-clause-kept
returns-clause-kept c =
    let log = c.args.log.now.hardened in
    record {
      log_is = c.read.ensures.same;
      truth = subst (λ vs. AreVersions vs log) (sym c.redo.ensures.versions)
          (image_true c.begin.new.self.versions c.in_ok-place.place c.args.page c.args.image log c.requires.versions.blocks (c.begin.ensures.truth log c.requires.versions.truth) c.in_ok-place.ensures.at c.in_ok-block.block c.is_image.ensures.valid (omega arith) c.in_ok-block.ensures.block c.in_ok-block.ensures.number (sym c.is_image.ensures.value ∙ c.if-not-is_image.false));
      chunks = c.redo.ensures.chunks ∙ c.begin.ensures.chunks;
    }
