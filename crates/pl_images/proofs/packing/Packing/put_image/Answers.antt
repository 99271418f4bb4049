use Rattle.std.proofs.Common.{◌∙◌, length, ap, sym, arith}
use Rattle.pl_images.proofs.Putting.{image_put}
use Rattle.pl_images.proofs.Sizes.{length-empty_page}
use Rattle.pl_images.proofs.packing.Packing.put_image.Goals as goal

pub returns : goal.returns
returns c =
    let is = c.loop-at.invariant in
    let image = c.args.image.now in
    let sized = sym (ap length c.bytes.ensures.value) ∙ c.bytes.ensures.len in
    record { ok = image_put c.args.self.now c.loop-at.self image c.loop-at.at sized length-empty_page (omega (arith, sized, is.within, c.bytes.ensures.len)) is.first is.own is.others is.few }
