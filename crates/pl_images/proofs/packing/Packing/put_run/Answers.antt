use Rattle.std.proofs.Common.{◌∙◌, ap, sym, arith}
use Rattle.pl_images.specs.Image.{PageImage}
use Rattle.pl_images.proofs.Putting.{run_put}
use Rattle.pl_images.proofs.packing.Packing.put_run.Goals as goal

pub returns : goal.returns
returns c =
    let image = c.args.image.now in
    let zeros = c.blank_len.ensures in
    let filled = c.filled_len.ensures in
    record {
      ok = run_put c.args.self.now c.put.new.self image c.args.at c.blank_len.result c.filled_len.result c.page.result c.bytes.result.now c.bytes-2.result.now c.image.inside.bytes c.in_ok-run.run'
          c.bytes.ensures.value c.bytes-2.ensures.value (ap (λ (i : PageImage). i.bytes) c.image.view_is) c.page.ensures.value c.bytes.ensures.len c.requires.within
          zeros.value filled.some filled.within (omega arith) c.in_ok-run.ensures.ok c.in_ok-put.ensures.ok;
    }
