use Rattle.std.proofs.Common.{ℕ, Bool, false, List, get_or, is_some, ap, ◌∙◌}
use Rattle.pl_arena.specs.Arena.{frame_bytes}
use Rattle.pl_arena.proofs.Keeping.{flag_is}
use Rattle.pl_arena.proofs.arena.VersionArena.is_out.Goals as goal

pub returns : goal.returns
returns c =
    let a = c.self.inside in
    let id = c.id.inside.number in
    record {
      value =
          c.flag_at.ensures.value
          ∙ ap (λ (outs : List Bool). get_or outs id false) c.deref.ensures.value
          ∙ flag_is a.frames a.out.items a.max_chunks c.args.self.now c.self.view_is id
          ∙ ap (λ (k : ℕ). is_some (frame_bytes c.args.self.now k)) c.id.view_is;
    }
