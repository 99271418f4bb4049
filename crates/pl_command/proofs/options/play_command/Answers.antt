use Rattle.pl_command.proofs.options.play_command.Goals as goal

pub returns : goal.returns
returns c =
    let step_1 = c.option.ensures.app _ c.new.ensures.app in
    record { ok = c.option-2.ensures.app _ step_1 }
