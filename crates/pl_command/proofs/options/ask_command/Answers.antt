use Rattle.pl_command.proofs.options.ask_command.Goals as goal

pub returns : goal.returns
returns c =
    let step_1 = c.option.ensures.app _ c.new.ensures.app in
    let step_2 = c.option-2.ensures.app _ step_1 in
    let step_3 = c.option-3.ensures.app _ step_2 in
    let step_4 = c.option-4.ensures.app _ step_3 in
    let step_5 = c.option-5.ensures.app _ step_4 in
    record { ok = c.option-6.ensures.app _ step_5 }
