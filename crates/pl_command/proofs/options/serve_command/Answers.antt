use Rattle.pl_command.proofs.options.serve_command.Goals as goal

pub returns : goal.returns
returns c =
    let step_1 = c.option.ensures.app _ c.new.ensures.app in
    let step_2 = c.option-2.ensures.app _ step_1 in
    let step_3 = c.option-3.ensures.app _ step_2 in
    let step_4 = c.option-4.ensures.app _ step_3 in
    let step_5 = c.option-5.ensures.app _ step_4 in
    let step_6 = c.option-6.ensures.app _ step_5 in
    let step_7 = c.option-7.ensures.app _ step_6 in
    let step_8 = c.option-8.ensures.app _ step_7 in
    let step_9 = c.option-9.ensures.app _ step_8 in
    let step_10 = c.option-10.ensures.app _ step_9 in
    record { ok = c.option-11.ensures.app _ step_10 }
