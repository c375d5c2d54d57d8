use Rattle.kernel_top.proofs.viewing.view_current.Goals as goal

pub returns : goal.returns
returns g c = rw (← c.current.ensures.number) c.view.ensures
