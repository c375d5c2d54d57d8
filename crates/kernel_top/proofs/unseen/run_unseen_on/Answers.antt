use Rattle.kernel_top.proofs.unseen.run_unseen_on.Goals as goal

pub returns-in-Ok : goal.returns-in-Ok
returns-in-Ok g c =
    let (written, exchanges, put, calls, ends) = c.in-Ok.ensures.outcome in
    let (whole, last) = ends in
    (exchanges, calls, (record { lines = written; ran = whole.ran }, last))

pub returns-in-Err : goal.returns-in-Err
returns-in-Err g c =
    let (written, exchanges, put, calls, ends) = c.in-Err.ensures.outcome in
    (exchanges, calls, record { lines = written; broken = ends.broken; answered = ends.answered })
