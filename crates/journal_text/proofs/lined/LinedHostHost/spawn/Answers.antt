use Rattle.std.proofs.Common.{length, refl, arith}
use Rattle.journal_text.proofs.Called.{both_ok, spawn_line}
use Rattle.journal_text.proofs.lined.LinedHostHost.spawn.Goals as goal

pub returns-clause-made : goal.returns-clause-made
returns-clause-made g c =
    let next = length (g.H.Host.state c.args.self.now.inner.now).kills in
    both_ok c.spawn.result
    (λ s made number. record {
      once = made;
      line = λ room spoken. spawn_line next c.args.program.now c.args.args.now s (omega (arith, c.requires)) c.utf8.program number spoken;
      same_reference = refl;
    })
    c.spawn.ensures.made c.spawn.ensures.number
