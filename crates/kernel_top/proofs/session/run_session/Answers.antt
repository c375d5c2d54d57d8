use Rattle.std.proofs.Common.{[], refl, ap, ◌∙◌}
use Rattle.std.proofs.KnownBytes.{Appends-nil}
use Rattle.ek_call.specs.Meaning.{script_of}
use Rattle.line_session.specs.Replies.{values_of}
use Rattle.command_words.specs.SessionWords.{SessionWords}
use Rattle.kernel_top.specs.Gathering.{command_wanted}
use Rattle.kernel_top.proofs.Outcomes.{quiet}
use Rattle.kernel_top.proofs.Gathering.{came_wanted, nothing_asked}
use Rattle.kernel_top.proofs.session.run_session.Goals as goal

pub returns-in_default-clause-outcome : goal.returns-in_default-clause-outcome
returns-in_default-clause-outcome g c = record { written = []; exchanges = []; put = Appends-nil _; calls = refl; so = λ source source'. nothing_asked _ _ _ (quiet source source' _ _) }

pub returns-in_default-script-clause-outcome : goal.returns-in_default-script-clause-outcome
returns-in_default-script-clause-outcome g c = record { written = []; exchanges = []; put = Appends-nil _; calls = refl; so = λ source source'. nothing_asked _ _ _ (quiet source source' _ _) }

pub returns-clause-outcome : goal.returns-clause-outcome
returns-clause-outcome g c =
    came_wanted g.H.Host.state g.H.Host.made c.args.host.now c.gather_alone.new.host (g.K.Sink.state c.args.sink.now) (g.K.Sink.state c.gather_alone.new.sink) c.args.wanted.now c.gather_alone.result
    c.in-Ok.session.limit (values_of c.in-Ok.session.command) (script_of c.in-Ok-script.script)
    (c.in-Ok.ensures.limit ∙ ap (λ (w : SessionWords). w.limit) c.wanted.view_is) (c.in-Ok.ensures.command ∙ ap command_wanted c.wanted.view_is) c.in-Ok-script.ensures c.gather_alone.ensures.outcome
