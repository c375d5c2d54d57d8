use Rattle.std.proofs.Common.{[], List, Result, Ok, Err, refl, inl, inr}
use Rattle.editor_model.specs.Values.{Script}
use Rattle.plain_machine.specs.Exchanges.{Exchange}
use Rattle.plain_machine.specs.State.{State, Program}
use Rattle.ek_call.specs.Meaning.{script_of}
use Rattle.kernel_state.specs.Whole.{program_with}
use Rattle.kernel_top.specs.Unseen.{RanUnseen, RanOn}
use Rattle.kernel_top.proofs.unseen.run_unseen.Goals as goal

ran_unseen : {T E : Type 0} (r : Result T E) (program : Program) (script : Script) (exchanges : List Exchange) (left : State) → RanOn r program script exchanges left → RanUnseen r program script exchanges
ran_unseen (Ok x) program script exchanges left ran = ran.0
ran_unseen (Err e) program script exchanges left broken = inr broken

pub returns-in_default : goal.returns-in_default
returns-in_default g c = ([], refl, inl refl)

pub returns : goal.returns
returns g c =
    let (exchanges, calls, ran) = c.run_unseen_on-ran.ensures in
    (exchanges, calls, ran_unseen c.run_unseen_on-ran.result (program_with g.N.Natives.names g.N.Natives.does (script_of c.args.script.now) c.args.natives.now) (script_of c.args.script.now) exchanges _ ran)
