use Rattle.std.proofs.Common.{◌≡◌, ◌+◌, ◌≤◌, ◌∙◌, [], length, ap, sym, subst, arith}
use Rattle.std.specs.Prelude.{slice_get, unwrap_or}
use Rattle.text_model.specs.Names.{with_name}
use Rattle.plain_machine.specs.Symbols.{with_names}
use Rattle.kernel_state.proofs.RunNames.{name_there, name_put, put_longer}
use Rattle.kernel_state.proofs.program.symbols_with.Goals as goal

pub loop-i-preserved : goal.loop-i-preserved
loop-i-preserved g c =
    let names = g.N.Natives.names c.args.natives.now in
    let name = unwrap_or (slice_get names c.loop-i.i) [] in
    let put : c.intern.new.self ≡ with_name c.loop-i.symbols name = c.in_ok-intern.ensures.names ∙ ap (with_name c.loop-i.symbols) c.name.ensures in
    let longer : length c.intern.new.self ≤ length c.loop-i.symbols + 1 = subst (λ s. length s ≤ length c.loop-i.symbols + 1) (sym put) (put_longer c.loop-i.symbols name) in
    record {
      names = name_put names c.loop-i.i name c.loop-i.symbols c.intern.new.self (with_names c.args.script.now.symbols names) (name_there names c.loop-i.i (omega (arith, c.loop-i-test.true, c.count-i-end.ensures.count))) put c.loop-i.invariant.names;
      few = omega (arith, longer, c.loop-i.invariant.few);
    }
