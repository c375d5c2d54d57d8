use Rattle.std.proofs.Common.{◌≡◌, ◌+◌, ◌≤◌, length, map, take}
use Rattle.std.specs.Prelude.{fold}
use Rattle.text_model.specs.Names.{with_name}
use Rattle.ek_types.proofs.symbol.Symbols.intern_all.Given as goal

abbrev pub invariant-loop-name : goal.invariant-loop-name
invariant-loop-name l = record {
  names : l.self ≡ fold with_name l.fn.self (map (λ name. name.now) (take l.name-index l.names));
  few : length l.self ≤ length l.fn.self + l.name-index;
}
