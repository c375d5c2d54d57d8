use Rattle.std.proofs.Common.{◌≡◌, sym, ◌∙◌, Some}
use Rattle.ek_types.specs.Names.{number_in}
use Rattle.ek_types.proofs.Naming.{stands, with_name-had, with_name-new, number_in-new}
use Rattle.ek_types.proofs.symbol.Symbols.intern.Goals as goal

pub returns-in-Some-clause-names : goal.returns-in-Some-clause-names
returns-in-Some-clause-names c = sym (with_name-had _ _ c.in-Some.found.0 (sym c.in-Some.ensures))

pub returns-in-Some-clause-stands : goal.returns-in-Some-clause-stands
returns-in-Some-clause-stands c = stands _ _ _ (sym c.in-Some.ensures)

-- the number of the new name
number_is : (c : goal.In_ok-put_last-in-None) → number_in c.put_last.new.self c.args.name.now ≡ Some c.count-number.result
number_is c = rw (c.in_ok-put_last-in-None.ensures.ok, c.count-number.ensures.count) (number_in-new c.args.self.now c.args.name.now (sym c.in-None.ensures))

pub returns-in_ok-put_last-in-None-clause-names : goal.returns-in_ok-put_last-in-None-clause-names
returns-in_ok-put_last-in-None-clause-names c = c.in_ok-put_last-in-None.ensures.ok ∙ sym (with_name-new c.args.self.now c.args.name.now (sym c.in-None.ensures))

pub returns-in_ok-put_last-in-None-clause-number : goal.returns-in_ok-put_last-in-None-clause-number
returns-in_ok-put_last-in-None-clause-number c = number_is c

pub returns-in_ok-put_last-in-None-clause-stands : goal.returns-in_ok-put_last-in-None-clause-stands
returns-in_ok-put_last-in-None-clause-stands c = stands _ _ _ (number_is c)
