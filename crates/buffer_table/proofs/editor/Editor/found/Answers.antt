use Rattle.std.proofs.Common.{None, subst}
use Rattle.std.specs.Prelude.{Some}
use Rattle.editor_model.specs.Editor as shown
use Rattle.buffer_table.specs.Kept.{IsKept}
use Rattle.buffer_table.proofs.Shown.{Found, found_here, none_found, sets_of}
use Rattle.buffer_table.proofs.editor.Editor.found.Goals as goal

pub returns-in-Some-clause-shown : goal.returns-in-Some-clause-shown
returns-in-Some-clause-shown c = (found_here c.args.self.now c.args.id c.in-Some.buffer.now (subst IsKept c.self.view_is c.self.invariant) c.in-Some.ensures).option

pub returns-in-Some-clause-lies : goal.returns-in-Some-clause-lies
returns-in-Some-clause-lies c = (found_here c.args.self.now c.args.id c.in-Some.buffer.now (subst IsKept c.self.view_is c.self.invariant) c.in-Some.ensures).lies

pub returns-in-Some-clause-named : goal.returns-in-Some-clause-named
returns-in-Some-clause-named c = (found_here c.args.self.now c.args.id c.in-Some.buffer.now (subst IsKept c.self.view_is c.self.invariant) c.in-Some.ensures).named

pub returns-in-Some-clause-sets : goal.returns-in-Some-clause-sets
returns-in-Some-clause-sets c =
    let f : Found c.args.self.now c.args.id c.in-Some.buffer.now = found_here c.args.self.now c.args.id c.in-Some.buffer.now (subst IsKept c.self.view_is c.self.invariant) c.in-Some.ensures in
    sets_of c.args.self.now c.args.id c.in-Some.buffer.now 0 c.len-size.result c.text.result.now f.is f.lies c.bounds-bounds.ensures.stored c.text.ensures c.len-size.ensures.characters c.len-size.ensures.cells

pub returns-in-None-clause-shown : goal.returns-in-None-clause-shown
returns-in-None-clause-shown c = none_found c.args.self.now c.args.id c.in-None.ensures
